-- The first listed table with a signature: there is one or none, and only one.
use Rattle.std.proofs.Common.{◌≡◌, ◌<◌, ℕ, List, length, Some, None, Option, subst, inl, inr, arith}
use Rattle.std.specs.Prelude.{◌⊎◌}
use Rattle.std.proofs.lemmas.Bool.{cases_order}
use Rattle.acpi_base.specs.Memory.{Memory, bytes_at}
use Rattle.acpi_base.specs.Signature.{has_signature}
use Rattle.acpi_base.specs.Tables.{IsTable, IsSigned}
use Rattle.acpi_base.specs.Root.{IsSlotWidth, IsRoot, IsRootTable, IsValidRoot, HasSlot}
use Rattle.acpi_base.specs.Listed.{IsFirstListed, IsNoneListed, IsFirstTable, IsListedTable, ListsNone, IsListed}
use Rattle.acpi_base.specs.Statements.{AreValidTables}
use Rattle.acpi_base.proofs.Faults.Deciding.{Decided, decided_as, is_some_with, is_true}
use Rattle.acpi_base.proofs.Faults.Least.{least_below}
use Rattle.acpi_base.proofs.Root.Named.{of_root, root_width}
use Rattle.acpi_base.proofs.Root.Slots.{one_slot, root_slot, slot_below, slot_or_none}
use Rattle.acpi_base.proofs.Frames.{one_frame}

-- ---- in the slots of a root table's bytes

signed_or_not : (m : Memory) (a : ℕ) (signature : List ℕ) → Decided (IsSigned m a signature)
signed_or_not m a signature =
    decided_as (λ h. record { header = h.0; header_present = h.1; signed = h.2 })
    (λ h. (h.header, h.header_present, h.signed))
    (is_some_with (bytes_at m a 36) _ (λ header. is_true (has_signature header signature)))

-- slot k has the address of a header with the signature
record IsSignedSlot (m : Memory) (whole : List ℕ) (d : ℕ) (signature : List ℕ) (k : ℕ) : Type 0 where
  a : ℕ
  slot : HasSlot whole d k a
  signed : IsSigned m a signature

signed_slot_or_not : (m : Memory) (whole : List ℕ) (d : ℕ) (signature : List ℕ) (k : ℕ)
    → Decided (IsSignedSlot m whole d signature k)
signed_slot_or_not m whole d signature k =
    elim (slot_or_none whole d k) [
      | inr none ↦ inr (λ here. none here.a here.slot)
      | inl (a, slot) ↦
          decided_as (λ signed. record { a = a; slot = slot; signed = signed })
          (λ here. subst (λ (b : ℕ). IsSigned m b signature) (one_slot whole d k here.a a here.slot slot) here.signed)
          (signed_or_not m a signature)
    ]

pub first_listed_or_none : (m : Memory) (whole : List ℕ) (d : ℕ) (signature : List ℕ) → IsSlotWidth d
    → IsNoneListed m whole d signature ⊎ ((a : ℕ) × IsFirstListed m whole d signature a)
first_listed_or_none m whole d signature width =
    elim (least_below (IsSignedSlot m whole d signature) (signed_slot_or_not m whole d signature) (length whole)) [
      | inl none ↦
          inl (λ k a slot signed. none k (slot_below whole d k a width slot)
          (record { a = a; slot = slot; signed = signed }))
      | inr (k, below, least) ↦
          let before = λ (j : ℕ) (b : ℕ) (less : j < k) (slot : HasSlot whole d j b) (signed : IsSigned m b signature).
          least.none_below j less (record { a = b; slot = slot; signed = signed }) in
          inr (
            least.holds.a,
            record {
              k = k;
              slot = least.holds.slot;
              signed = least.holds.signed;
              none_before = before;
            },
          )
    ]

pub one_first_listed : (m : Memory) (whole : List ℕ) (d : ℕ) (signature : List ℕ) (a b : ℕ)
    → IsFirstListed m whole d signature a → IsFirstListed m whole d signature b → a ≡ b
one_first_listed m whole d signature a b one other =
    elim (cases_order one.k other.k) [
      | inl same ↦ grind (arith, one_slot, one.slot, other.slot)
      | inr (inl less) ↦ absurd (other.none_before one.k a less one.slot one.signed)
      | inr (inr more) ↦ absurd (one.none_before other.k b more other.slot other.signed)
    ]

pub none_and_first_listed : {m : Memory} {whole : List ℕ} {d : ℕ} {signature : List ℕ} {a : ℕ}
    → IsNoneListed m whole d signature → IsFirstListed m whole d signature a → ⊥
none_and_first_listed {a = a} none first = none first.k a first.slot first.signed

-- ---- of a set

pub listed_of_root : {m : Memory} {p r d : ℕ} {whole signature : List ℕ} {a : ℕ} → IsRoot m p r d
    → IsRootTable m r d whole → IsFirstTable m p signature a → IsFirstListed m whole d signature a
listed_of_root {m} {signature = signature} {a = a} root table first =
    of_root (λ x bytes. IsFirstListed m bytes x signature a) first.root root first.table table first.first

pub one_listed : (m : Memory) (p : ℕ) (signature whole whole' : List ℕ) → IsListedTable m p signature whole
    → IsListedTable m p signature whole' → whole ≡ whole'
one_listed m p signature whole whole' one other =
    let first : IsFirstTable m p signature other.a = other.first in
    let same = one_first_listed m first.whole first.d signature one.a other.a
    (listed_of_root first.root first.table one.first) first.first in
    one_frame (subst (λ (b : ℕ). IsTable m b one.header whole) same one.table) other.table

pub none_and_listed : {m : Memory} {p : ℕ} {signature whole : List ℕ} → ListsNone m p signature
    → IsListedTable m p signature whole → ⊥
none_and_listed none listed = none_and_first_listed none.none (listed_of_root none.root none.table listed.first)

pub listed_in_root : {m : Memory} {p r d a : ℕ} {bytes signature header whole : List ℕ} → IsRoot m p r d
    → IsRootTable m r d bytes → IsFirstListed m bytes d signature a → IsTable m a header whole
    → IsListedTable m p signature whole
listed_in_root {r = r} {d = d} {a = a} {bytes = bytes} {header = header} root table first stands =
    record {
      a = a;
      header = header;
      first = record { r = r; d = d; whole = bytes; root = root; table = table; first = first };
      table = stands;
    }

pub none_in_root : {m : Memory} {p r d : ℕ} {bytes signature : List ℕ} → IsRoot m p r d → IsRootTable m r d bytes
    → IsNoneListed m bytes d signature → ListsNone m p signature
none_in_root {r = r} {d = d} {bytes = bytes} root table none =
    record { r = r; d = d; root_bytes = bytes; root = root; table = table; none = none }

-- whether a set lists a table with a signature is known, and which one it lists first
abbrev pub IsListedOrNone : Memory → ℕ → List ℕ → Type 0
IsListedOrNone m p signature = (listed : Option (List ℕ)) × IsListed m p signature listed

pub listed_or_none : (m : Memory) (p : ℕ) (signature : List ℕ) → IsValidRoot m p → AreValidTables m p
    → IsListedOrNone m p signature
listed_or_none m p signature root tables =
    elim (first_listed_or_none m root.whole root.d signature (root_width root.root)) [
      | inl none ↦ (None, none_in_root root.root root.valid.table none)
      | inr (a, first) ↦
          let valid = tables first.k a (root_slot root.root root.valid.table first.slot) in
          (Some valid.whole, listed_in_root root.root root.valid.table first valid.frame)
    ]
