-- The first table with a signature among those that the slots below one list, from slot to slot.
use Rattle.std.proofs.Common.{◌≡◌, ◌<◌, ◌≤◌, ◌+◌, ◌*◌, ℕ, List, length, Option, Some, None, true, false, cond, sym, ap, ◌∙◌, subst, inl, inr, arith}
use Rattle.std.specs.Prelude.{◌&&◌}
use Rattle.std.proofs.lemmas.Bool.{cases_lt, cases_Bool, both_ways}
use Rattle.acpi_base.specs.Memory.{Memory}
use Rattle.acpi_base.specs.Signature.{has_signature}
use Rattle.acpi_base.specs.Root.{HasSlot, IsRoot, IsRootTable, IsSlot}
use Rattle.acpi_base.specs.Tables.{IsSigned, IsTable, IsValidTable}
use Rattle.acpi_base.specs.Listed.{IsListed}
use Rattle.acpi_base.specs.TableKinds.{signature_of}
use Rattle.acpi_base.specs.declared.table_kind.TableKind.{TableKind}
use Rattle.acpi_base.proofs.Options.{same_value}
use Rattle.acpi_base.proofs.Root.Slots.{one_slot, slot_of_root}
use Rattle.acpi_base.proofs.Tables.Kinds.{length-signature_of}
use Rattle.acpi_base.proofs.Tables.Listed.{listed_in_root, none_in_root}
use Rattle.acpi_base.proofs.Tables.Faults.{signed_table}
use Rattle.acpi_read.specs.FirstTables.{first_listed, first_table, first_signed, first_signed_table}
use Rattle.acpi_read.specs.Roots.{RootValue}
use Rattle.acpi_read.specs.declared.first_tables.FirstTables.{FirstTables}
use Rattle.acpi_read.specs.declared.first_tables.Listed.{Listed}
use Rattle.acpi_read.proofs.FirstsKept.{bytes_of_first}
use Rattle.acpi_check.specs.FirstBelow.{IsFirstBelow, AreFirstBelow, IsReadBelow}
use Rattle.acpi_check.specs.TableResults.{IsRootOf, AreFirstTables}

pub below_none : (m : Memory) (bytes : List ℕ) (d : ℕ) (signature : List ℕ) → IsFirstBelow m bytes d 0 signature None
below_none m bytes d signature = λ j a below slot. absurd (omega arith)

pub below_skip : (m : Memory) (bytes : List ℕ) (d k : ℕ) (signature : List ℕ) (found : Option (List ℕ))
    → ((a : ℕ) → ¬ HasSlot bytes d k a) → IsFirstBelow m bytes d k signature found
    → IsFirstBelow m bytes d (k + 1) signature found
below_skip m bytes d k signature None empty none = λ j a below slot.
    elim (cases_lt j k) [
      | inl less ↦ none j a less slot
      | inr more ↦ absurd (empty a (subst (λ (i : ℕ). HasSlot bytes d i a) (omega arith) slot))
    ]
below_skip m bytes d k signature (Some whole) empty first = first

-- a slot that lists a table
pub below_more : (m : Memory) (bytes : List ℕ) (d k a : ℕ) (header whole signature : List ℕ) (found : Option (List ℕ))
    → length signature ≡ 4 → HasSlot bytes d k a → IsTable m a header whole
    → IsFirstBelow m bytes d k signature found
    → IsFirstBelow m bytes d (k + 1) signature (first_signed_table signature found whole)
below_more m bytes d k a header whole signature (Some other) four slot table first =
    elim (has_signature whole signature) as
    (λ b. IsFirstBelow m bytes d (k + 1) signature (cond (b && false) (Some whole) (Some other))) [
      | true ↦
          first
      | false ↦ first
    ]
below_more m bytes d k a header whole signature None four slot table none =
    elim (cases_Bool (has_signature whole signature)) [
      | inl is ↦
          let signed : IsSigned m a signature =
          record {
            header = header;
            header_present = table.header_present;
            signed = sym (signed_table m a header whole signature table four) ∙ is;
          } in
          rw is (a, header, record { k = k; slot = slot; signed = signed; none_before = none }, table)
      | inr not_signed ↦ rw not_signed (λ j b below there. earlier not_signed j b below there)
    ]
  where
    unsigned : has_signature whole signature ≡ false → ¬ IsSigned m a signature
    unsigned not_signed signed =
        both_ways (has_signature whole signature) not_signed
        (signed_table m a header whole signature table four
        ∙ ap (λ h. has_signature h signature)
        (same_value header signed.header table.header_present signed.header_present)
        ∙ signed.signed)

    earlier : has_signature whole signature ≡ false → (j b : ℕ) → j < k + 1 → HasSlot bytes d j b
        → ¬ IsSigned m b signature
    earlier not_signed j b below there signed =
        elim (cases_lt j k) [
          | inl less ↦ none j b less there signed
          | inr more ↦
              let here : HasSlot bytes d k b = subst (λ (i : ℕ). HasSlot bytes d i b) (omega arith) there in
              unsigned not_signed (subst (λ (x : ℕ). IsSigned m x signature) (one_slot bytes d k b a here slot) signed)
        ]

-- the first table that all slots list is the one that the set lists
pub below_all : {m : Memory} {p r d : ℕ} {bytes : List ℕ} (k : ℕ) (signature : List ℕ) (found : Option (List ℕ))
    → IsRoot m p r d → IsRootTable m r d bytes
    → ((j a : ℕ) → HasSlot bytes d j a → j < k) → IsFirstBelow m bytes d k signature found
    → IsListed m p signature found
below_all k signature None root table all none = none_in_root root table (λ j a slot. none j a (all j a slot) slot)
below_all k signature (Some whole) root table all (a, header, first, stands) = listed_in_root root table first stands

-- ---- all kinds together

pub none_below : (m : Memory) (root : RootValue) (firsts : FirstTables)
    → ((kind : TableKind) → first_table firsts kind ≡ None) → AreFirstBelow m root 0 firsts
none_below m root firsts none = record {
  valid = λ j a below slot. absurd (omega arith);
  first = λ kind. rw (none kind) (below_none m root.bytes root.width (signature_of kind));
}

pub firsts_skip : (m : Memory) (root : RootValue) (k : ℕ) (firsts : FirstTables)
    → ((a : ℕ) → ¬ HasSlot root.bytes root.width k a) → AreFirstBelow m root k firsts
    → AreFirstBelow m root (k + 1) firsts
firsts_skip m root k firsts empty below = record {
  valid = λ j a less slot. elim (cases_lt j k) [
    | inl before ↦ below.valid j a before slot
    | inr last ↦ absurd (empty a (subst (λ (i : ℕ). HasSlot root.bytes root.width i a) (omega arith) slot))
  ];
  first = λ kind. below_skip m root.bytes root.width k (signature_of kind) (first_table firsts kind) empty
      (below.first kind);
}

-- a slot that lists what one before it lists
pub below_repeat : (m : Memory) (bytes : List ℕ) (d i k a : ℕ) (signature : List ℕ) (found : Option (List ℕ))
    → i < k → HasSlot bytes d i a → HasSlot bytes d k a → IsFirstBelow m bytes d k signature found
    → IsFirstBelow m bytes d (k + 1) signature found
below_repeat m bytes d i k a signature (Some whole) before first again below = below
below_repeat m bytes d i k a signature None before first again none = λ j b less there.
    elim (cases_lt j k) [
      | inl earlier ↦ none j b earlier there
      | inr last ↦
          let here : HasSlot bytes d k b = subst (λ (n : ℕ). HasSlot bytes d n b) (omega arith) there in
          none i b before (subst (λ (x : ℕ). HasSlot bytes d i x) (one_slot bytes d k a b again here) first)
    ]

pub firsts_repeat : (m : Memory) (root : RootValue) (k : ℕ) {a : ℕ} (firsts : FirstTables)
    → IsReadBelow root k a → HasSlot root.bytes root.width k a → AreFirstBelow m root k firsts
    → AreFirstBelow m root (k + 1) firsts
firsts_repeat m root k firsts (inl none) again below = absurd (again.listed none)
firsts_repeat m root k {a = a} firsts (inr (i, before, there)) again below =
    record {
      valid = λ j b less here. elim (cases_lt j k) [
        | inl earlier ↦ below.valid j b earlier here
        | inr last ↦
            let slot : HasSlot root.bytes root.width k b =
            subst (λ (n : ℕ). HasSlot root.bytes root.width n b) (omega arith) here in
            subst (λ (x : ℕ). IsValidTable m x) (one_slot root.bytes root.width k a b again slot)
            (below.valid i a before there)
      ];
      first = λ kind.
          below_repeat m root.bytes root.width i k a (signature_of kind) (first_table firsts kind) before there again
          (below.first kind);
    }

pub read_more : (root : RootValue) {k a : ℕ} → IsReadBelow root k a → IsReadBelow root (k + 1) a
read_more root (inl none) = inl none
read_more root (inr (j, before, slot)) = inr (j, omega arith, slot)

-- a slot that lists a valid table
pub firsts_more : (m : Memory) (root : RootValue) (k a : ℕ) (header : List ℕ) (next : Listed) (old new : FirstTables)
    → HasSlot root.bytes root.width k a → IsValidTable m a → IsTable m a header next.table
    → ((kind : TableKind) → first_listed new kind ≡ first_signed (signature_of kind) (first_listed old kind) next)
    → AreFirstBelow m root k old → AreFirstBelow m root (k + 1) new
firsts_more m root k a header next old new slot valid table added below = record {
  valid = λ j b less there. elim (cases_lt j k) [
    | inl before ↦ below.valid j b before there
    | inr last ↦
        let here : HasSlot root.bytes root.width k b = subst (λ (i : ℕ). HasSlot root.bytes root.width i b)
        (omega arith) there in
        subst (λ (x : ℕ). IsValidTable m x) (one_slot root.bytes root.width k a b slot here) valid
  ];
  first = λ kind.
      rw (bytes_of_first (signature_of kind) (first_listed old kind) next (added kind))
      (below_more m root.bytes root.width k a header next.table (signature_of kind) (first_table old kind)
      (length-signature_of kind) slot table (below.first kind));
}

pub firsts_all : (m : Memory) (p k : ℕ) (root : RootValue) (firsts : FirstTables) → IsRootOf m p root
    → ((j a : ℕ) → HasSlot root.bytes root.width j a → j < k) → AreFirstBelow m root k firsts
    → AreFirstTables m p firsts
firsts_all m p k root firsts is all below = record {
  each = λ kind. below_all k (signature_of kind) (first_table firsts kind) is.named is.valid.table all
      (below.first kind);
}

slots_end : (root : RootValue) (n j a : ℕ) → ((k : ℕ) → 36 + root.width * (k + 1) ≤ length root.bytes → k < n)
    → HasSlot root.bytes root.width j a → j < n
slots_end root n j a below slot = below j slot.inside

-- if the tables of all slots are valid, so are the set's, and the first ones that all slots list are the set's tables
pub valid_and_first : (m : Memory) (p n : ℕ) (root : RootValue) (firsts : FirstTables) → IsRootOf m p root
    → ((k : ℕ) → 36 + root.width * (k + 1) ≤ length root.bytes → k < n) → AreFirstBelow m root n firsts
    → ((k a : ℕ) → IsSlot m p k a → IsValidTable m a) × AreFirstTables m p firsts
valid_and_first m p n root firsts is below all = (
  λ k a listed.
      let slot = slot_of_root m p root.address root.width k a root.bytes is.named is.valid.table listed in
      all.valid k a (slots_end root n k a below slot) slot,
  firsts_all m p n root firsts is (λ j a. slots_end root n j a below) all,
)
