-- The tables of a clean set can be read as those of their kinds.
use Rattle.std.proofs.Common.{◌≡◌, ℕ, zero, suc, ◌+◌, ◌-◌, ◌*◌, ◌/◌, ◌<◌, ◌≤◌, true, List, [], ◌∷◌, length, take, get_or, Option, Some, None, refl, sym, ap, ◌∙◌, subst, inl, inr, arith}
use Rattle.std.specs.Prelude.{◌≢◌}
use Rattle.std.specs.List.{AllZip}
use Rattle.std.proofs.Math.Bool.{or-true}
use Rattle.std.proofs.lemmas.Bool.{cases_eq, both_ways}
use Rattle.acpi_base.specs.Memory.{Memory}
use Rattle.acpi_base.specs.Number.{field, byte_sum}
use Rattle.acpi_base.specs.Policy.{PolicyValue}
use Rattle.acpi_base.specs.Signature.{has_signature}
use Rattle.acpi_base.specs.Root.{IsSlotWidth, IsRoot, IsRootTable, HasSlot}
use Rattle.acpi_base.specs.Tables.{IsSigned, IsValidTable}
use Rattle.acpi_base.specs.Listed.{listed_addresses, IsFirstListed, IsListedTable}
use Rattle.acpi_base.specs.Statements.{IsClean}
use Rattle.acpi_base.specs.TableKinds.{signature_of}
use Rattle.acpi_base.specs.declared.stage.Stage.TheVariants as stage
use Rattle.acpi_base.specs.declared.table_kind.TableKind.{TableKind}
use Rattle.acpi_base.proofs.Options.{same_value}
use Rattle.acpi_base.proofs.Root.Slots.{root_slot}
use Rattle.acpi_base.proofs.Root.Named.{root_width}
use Rattle.acpi_base.proofs.Tables.Kinds.{length-signature_of}
use Rattle.acpi_base.proofs.Tables.Listed.{listed_in_root}
use Rattle.acpi_base.proofs.Frames.{one_frame}
use Rattle.acpi_base.proofs.Tables.Faults.{signed_table}
use Rattle.acpi_write.specs.Kinds.{AreReadable, IsKindBehind, is_among}
use Rattle.acpi_write.specs.SetValues.{IsCompleteAt, is_first}
use Rattle.acpi_write.specs.Bodies.{IsReadableAs}
use Rattle.acpi_write.proofs.OldSets.FirstTables.{first_parts}
use Rattle.acpi_write.proofs.Tables.Kinds.{facts}
use Rattle.acpi_write.proofs.OldSets.Listing.{listed_from, listed_is, listed_skip, listed_take}

-- ---- the k-th of the listed tables

-- a slot from j on lists the k-th table, and each table that a slot from j on lists before it is one of those before it
record IsAt (m : Memory) (root : List ℕ) (d j : ℕ) (ts : List (List ℕ)) (k : ℕ) (none : List ℕ) : Type 0 where
  i : ℕ
  from : j ≤ i
  a : ℕ
  slot : HasSlot root d i a
  table : IsCompleteAt m a (get_or ts k none)
  earlier : (h b : ℕ) → j ≤ h → h < i → HasSlot root d h b → (l : ℕ) × (l < k) × IsCompleteAt m b (get_or ts l none)

abbrev Inside : List ℕ → ℕ → ℕ → Type 0
Inside root d s = (i : ℕ) → i < s → 36 + d * (i + 1) ≤ length root

at : (m : Memory) (root : List ℕ) (d j n : ℕ) (ts : List (List ℕ)) (k : ℕ) (none : List ℕ) → Inside root d (j + n)
    → AllZip (IsCompleteAt m) (listed_from root d j n) ts → k < length ts → IsAt m root d j ts k none
at m root d j zero [] k none inside zip below = absurd (omega arith)
at m root d j zero (t ∷ ts) k none inside zip below = absurd zip
at m root d j (suc n) ts k none inside zip below =
    let further : Inside root d (j + 1 + n) = λ i l. inside i (omega arith) in
    elim (cases_eq (field root (36 + d * j) d) 0) [
      | inl nil ↦
          let rest = at m root d (j + 1) n ts k none further
          (subst (λ (xs : List ℕ). AllZip (IsCompleteAt m) xs ts) (listed_skip root d j n nil) zip) below in
          record {
            i = rest.i;
            from = omega (arith, rest.from);
            a = rest.a;
            slot = rest.slot;
            table = rest.table;
            earlier = λ h b from less slot. elim (cases_eq h j) [
              | inl same ↦ absurd (slot.listed
                  (sym slot.address ∙ ap (λ (i : ℕ). field root (36 + d * i) d) same ∙ nil))
              | inr other ↦ rest.earlier h b (omega (arith, other, from)) less slot
            ];
          }
      | inr some ↦ go ts k (inside j (omega arith)) some (λ us l z b. at m root d (j + 1) n us l none further z b)
          (subst (λ (xs : List ℕ). AllZip (IsCompleteAt m) xs ts) (listed_take root d j n some) zip) below
    ]
  where
    go : (ts : List (List ℕ)) (k : ℕ) → 36 + d * (j + 1) ≤ length root → field root (36 + d * j) d ≢ 0
        → ((us : List (List ℕ)) (l : ℕ) → AllZip (IsCompleteAt m) (listed_from root d (j + 1) n) us → l < length us
        → IsAt m root d (j + 1) us l none)
        → AllZip (IsCompleteAt m) (field root (36 + d * j) d ∷ listed_from root d (j + 1) n) ts → k < length ts
        → IsAt m root d j ts k none
    go [] k within some again zip below = absurd zip
    go (t ∷ ts) zero within some again zip below =
        record {
          i = j;
          from = omega arith;
          a = field root (36 + d * j) d;
          slot = record { inside = within; address = refl; listed = some };
          table = zip.0;
          earlier = λ h b from less slot. absurd (omega (arith, from, less));
        }
    go (t ∷ ts) (suc k) within some again zip below =
        let rest = again ts k zip.1 (omega (arith, below)) in
        record {
          i = rest.i;
          from = omega (arith, rest.from);
          a = rest.a;
          slot = rest.slot;
          table = rest.table;
          earlier = λ h b from less slot. elim (cases_eq h j) [
            | inl same ↦
                let place : field root (36 + d * j) d ≡ b = ap (λ (i : ℕ). field root (36 + d * i) d) (sym same)
                ∙ slot.address in
                (zero, omega arith, subst (λ (x : ℕ). IsCompleteAt m x t) place zip.0)
            | inr other ↦
                let before = rest.earlier h b (omega (arith, other, from)) less slot in
                (suc before.0, omega (arith, before.1), before.2)
          ];
        }

slots_inside : (root : List ℕ) (d : ℕ) → IsSlotWidth d → Inside root d (0 + (length root - 36) / d)
slots_inside root d (inl four) i below =
    let b : i < 0 + (length root - 36) / 4 = subst (λ (x : ℕ). i < 0 + (length root - 36) / x) four below in
    subst (λ (x : ℕ). 36 + x * (i + 1) ≤ length root) (sym four) (omega arith)
slots_inside root d (inr eight) i below =
    let b : i < 0 + (length root - 36) / 8 = subst (λ (x : ℕ). i < 0 + (length root - 36) / x) eight below in
    subst (λ (x : ℕ). 36 + x * (i + 1) ≤ length root) (sym eight) (omega arith)

at_listed : (m : Memory) (root : List ℕ) (d : ℕ) (ts : List (List ℕ)) (k : ℕ) (none : List ℕ) → IsSlotWidth d
    → AllZip (IsCompleteAt m) (listed_addresses root d) ts → k < length ts → IsAt m root d 0 ts k none
at_listed m root d ts k none width zip below =
    at m root d 0 ((length root - 36) / d) ts k none (slots_inside root d width)
    (subst (λ (xs : List ℕ). AllZip (IsCompleteAt m) xs ts) (listed_is root d) zip) below

-- ---- the first with a signature

among : (ts : List (List ℕ)) (k l : ℕ) (none signature : List ℕ) → l < k → k < length ts
    → has_signature (get_or ts l none) signature ≡ true → is_among (take k ts) signature ≡ true
among [] k l none signature less below is = absurd (omega arith)
among (t ∷ ts) zero l none signature less below is = absurd (omega (arith, less))
among (t ∷ ts) (suc k) zero none signature less below is = rw is refl
among (t ∷ ts) (suc k) (suc l) none signature less below is =
    rw (among ts k l none signature (omega (arith, less)) (omega (arith, below)) is)
    (or-true (has_signature t signature))

-- the table that is the first with a signature is the first listed one
pub first_listed_table : (m : Memory) (p r d : ℕ) (root : List ℕ) (ts : List (List ℕ)) (k : ℕ) (none signature : List ℕ)
    → IsRoot m p r d → IsRootTable m r d root → AllZip (IsCompleteAt m) (listed_addresses root d) ts → k < length ts
    → length signature ≡ 4
    → is_first (take k ts) (get_or ts k none) signature ≡ true → IsListedTable m p signature (get_or ts k none)
first_listed_table m p r d root ts k none signature named table zip below four is =
    let here = at_listed m root d ts k none (root_width named) zip below in
    let whole = get_or ts k none in
    let parts = first_parts (has_signature whole signature) (is_among (take k ts) signature) is in
    let header = here.table.0 in
    let signed : IsSigned m here.a signature =
    record {
      header = header;
      header_present = here.table.1.header_present;
      signed = sym (signed_table m here.a header whole signature here.table.1 four) ∙ parts.0;
    } in
    let none_before = λ (h : ℕ) (b : ℕ) (less : h < here.i) (slot : HasSlot root d h b)
    (other : IsSigned m b signature). (
    let before = here.earlier h b (omega arith) less slot in
    let its = before.2 in
    let same = same_value its.0 other.header its.1.header_present other.header_present in
    let has : has_signature (get_or ts before.0 none) signature ≡ true =
    signed_table m b its.0 (get_or ts before.0 none) signature its.1 four
    ∙ ap (λ (x : List ℕ). has_signature x signature) same ∙ other.signed in
    both_ways (is_among (take k ts) signature) parts.1 (among ts k before.0 none signature before.1 below has)) in
    let first : IsFirstListed m root d signature here.a =
    record { k = here.i; slot = here.slot; signed = signed; none_before = none_before } in
    listed_in_root named table first here.table.1

-- ---- each can be read

zero_sum : (m : Memory) (a : ℕ) (whole : List ℕ) → IsValidTable m a → IsCompleteAt m a whole → byte_sum whole ≡ 0
zero_sum m a whole valid stands =
    subst (λ (b : List ℕ). byte_sum b ≡ 0) (one_frame valid.frame stands.1) valid.zero_sum

pub valid_slots : (m : Memory) (q : PolicyValue) (r d : ℕ) (root : List ℕ) → IsClean m q → IsRoot m q.rsdp r d
    → IsRootTable m r d root → (k a : ℕ) → HasSlot root d k a → IsValidTable m a
valid_slots m q r d root clean named table k a slot = clean stage.Tables k a (root_slot named table slot)

pub clean_readable : (m : Memory) (q : PolicyValue) (r d : ℕ) (root : List ℕ) (ts : List (List ℕ)) → IsClean m q
    → IsRoot m q.rsdp r d → IsRootTable m r d root → AllZip (IsCompleteAt m) (listed_addresses root d) ts
    → AreReadable ts
clean_readable m q r d root ts clean named table zip k none below = record { readable = readable; zero_sum = sum }
  where
    whole : List ℕ
    whole = get_or ts k none

    sum : byte_sum whole ≡ 0
    sum =
        let here = at_listed m root d ts k none (root_width named) zip below in
        zero_sum m here.a whole (valid_slots m q r d root clean named table here.i here.a here.slot) here.table

    readable : (kind : Option TableKind) → IsKindBehind (take k ts) whole kind → IsReadableAs kind whole
    readable None first = sum
    readable (Some kind) first =
        (facts kind).readable m q whole clean
        (first_listed_table m q.rsdp r d root ts k none (signature_of kind) named table zip below
        (length-signature_of kind) first)
