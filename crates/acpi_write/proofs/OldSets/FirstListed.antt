-- Which of the tables that a root table lists is the set's first with a signature.
use Rattle.std.proofs.Common.{◌≡◌, ℕ, zero, suc, ◌+◌, ◌-◌, ◌*◌, ◌/◌, ◌<◌, ◌≤◌, true, false, List, [], ◌∷◌, length, take, get_or, Some, None, refl, sym, ap, ◌∙◌, subst, inl, inr, arith}
use Rattle.std.specs.List.{AllByRecursion, AllZip}
use Rattle.std.proofs.lemmas.Bool.{cases_Bool, cases_eq, both_ways}
use Rattle.acpi_base.specs.Memory.{Memory}
use Rattle.acpi_base.specs.Number.{field}
use Rattle.acpi_base.specs.Signature.{has_signature}
use Rattle.acpi_base.specs.Root.{IsSlotWidth, IsRoot, IsRootTable, HasSlot}
use Rattle.acpi_base.specs.Listed.{listed_addresses, IsFirstListed, IsListedTable}
use Rattle.acpi_base.proofs.Options.{cases_Option, same_value}
use Rattle.acpi_base.proofs.Root.Named.{root_width}
use Rattle.acpi_base.proofs.Tables.Listed.{listed_of_root, one_listed}
use Rattle.acpi_base.proofs.Tables.Faults.{signed_table}
use Rattle.acpi_write.specs.SetValues.{IsCompleteAt, is_first}
use Rattle.acpi_write.proofs.OldSets.CleanSets.{first_listed_table}
use Rattle.acpi_write.proofs.OldSets.FirstTables.{first_table_with}
use Rattle.acpi_write.proofs.OldSets.Listing.{listed_from, listed_is, listed_skip, listed_take}

-- ---- the first table, by its index

record IsFirstAt (ts : List (List ℕ)) (t signature : List ℕ) : Type 0 where
  k : ℕ
  below : k < length ts
  there : get_or ts k [] ≡ t
  first : is_first (take k ts) t signature ≡ true

later : (u : List ℕ) (ts : List (List ℕ)) (t signature : List ℕ) → has_signature u signature ≡ false
    → IsFirstAt ts t signature → IsFirstAt (u ∷ ts) t signature
later u ts t signature other rest =
    record { k = suc rest.k; below = omega (arith, rest.below); there = rest.there; first = rw other rest.first }

first_at : (ts : List (List ℕ)) (t signature : List ℕ) → first_table_with signature ts ≡ Some t
    → IsFirstAt ts t signature
unfolding first_table_with
first_at [] t signature is = absurd (cc)
first_at (u ∷ ts) t signature is =
    elim (cases_Bool (has_signature u signature)) [
      | inl has ↦
          let same : u ≡ t = same_value u t refl (sym (rw has refl) ∙ is) in
          record { k = zero; below = omega arith; there = same; first = rw (← same, has) refl }
      | inr other ↦ later u ts t signature other (first_at ts t signature (sym (rw other refl) ∙ is))
    ]

none_with : (ts : List (List ℕ)) (signature : List ℕ) → first_table_with signature ts ≡ None
    → AllByRecursion (λ t. has_signature t signature ≡ false) ts
unfolding first_table_with
none_with [] signature none = tt
none_with (u ∷ ts) signature none =
    elim (cases_Bool (has_signature u signature)) [
      | inl has ↦ absurd (cc)
      | inr other ↦ (other, none_with ts signature (sym (rw other refl) ∙ none))
    ]

-- ---- the table that a slot lists

-- the table that a slot lists is one of those listed
pub record IsSlotTable (m : Memory) (P : List ℕ → Type 0) (a : ℕ) : Type 0 where
  pub t : List ℕ
  pub stands : IsCompleteAt m a t
  pub holds : P t

slot_from : (m : Memory) (P : List ℕ → Type 0) (root : List ℕ) (d j n : ℕ) (ts : List (List ℕ)) (i a : ℕ)
    → AllZip (IsCompleteAt m) (listed_from root d j n) ts → AllByRecursion P ts → j ≤ i → i < j + n → HasSlot root d i a
    → IsSlotTable m P a
slot_from m P root d j zero ts i a zip all from below slot = absurd (omega arith)
slot_from m P root d j (suc n) ts i a zip all from below slot =
    elim (cases_eq (field root (36 + d * j) d) 0) [
      | inl nil ↦
          elim (cases_eq i j) [
            | inl same ↦ absurd (slot.listed (sym slot.address ∙ ap (λ (h : ℕ). field root (36 + d * h) d) same ∙ nil))
            | inr other ↦ slot_from m P root d (j + 1) n ts i a
                (subst (λ (xs : List ℕ). AllZip (IsCompleteAt m) xs ts) (listed_skip root d j n nil) zip) all
                (omega arith)
                (omega arith) slot
          ]
      | inr some ↦
          go ts (subst (λ (xs : List ℕ). AllZip (IsCompleteAt m) xs ts) (listed_take root d j n some) zip) all
          (λ us z l other. slot_from m P root d (j + 1) n us i a z l (omega (arith, other)) (omega (arith, other)) slot)
    ]
  where
    go : (ts : List (List ℕ)) → AllZip (IsCompleteAt m) (field root (36 + d * j) d ∷ listed_from root d (j + 1) n) ts
        → AllByRecursion P ts
        → ((us : List (List ℕ)) → AllZip (IsCompleteAt m) (listed_from root d (j + 1) n) us → AllByRecursion P us
        → (i ≡ j → ⊥) → IsSlotTable m P a) → IsSlotTable m P a
    go [] zip all again = absurd zip
    go (t ∷ ts) zip all again =
        elim (cases_eq i j) [
          | inl same ↦
              let place : field root (36 + d * j) d ≡ a = ap (λ (h : ℕ). field root (36 + d * h) d) (sym same)
              ∙ slot.address in
              record { t = t; stands = subst (λ (x : ℕ). IsCompleteAt m x t) place zip.0; holds = all.0 }
          | inr other ↦ again ts zip.1 all.1 other
        ]

counted : (root : List ℕ) (d i : ℕ) → IsSlotWidth d → 36 + d * (i + 1) ≤ length root → i < 0 + (length root - 36) / d
counted root d i (inl four) inside =
    let b : 36 + 4 * (i + 1) ≤ length root = subst (λ (x : ℕ). 36 + x * (i + 1) ≤ length root) four inside in
    subst (λ (x : ℕ). i < 0 + (length root - 36) / x) (sym four) (omega (arith, b))
counted root d i (inr eight) inside =
    let b : 36 + 8 * (i + 1) ≤ length root = subst (λ (x : ℕ). 36 + x * (i + 1) ≤ length root) eight inside in
    subst (λ (x : ℕ). i < 0 + (length root - 36) / x) (sym eight) (omega (arith, b))

pub slot_table : (m : Memory) (P : List ℕ → Type 0) (root : List ℕ) (d : ℕ) (ts : List (List ℕ)) (i a : ℕ)
    → IsSlotWidth d → AllZip (IsCompleteAt m) (listed_addresses root d) ts → AllByRecursion P ts → HasSlot root d i a
    → IsSlotTable m P a
slot_table m P root d ts i a width zip all slot =
    slot_from m P root d 0 ((length root - 36) / d) ts i a
    (subst (λ (xs : List ℕ). AllZip (IsCompleteAt m) xs ts) (listed_is root d) zip) all (omega arith)
    (counted root d i width slot.inside) slot

-- ---- the set's first table with a signature is the first of the list

-- a set's listed tables, in the order of their slots
pub record AreListed (m : Memory) (p : ℕ) (ts : List (List ℕ)) : Type 0 where
  pub r : ℕ
  pub d : ℕ
  pub root_bytes : List ℕ
  pub root : IsRoot m p r d
  pub table : IsRootTable m r d root_bytes
  pub each : AllZip (IsCompleteAt m) (listed_addresses root_bytes d) ts

pub listed_first : (m : Memory) (p : ℕ) (ts : List (List ℕ)) (signature t : List ℕ) → AreListed m p ts
    → length signature ≡ 4 → first_table_with signature ts ≡ Some t → IsListedTable m p signature t
listed_first m p ts signature t are four is =
    let at = first_at ts t signature is in
    subst (λ (x : List ℕ). IsListedTable m p signature x) at.there
    (first_listed_table m p are.r are.d are.root_bytes ts at.k [] signature are.root are.table are.each at.below four
    (subst (λ (x : List ℕ). is_first (take at.k ts) x signature ≡ true) (sym at.there) at.first))

pub first_of_listed : (m : Memory) (p : ℕ) (ts : List (List ℕ)) (signature t : List ℕ) → AreListed m p ts
    → length signature ≡ 4 → IsListedTable m p signature t → first_table_with signature ts ≡ Some t
first_of_listed m p ts signature t are four listed_addresses =
    elim (cases_Option (first_table_with signature ts)) [
      | inl (u, is) ↦ is ∙ ap Some (one_listed m p signature u t (listed_first m p ts signature u are four is)
          listed_addresses)
      | inr none ↦
          let first : IsFirstListed m are.root_bytes are.d signature listed_addresses.a =
          listed_of_root are.root are.table listed_addresses.first in
          let its = slot_table m (λ x. has_signature x signature ≡ false) are.root_bytes are.d ts first.k
          listed_addresses.a (root_width are.root) are.each (none_with ts signature none) first.slot in
          let same =
          same_value its.stands.0 first.signed.header its.stands.1.header_present first.signed.header_present in
          let has : has_signature its.t signature ≡ true = signed_table m listed_addresses.a its.stands.0 its.t
          signature its.stands.1 four ∙ ap (λ (x : List ℕ). has_signature x signature) same ∙ first.signed.signed in
          absurd (both_ways (has_signature its.t signature) its.holds has)
    ]
