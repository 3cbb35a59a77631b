-- What entries of a table say, by the list of the table's kinds.
use Rattle.std.proofs.Common.{◌≡◌, ℕ, ◌≤◌, true, false, List, [], ◌∷◌, length, refl, sym, ap, subst, ◌∙◌, inl, inr, arith, ◌+◌, ◌*◌, flat_map, length-append}
use Rattle.std.specs.Prelude.{◌==◌, slice_index, ◌⊎◌}
use Rattle.std.proofs.lemmas.Bool.{cases_Bool, eqb-true, and_parts, eq-eqb, ne_eqb}
use Rattle.std.proofs.lemmas.Bool.Decides.{nat_tests}
use Rattle.std.proofs.lemmas.List.FromFn.{length-map-range_with_len}
use Rattle.acpi_base.specs.Entries.{IsEntry, IsEntryOf, EntryType, has_form, value_of_kind, IsTypeOf}
use Rattle.acpi_base.specs.KindLayouts.{AreByteValues, KeepKinds}
use Rattle.acpi_base.specs.Madt as madt
use Rattle.acpi_base.specs.Srat as srat
use Rattle.acpi_base.specs.Number.{field, number_bytes}
use Rattle.acpi_base.specs.Pptt as pptt
use Rattle.acpi_base.proofs.Layouts.RoundTrip.{length-number_bytes}
use Rattle.acpi_base.proofs.Pptt.Places.{form_size}
use Rattle.acpi_read.specs.Madts.{madt_bytes}
use Rattle.acpi_read.specs.Srats.{srat_bytes}
use Rattle.acpi_read.proofs.MadtKinds.{madt_kept}
use Rattle.acpi_read.proofs.SratKinds.{srat_kept}
use Rattle.acpi_read.specs.Pptts.{pptt_bytes}

pub is_entry : {V : Type 0} (k : EntryType V) → 2 ≤ k.size → (e : List ℕ) (v : V) → IsEntryOf k e v → IsEntry e
is_entry k some e v is = record { least = subst (λ (n : ℕ). 2 ≤ n) (sym is.count) some; said = is.said ∙ sym is.count }

-- an entry with none of the types is opaque
none_reads : {E : Type 0} (kinds : List (EntryType E)) (opaque : List ℕ → E) (e : List ℕ)
    → ¬ IsTypeOf kinds (slice_index e 0) → value_of_kind kinds opaque e ≡ opaque e
unfolding has_form
none_reads [] opaque e other = refl
none_reads (k ∷ kinds) opaque e other =
    let rest = none_reads kinds opaque e (λ is. other (inr is)) in
    let differs : ¬ (slice_index e 0 ≡ k.type) = λ is. other (inl is) in
    grind (arith, nat_tests)

pub madt_opaque : (e : List ℕ) → IsEntry e → ¬ IsTypeOf madt.madt_kinds (slice_index e 0)
    → madt.madt_entry e ≡ madt.Opaque e
unfolding madt.madt_entry
madt_opaque e is other = none_reads madt.madt_kinds madt.Opaque e other

pub srat_opaque : (e : List ℕ) → IsEntry e → ¬ IsTypeOf srat.srat_kinds (slice_index e 0)
    → srat.srat_entry e ≡ srat.Opaque e
unfolding srat.srat_entry
srat_opaque e is other = none_reads srat.srat_kinds srat.Opaque e other

-- ---- what is written for an entry

form_of : (e : List ℕ) (type size : ℕ) → has_form e type size ≡ true → (slice_index e 0 ≡ type) × (length e ≡ size)
unfolding has_form
form_of e type size is =
    let both = and_parts (slice_index e 0 == type) (length e == size) is in
    (eqb-true (slice_index e 0) type both.0, eqb-true (length e) size both.1)

same_form : (e w : List ℕ) → slice_index w 0 ≡ slice_index e 0 → length w ≡ length e → (type size : ℕ)
    → has_form w type size ≡ has_form e type size
unfolding has_form
same_form e w typed count type size = rw (typed, count) refl

-- the bytes are an entry of the type and the length of another one, and say the same
pub record IsAgain {E : Type 0} (read : List ℕ → E) (e w : List ℕ) : Type 0 where
  pub entry : IsEntry w
  pub count : length w ≡ length e
  pub typed : slice_index w 0 ≡ slice_index e 0
  pub same : read w ≡ read e

chosen : {E : Type 0} (k : EntryType E) (kinds : List (EntryType E)) (opaque : List ℕ → E) (e : List ℕ)
    → has_form e k.type k.size ≡ true → value_of_kind (k ∷ kinds) opaque e ≡ k.read e
chosen k kinds opaque e is = rw is refl

passed : {E : Type 0} (k : EntryType E) (kinds : List (EntryType E)) (opaque : List ℕ → E) (e : List ℕ)
    → has_form e k.type k.size ≡ false → value_of_kind (k ∷ kinds) opaque e ≡ value_of_kind kinds opaque e
passed k kinds opaque e not = rw not refl

pub length_by : {E : Type 0} (write : E → List ℕ) (kinds : List (EntryType E)) (opaque : List ℕ → E)
    → KeepKinds write kinds
    → ((e : List ℕ) → write (opaque e) ≡ e) → (e : List ℕ)
    → length (write (value_of_kind kinds opaque e)) ≡ length e
length_by write [] opaque keep kept e = ap length (kept e)
length_by write (k ∷ kinds) opaque keep kept e =
    elim (cases_Bool (has_form e k.type k.size)) [
      | inl is ↦ (let form = form_of e k.type k.size is in
          ap (λ v. length (write v)) (chosen k kinds opaque e is) ∙ keep.0.count e form.1 ∙ sym form.1)
      | inr not ↦ ap (λ v. length (write v)) (passed k kinds opaque e not) ∙ length_by write kinds opaque keep.1 kept e
    ]

-- the bytes that are written for what an entry says say it again
pub again_by : {E : Type 0} (write : E → List ℕ) (kinds : List (EntryType E)) (opaque : List ℕ → E)
    → KeepKinds write kinds
    → ((e : List ℕ) → write (opaque e) ≡ e) → (e : List ℕ)
    → AreByteValues e → IsEntry e → IsAgain (value_of_kind kinds opaque) e (write (value_of_kind kinds opaque e))
again_by write [] opaque keep kept e low entry =
    subst (IsAgain opaque e) (sym (kept e)) (record { entry = entry; count = refl; typed = refl; same = refl })
again_by write (k ∷ kinds) opaque keep kept e low entry =
    elim (cases_Bool (has_form e k.type k.size)) [
      | inl is ↦
          let w = write (k.read e) in
          let said = chosen k kinds opaque e is in
          let form = form_of e k.type k.size is in
          let again = keep.0.again e form.1 low in
          let typed : slice_index w 0 ≡ slice_index e 0 = again.typed ∙ sym form.0 in
          let count : length w ≡ length e = again.count ∙ sym form.1 in
          let here : has_form w k.type k.size ≡ true = same_form e w typed count k.type k.size ∙ is in
          subst (λ v. IsAgain (value_of_kind (k ∷ kinds) opaque) e (write v)) (sym said)
          (record {
            entry = record {
              least = subst (λ (n : ℕ). 2 ≤ n) (sym count) entry.least;
              said = again.said ∙ sym again.count;
            };
            count = count;
            typed = typed;
            same = chosen k kinds opaque w here ∙ again.value ∙ sym said;
          })
      | inr not ↦
          let w = write (value_of_kind kinds opaque e) in
          let said = passed k kinds opaque e not in
          let again = again_by write kinds opaque keep.1 kept e low entry in
          let other : has_form w k.type k.size ≡ false = same_form e w again.typed again.count k.type k.size ∙ not in
          subst (λ v. IsAgain (value_of_kind (k ∷ kinds) opaque) e (write v)) (sym said)
          (record {
            entry = again.entry;
            count = again.count;
            typed = again.typed;
            same = passed k kinds opaque w other ∙ again.same ∙ sym said;
          })
    ]

pub madt_length : (e : List ℕ) → length (madt_bytes (madt.madt_entry e)) ≡ length e
unfolding madt.madt_entry
madt_length e = length_by madt_bytes madt.madt_kinds madt.Opaque madt_kept (λ e. refl) e

pub srat_length : (e : List ℕ) → length (srat_bytes (srat.srat_entry e)) ≡ length e
unfolding srat.srat_entry
srat_length e = length_by srat_bytes srat.srat_kinds srat.Opaque srat_kept (λ e. refl) e

references_length : (rs : List ℕ) → length (flat_map (λ r. number_bytes 4 r) rs) ≡ 4 * length rs
references_length [] = refl
references_length (r ∷ rs) =
    omega (
      arith,
      length-append (number_bytes 4 r) (flat_map (λ r. number_bytes 4 r) rs),
      length-number_bytes 4 r,
      references_length rs,
    )

pub length-node : (v : pptt.NodeValue) → length (pptt_bytes (pptt.Node v)) ≡ 20 + 4 * length v.resources
length-node v =
    let rest = references_length v.resources in
    simp (length-append, length-number_bytes, rest) (omega arith)

cache_length : (e : List ℕ) → (length e ≡ 24) ⊎ (length e ≡ 28)
    → length (pptt_bytes (pptt.Cache (pptt.cache_of e))) ≡ length e
cache_length e (inl short) =
    let other : (length e == 28) ≡ false = ne_eqb (length e) 28 (λ long. absurd (omega (arith, short, long))) in
    rw other (simp (length-append, length-number_bytes, short) refl)
cache_length e (inr long) =
    let same : (length e == 28) ≡ true = eq-eqb (length e) 28 long in
    rw same (simp (length-append, length-number_bytes, long) refl)

pub cache_sizes : (e : List ℕ) → pptt.has_cache_form e ≡ true → (length e ≡ 24) ⊎ (length e ≡ 28)
unfolding pptt.has_cache_form
cache_sizes e is =
    elim (cases_Bool (has_form e 1 24)) [
      | inl short ↦ inl (form_size e 1 24 short)
      | inr other ↦ inr (form_size e 1 28 (sym (rw other refl) ∙ is))
    ]

pub node_size : (e : List ℕ) → pptt.has_node_form e ≡ true → length e ≡ 20 + 4 * pptt.resource_count e
unfolding pptt.has_node_form
node_size e is = form_size e 0 (20 + 4 * pptt.resource_count e) is

pub pptt_length : (e : List ℕ) → length (pptt_bytes (pptt.pptt_entry e)) ≡ length e
unfolding pptt.pptt_entry
pptt_length e =
    elim (cases_Bool (pptt.has_node_form e)) [
      | inl is ↦
          let count = length-map-range_with_len (λ j. field e (20 + 4 * j) 4) 0 (pptt.resource_count e) in
          let whole = length-node (pptt.node_of e) in
          let size = node_size e is in
          rw is (omega (arith, whole, count, size))
      | inr a ↦ rw a (elim (cases_Bool (pptt.has_cache_form e)) [
        | inl is ↦ rw is (cache_length e (cache_sizes e is))
        | inr b ↦ rw b refl
      ])
    ]
