-- The entries of a PPTT: nodes, caches and what they name.
use Rattle.std.proofs.Common.{◌≡◌, ◌+◌, ◌*◌, ◌<◌, ◌≤◌, ℕ, List, length, Option, Some, None, refl, ap, ◌∙◌, inl, inr, arith}
use Rattle.std.specs.Prelude.{slice_index, slice_get, Bool, true, false}
use Rattle.std.proofs.lemmas.Bool.{and_parts, or_cases, eqb-true}
use Rattle.std.proofs.lemmas.Option.{slice_get-get_or, slice_get_past}
use Rattle.std.proofs.lemmas.List.FromFn.{length-map-range_with_len, get_or-map-range_with_len}
use Rattle.acpi_base.specs.Number.{field}
use Rattle.acpi_base.specs.Entries.{StandsWith, has_form, cut_of}
use Rattle.acpi_base.specs.Pptt.{pptt_entry, pptt_type, has_node_form, has_cache_form, resource_count, resources_of, PpttContents, pptt_contents}
use Rattle.acpi_base.proofs.Pptt.Places.{size_is}
use Rattle.acpi_confirm.specs.References.{Names, named_offset}
use Rattle.acpi_confirm.specs.Walks.{IsOnly}
use Rattle.acpi_confirm.specs.declared.pptt.Chain.{Chain}
use Rattle.acpi_confirm.specs.declared.pptt.Chain.TheVariants.{Parents, NextLevels}

form_type : (e : List ℕ) (type size : ℕ) → has_form e type size ≡ true → slice_index e 0 ≡ type
unfolding has_form
form_type e type size form = eqb-true _ _ (and_parts _ _ form).0

pub node_type : (e : List ℕ) → has_node_form e ≡ true → slice_index e 0 ≡ 0
unfolding has_node_form
node_type e form = form_type e 0 (20 + 4 * resource_count e) form

pub cache_type : (e : List ℕ) → has_cache_form e ≡ true → slice_index e 0 ≡ 1
unfolding has_cache_form
cache_type e form =
    elim (or_cases (has_form e 1 24) (has_form e 1 28) form) [
      | inl short ↦ form_type e 1 24 short
      | inr long ↦
          form_type e 1 28 long
    ]

not_true : (b : Bool) → (b ≡ true → ⊥) → b ≡ false
not_true true not = absurd (not refl)
not_true false not = refl

pub cache_no_node : (e : List ℕ) → has_cache_form e ≡ true → has_node_form e ≡ false
cache_no_node e cache = not_true (has_node_form e) (λ node. omega (arith, node_type e node, cache_type e cache))

pub type_of : (e : List ℕ) → pptt_type (pptt_entry e) ≡ slice_index e 0
unfolding pptt_entry
type_of e = grind (arith, node_type, cache_type)

pub ruleset kinds = (node_type, cache_type, cache_no_node)

pub pptt_cut : (pptt : List ℕ) → (pptt_contents pptt).cut ≡ cut_of 36 pptt
unfolding pptt_contents
pptt_cut pptt = refl

-- ---- private resources

pub resource_is : (e : List ℕ) (j : ℕ) → j < field e 16 4 → slice_get (resources_of e) j ≡ Some (field e (20 + 4 * j) 4)
resource_is e j below =
    let size = length-map-range_with_len (λ i. field e (20 + 4 * i) 4) 0 (resource_count e) in
    slice_get-get_or (resources_of e) j 0 (omega arith) ∙ ap Some
    (get_or-map-range_with_len (λ i. field e (20 + 4 * i) 4) 0 (resource_count e) j j 0 (omega arith) (omega arith))

pub no_resource : (e : List ℕ) (j : ℕ) → field e 16 4 ≤ j → slice_get (resources_of e) j ≡ None
no_resource e j past =
    let size = length-map-range_with_len (λ i. field e (20 + 4 * i) 4) 0 (resource_count e) in
    slice_get_past (resources_of e) j (omega arith)

pub node_size : (e : List ℕ) → has_node_form e ≡ true → length e ≡ 20 + 4 * field e 16 4
unfolding has_node_form has_form
node_size e form = eqb-true _ _ (and_parts _ _ form).1

pub ruleset resources = (resource_is, no_resource, node_size)

-- ---- what entries name

pub names_of : (chain : Chain) (c : PpttContents) (at : ℕ) (only : Option ℕ)
    → IsOnly (λ p. StandsWith c.entries at (λ e. named_offset chain e ≡ Some p)) only → IsOnly (Names chain c at) only
names_of Parents c at only is = is
names_of NextLevels c at only is = is
