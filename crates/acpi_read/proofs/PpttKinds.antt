-- The kinds of entries of a PPTT: what an entry says, by the layout of its kind.
use Rattle.std.proofs.Common.{rules, ◌≡◌, [], ◌∷◌, ◌+◌, ◌*◌, List, ℕ, refl, sym, ap, ◌∙◌, subst, inl, inr, arith}
use Rattle.std.proofs.Common.{◌<◌, ◌≤◌, ◌≢◌, length, take, drop, map}
use Rattle.std.specs.Prelude.{◌⊎◌, slice_index}
use Rattle.std.specs.List.{range_with_len}
use Rattle.std.proofs.lemmas.Bool.Decides.{nat_tests}
use Rattle.std.proofs.lemmas.List.{drop-drop, length-take, length-drop}
use Rattle.acpi_base.specs.Number.{field}
use Rattle.acpi_base.specs.Entries.{IsEntry, IsEntryOf, has_form}
use Rattle.acpi_base.specs.Pptt.{NodeValue, node_of, CacheValue, cache_of, cache24, cache28, resource_count, has_node_form, has_cache_form, pptt_entry, Node, Cache, Opaque}
use Rattle.acpi_base.specs.Layouts.{values_at, layout_bytes, FitLayout, IsOfLayout, HasValues}
use Rattle.acpi_base.proofs.Images.PresentBytes.{field-take}
use Rattle.acpi_base.proofs.Layouts.Kinds.{byte_field}
use Rattle.acpi_base.proofs.Layouts.RoundTrip.{HasValues-layout_bytes}
use Rattle.acpi_read.specs.Pptts.{node_value}
use Rattle.acpi_read.specs.Pptts.{node_head_parts, node_head_values, HasNodeLength}
use Rattle.acpi_read.specs.declared.pptt.node_head.NodeHead.{NodeHead}

-- ---- heads of nodes

length_of : (h : NodeHead) (e : List ℕ) → values_at 0 node_head_parts e ≡ node_head_values h → HasNodeLength e
length_of h e same =
    let length : field e 1 1 ≡ 20 + 4 * h.count = cc in
    let count : field e 16 4 ≡ h.count = cc in
    omega arith

pub written_length : (h : NodeHead) (out : List ℕ) → out ≡ layout_bytes node_head_parts (node_head_values h)
    → FitLayout node_head_parts (node_head_values h) → HasNodeLength out
written_length h out is fit =
    subst HasNodeLength (sym is) (length_of h _ (HasValues-layout_bytes node_head_parts (node_head_values h) fit).same)

-- ---- nodes

node_says : (e : List ℕ) → IsEntry e → slice_index e 0 ≡ 0 → HasNodeLength e → pptt_entry e ≡ Node (node_of e)
unfolding pptt_entry has_node_form has_form
node_says e is typed counted =
    let count : length e ≡ 20 + 4 * resource_count e = omega (arith, is.said, byte_field e 1) in
    grind (arith, nat_tests)

no_node_says : (e : List ℕ) → IsEntry e → slice_index e 0 ≡ 0 → ¬ HasNodeLength e → pptt_entry e ≡ Opaque e
unfolding pptt_entry has_node_form has_cache_form has_form
no_node_says e is typed not =
    let other : ¬ (length e ≡ 20 + 4 * resource_count e) = λ count. not (omega (arith, is.said, byte_field e 1)) in
    grind (arith, nat_tests)

length_in_head : (e : List ℕ) → (HasNodeLength (take 20 e) → HasNodeLength e)
    × (HasNodeLength e → HasNodeLength (take 20 e))
length_in_head e = (
  λ has. omega (arith, field-take e 20 1 1, field-take e 20 16 4),
  λ has. omega (arith, field-take e 20 1 1, field-take e 20 16 4),
)

pub references_of : (e : List ℕ) (j : ℕ) → field (drop 20 e) (4 * j) 4 ≡ field e (20 + 4 * j) 4
unfolding field
references_of e j = grind (arith, drop-drop (4 * j) 20 e)

same_numbers : (f g : ℕ → ℕ) → ((j : ℕ) → f j ≡ g j) → (js : List ℕ) → map f js ≡ map g js
same_numbers f g same [] = refl
same_numbers f g same (j ∷ js) = (let rest = same_numbers f g same js in rw (same j, rest) refl)

one_node : (v w : NodeValue) → v.flags ≡ w.flags → v.parent ≡ w.parent → v.id ≡ w.id → v.resources ≡ w.resources → v ≡ w
one_node v w flags parent id resources = search rules

node_is : (e references : List ℕ) (h : NodeHead) → references ≡ drop 20 e
    → values_at 0 node_head_parts (take 20 e) ≡ node_head_values h → node_value h references ≡ node_of e
node_is e references h back same =
    let head_flags : field (take 20 e) 4 4 ≡ h.flags = cc in
    let head_parent : field (take 20 e) 8 4 ≡ h.parent = cc in
    let head_id : field (take 20 e) 12 4 ≡ h.id = cc in
    let head_count : field (take 20 e) 16 4 ≡ h.count = cc in
    let flags : h.flags ≡ field e 4 4 = sym head_flags ∙ field-take e 20 4 4 (omega arith) in
    let parent : h.parent ≡ field e 8 4 = sym head_parent ∙ field-take e 20 8 4 (omega arith) in
    let id : h.id ≡ field e 12 4 = sym head_id ∙ field-take e 20 12 4 (omega arith) in
    let count : h.count ≡ resource_count e = sym head_count ∙ field-take e 20 16 4 (omega arith) in
    let each = same_numbers (λ j. field references (4 * j) 4) (λ j. field e (20 + 4 * j) 4)
    (λ j. rw back (references_of e j)) (range_with_len 0 h.count) in
    let resources : (node_value h references).resources ≡ (node_of e).resources =
    each ∙ ap (λ (n : ℕ). map (λ j. field e (20 + 4 * j) 4) (range_with_len 0 n)) count in
    one_node (node_value h references) (node_of e) flags parent id resources

pub node_typed : (e head references : List ℕ) → IsEntry e → slice_index e 0 ≡ 0 → head ≡ take 20 e
    → references ≡ drop 20 e
    → (h : NodeHead) → HasValues node_head_parts head (node_head_values h)
    → Node (node_value h references) ≡ pptt_entry e
node_typed e head references is typed front back h has =
    let same = rw front at has.same in
    let says = node_says e is typed ((length_in_head e).0 (length_of h (take 20 e) same)) in
    ap Node (node_is e references h back same) ∙ sym says

pub node_references : (e head references : List ℕ) → IsEntry e → head ≡ take 20 e → references ≡ drop 20 e
    → (h : NodeHead) → HasValues node_head_parts head (node_head_values h) → length references ≡ 4 * h.count
node_references e head references is front back h has =
    let same : values_at 0 node_head_parts (take 20 e) ≡ node_head_values h = rw front at has.same in
    let counted = (length_in_head e).0 (length_of h (take 20 e) same) in
    let count : field (take 20 e) 16 4 ≡ h.count = cc in
    omega (arith, is.said, byte_field e 1, field-take e 20 16 4, length-drop 20 e, ap length back)

pub node_opaque : (e head : List ℕ) → IsEntry e → slice_index e 0 ≡ 0 → 20 ≤ length e → head ≡ take 20 e
    → ¬ (IsOfLayout node_head_parts head × HasNodeLength head) → pptt_entry e ≡ Opaque e
node_opaque e head is typed enough front not =
    no_node_says e is typed (λ has.
    let type : field head 0 1 ≡ 0 = grind (arith, front, field-take e 20 0 1, byte_field e 0) in
    let count : length head ≡ 20 = grind (arith, front, length-take 20 e) in
    not (record { count = count; fixed = (type, tt) }, rw (← front) at ((length_in_head e).1 has)))

pub node_short : (e : List ℕ) → IsEntry e → slice_index e 0 ≡ 0 → length e < 20 → pptt_entry e ≡ Opaque e
node_short e is typed short = no_node_says e is typed (λ has. omega (arith, is.said, byte_field e 1))

-- ---- caches

cache_decides : (e : List ℕ) → slice_index e 0 ≡ 1
    → ((length e ≡ 24) ⊎ (length e ≡ 28) → pptt_entry e ≡ Cache (cache_of e))
    × (length e ≢ 24 → length e ≢ 28 → pptt_entry e ≡ Opaque e)
unfolding pptt_entry has_node_form has_cache_form has_form
cache_decides e typed = (
  λ count. elim count [ inl short ↦ rw (typed, short) refl | inr long ↦ rw (typed, long) refl ],
  λ not_short not_long. grind (arith, nat_tests),
)

pub cache24_typed : (e : List ℕ) (v : CacheValue) → IsEntryOf cache24 e v → Cache v ≡ pptt_entry e
cache24_typed e v is = sym ((cache_decides e is.typed).0 (inl is.count) ∙ ap Cache is.value)

pub cache28_typed : (e : List ℕ) (v : CacheValue) → IsEntryOf cache28 e v → Cache v ≡ pptt_entry e
cache28_typed e v is = sym ((cache_decides e is.typed).0 (inr is.count) ∙ ap Cache is.value)

pub caches_opaque : (e : List ℕ) → slice_index e 0 ≡ 1 → length e ≢ 24 → length e ≢ 28 → pptt_entry e ≡ Opaque e
caches_opaque e typed not_short not_long = (cache_decides e typed).1 not_short not_long

-- ---- other types

pub others_opaque : (e : List ℕ) → slice_index e 0 ≢ 0 → slice_index e 0 ≢ 1 → Opaque e ≡ pptt_entry e
unfolding pptt_entry has_node_form has_cache_form has_form
others_opaque e no_node no_cache = grind (arith, nat_tests)

pub ruleset pptt_opaque = (node_opaque, node_short, caches_opaque, others_opaque)
