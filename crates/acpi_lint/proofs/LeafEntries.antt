-- The leaves and the nodes of a PPTT at their offsets, from what its entries give.
use Rattle.std.proofs.Common.{◌≡◌, ◌++◌, ◌∙◌, ℕ, IsPermutation, List, ap, inl, inr, map, refl, subst, sym}
use Rattle.std.specs.Prelude.{◌↔◌, Contains}
use Rattle.std.proofs.lemmas.List.Elements.{Contains-append_cases, Contains-append_left, Contains-append_right}
use Rattle.std.proofs.lemmas.List.Sorted.{Contains-permutation, IsPermutation-sym}
use Rattle.acpi_base.proofs.Elements.{element_of_map}
use Rattle.acpi_check.proofs.EntryPasses.Kept.{map_has}
use Rattle.acpi_rules.specs.Rows.{InForm, IsBroken, IsGivenByRow, Row, reported, row_said}
use Rattle.acpi_rules.specs.Terms.{TwoTables}
use Rattle.acpi_rules.specs.declared.numbered.Numbered.{Numbered}
use Rattle.acpi_rules.specs.declared.row.Form.TheVariants as form
use Rattle.acpi_lint.specs.Rules.Entries.{alone}
use Rattle.acpi_lint.specs.Rules.Hierarchy.{IsLeafAt, by_place}
use Rattle.acpi_lint.specs.declared.rows.pptt.TheConstants.{MARKED_LEAVES, UNMARKED_LEAVES}

-- numbers by their places, in any order, have their places as numbers
pub placed_alike : (given sorted : List Numbered) → IsPermutation (map by_place given) sorted → (g : Numbered)
    → Contains sorted g → g.at ≡ g.number
placed_alike given sorted moved g listed =
    let among =
    Contains-permutation sorted (map by_place given) g
    (IsPermutation-sym (map by_place given) sorted moved) listed in
    let (x, has, is) = element_of_map by_place given g among in
    sym (ap (λ (n : Numbered). n.at) is) ∙ ap (λ (n : Numbered). n.number) is

-- a row that reports the numbers themselves, which one of them gives
pub breaks : (row : Row) (t : TwoTables) (given : List Numbered)
    → ((g : Numbered) → Contains given g ↔ IsGivenByRow row t g) → row.form ≡ form.Given → (at other id : ℕ)
    → Contains given (reported at other id) ↔ IsBroken row t at other id
breaks row t given same is at other id = (to, from)
  where
    to : Contains given (reported at other id) → IsBroken row t at other id
    to has =
        let (about, counts) = (same (reported at other id)).0 has in
        record { about = about; broken = subst (λ f. InForm f row t at other id) (sym is) counts }

    from : IsBroken row t at other id → Contains given (reported at other id)
    from broken =
        (same (reported at other id)).1 (broken.about, subst (λ f. InForm f row t at other id) is broken.broken)

-- one of these is at the place with this number
abbrev IsAmong : List Numbered → ℕ → ℕ → Type 0
IsAmong given at id = (g : Numbered) × Contains given g × (g.number ≡ at) × (g.value ≡ id)

pub placed_has : (given : List Numbered) (at other id : ℕ) → Contains given (reported at other id)
    → IsAmong (map by_place given) at id
placed_has given at other id has =
    (by_place (reported at other id), map_has by_place given (reported at other id) has, refl, refl)

pub placed_from : (given : List Numbered) (at id : ℕ) → IsAmong (map by_place given) at id
    → (other : ℕ) × Contains given (reported at other id)
placed_from given at id (g, listed, there, named) =
    let (x, has, is) = element_of_map by_place given g listed in
    let place : x.at ≡ at = ap (λ (n : Numbered). n.number) is ∙ there in
    let number : x.number ≡ id = ap (λ (n : Numbered). n.value) is ∙ named in (
      x.value,
      subst (λ a. Contains given (reported a x.value id)) place
          (subst (λ i. Contains given (reported x.at x.value i)) number has),
    )

-- the leaves are those that the two rows give
pub leaves_said : (pptt : List ℕ) (marked unmarked leaves : List Numbered)
    → ((g : Numbered) → Contains marked g ↔ IsGivenByRow (row_said MARKED_LEAVES) (alone pptt) g)
    → ((g : Numbered) → Contains unmarked g ↔ IsGivenByRow (row_said UNMARKED_LEAVES) (alone pptt) g)
    → IsPermutation (map by_place marked ++ map by_place unmarked) leaves → (at id : ℕ)
    → IsLeafAt pptt at id ↔ IsAmong leaves at id
leaves_said pptt marked unmarked leaves first second moved at id = (to, from)
  where
    by_mark : (other : ℕ)
        → Contains marked (reported at other id) ↔ IsBroken (row_said MARKED_LEAVES) (alone pptt) at other id
    by_mark other = breaks (row_said MARKED_LEAVES) (alone pptt) marked first refl at other id

    by_parents : (other : ℕ)
        → Contains unmarked (reported at other id) ↔ IsBroken (row_said UNMARKED_LEAVES) (alone pptt) at other id
    by_parents other = breaks (row_said UNMARKED_LEAVES) (alone pptt) unmarked second refl at other id

    given : List Numbered
    given = map by_place marked ++ map by_place unmarked

    sorted : (g : Numbered) → Contains given g → Contains leaves g
    sorted g listed = Contains-permutation given leaves g moved listed

    to : IsLeafAt pptt at id → IsAmong leaves at id
    to (other, inl broken) =
        let (g, listed, there, named) = placed_has marked at other id ((by_mark other).1 broken) in
        (g, sorted g (Contains-append_left (map by_place marked) (map by_place unmarked) g listed), there, named)
    to (other, inr broken) =
        let (g, listed, there, named) = placed_has unmarked at other id ((by_parents other).1 broken) in
        (g, sorted g (Contains-append_right (map by_place marked) (map by_place unmarked) g listed), there, named)

    from : IsAmong leaves at id → IsLeafAt pptt at id
    from (g, listed, there, named) =
        elim (Contains-append_cases (map by_place marked) (map by_place unmarked) g
        (Contains-permutation leaves given g (IsPermutation-sym given leaves moved) listed)) [
          | inl has ↦
              let (other, found) = placed_from marked at id (g, has, there, named) in
              (other, inl ((by_mark other).0 found))
          | inr has ↦
              let (other, found) = placed_from unmarked at id (g, has, there, named) in
              (other, inr ((by_parents other).0 found))
        ]
