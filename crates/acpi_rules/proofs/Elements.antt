-- What a function gives of the elements of a list.
use Rattle.std.proofs.Common.{◌≡◌, ◌∙◌, List, [], ◌∷◌, Option, Some, None, ap, inl, inr}
use Rattle.std.specs.Prelude.{Contains}
use Rattle.std.specs.List.{cons_option, filter_map}
use Rattle.acpi_base.proofs.Elements.{first_element, first_or_later, later_element, no_element}
use Rattle.acpi_rules.proofs.Following.{cases_Option}

pub kept_has : {X Y : Type 0} (h : X → Option Y) (xs : List X) (x : X) (y : Y) → Contains xs x → h x ≡ Some y
    → Contains (filter_map h xs) y
kept_has h [] x y listed is = absurd (no_element x listed)
kept_has h (u ∷ xs) x y listed is =
    elim (first_or_later u x xs listed) [
      | inl same ↦ rw (ap h same ∙ is) (first_element y (filter_map h xs))
      | inr later ↦
          let rest = kept_has h xs x y later is in
          elim (h u) as (λ o. Contains (cons_option o (filter_map h xs)) y) [
            | None ↦ rest
            | Some v ↦ later_element v y (filter_map h xs) rest
          ]
    ]

pub kept_from : {X Y : Type 0} (h : X → Option Y) (xs : List X) (y : Y) → Contains (filter_map h xs) y
    → (x : X) × Contains xs x × (h x ≡ Some y)
kept_from {X} h [] y listed = absurd (no_element y listed)
kept_from {X} h (u ∷ xs) y listed =
    elim (cases_Option (h u)) [
      | inr none ↦ later (kept_from h xs y (rw none at listed))
      | inl (v, is) ↦
          elim (first_or_later v y (filter_map h xs) (rw is at listed)) [
            | inl same ↦ (u, first_element u xs, is ∙ ap Some same)
            | inr rest ↦ later (kept_from h xs y rest)
          ]
    ]
  where
    later : (x : X) × Contains xs x × (h x ≡ Some y) → (x : X) × Contains (u ∷ xs) x × (h x ≡ Some y)
    later (x, rest, is) = (x, later_element u x xs rest, is)
