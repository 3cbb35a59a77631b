-- The structures of a walk are exactly those that are reached.
use Rattle.std.proofs.Common.{◌≡◌, ◌∙◌, ℕ, zero, suc, ◌+◌, ◌<◌, List, [], ◌∷◌, length, drop, Some, refl, sym, ap, subst, inl, inr, arith}
use Rattle.std.specs.Prelude.{Contains, sum_by}
use Rattle.std.proofs.lemmas.List.Sums.{sum_by-cons}
use Rattle.acpi_base.proofs.Elements.{first_element, later_element, first_or_later, no_element}
use Rattle.acpi_rules.specs.Series.{first_structure, most_of, start_of}
use Rattle.acpi_rules.specs.Walks.{Placed, structures_from, walk_of}
use Rattle.acpi_rules.specs.Laws.{Lead, IsReached, StructuresReached}
use Rattle.acpi_rules.specs.declared.series.Shape.{Shape}
use Rattle.acpi_rules.specs.declared.series.Series.{Series}
use Rattle.acpi_rules.proofs.Following.{cases_Option}

reached : (s : Shape) (n at : ℕ) (left : List ℕ) (w : Placed) → Contains (structures_from s n at left) w
    → IsReached s n at left w
unfolding structures_from
reached s zero at left w is = absurd (no_element w is)
reached s (suc n) at left w is =
    elim (cases_Option (first_structure s left)) [
      | inr none ↦ absurd (no_element w (rw none at is))
      | inl (e, some) ↦
          elim (first_or_later (record { offset = at; entry = e }) w
          (structures_from s n (at + length e) (drop (length e) left)) (rw some at is)) [
            | inl same ↦
                record {
                  es = [];
                  rest = left;
                  lead = refl;
                  fewer = omega arith;
                  here = sym (ap (λ (p : Placed). p.offset) same) ∙ omega arith;
                  fits = some ∙ ap (λ (p : Placed). Some p.entry) same;
                }
            | inr later ↦
                let r = reached s n (at + length e) (drop (length e) left) w later in
                let sum = sum_by-cons (λ (x : List ℕ). length x) e r.es in
                let fewer = r.fewer in
                let here = r.here in
                record {
                  es = e ∷ r.es;
                  rest = r.rest;
                  lead = (some, r.lead);
                  fewer = omega (arith, fewer);
                  here = omega (arith, here, sum);
                  fits = r.fits;
                }
          ]
    ]

same_place : (at : ℕ) (w : Placed) → w.offset ≡ at → record { offset = at; entry = w.entry } ≡ w
same_place at w is = ap (λ (o : ℕ). record { offset = o; entry = w.entry }) (sym is)

stands : (s : Shape) (n at : ℕ) (left : List ℕ) (w : Placed) (es : List (List ℕ)) (rest : List ℕ) → Lead s es
    left rest
    → length es < n → w.offset ≡ at + sum_by (λ e. length e) es → first_structure s rest ≡ Some w.entry
    → Contains (structures_from s n at left) w
unfolding structures_from
stands s zero at left w es rest lead fewer here fits = absurd (omega (arith, fewer))
stands s (suc n) at left w [] rest lead fewer here fits =
    let some : first_structure s left ≡ Some w.entry = rw lead fits in
    let place = same_place at w (omega (arith, here)) in
    let more = structures_from s n (at + length w.entry) (drop (length w.entry) left) in
    let P : Placed → Type 0 = λ x. Contains (x ∷ more) w in
    rw some (subst P (sym place) (first_element w more))
stands s (suc n) at left w (e ∷ es) rest (some, lead) fewer here fits =
    let sum = sum_by-cons (λ (x : List ℕ). length x) e es in
    rw some (later_element (record { offset = at; entry = e }) w
    (structures_from s n (at + length e) (drop (length e) left))
    (stands s n (at + length e) (drop (length e) left) w es rest lead (omega (arith, fewer))
    (omega (arith, here, sum)) fits))

reached_in : (s : Series) (inside w : Placed) → Contains (walk_of s inside).structures w
    → (start : ℕ) × (start_of s.start inside.entry ≡ Some start)
    × IsReached s.shape (most_of s.extent inside.entry) (inside.offset + start) (drop start inside.entry) w
reached_in s inside w is =
    elim (cases_Option (start_of s.start inside.entry)) [
      | inr none ↦ absurd (no_element w (rw none at is))
      | inl (start, some) ↦ (
        start,
        some,
        reached s.shape (most_of s.extent inside.entry) (inside.offset + start) (drop start inside.entry) w
            (rw some at is),
      )
    ]

stands_in : (s : Series) (inside w : Placed)
    → (start : ℕ) × (start_of s.start inside.entry ≡ Some start)
    × IsReached s.shape (most_of s.extent inside.entry) (inside.offset + start) (drop start inside.entry) w
    → Contains (walk_of s inside).structures w
stands_in s inside w (start, some, r) =
    rw some (stands s.shape (most_of s.extent inside.entry) (inside.offset + start) (drop start inside.entry) w r.es
    r.rest r.lead r.fewer r.here r.fits)

pub structures_reached : StructuresReached
structures_reached s inside w = (λ is. reached_in s inside w is, λ is. stands_in s inside w is)
