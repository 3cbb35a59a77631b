-- The lowest place of findings, and what holds at one place at most.
use Rattle.std.proofs.Common.{◌≡◌, ℕ, refl, inr, arith, ◌<◌, ◌≤◌, List, Option, Some, None, inl}
use Rattle.std.specs.Prelude.{◌↔◌, IsTrue, Bool, true, false}
use Rattle.std.specs.Bool.{then_some}
use Rattle.std.proofs.lemmas.Bool.{cases_lt}
use Rattle.acpi_base.specs.Entries.{PlacedEntry, StandsWith, AreUnused}
use Rattle.acpi_rules.specs.Places.{IsNotAfter, FindsLeast, IsLeast}
use Rattle.acpi_rules.specs.declared.place.Place.{Place}
use Rattle.acpi_rules.proofs.LeastPlaces.{IsPlace, least_as, not_after_itself}

-- ---- what holds at one place at most

pub finds_one : {P : ℕ → ℕ → ℕ → Type 0} (p : Place) (b : Bool) → (IsTrue b ↔ P p.at p.other p.point)
    → ((at other point : ℕ) → P at other point → IsPlace p at other point) → FindsLeast P (then_some b p)
finds_one p true test only =
    record {
      here = test.0 refl;
      least = λ at other point holds. not_after_itself p at other point (only at other point holds);
    }
finds_one {P} p false test only = λ at other point holds.
    let (one, two, three) = only at other point holds in
    let there : P p.at p.other p.point = rw (← one, ← two, ← three) holds in
    let no : IsTrue false = test.1 there in
    absurd cc

-- a condition on the numbers alone may be inside or outside the condition on the entry
pub least_outside : {E : Type 0} (entries : List (PlacedEntry E)) (P : E → Type 0) (X : ℕ → ℕ → ℕ → Type 0)
    (found : Option Place) → FindsLeast (λ at other point. StandsWith entries at (λ e. P e × X at other point)) found
    → FindsLeast (λ at other point. StandsWith entries at P × X at other point) found
least_outside entries P X found least =
    least_as found (λ at other point (e, here, (holds, said)). ((e, here, holds), said))
    (λ at other point ((e, here, holds), said). (e, here, (holds, said))) least

-- ---- the second of a kind

-- two of a kind, of which the one at `other` comes first
abbrev pub AreTwo : (ℕ → Type 0) → ℕ → ℕ → ℕ → Type 0
AreTwo IsAt at other point = IsAt at × IsAt other × (other < at) × (point ≡ 0)

-- the first after the first
abbrev pub IsBehind : (ℕ → Type 0) → ℕ → ℕ → ℕ → ℕ → Type 0
IsBehind IsAt first at other point = IsAt at × (first < at) × (other ≡ first) × (point ≡ 0)

pub no_two : {IsAt : ℕ → Type 0} → FindsLeast (λ at other point. IsAt at × AreUnused other point) None
    → FindsLeast (AreTwo IsAt) None
no_two none = λ at other point (here, there, less, unused). none at 0 0 (here, (refl, refl))

after_two : {IsAt : ℕ → Type 0} (first : ℕ) (p : Place) → p.other ≡ first → p.point ≡ 0
    → ((at : ℕ) → IsAt at → first ≤ at) → ((at : ℕ) → IsAt at → first < at → p.at ≤ at)
    → (at other point : ℕ) → AreTwo IsAt at other point → IsNotAfter p at other point
after_two first p is unused least behind at other point (here, there, less, none) =
    let low = least other there in
    let upto = behind at here (omega (arith, low, less)) in
    elim (cases_lt p.at at) [
      | inl before ↦ inl before
      | inr same ↦
          inr (
            omega (arith, same, upto),
            elim (cases_lt p.other other) [
              | inl earlier ↦ inl earlier
              | inr later ↦ inr (omega (arith, later, is, low), omega (arith, unused, none))
            ],
          )
    ]

pub place_upto : {p : Place} {at other point : ℕ} → IsNotAfter p at other point → p.at ≤ at
place_upto (inl before) = omega (arith, before)
place_upto (inr (same, rest)) = omega (arith, same)

at_least : {IsAt : ℕ → Type 0} {first : Place} → IsLeast (λ at other point. IsAt at × AreUnused other point) first
    → (at : ℕ) → IsAt at → first.at ≤ at
at_least least at here = place_upto (least.least at 0 0 (here, (refl, refl)))

pub first_two : {IsAt : ℕ → Type 0} (first : Place) (found : Option Place)
    → IsLeast (λ at other point. IsAt at × AreUnused other point) first
    → FindsLeast (IsBehind IsAt first.at) found → FindsLeast (AreTwo IsAt) found
first_two {IsAt} first None least none = λ at other point (here, there, less, unused).
    let low = at_least least other there in
    none at first.at 0 (here, omega (arith, low, less), refl, refl)
first_two {IsAt} first (Some p) least behind =
    let (here, later, is, unused) = behind.here in
    record {
      here = (here, rw is least.here.0, omega (arith, later, is), unused);
      least = after_two first.at p is unused (at_least least)
          (λ at there less. place_upto (behind.least at first.at 0 (there, less, refl, refl)));
    }
