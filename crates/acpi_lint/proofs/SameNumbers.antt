-- Numbers whose value is their place: a number that occurs again is one whose value differs from that at its first
-- place.
use Rattle.std.proofs.Common.{◌≡◌, ℕ, ◌<◌, ◌≤◌, List, Option, sym, ◌∙◌, ap, subst, refl, inl, inr, arith}
use Rattle.std.specs.Prelude.{Contains}
use Rattle.std.proofs.Math.Nat.{eq-or-lt_of_le}
use Rattle.acpi_lint.specs.Rules.Numbered.{IsLater}
use Rattle.acpi_rules.specs.Numbered.{IsNoLater, IsRepeated}
use Rattle.acpi_lint.specs.Numbered.{HasAt}
use Rattle.acpi_rules.specs.Places.{FindsLeast}
use Rattle.acpi_rules.specs.declared.numbered.Numbered.{Numbered}
use Rattle.acpi_rules.specs.declared.numbered.Repeat.TheVariants as repeat
use Rattle.acpi_rules.specs.declared.place.Place.{Place}
use Rattle.acpi_rules.proofs.LeastPlaces.{least_as}

-- the value of each is its place
abbrev pub AreAtPlaces : List Numbered → Type 0
AreAtPlaces given = (g : Numbered) → Contains given g → g.value ≡ g.at

pub has_at : (given : List Numbered) (g : Numbered) → AreAtPlaces given → Contains given g → HasAt given g.at g.number
has_at given g placed listed =
    subst (Contains given) (ap (λ (v : ℕ). record { number = g.number; at = g.at; value = v }) (placed g listed)) listed

later_from : (given : List Numbered) (at other point : ℕ) → AreAtPlaces given
    → IsRepeated repeat.Unlike (λ g. Contains given g) at other point
    → IsLater (HasAt given) at other point
later_from given at other point placed (g, f, unlike, is) =
    rw (← ap (λ (p : Place). p.at) is, ← ap (λ (p : Place). p.other) is, ← ap (λ (p : Place). p.point) is)
    (record {
      here = has_at given g placed unlike.here;
      earlier = rw unlike.same (has_at given f placed unlike.first.here);
      before = before (unlike.first.least g unlike.here unlike.same);
      first = λ p there.
          upto p (unlike.first.least (record { number = g.number; at = p; value = p }) there unlike.same);
    })
  where
    before : IsNoLater f g → f.at < g.at
    before (inl less) = less
    before (inr (same, rest)) =
        absurd (unlike.told (placed g unlike.here ∙ sym same ∙ sym (placed f unlike.first.here)))

    upto : (p : ℕ) → IsNoLater f (record { number = g.number; at = p; value = p }) → f.at ≤ p
    upto p (inl less) = omega arith
    upto p (inr (same, rest)) = omega (arith, same)

later_to : (given : List Numbered) (at other point : ℕ) → AreAtPlaces given → IsLater (HasAt given) at other point
    → IsRepeated repeat.Unlike (λ g. Contains given g) at other point
later_to given at other point placed later = (
  record { number = point; at = at; value = at },
  record { number = point; at = other; value = other },
  record {
    first =
        record {
          here = later.earlier;
          least = λ g listed same. upto g listed (later.first g.at (rw (← same) (has_at given g placed listed)));
        };
    here = later.here;
    same = refl;
    told = λ same. omega (arith, same, later.before);
  },
  refl,
)
  where
    upto : (g : Numbered) → Contains given g → other ≤ g.at
        → IsNoLater (record { number = point; at = other; value = other }) g
    upto g listed least =
        elim (eq-or-lt_of_le {n = other} {m = g.at} least) [
          | inl same ↦ inr (same, omega (arith, same, placed g listed))
          | inr less ↦ inl less
        ]

pub found_later : (given : List Numbered) (found : Option Place) → AreAtPlaces given
    → FindsLeast (IsRepeated repeat.Unlike (λ g. Contains given g)) found → FindsLeast (IsLater (HasAt given)) found
found_later given found placed least =
    least_as found (λ at other point holds. later_from given at other point placed holds)
    (λ at other point holds. later_to given at other point placed holds) least
