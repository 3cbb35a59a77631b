-- The first number at places that occurs twice.
use Rattle.std.proofs.Common.{ℕ, List, Option, Result, Ok, Err}
use Rattle.std.specs.Prelude.{◌<◌, AllPairs, IfOk}
use Rattle.acpi_lint.specs.Rules.Numbered.{IsLater}
use Rattle.acpi_lint.specs.Numbered.{HasAt, AreNumbersAt}
use Rattle.acpi_rules.specs.Places.{FindsLeast}
use Rattle.acpi_rules.specs.declared.numbered.Numbered.{Numbered}
use Rattle.acpi_rules.specs.declared.place.Place.{Place}
use Rattle.acpi_rules.proofs.LeastPlaces.{least_as}

pub each_ok : {A X : Type 0} {P Q : A → Type 0} (r : Result A X) → ((a : A) → P a → Q a) → IfOk r P → IfOk r Q
each_ok (Ok a) follows holds = follows a holds
each_ok (Err e) follows holds = tt

pub same_later : {A B : ℕ → ℕ → Type 0} (at other x : ℕ) → ((p n : ℕ) → A p n → B p n) → ((p n : ℕ) → B p n → A p n)
    → IsLater A at other x → IsLater B at other x
same_later at other x to from later =
    record {
      here = to at x later.here;
      earlier = to other x later.earlier;
      before = later.before;
      first = λ p there. later.first p (from p x there);
    }

pub found_twice : {X : Type 0} {StandsAt : ℕ → ℕ → Type 0} (given : List Numbered) (r : Result (Option Place) X)
    → AreNumbersAt StandsAt given
    → (AllPairs (λ a b. a.at < b.at) given → IfOk r (FindsLeast (IsLater (HasAt given))))
    → IfOk r (FindsLeast (IsLater StandsAt))
found_twice given r are least =
    each_ok r (λ found holds.
    least_as found
    (λ at other point later. same_later at other point (λ p n has. (are.all p n).0 has)
    (λ p n stands. (are.all p n).1 stands) later)
    (λ at other point later. same_later at other point (λ p n stands. (are.all p n).1 stands)
    (λ p n has. (are.all p n).0 has) later)
    holds) (least are.rise)
