-- The lowest place of findings.
use Rattle.std.proofs.Common.{◌≡◌, ℕ, sym, inr, arith, Option, Some, None, subst, inl}
use Rattle.std.specs.Prelude.{◌⊎◌, IfSome}
use Rattle.std.proofs.lemmas.Option.{same_Some}
use Rattle.acpi_rules.specs.Places.{IsNotAfter, FindsLeast}
use Rattle.acpi_rules.specs.declared.place.Place.{Place}

-- ---- what holds at one place at most

-- these are the place's numbers
abbrev pub IsPlace : Place → ℕ → ℕ → ℕ → Type 0
IsPlace p at other point = (at ≡ p.at) × (other ≡ p.other) × (point ≡ p.point)

pub not_after_itself : (p : Place) (at other point : ℕ) → IsPlace p at other point → IsNotAfter p at other point
not_after_itself p at other point (one, two, three) = inr (sym one, inr (sym two, omega arith))

-- ---- the lowest place of findings, by what they are

pub least_as : {P Q : ℕ → ℕ → ℕ → Type 0} (found : Option Place)
    → ((at other point : ℕ) → P at other point → Q at other point)
    → ((at other point : ℕ) → Q at other point → P at other point) → FindsLeast P found → FindsLeast Q found
least_as None there back none = λ at other point holds. none at other point (back at other point holds)
least_as (Some p) there back first =
    record {
      here = there p.at p.other p.point first.here;
      least = λ at other point holds. first.least at other point (back at other point holds);
    }

-- ---- the lower of two

pub not_after_trans : (p q : Place) (at other point : ℕ) → IsNotAfter p q.at q.other q.point
    → IsNotAfter q at other point
    → IsNotAfter p at other point
not_after_trans p q at other point before after = grind arith

-- one more place is found: the lower of it and the lowest so far is the lowest
pub finds_one_more : {P Q : ℕ → ℕ → ℕ → Type 0} (least : Option Place) (place r : Place) → FindsLeast P least
    → Q place.at place.other place.point → ((at other point : ℕ) → P at other point → Q at other point)
    → ((at other point : ℕ) → Q at other point
    → P at other point ⊎ (place ≡ record { at = at; other = other; point = point }))
    → (r ≡ place) ⊎ (least ≡ Some r) → IsNotAfter r place.at place.other place.point
    → IfSome least (λ l. IsNotAfter r l.at l.other l.point) → FindsLeast Q (Some r)
finds_one_more {P} {Q} least place r found here more split one after before =
    record {
      here = holds least found one;
      least = λ at other point holds. upto least found before at other point (split at other point holds);
    }
  where
    holds : (least : Option Place) → FindsLeast P least → (r ≡ place) ⊎ (least ≡ Some r) → Q r.at r.other r.point
    holds least found (inl is) = rw is here
    holds None found (inr is) = cc
    holds (Some l) found (inr is) =
        subst (λ (p : Place). Q p.at p.other p.point) (same_Some l r is) (more l.at l.other l.point found.here)

    upto : (least : Option Place) → FindsLeast P least → IfSome least (λ l. IsNotAfter r l.at l.other l.point)
        → (at other point : ℕ) → P at other point ⊎ (place ≡ record { at = at; other = other; point = point })
        → IsNotAfter r at other point
    upto least found before at other point (inr is) = rw is at after
    upto None found before at other point (inl p) = absurd (found at other point p)
    upto (Some l) found before at other point (inl p) =
        not_after_trans r l at other point before (found.least at other point p)
