-- What the rules that are not rows find, one after another.
use Rattle.std.proofs.Common.{◌≡◌, ℕ, ◌++◌, List, [], ◌∷◌, Option, Some, None, arith, inl, inr, refl, sym, subst}
use Rattle.std.specs.Prelude.{Contains}
use Rattle.std.proofs.lemmas.List.Elements.{Contains-append_left, Contains-append_right, Contains-append_cases}
use Rattle.acpi_base.specs.Memory.{Memory}
use Rattle.acpi_base.specs.Policy.{PolicyValue}
use Rattle.acpi_base.proofs.Elements.{first_element, first_or_later, later_element, no_element}
use Rattle.acpi_rules.specs.Places.{FindsLeast}
use Rattle.acpi_rules.specs.declared.place.Place.{Place}
use Rattle.acpi_rules.proofs.LeastPlaces.{least_as}
use Rattle.acpi_lint.specs.ByHand.{Adds, AreFoundByHand, BreaksByHand, rules_by_hand}
use Rattle.acpi_lint.specs.RowFindings.{AreFirsts, IsLowestOf}
use Rattle.acpi_lint.specs.RowGroups.{OfAny}
use Rattle.acpi_lint.specs.Rules.Broken.{IsBrokenByHand}
use Rattle.acpi_lint.specs.Rules.Rows.{rule_number}
use Rattle.acpi_lint.specs.declared.row_findings.Found.{Found}
use Rattle.acpi_lint.specs.declared.rule.Rule.{Rule}
use Rattle.acpi_lint.specs.declared.rule.Rule.TheVariants as rule
use Rattle.acpi_lint.proofs.RowFindings.{lowest_of_both, one_finding}
use Rattle.acpi_lint.proofs.RuleNumbers.{same_rule}

-- ---- a further rule

module _ {X : Type 0} (Is : X → ℕ → ℕ → ℕ → ℕ → Type 0) (done : List X) (x : X) (found : List Found)
    (before : AreFirsts (OfAny Is done) found) where
  with_findings : (more : List Found) → AreFirsts (Is x) more → AreFirsts (OfAny Is (x ∷ done)) (found ++ more)
  with_findings more own =
      record {
        here = λ f within. elim (Contains-append_cases found more f within) [
          | inl old ↦ let (y, listed, is) = before.here f old in (y, later_element x y done listed, is)
          | inr new ↦ (x, first_element x done, own.here f new)
        ];
        first = λ number at other point (y, listed, is). elim (first_or_later x y done listed) [
          | inl same ↦
              let (f, has, number_is, order) =
              own.first number at other point (subst (λ (z : X). Is z number at other point) (sym same) is) in
              (f, Contains-append_right found more f has, number_is, order)
          | inr later ↦
              let (f, has, number_is, order) = before.first number at other point (y, later, is) in
              (f, Contains-append_left found more f has, number_is, order)
        ];
      }

  without_findings : ((number at other point : ℕ) → ¬ Is x number at other point)
      → AreFirsts (OfAny Is (x ∷ done)) found
  without_findings none =
      record {
        here = λ f within. let (y, listed, is) = before.here f within in (y, later_element x y done listed, is);
        first = λ number at other point (y, listed, is). elim (first_or_later x y done listed) [
          | inl same ↦
              absurd (none number at other point (subst (λ (z : X). Is z number at other point) (sym same) is))
          | inr later ↦ before.first number at other point (y, later, is)
        ];
      }

pub one_added : (m : Memory) (q : PolicyValue) (r : Rule) (place : Place) (before after : List Found)
    → after ≡ before ++ (record { number = rule_number r; place = place } ∷ [])
    → FindsLeast (IsBrokenByHand r m q) (Some place) → Adds m q (r ∷ []) before after
unfolding AreFoundByHand
one_added m q r place before after is least = λ done found.
    let f : Found = record { number = rule_number r; place = place } in
    rw is (with_findings (BreaksByHand m q) done r before found (f ∷ [])
    (one_finding {P = IsBrokenByHand r m q} f least))

pub none_added : (m : Memory) (q : PolicyValue) (r : Rule) (found : List Found)
    → FindsLeast (IsBrokenByHand r m q) None → Adds m q (r ∷ []) found found
unfolding AreFoundByHand
none_added m q r found none = λ done before.
    without_findings (BreaksByHand m q) done r found before
    (λ number at other point (same, holds). none at other point holds)

pub nothing_yet : (m : Memory) (q : PolicyValue) (found : List Found) → found ≡ [] → AreFoundByHand m q [] found
unfolding AreFoundByHand
nothing_yet m q found is =
    rw is (record {
      here = λ f listed. absurd (no_element f listed);
      first = λ number at other point (r, listed, breaks). absurd (no_element r listed);
    })

-- ---- the finding of a rule

-- a rule that is not a row is one of these
is_by_hand : (r : Rule) (m : Memory) (q : PolicyValue) (at other point : ℕ) → IsBrokenByHand r m q at other point
    → Contains rules_by_hand r
is_by_hand rule.SameCacheType m q at other point holds = (0, omega arith, refl)
is_by_hand rule.NoPackage m q at other point holds = (1, omega arith, refl)
is_by_hand rule.RemoteAsLocal m q at other point holds = (2, omega arith, refl)
is_by_hand rule.SlitDiffers m q at other point holds = (3, omega arith, refl)
is_by_hand rule.NoGtdt m q at other point holds = (4, omega arith, refl)
is_by_hand rule.GicrTooSmall m q at other point holds = (5, omega arith, refl)
is_by_hand rule.SciNowhere m q at other point holds = (6, omega arith, refl)
is_by_hand rule.S4BiosDiffers m q at other point holds = (7, omega arith, refl)
is_by_hand rule.FacsReserved m q at other point holds = (8, omega arith, refl)
is_by_hand rule.DsdtText m q at other point holds = (9, omega arith, refl)
is_by_hand rule.DsdtWrong m q at other point holds = (10, omega arith, refl)
is_by_hand rule.PortPastEnd m q at other point holds = (11, omega arith, refl)
is_by_hand rule.PortsOverlap m q at other point holds = (12, omega arith, refl)
is_by_hand rule.RsdpText m q at other point holds = (13, omega arith, refl)
is_by_hand rule.RsdpReserved m q at other point holds = (14, omega arith, refl)
is_by_hand rule.TablesOverlap m q at other point holds = (15, omega arith, refl)
is_by_hand rule.RsdtDiffers m q at other point holds = (16, omega arith, refl)
is_by_hand rule.SecondOther m q at other point holds = (17, omega arith, refl)
is_by_hand rule.HeaderText m q at other point holds = (18, omega arith, refl)
is_by_hand rule.RootHeader m q at other point holds = (19, omega arith, refl)
is_by_hand rule.NullSlot m q at other point holds = (20, omega arith, refl)
is_by_hand rule.ListedApart m q at other point holds = (21, omega arith, refl)
is_by_hand rule.SecondTable m q at other point holds = (22, omega arith, refl)
is_by_hand rule.ListedTwice m q at other point holds = (23, omega arith, refl)
is_by_hand rule.SpcrGsi m q at other point holds = (24, omega arith, refl)
is_by_hand rule.SpcrName m q at other point holds = (25, omega arith, refl)
is_by_hand rule.TimerOverlap m q at other point holds = (26, omega arith, refl)
is_by_hand rule.HmatAlone m q at other point holds = (27, omega arith, refl)
is_by_hand rule.EcamOverlap m q at other point holds = (28, omega arith, refl)
is_by_hand _ m q at other point holds = absurd holds

pub found_of : (m : Memory) (q : PolicyValue) (r : Rule) (found : List Found) (lowest : Option Place)
    → AreFoundByHand m q rules_by_hand found → IsLowestOf None found (rule_number r) lowest
    → FindsLeast (IsBrokenByHand r m q) lowest
unfolding AreFoundByHand
found_of m q r found lowest firsts is =
    least_as lowest
    (λ at other point either. elim either [
      | inl none ↦ absurd none
      | inr (s, listed, (same, holds)) ↦
          subst (λ (t : Rule). IsBrokenByHand t m q at other point) (same_rule s r same) holds
    ])
    (λ at other point holds. inr (r, is_by_hand r m q at other point holds, (refl, holds)))
    (lowest_of_both (λ at other point. ⊥) (OfAny (BreaksByHand m q) rules_by_hand) None found (rule_number r) lowest
    (λ at other point none. none) firsts is)
