-- The rules by their numbers, their names and their places among all of them.
use Rattle.std.proofs.Common.{◌≡◌, ◌+◌, ◌<◌, ◌≤◌, ℕ, List, [], ◌∷◌, Bool, length, drop, get_or, map, zero, suc, true, false, Option, Some, None, refl, sym, ap, ◌∙◌, inl, inr, arith}
use Rattle.std.specs.Prelude.{find, ◌==◌, if◌then◌else◌, option_map}
use Rattle.std.specs.Str.{bytes_eq}
use Rattle.std.specs.List.{list_all, slice_get}
use Rattle.std.proofs.lemmas.Bool.{and_parts, eqb-true}
use Rattle.std.proofs.lemmas.Bool.Decides.{eqb_tells}
use Rattle.std.proofs.lemmas.List.{at_drop_more}
use Rattle.std.proofs.lemmas.Option.{same_Some}
use Rattle.acpi_lint.specs.Rules.Rows.{AreRows, BorRule, all_rules, is_row, rule_name, rule_named, rule_number, rule_numbered, rule_place}
use Rattle.acpi_lint.specs.declared.rule.Rule.{Rule}
use Rattle.acpi_lint.specs.declared.rule.Rule.TheVariants as rule

rule_found : (r : Rule) → rule_numbered (rule_number r) ≡ Some r
unfolding rule_numbered
rule_found rule.ListedTwice = refl
rule_found _ = refl

rule_at_place : (r : Rule) → slice_get all_rules (rule_place r) ≡ Some r
rule_at_place rule.ListedTwice = refl
rule_at_place _ = refl

pub rule_from : (r : Rule) → 101 ≤ rule_number r
rule_from rule.ListedTwice = omega arith
rule_from _ = omega arith

pub rule_upto : (r : Rule) → rule_number r ≤ 311
rule_upto rule.ListedTwice = omega arith
rule_upto _ = omega arith

pub place_below : (r : Rule) → rule_place r < length all_rules
place_below rule.ListedTwice = omega arith
place_below _ = omega arith

pub same_rule : (r s : Rule) → rule_number r ≡ rule_number s → r ≡ s
same_rule r s same = same_Some r s (sym (rule_found r) ∙ ap rule_numbered same ∙ rule_found s)

-- ---- the table of the rules

pub has_number : (row : BorRule) → is_row row ≡ true → row.1 ≡ rule_number row.0
has_number row is = eqb-true row.1 (rule_number row.0) is

row_at : (rows : List BorRule) (rules : List Rule) (k : ℕ) (d : BorRule) (r : Rule) → map (λ row. row.0) rows ≡ rules
    → list_all is_row rows ≡ true → slice_get rules k ≡ Some r
    → ((get_or rows k d).0 ≡ r) × (is_row (get_or rows k d) ≡ true)
row_at rows rules k d r all each at = by rows k (ap (λ rs. slice_get rs k) all ∙ at) each
  where
    by : (rows : List BorRule) (k : ℕ) → slice_get (map (λ row. row.0) rows) k ≡ Some r → list_all is_row rows ≡ true
        → ((get_or rows k d).0 ≡ r) × (is_row (get_or rows k d) ≡ true)
    by [] k at each = absurd cc
    by (row ∷ rows) zero at each = (same_Some row.0 r at, (and_parts (is_row row) (list_all is_row rows) each).0)
    by (row ∷ rows) (suc k) at each = by rows k at (and_parts (is_row row) (list_all is_row rows) each).1

-- the row at the place of a rule is that of the rule
pub row_of : (rows : List BorRule) (d : BorRule) (r : Rule) → AreRows rows
    → ((get_or rows (rule_place r) d).0 ≡ r) × (is_row (get_or rows (rule_place r) d) ≡ true)
row_of rows d r are = row_at rows all_rules (rule_place r) d r are.all are.each (rule_at_place r)

-- ---- the first row of which a test holds

abbrev pub rule_by : (BorRule → Bool) → List BorRule → Option Rule
rule_by test rows = option_map (λ row. row.0) (find test rows)

rule_as : (test : BorRule → Bool) (of : Rule → Bool) (rows : List BorRule)
    → ((row : BorRule) → is_row row ≡ true → test row ≡ of row.0) → list_all is_row rows ≡ true
    → rule_by test rows ≡ find of (map (λ row. row.0) rows)
rule_as test of [] same each = refl
rule_as test of (row ∷ rows) same each =
    let parts = and_parts (is_row row) (list_all is_row rows) each in
    go (test row) (of row.0) (same row parts.0) (rule_as test of rows same parts.1)
  where
    go : (b c : Bool) → b ≡ c → rule_by test rows ≡ find of (map (λ row. row.0) rows)
        → option_map (λ row. row.0) (if b then Some row else find test rows)
        ≡ (if c then Some row.0 else find of (map (λ row. row.0) rows))
    go true true is left = refl
    go false false is left = left
    go true false is left = absurd cc
    go false true is left = absurd cc

pub numbered_rows : (number : ℕ) (rows : List BorRule) → AreRows rows
    → rule_by (λ row. row.1 == number) rows ≡ rule_numbered number
unfolding rule_numbered
numbered_rows number rows are =
    rule_as (λ row. row.1 == number) (λ r. rule_number r == number) rows
    (λ row is. ap (λ n. n == number) (has_number row is)) are.each
    ∙ ap (find (λ r. rule_number r == number)) are.all

pub named_rows : (name : List ℕ) (rows : List BorRule) → AreRows rows
    → rule_by (λ row. bytes_eq (rule_name row.0) name) rows ≡ rule_named name
unfolding rule_named
named_rows name rows are =
    rule_as (λ row. bytes_eq (rule_name row.0) name) (λ r. bytes_eq (rule_name r) name) rows (λ row is. refl) are.each
    ∙ ap (find (λ r. bytes_eq (rule_name r) name)) are.all

-- if the test does not hold of the row at the index, it is a later one
pub row_after : (test : BorRule → Bool) (rows : List BorRule) (i : ℕ) (d : BorRule) (found : Option Rule)
    → i < length rows → rule_by test (drop i rows) ≡ found → test (get_or rows i d) ≡ false
    → rule_by test (drop (i + 1) rows) ≡ found
row_after test rows i d found within before is =
    let step : rule_by test (drop i rows) ≡ rule_by test (drop (i + 1) rows) =
    at_drop_more (rule_by test) rows i d within ∙ rw is refl in
    sym step ∙ before

pub row_here : (test : BorRule → Bool) (rows : List BorRule) (i : ℕ) (d : BorRule) (found : Option Rule)
    → i < length rows → rule_by test (drop i rows) ≡ found → test (get_or rows i d) ≡ true
    → Some (get_or rows i d).0 ≡ found
row_here test rows i d found within before is =
    let step : rule_by test (drop i rows) ≡ Some (get_or rows i d).0 =
    at_drop_more (rule_by test) rows i d within ∙ rw is refl in
    sym step ∙ before

-- the same for the test of a number
pub number_after : (rows : List BorRule) (i : ℕ) (d : BorRule) (number : ℕ) (found : Option Rule) → i < length rows
    → rule_by (λ row. row.1 == number) (drop i rows) ≡ found → ¬ ((get_or rows i d).1 ≡ number)
    → rule_by (λ row. row.1 == number) (drop (i + 1) rows) ≡ found
number_after rows i d number found within before differ =
    row_after (λ row. row.1 == number) rows i d found within before
    (elim (eqb_tells (get_or rows i d).1 number) [
      | inl (test, same) ↦ absurd (differ same)
      | inr (test, other) ↦ test
    ])

pub number_here : (rows : List BorRule) (i : ℕ) (d : BorRule) (number : ℕ) (found : Option Rule) → i < length rows
    → rule_by (λ row. row.1 == number) (drop i rows) ≡ found → (get_or rows i d).1 ≡ number
    → Some (get_or rows i d).0 ≡ found
number_here rows i d number found within before is =
    row_here (λ row. row.1 == number) rows i d found within before
    (elim (eqb_tells (get_or rows i d).1 number) [
      | inl (test, same) ↦ test
      | inr (test, differ) ↦ absurd (differ is)
    ])

-- ---- the rule with a number

pub no_rule : (number : ℕ) (r : Rule) → rule_numbered number ≡ None → ¬ (rule_number r ≡ number)
no_rule number r none is =
    let no : None ≡ Some r = sym none ∙ ap rule_numbered (sym is) ∙ rule_found r in cc
