-- There are no more findings than codes and rules.
use Rattle.std.proofs.Common.{◌≡◌, ◌<◌, ◌≤◌, ◌+◌, ◌-◌, ◌∙◌, ℕ, zero, suc, Bool, true, List, [], ◌∷◌, length, map, ap, inl, inr, refl, sym, arith}
use Rattle.std.specs.Prelude.{◌&&◌, nat_lt}
use Rattle.std.proofs.lemmas.Bool.{and_parts, cases_order, ltb-true}
use Rattle.std.specs.List.{AllPairs, slice_index_or}
use Rattle.acpi_base.specs.Codes.{all_codes, code_number}
use Rattle.acpi_lint.specs.Rules.Findings.{AreFindings}
use Rattle.acpi_lint.specs.Rules.Rows.{all_rules, rule_number, rule_place}
use Rattle.acpi_lint.specs.declared.rule.Rule.{Rule}
use Rattle.acpi_lint.specs.declared.rule.Rule.TheVariants as rule
use Rattle.acpi_base.specs.Memory.{Memory}
use Rattle.acpi_base.specs.Policy.{PolicyValue}
use Rattle.acpi_lint.specs.declared.rule.Advice.{Advice}
use Rattle.acpi_base.specs.declared.witness.Witness.{Witness}
use Rattle.acpi_base.proofs.Faults.Numbers.{code_below, code_from}
use Rattle.acpi_lint.proofs.RuleNumbers.{place_below}

rises : {X : Type 0} (number : X → ℕ) (low : ℕ) (xs : List X) (d : X) → ((x : X) → low ≤ number x)
    → AllPairs (λ x y. number x < number y) xs → (i : ℕ) → i < length xs → low + i ≤ number (slice_index_or xs i d)
rises number low xs d from rise zero below = let least = from (slice_index_or xs 0 d) in omega arith
rises number low xs d from rise (suc i) below =
    let before : low + i ≤ number (slice_index_or xs i d) = rises number low xs d from rise i (omega arith) in
    let next : number (slice_index_or xs i d) < number (slice_index_or xs (suc i) d) =
    rise i (suc i) d (omega arith) below in
    omega arith

fits : {X : Type 0} (number : X → ℕ) (low high : ℕ) (xs : List X) → ((x : X) → low ≤ number x)
    → ((x : X) → number x < high) → AllPairs (λ x y. number x < number y) xs → length xs ≤ high - low
fits number low high [] from to rise = omega arith
fits number low high (x ∷ rest) from to rise =
    let last : length rest < length (x ∷ rest) = omega arith in
    let reached = rises number low (x ∷ rest) x from rise (length rest) last in
    let below = to (slice_index_or (x ∷ rest) (length rest) x) in
    omega arith

-- ---- numbers of rules, which may have gaps

-- whether these rise, and are above `low`
abbrev is_rising : ℕ → List ℕ → Bool
is_rising low [] = true
is_rising low (n ∷ rest) = nat_lt low n && is_rising n rest

above_all : (low : ℕ) (numbers : List ℕ) → is_rising low numbers ≡ true → (i : ℕ) → i < length numbers
    → low < slice_index_or numbers i 0
above_all low [] rising i below = absurd (omega arith)
above_all low (n ∷ rest) rising zero below = ltb-true low n (and_parts (nat_lt low n) (is_rising n rest) rising).0
above_all low (n ∷ rest) rising (suc i) below =
    let parts = and_parts (nat_lt low n) (is_rising n rest) rising in
    let later = above_all n rest parts.1 i (omega arith) in
    omega (arith, ltb-true low n parts.0, later)

rise_in : (low : ℕ) (numbers : List ℕ) → is_rising low numbers ≡ true → (i j : ℕ) → i < j → j < length numbers
    → slice_index_or numbers i 0 < slice_index_or numbers j 0
rise_in low [] rising i j less below = absurd (omega arith)
rise_in low (n ∷ rest) rising i zero less below = absurd (omega arith)
rise_in low (n ∷ rest) rising zero (suc j) less below =
    above_all n rest (and_parts (nat_lt low n) (is_rising n rest) rising).1 j (omega arith)
rise_in low (n ∷ rest) rising (suc i) (suc j) less below =
    rise_in n rest (and_parts (nat_lt low n) (is_rising n rest) rising).1 i j (omega arith) (omega arith)

number_at : (r : Rule) → slice_index_or (map rule_number all_rules) (rule_place r) 0 ≡ rule_number r
number_at rule.ListedTwice = refl
number_at _ = refl

-- a rule with a higher number has a higher place
place_rises : (r s : Rule) → rule_number r < rule_number s → rule_place r < rule_place s
place_rises r s less =
    elim (cases_order (rule_place r) (rule_place s)) [
      | inl same ↦
          let equal = ap (λ (k : ℕ). slice_index_or (map rule_number all_rules) k 0) same in
          absurd (omega (arith, sym (number_at r) ∙ equal ∙ number_at s, less))
      | inr (inl before) ↦ before
      | inr (inr behind) ↦
          let more = rise_in 0 (map rule_number all_rules) refl (rule_place s) (rule_place r) behind (place_below r) in
          absurd (omega (arith, more, number_at r, number_at s, less))
    ]

pub findings_fit : (m : Memory) (q : PolicyValue) (faults : List Witness) (advice : List Advice)
    → AreFindings m q faults advice → (length faults ≤ length all_codes) × (length advice ≤ length all_rules)
findings_fit m q faults advice are = (
  omega (
    arith,
    fits (λ (w : Witness). code_number w.code) 1 (1 + length all_codes) faults (λ w. code_from w.code)
        (λ w. omega (arith, code_below w.code)) are.faults.rise,
  ),
  omega (
    arith,
    fits (λ (a : Advice). rule_place a.rule) 0 (length all_rules) advice (λ a. omega arith)
        (λ a. place_below a.rule)
        (λ i j d less within. place_rises (slice_index_or advice i d).rule (slice_index_or advice j d).rule
        (are.advice.rise i j d less within)),
  ),
)
