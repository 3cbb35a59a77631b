-- What the number of a finding means: the numbers of codes and of rules differ.
use Rattle.std.specs.Prelude.{◌≡◌, ◌≢◌, ℕ, ◌≤◌, List, [], Option, Some, None, length}
use Rattle.acpi_base.specs.Codes.{code_name, code_number, stage_number, stage_of}
use Rattle.acpi_base.specs.declared.code.Code.{Code}
use Rattle.acpi_c.specs.Answers.{written_over}
use Rattle.acpi_c.specs.declared.meaning.Numbered.{Numbered}
use Rattle.acpi_c.specs.declared.meaning.Numbered.TheVariants as numbered
use Rattle.acpi_lint.specs.Rules.Rows.{rule_name, rule_number}
use Rattle.acpi_lint.specs.declared.rule.Rule.{Rule}

-- n is the number of no code and of no rule
abbrev pub IsNoNumber : ℕ → Type 0
IsNoNumber n = ((c : Code) → code_number c ≢ n) × ((r : Rule) → rule_number r ≢ n)

-- this has the number n, or nothing has it
abbrev pub IsNumbered : ℕ → Option Numbered → Type 0
IsNumbered n None = IsNoNumber n
IsNumbered n (Some (numbered.Code c)) = code_number c ≡ n
IsNumbered n (Some (numbered.Rule r)) = rule_number r ≡ n

-- `OfCode` holds if n is the number of a code, `OfRule` if it is that of a rule, otherwise `Else`
pub record IsByNumber (OfCode : Code → Type 0) (OfRule : Rule → Type 0) (Else : Type 0) (n : ℕ) : Type 0 where
  pub code : (c : Code) → code_number c ≡ n → OfCode c
  pub rule : (r : Rule) → rule_number r ≡ n → OfRule r
  pub none : IsNoNumber n → Else

-- the stage of the code with the number n; 0 for another number
abbrev pub IsStageOf : ℕ → ℕ → Type 0
IsStageOf n stage = IsByNumber (λ c. stage ≡ stage_number (stage_of c)) (λ r. stage ≡ 0) (stage ≡ 0) n

-- 4 for a code, 1 to 3 for a rule, 0 for another number
abbrev pub IsSeverityOf : ℕ → ℕ → Type 0
IsSeverityOf n severity =
    IsByNumber (λ c. severity ≡ 4) (λ r. (1 ≤ severity) × (severity ≤ 3)) (severity ≡ 0) n

-- the name of the code or the rule with the number n; no bytes for another number
abbrev pub IsNameOf : ℕ → List ℕ → Type 0
IsNameOf n name = IsByNumber (λ c. name ≡ code_name c) (λ r. name ≡ rule_name r) (name ≡ []) n

-- the caller's room after this text was written to it, as much of it as fits, and how many bytes the text has
abbrev pub IsWrittenTo : List ℕ → List ℕ → List ℕ → ℕ → Type 0
IsWrittenTo text old new count = (count ≡ length text) × (new ≡ written_over text old)
