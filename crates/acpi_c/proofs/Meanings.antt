-- A number is that of at most one code or rule.
use Rattle.std.proofs.Common.{◌≡◌, ℕ, sym, subst, ◌∙◌, arith}
use Rattle.acpi_base.specs.Codes.{code_number}
use Rattle.acpi_base.specs.declared.code.Code.{Code}
use Rattle.acpi_base.proofs.Faults.Numbers.{code_below, same_code}
use Rattle.acpi_c.specs.Meanings.{IsNoNumber, IsByNumber}
use Rattle.acpi_lint.specs.Rules.Rows.{rule_number}
use Rattle.acpi_lint.specs.declared.rule.Rule.{Rule}
use Rattle.acpi_lint.proofs.RuleNumbers.{rule_from, same_rule}

code_is_no_rule : (c : Code) (r : Rule) (n : ℕ) → code_number c ≡ n → rule_number r ≡ n → ⊥
code_is_no_rule c r n code rule = omega (arith, code_below c, rule_from r, code, rule)

pub by_code : (OfCode : Code → Type 0) (OfRule : Rule → Type 0) (Else : Type 0) (n : ℕ) (c : Code) → code_number c ≡ n
    → OfCode c → IsByNumber OfCode OfRule Else n
by_code OfCode OfRule Else n c is holds =
    record {
      code = λ d same. subst OfCode (same_code c d (is ∙ sym same)) holds;
      rule = λ r same. absurd (code_is_no_rule c r n is same);
      none = λ (no_code, no_rule). absurd (no_code c is);
    }

pub by_rule : (OfCode : Code → Type 0) (OfRule : Rule → Type 0) (Else : Type 0) (n : ℕ) (r : Rule) → rule_number r ≡ n
    → OfRule r → IsByNumber OfCode OfRule Else n
by_rule OfCode OfRule Else n r is holds =
    record {
      code = λ c same. absurd (code_is_no_rule c r n same is);
      rule = λ s same. subst OfRule (same_rule r s (is ∙ sym same)) holds;
      none = λ (no_code, no_rule). absurd (no_rule r is);
    }

pub by_none : (OfCode : Code → Type 0) (OfRule : Rule → Type 0) (Else : Type 0) (n : ℕ) → IsNoNumber n → Else
    → IsByNumber OfCode OfRule Else n
by_none OfCode OfRule Else n (no_code, no_rule) holds =
    record {
      code = λ c same. absurd (no_code c same);
      rule = λ r same. absurd (no_rule r same);
      none = λ no. holds;
    }
