-- The faults and the advice that are reported of an image.
use Rattle.std.specs.Prelude.{◌<◌, ◌↔◌, List, AllPairs, Contains}
use Rattle.acpi_base.specs.Memory.{Memory}
use Rattle.acpi_base.specs.Policy.{PolicyValue}
use Rattle.acpi_lint.specs.Rules.Rows.{rule_number}
use Rattle.acpi_base.specs.FirstOfCode.{AreFirstFaults}
use Rattle.acpi_lint.specs.declared.rule.Advice.{Advice}
use Rattle.acpi_base.specs.declared.witness.Witness.{Witness}
use Rattle.acpi_lint.specs.Rules.Advice.{IsFirstAdvice}

-- these are the first findings of all rules that are broken, in the order of the rules' numbers
pub record AreFirstAdvice (m : Memory) (q : PolicyValue) (advice : List Advice) : Type 0 where
  pub all : (a : Advice) → Contains advice a ↔ IsFirstAdvice m q a
  pub rise : AllPairs (λ a b. rule_number a.rule < rule_number b.rule) advice

-- these are the faults and the advice that are reported of the image
pub record AreFindings (m : Memory) (q : PolicyValue) (reported : List Witness) (advised : List Advice) : Type 0 where
  pub faults : AreFirstFaults m q reported
  pub advice : AreFirstAdvice m q advised
