-- The names of the rules, which stand one after another.
use Rattle.std.proofs.Common.{◌≡◌, ◌+◌, ◌≤◌, ℕ, Some, length, get_or, refl, arith}
use Rattle.std.specs.List.{slice_get, slice_range}
use Rattle.acpi_c.specs.declared.explained.TheConstants.{NAME_STARTS, RULE_NAMES}
use Rattle.acpi_lint.specs.Rules.Rows.{rule_name, rule_place}
use Rattle.acpi_lint.specs.declared.rule.Rule.{Rule}
use Rattle.acpi_lint.specs.declared.rule.Rule.TheVariants as rule

abbrev pub start_of : Rule → ℕ
start_of r = get_or NAME_STARTS (rule_place r) 0

abbrev pub end_of : Rule → ℕ
end_of r = get_or NAME_STARTS (rule_place r + 1) 0

pub starts_at : (r : Rule) → slice_get NAME_STARTS (rule_place r) ≡ Some (start_of r)
starts_at rule.ListedTwice = refl
starts_at _ = refl

pub ends_at : (r : Rule) → slice_get NAME_STARTS (rule_place r + 1) ≡ Some (end_of r)
ends_at rule.ListedTwice = refl
ends_at _ = refl

pub rises : (r : Rule) → start_of r ≤ end_of r
rises rule.ListedTwice = omega arith
rises _ = omega arith

pub within : (r : Rule) → end_of r ≤ length RULE_NAMES.now
within rule.ListedTwice = omega arith
within _ = omega arith

pub is_name : (r : Rule) → slice_range RULE_NAMES.now (start_of r) (end_of r) ≡ rule_name r
is_name rule.ListedTwice = refl
is_name _ = refl
