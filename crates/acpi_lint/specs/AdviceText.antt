-- Advice as text, in ASCII.
use Rattle.std.specs.Prelude.{ℕ, List, ◌++◌, codes}
use Rattle.acpi_base.specs.Text.WitnessText.{hex_text}
use Rattle.acpi_lint.specs.Rules.Rows.{rule_name}
use Rattle.acpi_lint.specs.declared.rule.Advice.{Advice}

-- `advice`, the rule's name, and the three numbers, separated by single blanks, and the line's end
unfoldable pub advice_line : Advice → List ℕ
advice_line a =
    codes "advice " ++ rule_name a.rule
    ++ codes " " ++ hex_text a.at ++ codes " " ++ hex_text a.other ++ codes " " ++ hex_text a.point ++ codes "\n"
