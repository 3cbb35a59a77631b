use Rattle.std.proofs.Common.{◌≡◌, [], List, ℕ, Bor, ap, ◌∙◌}
use Rattle.acpi_base.specs.Codes.{code_name}
use Rattle.acpi_lint.specs.Rules.Rows.{rule_name}
use Rattle.acpi_c.proofs.Meanings.{by_code, by_rule, by_none}
use Rattle.acpi_c.proofs.meaning.acpiset_name.Goals as goal
use Rattle.acpi_c.proofs.meaning.acpiset_name.Goals.{in-Some-Code, in-Some-Rule, in-None}

pub returns : goal.returns
returns c =
    let n = c.args.number in
    let name = c.match-with_number.name.now in
    let bytes : Bor (List ℕ) → List ℕ = λ text. text.now in
    elim c.match-with_number.branch [
      | in-Some-Code w ↦ (
        name,
        by_code (λ d. name ≡ code_name d) (λ r. name ≡ rule_name r) (name ≡ []) n w.in-Some-Code.code
            (rw (w.in-Some-Code.is, w.in-Some-Code.field-0-is) at c.with_number.ensures)
            (ap bytes w.name-is ∙ w.as_bytes-name.ensures.value ∙ w.name.ensures),
        c.write_bytes.ensures,
      )
      | in-Some-Rule w ↦ (
        name,
        by_rule (λ d. name ≡ code_name d) (λ r. name ≡ rule_name r) (name ≡ []) n w.in-Some-Rule.rule
            (rw (w.in-Some-Rule.is, w.in-Some-Rule.field-0-is) at c.with_number.ensures)
            (ap bytes w.name-is ∙ w.rule_name-name.ensures),
        c.write_bytes.ensures,
      )
      | in-None w ↦ (
        name,
        by_none (λ d. name ≡ code_name d) (λ r. name ≡ rule_name r) (name ≡ []) n
            (rw w.in-None.is at c.with_number.ensures)
            (ap bytes w.name-is),
        c.write_bytes.ensures,
      )
    ]
