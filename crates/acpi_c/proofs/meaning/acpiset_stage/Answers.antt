use Rattle.std.proofs.Common.{◌≡◌, ap, ◌∙◌}
use Rattle.acpi_base.specs.Codes.{stage_number, stage_of}
use Rattle.acpi_c.proofs.Meanings.{by_code}
use Rattle.acpi_c.proofs.meaning.acpiset_stage.Goals as goal

pub returns-in-Some-Code : goal.returns-in-Some-Code
returns-in-Some-Code c =
    let stage = c.from.result in
    by_code (λ d. stage ≡ stage_number (stage_of d)) (λ r. stage ≡ 0) (stage ≡ 0) c.args.number c.in-Some-Code.code
    (rw (c.in-Some-Code.is, c.in-Some-Code.field-0-is) at c.with_number.ensures)
    (c.from.ensures ∙ c.number.ensures ∙ ap stage_number c.stage.ensures)
