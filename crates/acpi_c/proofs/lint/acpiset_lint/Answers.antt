use Rattle.std.proofs.Common.{Ok, Err, refl, ap, ◌∙◌}
use Rattle.acpi_c.proofs.FindingsFit.{findings_fit}
use Rattle.acpi_c.specs.Answers.{written_over}
use Rattle.acpi_c.proofs.lint.acpiset_lint.Goals as goal

pub returns-in-Ok : goal.returns-in-Ok
returns-in-Ok c =
    let found = c.in-Ok.ensures in (
      Ok (c.in-Ok.found.faults.items, c.in-Ok.found.advice.items),
      found.0,
      findings_fit found.0.image found.0.policy c.in-Ok.found.faults.items c.in-Ok.found.advice.items found.0.findings,
      c.answer_of.ensures,
      c.copy_to.ensures ∙ ap (λ l. written_over l c.args.findings.now) (c.deref.ensures.value ∙ found.1),
    )

pub returns-in-Err : goal.returns-in-Err
returns-in-Err c = (Err c.in-Err.refusal, c.in-Err.ensures, tt, c.from.ensures, refl)
