use Rattle.std.proofs.lemmas.Result.{err_from_is_err_and}
use Rattle.acpi_c.specs.Sources.{pieces_source}
use Rattle.acpi_c.proofs.Answers.{asks, neither, pieces_begin, runs_out, tells}
use Rattle.acpi_c.proofs.confirm.confirmed.Goals as goal

pub returns : goal.returns
returns c =
    tells (pieces_source c.args.pieces.now) c.args.settings.now c.args.inputs.now c.args.finding.now c.in_ok-image.image
    c.add_inputs.new.policy c.in_ok-code.code c.confirm.result
    (asks _ _ _ _ _ _ c.in_ok-image.ensures c.in_ok-policy.ensures.ok c.in_ok-add_inputs.ensures)
    c.in_ok-code.ensures.ok c.confirm.ensures.fault

pub returns-in_err-add_inputs : goal.returns-in_err-add_inputs
returns-in_err-add_inputs c =
    let p = err_from_is_err_and c.from_residual-in_err-add_inputs.result c.from_residual-in_err-add_inputs.ensures.1 in
    rw p.1 (runs_out _ (pieces_source c.args.pieces.now) p.0
    (neither _ _ c.in_ok-policy.ensures.refused c.in_ok-code.ensures.refused)
    (pieces_begin _ _ c.in_ok-image.ensures) p.2)
