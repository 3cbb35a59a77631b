use Rattle.std.proofs.lemmas.Result.{err_from_is_err_and}
use Rattle.acpi_c.specs.Sources.{pieces_source}
use Rattle.acpi_c.proofs.Answers.{asks, judges, neither, pieces_begin, runs_out}
use Rattle.acpi_c.proofs.check.judged_pieces.Goals as goal

pub returns : goal.returns
returns c =
    judges (pieces_source c.args.pieces.now) c.args.settings.now c.args.inputs.now c.in_ok-image.image
    c.add_inputs.new.policy c.in_ok-last.last c.in_ok-verdict.verdict
    (asks _ _ _ _ _ _ c.in_ok-image.ensures c.in_ok-policy.ensures.ok c.in_ok-add_inputs.ensures)
    c.in_ok-last.ensures.ok (rw c.in_ok-add_sums.ensures at c.in_ok-verdict.ensures.verdict)

pub returns-in_err-add_inputs : goal.returns-in_err-add_inputs
returns-in_err-add_inputs c =
    let p = err_from_is_err_and c.from_residual-in_err-add_inputs.result c.from_residual-in_err-add_inputs.ensures.1 in
    rw p.1 (runs_out _ (pieces_source c.args.pieces.now) p.0
    (neither _ _ c.in_ok-policy.ensures.refused c.in_ok-last.ensures.refused)
    (pieces_begin _ _ c.in_ok-image.ensures) p.2)

pub returns-in_err-add_sums : goal.returns-in_err-add_sums
returns-in_err-add_sums c =
    let p = err_from_is_err_and c.from_residual-in_err-add_sums.result c.from_residual-in_err-add_sums.ensures.1 in
    rw p.1 (runs_out _ (pieces_source c.args.pieces.now) p.0
    (neither _ _ c.in_ok-policy.ensures.refused c.in_ok-last.ensures.refused)
    (pieces_begin _ _ c.in_ok-image.ensures) p.2)

pub returns-in_err-verdict : goal.returns-in_err-verdict
returns-in_err-verdict c =
    let p = err_from_is_err_and c.from_residual-in_err-verdict.result c.from_residual-in_err-verdict.ensures.1 in
    rw p.1 (runs_out _ (pieces_source c.args.pieces.now) p.0
    (neither _ _ c.in_ok-policy.ensures.refused c.in_ok-last.ensures.refused)
    (pieces_begin _ _ c.in_ok-image.ensures) p.2)
