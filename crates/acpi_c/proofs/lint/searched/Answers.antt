use Rattle.std.proofs.lemmas.Result.{err_from_is_err_and}
use Rattle.acpi_c.specs.Sources.{pieces_source}
use Rattle.acpi_c.proofs.Answers.{asks, pieces_begin, reports, runs_out}
use Rattle.acpi_c.proofs.lint.searched.Goals as goal

pub returns : goal.returns
returns c = (
  reports (pieces_source c.args.pieces.now) c.args.settings.now c.args.inputs.now c.in_ok-image.image
      c.add_inputs.new.policy c.in_ok-found.found.faults.items c.in_ok-found.found.advice.items
      (asks _ _ _ _ _ _ c.in_ok-image.ensures c.in_ok-policy.ensures.ok c.in_ok-add_inputs.ensures)
      (rw c.in_ok-add_sums.ensures at c.in_ok-found.ensures),
  c.in_ok-all.ensures,
)

pub returns-in_err-add_sums : goal.returns-in_err-add_sums
returns-in_err-add_sums c =
    let p = err_from_is_err_and c.from_residual-in_err-add_sums.result c.from_residual-in_err-add_sums.ensures.1 in
    rw p.1 (runs_out _ (pieces_source c.args.pieces.now) p.0 c.in_ok-policy.ensures.refused
    (pieces_begin _ _ c.in_ok-image.ensures) p.2)

pub returns-in_err-found : goal.returns-in_err-found
returns-in_err-found c =
    let p = err_from_is_err_and c.from_residual-in_err-found.result c.from_residual-in_err-found.ensures.1 in
    rw p.1 (runs_out _ (pieces_source c.args.pieces.now) p.0 c.in_ok-policy.ensures.refused
    (pieces_begin _ _ c.in_ok-image.ensures) p.2)

pub returns-in_err-all : goal.returns-in_err-all
returns-in_err-all c =
    let p = err_from_is_err_and c.from_residual-in_err-all.result c.from_residual-in_err-all.ensures.1 in
    rw p.1 (runs_out _ (pieces_source c.args.pieces.now) p.0 c.in_ok-policy.ensures.refused
    (pieces_begin _ _ c.in_ok-image.ensures) p.2)
