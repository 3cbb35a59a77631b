use Rattle.std.proofs.Common.{Ok, Err, inl, inr, refl}
use Rattle.std.proofs.lemmas.Result.{err_from_is_err_and}
use Rattle.acpi_c.specs.Sources.{pieces_source}
use Rattle.acpi_c.specs.declared.refusal.Refusal.TheVariants as refusal
use Rattle.acpi_c.proofs.Answers.{asks, neither, pieces_begin, runs_out}
use Rattle.acpi_c.proofs.ShownOrRebuilt.{does_not_fit, moves}
use Rattle.acpi_c.proofs.rebuild.rebuilt.Goals as goal
use Rattle.acpi_write.specs.declared.placing.RebuildFault.TheVariants as rebuilding

pub returns-in-Ok : goal.returns-in-Ok
returns-in-Ok c =
    moves (pieces_source c.args.pieces.now) c.args.settings.now c.args.inputs.now c.args.base c.in_ok-image.image
    c.add_inputs.new.policy (Ok c.in-Ok.bytes.items)
    (asks _ _ _ _ _ _ c.in_ok-image.ensures c.in_ok-policy.ensures.ok c.in_ok-add_inputs.ensures)
    (rw c.in_ok-add_sums.ensures at c.in-Ok.ensures.rebuilt)

pub returns-in-Err-NotClean : goal.returns-in-Err-NotClean
returns-in-Err-NotClean c =
    moves (pieces_source c.args.pieces.now) c.args.settings.now c.args.inputs.now c.args.base c.in_ok-image.image
    c.add_inputs.new.policy (Err c.in-Err-NotClean.fault)
    (asks _ _ _ _ _ _ c.in_ok-image.ensures c.in_ok-policy.ensures.ok c.in_ok-add_inputs.ensures)
    (rw (c.in_ok-add_sums.ensures, c.in-Err-NotClean.field-0-is) at c.in-Err-NotClean.ensures.refused)

pub returns-in-Err-TableTooLong : goal.returns-in-Err-TableTooLong
returns-in-Err-TableTooLong c =
    inr (does_not_fit (pieces_source c.args.pieces.now) c.args.settings.now c.args.inputs.now c.args.base
    c.in_ok-image.image c.add_inputs.new.policy rebuilding.TableTooLong refusal.TableTooLong
    (asks _ _ _ _ _ _ c.in_ok-image.ensures c.in_ok-policy.ensures.ok c.in_ok-add_inputs.ensures)
    (rw (c.in_ok-add_sums.ensures, c.in-Err-TableTooLong.field-0-is) at c.in-Err-TableTooLong.ensures.refused) refl)

pub returns-in-Err-PastEnd : goal.returns-in-Err-PastEnd
returns-in-Err-PastEnd c =
    inr (does_not_fit (pieces_source c.args.pieces.now) c.args.settings.now c.args.inputs.now c.args.base
    c.in_ok-image.image c.add_inputs.new.policy rebuilding.PastEnd refusal.PastEnd
    (asks _ _ _ _ _ _ c.in_ok-image.ensures c.in_ok-policy.ensures.ok c.in_ok-add_inputs.ensures)
    (rw (c.in_ok-add_sums.ensures, c.in-Err-PastEnd.field-0-is) at c.in-Err-PastEnd.ensures.refused) refl)

pub returns-in-Err-NeedsLow : goal.returns-in-Err-NeedsLow
returns-in-Err-NeedsLow c =
    inr (does_not_fit (pieces_source c.args.pieces.now) c.args.settings.now c.args.inputs.now c.args.base
    c.in_ok-image.image c.add_inputs.new.policy rebuilding.NeedsLow refusal.NeedsLow
    (asks _ _ _ _ _ _ c.in_ok-image.ensures c.in_ok-policy.ensures.ok c.in_ok-add_inputs.ensures)
    (rw (c.in_ok-add_sums.ensures, c.in-Err-NeedsLow.field-0-is) at c.in-Err-NeedsLow.ensures.refused) refl)

pub returns-in_err-add_sums : goal.returns-in_err-add_sums
returns-in_err-add_sums c =
    let p = err_from_is_err_and c.from_residual-in_err-add_sums.result c.from_residual-in_err-add_sums.ensures.1 in
    rw p.1 (inl (runs_out _ (pieces_source c.args.pieces.now) p.0
    (neither _ _ c.in_ok-policy.ensures.refused c.in_ok-test_base.ensures)
    (pieces_begin _ _ c.in_ok-image.ensures) p.2))
