use Rattle.std.proofs.Common.{Ok, Err, ◌∙◌, sym}
use Rattle.std.proofs.lemmas.Result.{err_from_is_err_and}
use Rattle.acpi_c.specs.Settings.{with_inputs}
use Rattle.acpi_c.specs.Sources.{pieces_source}
use Rattle.acpi_c.proofs.Answers.{pieces_begin, runs_out}
use Rattle.acpi_c.proofs.ShownOrRebuilt.{presents, rsdp_kept}
use Rattle.acpi_c.proofs.show.shown.Goals as goal

pub returns-in-Err : goal.returns-in-Err
returns-in-Err c =
    let q = with_inputs c.in_ok-policy.policy c.args.inputs.now in
    let same = rsdp_kept c.in_ok-policy.policy c.args.inputs.now ∙ sym c.rsdp-rsdp.ensures.value in
    let found = rw c.in_ok-add_sums.ensures at (c.in-Err.ensures q same) in
    presents (pieces_source c.args.pieces.now) c.args.settings.now c.args.inputs.now c.in_ok-image.image
    c.in_ok-policy.policy (Err c.in-Err.fault) c.in_ok-image.ensures c.in_ok-policy.ensures.ok (found.0, found.1)

pub returns : goal.returns
returns c =
    let q = with_inputs c.in_ok-policy.policy c.args.inputs.now in
    let same = rsdp_kept c.in_ok-policy.policy c.args.inputs.now ∙ sym c.rsdp-rsdp.ensures.value in
    let found = rw c.in_ok-add_sums.ensures at (c.in-Ok.ensures q same) in
    presents (pieces_source c.args.pieces.now) c.args.settings.now c.args.inputs.now c.in_ok-image.image
    c.in_ok-policy.policy (Ok c.into_bytes.result.items) c.in_ok-image.ensures c.in_ok-policy.ensures.ok found.0

pub returns-in_err-add_sums : goal.returns-in_err-add_sums
returns-in_err-add_sums c =
    let p = err_from_is_err_and c.from_residual-in_err-add_sums.result c.from_residual-in_err-add_sums.ensures.1 in
    rw p.1 (runs_out _ (pieces_source c.args.pieces.now) p.0 c.in_ok-policy.ensures.refused
    (pieces_begin _ _ c.in_ok-image.ensures) p.2)

pub returns-in_err-text : goal.returns-in_err-text
returns-in_err-text c =
    let p = err_from_is_err_and c.from_residual-in_err-text.result c.from_residual-in_err-text.ensures.1 in
    rw p.1 (runs_out _ (pieces_source c.args.pieces.now) p.0 c.in_ok-policy.ensures.refused
    (pieces_begin _ _ c.in_ok-image.ensures) p.2)
