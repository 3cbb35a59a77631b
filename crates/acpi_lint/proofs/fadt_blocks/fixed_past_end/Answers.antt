use Rattle.std.proofs.Common.{◌≡◌, false, rules}
use Rattle.std.specs.Option.{is_some}
use Rattle.acpi_base.specs.Fadt.{is_reduced}
use Rattle.acpi_lint.proofs.EitherPlace.{second_alone}
use Rattle.acpi_rules.proofs.LeastPlaces.{least_as}
use Rattle.acpi_lint.proofs.fadt_blocks.fixed_past_end.Goals as goal

pub returns : goal.returns
returns c =
    let full : is_reduced c.args.fadt.now ≡ false = search rules in
    let none : is_some c.smi_past_end-smi.result ≡ false = search rules in
    least_as c.block_past_end.result (λ at other point either. (full, either)) (λ at other point it. it.1)
    (second_alone _ _ c.smi_past_end-smi.result c.block_past_end.result none c.smi_past_end-smi.ensures
    c.block_past_end.ensures)
