use Rattle.std.proofs.Common.{inl, subst}
use Rattle.std.proofs.lemmas.Result.{IfOk-weaker}
use Rattle.acpi_base.specs.Policy.{PolicyValue}
use Rattle.acpi_cli.specs.Commands.{TellsRebuilt}
use Rattle.acpi_cli.proofs.rebuild.rebuild_output.Goals as goal

pub returns : goal.returns
returns c =
    IfOk-weaker c.rebuilt_output.result _ _
    (λ output told.
    let under = subst (λ (q : PolicyValue). TellsRebuilt c.args.image q c.args.base output.bytes.items output.outcome)
    c.set_rsdp.ensures.value told in
    inl (record { address = c.in-Some.address; rsdp = c.in-Some.ensures.some; told = under }))
    c.rebuilt_output.ensures
