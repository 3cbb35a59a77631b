use Rattle.std.proofs.Common.{refl}
use Rattle.acpi_base.specs.Policy.{with_rsdp}
use Rattle.acpi_cli.specs.Commands.{shown_policy}
use Rattle.acpi_cli.proofs.show.tables_verdict.Goals as goal

pub returns-in-Ok : goal.returns-in-Ok
returns-in-Ok c = (c.in-Ok.ensures (with_rsdp shown_policy c.args.rsdp) refl).0

pub returns-in-Err : goal.returns-in-Err
returns-in-Err c =
    let found = c.in-Err.ensures (with_rsdp shown_policy c.args.rsdp) refl in (found.0, found.1)
