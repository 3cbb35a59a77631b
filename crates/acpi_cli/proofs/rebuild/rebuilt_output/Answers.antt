use Rattle.std.proofs.Common.{inl, refl}
use Rattle.acpi_cli.proofs.rebuild.rebuilt_output.Goals as goal

pub returns-in_ok-bytes-in-Ok : goal.returns-in_ok-bytes-in-Ok
returns-in_ok-bytes-in-Ok c = inl (_, c.in-Ok.ensures.rebuilt, c.in_ok-bytes-in-Ok.ensures, refl)
