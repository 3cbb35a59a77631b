use Rattle.acpi_cli.proofs.Reporting.{ran}
use Rattle.acpi_cli.proofs.show.run_show_anyway.Goals as goal

pub returns : goal.returns
returns g c =
    ran _ _ _ _ _ c.anyway_output-output.result c.in_ok-image.ensures c.anyway_output-output.ensures
    c.write_output.ensures.made c.write_output.ensures.memory
