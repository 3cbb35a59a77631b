use Rattle.acpi_base.proofs.Layouts.RoundTrip.{HasValues-layout_bytes}
use Rattle.acpi_write.proofs.entry_bytes.append_layout.Goals as goal

pub returns-clause-says : goal.returns-clause-says
returns-clause-says g c =
    HasValues-layout_bytes g.L.Layout.parts (g.L.Layout.values c.args.value.now) c.write.ensures.fits
