use Rattle.acpi_base.proofs.Texts.RowLanes.{digits_in_lanes}
use Rattle.acpi_base.proofs.text.image_text.row.digit_values.Goals as goal

pub returns : goal.returns
returns c = digits_in_lanes c.args.bytes c.fits-bytes.0 c.fits-bytes.1
