use Rattle.acpi_c.proofs.PiecesMean as law
use Rattle.acpi_c.proofs.laws.pieces_mean.Goals as goal

pub returns : goal.returns
returns c = record { bytes = law.pieces_mean; one = law.one_image }
