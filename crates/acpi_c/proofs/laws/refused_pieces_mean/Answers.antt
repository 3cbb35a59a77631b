use Rattle.acpi_c.proofs.RefusedPieces as law
use Rattle.acpi_c.proofs.laws.refused_pieces_mean.Goals as goal

pub returns : goal.returns
returns c = record { past = law.past_end_means; overlap = law.overlap_means }
