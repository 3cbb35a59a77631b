use Rattle.acpi_base.proofs.Images.SegmentOrder.{nothing_laid, nothing_present_by}
use Rattle.acpi_base.proofs.image.segments.Segments.with_capacity.Goals as goal

pub returns-clause-valid : goal.returns-clause-valid
returns-clause-valid c = nothing_laid _ _ c.in_ok-with_capacity.ensures c.new.ensures.items

pub returns-clause-nothing : goal.returns-clause-nothing
returns-clause-nothing c = nothing_present_by _ _ c.in_ok-with_capacity.ensures c.new.ensures.items
