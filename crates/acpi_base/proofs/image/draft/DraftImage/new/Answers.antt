use Rattle.acpi_base.proofs.Images.Drafts.{nothing_added, nothing_drafted}
use Rattle.acpi_base.proofs.image.draft.DraftImage.new.Goals as goal

pub invariant_of-result : goal.invariant_of-result
invariant_of-result c = nothing_drafted _ _ c.new.ensures.items c.new-2.ensures.items

pub returns : goal.returns
returns c = nothing_added _ _ c.new-2.ensures.items
