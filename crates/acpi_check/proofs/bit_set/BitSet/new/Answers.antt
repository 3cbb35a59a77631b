use Rattle.std.proofs.Common.{[], arith}
use Rattle.acpi_check.specs.BitSets.{IsIn}
use Rattle.acpi_check.proofs.NodeLinks.OffsetBits.{none_behind}
use Rattle.acpi_check.proofs.bit_set.BitSet.new.Goals as goal

pub returns : goal.returns
unfolding IsIn
returns c = λ o. rw c.new.ensures.items (none_behind [] o (omega arith))
