use Rattle.std.proofs.Common.{rules}
use Rattle.acpi_read.proofs.PpttKinds.{written_length}
use Rattle.acpi_read.proofs.pptt.node_head.NodeHeadLayout.write.Goals as goal

pub returns-clause-allowed : goal.returns-clause-allowed
returns-clause-allowed c = written_length c.args.self.now c.put_values.new.out (search rules) (search rules)
