use Rattle.std.proofs.Common.{arith}
use Rattle.acpi_base.proofs.Images.ByteRuns.{Has-bytes_at, run_of-some, run_of-count, run_of-each, run_of-from_each}
use Rattle.acpi_base.proofs.laws.present_bytes.Goals as goal

pub returns : goal.returns
returns c = grind (arith, Has-bytes_at, run_of-some, run_of-count, run_of-each, run_of-from_each)
