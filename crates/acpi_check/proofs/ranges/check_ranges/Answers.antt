use Rattle.std.proofs.Common.{arith}
use Rattle.acpi_check.proofs.ranges.check_ranges.Goals as goal

pub overflow_cast-result : goal.overflow_cast-result
overflow_cast-result c = omega (arith, rw c.in-At.is at c.in_ok-first_overlap.ensures.low)
