use Rattle.std.proofs.Common.{◌≡◌, ◌%◌, take, sum}
use Rattle.acpi_base.proofs.checksum.sum.Given as goal

-- the sum so far
abbrev pub invariant-loop-byte : goal.invariant-loop-byte
invariant-loop-byte l = l.total ≡ sum (take l.byte-index l.bytes) % 256
