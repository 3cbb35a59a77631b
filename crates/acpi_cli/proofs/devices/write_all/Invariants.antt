use Rattle.std.proofs.Common.{◌≡◌, ◌≤◌, ◌-◌, length, take}
use Rattle.std.specs.Io.KnownBytes.{Appends}
use Rattle.acpi_cli.proofs.devices.write_all.Given as goal

-- what was written is a prefix of the bytes
abbrev pub invariant-loop-written : goal.invariant-loop-written
invariant-loop-written g l =
    record {
      prefix : l.written ≤ length l.bytes;
      out : Appends (g.W.Write.contents l.fn.writer.inner) (g.W.Write.contents l.writer.inner) (take l.written l.bytes);
      uncounted : l.writer.failures ≡ l.fn.writer.failures;
    }

abbrev pub decreases-loop-written : goal.decreases-loop-written
decreases-loop-written g l = length l.bytes - l.written
