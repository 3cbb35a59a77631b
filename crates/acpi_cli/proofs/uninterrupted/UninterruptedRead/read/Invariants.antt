use Rattle.std.proofs.Common.{◌≡◌, length}
use Rattle.std.specs.Io.KnownBytes.{Keeps}
use Rattle.acpi_cli.proofs.uninterrupted.UninterruptedRead.read.Given as goal

-- the buffer keeps its length, and a failed read consumes nothing
abbrev pub invariant-tries : goal.invariant-tries
invariant-tries g l =
    (length l.buffer ≡ length l.fn.buffer)
    × Keeps (g.R.Read.remaining l.fn.self.inner) (g.R.Read.remaining l.self.inner)
