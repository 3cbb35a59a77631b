use Rattle.std.specs.Io.KnownBytes.{Keeps}
use Rattle.acpi_cli.proofs.uninterrupted.UninterruptedWrite.write.Given as goal

-- a failed write appends nothing
abbrev pub invariant-tries : goal.invariant-tries
invariant-tries g l = Keeps (g.W.Write.contents l.fn.self.inner) (g.W.Write.contents l.self.inner)
