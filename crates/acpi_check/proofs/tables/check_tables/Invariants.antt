use Rattle.std.specs.Prelude.{ℕ}
use Rattle.acpi_check.specs.FirstBelow.{AreFirstBelow, IsReadBelow, IsKept}
use Rattle.acpi_check.proofs.tables.check_tables.Given as goal

-- the tables of the slots so far are valid, the first ones are kept, and one of these slots lists each address that is
-- kept
abbrev pub invariant-loop-slot : goal.invariant-loop-slot
invariant-loop-slot l =
    AreFirstBelow l.image l.root l.slot l.firsts × ((a : ℕ) → IsKept l.read a → IsReadBelow l.root l.slot a)
