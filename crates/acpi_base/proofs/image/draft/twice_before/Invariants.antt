use Rattle.acpi_base.proofs.Images.Twice.{IsScanned}
use Rattle.acpi_base.proofs.image.draft.twice_before.Given as goal

-- the pieces before the i-th have no address twice, and end at `end`
abbrev pub invariant-loop-i : goal.invariant-loop-i
invariant-loop-i l = IsScanned l.pieces l.count l.i l.end
