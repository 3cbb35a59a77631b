use Rattle.std.proofs.Common.{◌≡◌, List, ℕ, ◌-◌, length, false}
use denote.Ref.{Bor}
use Rattle.acpi_confirm.proofs.Walks.{IsOver}
use Rattle.acpi_confirm.proofs.entries.has_entry.Given as goal

-- none of the entries so far is looked for
abbrev pub invariant-loop-entry : goal.invariant-loop-entry
invariant-loop-entry g l =
    IsOver (λ e. (entry : Bor (List ℕ)) × (entry.now ≡ e) × goal.F-post g l.is_sought entry false) l.first l.start
    l.whole

abbrev pub decreases-loop-entry : goal.decreases-loop-entry
decreases-loop-entry g l = length l.whole - l.start
