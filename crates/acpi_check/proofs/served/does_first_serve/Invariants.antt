use Rattle.std.proofs.Common.{ℕ, ◌<◌, ◌≤◌}
use Rattle.acpi_base.specs.Across.{IsServed}
use Rattle.acpi_base.specs.Entries.{entries_read_by}
use Rattle.acpi_base.specs.Madt.{madt_entry, madt_contents}
use Rattle.acpi_check.specs.ServedGsis.{named_gsi}
use Rattle.acpi_check.proofs.ProcessorNumbers.NamedPass.{IsAt}
use Rattle.acpi_check.proofs.served.does_first_serve.Given as goal

-- the numbers that entries so far name are served, the entries left are the rest of the table's, and an I/O APIC serves
-- the numbers from `start` on and below `end`
abbrev pub invariant-loop-at : goal.invariant-loop-at
invariant-loop-at l = record {
  named : IsAt (IsServed l.fn.policy (madt_contents l.fn.madt)) named_gsi (madt_contents l.fn.madt).entries
      (entries_read_by madt_entry l.entries.entries.entries);
  first : (g : ℕ) → l.start ≤ g → g < l.end → IsServed l.fn.policy (madt_contents l.fn.madt) g;
}
