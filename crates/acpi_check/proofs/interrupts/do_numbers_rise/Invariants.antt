use Rattle.std.specs.Prelude.{⊤}
use Rattle.acpi_base.specs.Entries.{entries_read_by}
use Rattle.acpi_base.specs.Madt.{madt_entry, madt_contents, ServesFrom}
use Rattle.acpi_check.proofs.EntryPasses.Passes.{HasPassed}
use Rattle.acpi_check.proofs.EntryPasses.RisingKeys.{DoRiseTo}
use Rattle.acpi_check.proofs.interrupts.do_numbers_rise.Given as goal

-- the numbers that entries so far serve rise, and the entries left are the rest of the table's
abbrev pub invariant-loop-at : goal.invariant-loop-at
invariant-loop-at l = record {
  rise : DoRiseTo (λ x s e. ServesFrom l.fn.policy s x e) (madt_contents l.fn.madt).entries
      (entries_read_by madt_entry l.entries.entries.entries) l.least;
  listed : HasPassed (madt_contents l.fn.madt).entries (entries_read_by madt_entry l.entries.entries.entries)
      (λ _ _. ⊤);
}
