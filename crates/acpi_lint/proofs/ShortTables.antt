-- A MADT and an SRAT that are too short have no entries.
use Rattle.std.proofs.Common.{ℕ, ◌<◌, List, length}
use Rattle.acpi_base.specs.Entries.{Stands}
use Rattle.acpi_base.specs.Madt.{MadtEntry, madt_entry, madt_contents}
use Rattle.acpi_base.specs.Srat.{SratEntry, srat_entry, srat_contents}
use Rattle.acpi_check.proofs.EntryPasses.Passes.{none_said}

pub no_madt_entry : (whole : List ℕ) → length whole < 44 → (o : ℕ) (e : MadtEntry)
    → ¬ Stands (madt_contents whole).entries o e
unfolding madt_contents
no_madt_entry whole less o e stands = none_said madt_entry 44 whole less o e stands

pub no_srat_entry : (whole : List ℕ) → length whole < 48 → (o : ℕ) (e : SratEntry)
    → ¬ Stands (srat_contents whole).entries o e
unfolding srat_contents
no_srat_entry whole less o e stands = none_said srat_entry 48 whole less o e stands
