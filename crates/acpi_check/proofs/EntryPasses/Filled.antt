-- Tables whose entries are valid are filled by entries that have a length of their type.
use Rattle.std.proofs.Common.{ℕ, List}
use Rattle.acpi_base.specs.Madt as madt
use Rattle.acpi_base.specs.Srat as srat
use Rattle.acpi_base.specs.Pptt as pptt
use Rattle.acpi_base.specs.Policy.{PolicyValue}
use Rattle.acpi_read.specs.Entries.{IsFilledMadt, IsFilledSrat, IsFilledPptt}
use Rattle.acpi_read.specs.Madts as madts
use Rattle.acpi_read.specs.Srats as srats

own_madt : (q : PolicyValue) (e : madt.MadtEntry) → madt.IsValidMadtEntry q e → madts.IsOfOwnLength e
own_madt q (madt.Opaque e) valid = valid
own_madt q _ valid = tt

own_srat : (e : srat.SratEntry) → srat.IsValidSratEntry e → srats.IsOfOwnLength e
own_srat (srat.Opaque e) valid = valid
own_srat _ valid = tt

pub filled_madt : (q : PolicyValue) (whole : List ℕ) → madt.IsValidMadt q (madt.madt_contents whole)
    → IsFilledMadt whole
unfolding madt.madt_contents
filled_madt q whole valid =
    record { long = valid.long; filled = valid.filled; lengths = λ o e stands. own_madt q e (valid.entries o e stands) }

pub filled_srat : (whole : List ℕ) → srat.IsValidSrat (srat.srat_contents whole) → IsFilledSrat whole
unfolding srat.srat_contents
filled_srat whole valid =
    record { long = valid.long; filled = valid.filled; lengths = λ o e stands. own_srat e (valid.entries o e stands) }

pub filled_pptt : (whole : List ℕ) → pptt.IsCutPptt (pptt.pptt_contents whole) → IsFilledPptt whole
unfolding pptt.pptt_contents
filled_pptt whole valid = record { filled = valid.filled; lengths = valid.lengths }
