use Rattle.std.proofs.Common.{◌+◌, ℕ, length, refl, sym, ap, ◌∙◌}
use Rattle.acpi_read.specs.Madts.{madt_value, madt_bytes}
use Rattle.acpi_read.specs.Srats.{srat_value, srat_bytes}
use Rattle.acpi_write.proofs.EntryBytes.EntryLists.{joined_values}
use Rattle.acpi_write.proofs.Tables.Madts as madts
use Rattle.acpi_write.proofs.Tables.Srats as srats
use Rattle.acpi_write.proofs.TablesWritten.CompleteTables.{length_of_parts}
use Rattle.acpi_write.proofs.encode.size_of.Goals as goal

pub returns-in_ok-sizes-in-Madt : goal.returns-in_ok-sizes-in-Madt
returns-in_ok-sizes-in-Madt c =
    let v = c.in-Madt in
    let sized = rw c.deref.ensures.value at c.in_ok-sizes-in-Madt.ensures in
    rw v.is (
      sized.0,
      ap (λ (n : ℕ). 44 + n)
          (sized.1 ∙ ap length (sym (joined_values madt_bytes madt_value v.entries.items)))
          ∙ sym (madts.length-body v.address v.flags _),
    )

pub returns-in_ok-sizes-in-Srat : goal.returns-in_ok-sizes-in-Srat
returns-in_ok-sizes-in-Srat c =
    let v = c.in-Srat in
    let sized = rw c.deref-in-Srat.ensures.value at c.in_ok-sizes-in-Srat.ensures in
    rw v.is (
      sized.0,
      ap (λ (n : ℕ). 48 + n)
          (sized.1 ∙ ap length (sym (joined_values srat_bytes srat_value v.entries.items))) ∙ sym (srats.length-body _),
    )

pub returns-else-not-is_complete_table : goal.returns-else-not-is_complete_table
returns-else-not-is_complete_table c =
    let whole = c.if-not-is_complete_table.ensures.0 refl in
    rw c.in-Other.is (whole, length_of_parts c.in-Other.bytes.now _ whole.least refl)
