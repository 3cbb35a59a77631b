use Rattle.std.proofs.Common.{refl}
use Rattle.acpi_write.proofs.TablesWritten.CompleteTables.{length_of_parts}
use Rattle.acpi_write.proofs.placing.written_length.Goals as goal

pub returns-in-Other : goal.returns-in-Other
returns-in-Other c =
    let whole = rw c.in-Other.is at c.requires.shaped in
    record { length = rw c.in-Other.is (length_of_parts c.in-Other.bytes.now _ whole.least refl) }
