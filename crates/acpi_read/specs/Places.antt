-- The offsets of a FADT's fields (ACPI 6.5, 5.2.9), as the plain values of the definitions.
use Rattle.acpi_base.specs.Fadt as fadt
use Rattle.acpi_read.specs.declared.fadt.FieldPlace.{FieldPlace}

-- where a field begins, and how many bytes it has
abbrev pub place_value : FieldPlace → fadt.FieldPlace
place_value p = record { offset = p.0; width = p.1 }
