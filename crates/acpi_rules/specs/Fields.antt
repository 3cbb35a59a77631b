-- Numbers in structures.
use Rattle.std.specs.Prelude.{ℕ, ◌+◌, ◌/◌, ◌%◌, List, length, Option, Some, None, nat_le, ◌&&◌, if◌then◌else◌, unwrap_or}
use Rattle.acpi_base.specs.Number.{field}
use Rattle.acpi_rules.specs.declared.field.Field.{Field}

-- the offset of a field, and how many bytes it has
abbrev pub at_of : Field → ℕ
at_of f = f.place / 16

abbrev pub width_of : Field → ℕ
width_of f = f.place % 16

-- the number of a field, if it has from 1 to 8 bytes and all of them are in the structure with these bytes
unfoldable pub reading : Field → List ℕ → Option ℕ
reading f bytes =
    if nat_le 1 (width_of f) && nat_le (width_of f) 8 && nat_le (at_of f + width_of f) (length bytes)
    then Some (field bytes (at_of f) (width_of f))
    else None

-- the same, or 0 if it is not wholly in the structure
abbrev pub number_in : Field → List ℕ → ℕ
number_in f bytes = unwrap_or (reading f bytes) 0

-- the offset behind a field
abbrev pub end_of : Field → ℕ
end_of f = at_of f + width_of f
