-- Structures that follow one another in a structure or a table, as a description of the layout says.
use Rattle.std.specs.Prelude.{ℕ, ◌+◌, ◌*◌, ◌^◌, Bool, true, false, List, length, take, slice_index, nat_le, min, max, ◌==◌, ◌&&◌, ◌||◌, if◌then◌else◌, Option, Some, None, option_map}
use Rattle.std.specs.Option.{option_and_then, option_map_or}
use Rattle.acpi_rules.specs.Fields.{end_of, number_in, reading}
use Rattle.acpi_rules.specs.declared.series.Sum.{Sum}
use Rattle.acpi_rules.specs.declared.series.Start.{Start}
use Rattle.acpi_rules.specs.declared.series.Start.TheVariants.{At, Said, Behind, OfType}
use Rattle.acpi_rules.specs.declared.series.StartRows.{StartRows}
use Rattle.acpi_rules.specs.declared.series.StartRows.TheVariants as starts
use Rattle.acpi_rules.specs.declared.series.Types.{Types}
use Rattle.acpi_rules.specs.declared.series.Extent.{Extent}
use Rattle.acpi_rules.specs.declared.series.Extent.TheVariants.{ToEnd, Counted, Product}
use Rattle.acpi_rules.specs.declared.series.Head.{Head}
use Rattle.acpi_rules.specs.declared.series.Shape.{Shape}
use Rattle.acpi_rules.specs.declared.series.Shape.TheVariants.{Records, Headed, ByType}
use Rattle.acpi_rules.specs.declared.series.LengthRows.{LengthRows}
use Rattle.acpi_rules.specs.declared.series.LengthRows.TheVariants.{IvhdDevices}

-- the offset behind lists with so many members
abbrev pub sum_in : Sum → List ℕ → ℕ
sum_in s bytes =
    s.base + s.first.times * number_in s.first.of bytes + s.second.times * number_in s.second.of bytes

-- where structures begin in one of this type, if it has any
unfoldable pub start_by : StartRows → ℕ → Option ℕ
start_by starts.DeviceScopes kind =
    if kind == 0
    then Some 16
    else (if kind == 1 then Some 24 else (if kind == 2 || kind == 5 || kind == 6 then Some 8 else None))
start_by starts.IvhdDevices kind =
    if kind == 16 then Some 24 else (if kind == 17 || kind == 64 then Some 40 else None)

-- where structures begin in one with these bytes, if there are any. No structure has 2 ^ 63 bytes, so a start behind
-- that is told as that.
unfoldable pub start_of : Start → List ℕ → Option ℕ
start_of (At offset) bytes = Some (min offset (length bytes))
start_of (Said field least) bytes =
    option_and_then (λ said. if nat_le least said then Some (min said (2 ^ 63)) else None) (reading field bytes)
start_of (Behind s) bytes =
    if nat_le (end_of s.first.of) (length bytes) && nat_le (end_of s.second.of) (length bytes)
    then Some (min (sum_in s bytes) (2 ^ 63))
    else None
start_of (OfType kind starts) bytes =
    option_map (λ start. min start (length bytes)) (option_and_then (start_by starts) (reading kind bytes))

-- how many there are at most in one with these bytes: each has at least one byte
unfoldable pub most_of : Extent → List ℕ → ℕ
most_of ToEnd bytes = length bytes
most_of (Counted count) bytes = number_in count bytes
most_of (Product rows columns) bytes = number_in rows bytes * number_in columns bytes

-- whether a field says how many there are
abbrev pub is_counted : Extent → Bool
is_counted ToEnd = false
is_counted (Counted count) = true
is_counted (Product rows columns) = true

-- ---- one structure, by the bytes that it begins

-- the offset behind its type and its length
abbrev pub head_end : Head → ℕ
head_end head = max (end_of head.kind) (end_of head.length)

-- the length that its head says; 0 if that is not wholly in the bytes
unfoldable pub head_said : Head → List ℕ → ℕ
head_said head left = if nat_le (head_end head) (length left) then number_in head.length left else 0

-- its length by its type; 0 if the type has none, or if the bytes end before it
unfoldable pub length_by : LengthRows → ℕ → List ℕ → ℕ
length_by IvhdDevices kind left =
    if nat_le kind 63
    then 4
    else
    (if nat_le kind 127 then 8 else (if kind == 240 && nat_le 22 (length left) then 22 + slice_index left 21 else 0))

abbrev pub length_of : Types → List ℕ → ℕ
length_of types left = option_map_or (λ kind. length_by types.lengths kind left) (reading types.kind left) 0

-- the length that it says; 0 if it says none
unfoldable pub said_in : Shape → List ℕ → ℕ
said_in (Records size) left = 0
said_in (Headed head) left = head_said head left
said_in (ByType types) left = length_of types left

-- its length; 0 if that is not known or too small
unfoldable pub size_in : Shape → List ℕ → ℕ
size_in (Records size) left = size
size_in (Headed head) left =
    let said = head_said head left in if nat_le head.least said && nat_le (head_end head) said then said else 0
size_in (ByType types) left = length_of types left

-- its type; 0 if it has none
unfoldable pub kind_in : Shape → List ℕ → ℕ
kind_in (Records size) bytes = 0
kind_in (Headed head) bytes = number_in head.kind bytes
kind_in (ByType types) bytes = number_in types.kind bytes

-- the first `size` bytes, if there are that many, and that is at least one
unfoldable pub first_bytes : ℕ → List ℕ → Option (List ℕ)
first_bytes size left = if nat_le 1 size && nat_le size (length left) then Some (take size left) else None

-- the structure that the remaining bytes begin with, if one fits
abbrev pub first_structure : Shape → List ℕ → Option (List ℕ)
first_structure s left = first_bytes (size_in s left) left
