-- What is found in the headers of listed tables (ACPI 6.5, 5.2.6).
use Rattle.std.specs.Prelude.{ℕ, ◌≤◌, if◌then◌else◌, List, Option, Some, None}
use Rattle.acpi_lint.specs.Rules.HeaderAdvice.{IsOddField, is_once}
use Rattle.acpi_lint.specs.declared.listed_slots.Slot.{Slot}
use Rattle.acpi_rules.specs.declared.numbered.Numbered.{Numbered}

-- no text of a header is odd, or the first one that is is at this offset
abbrev pub IsFirstOdd : List ℕ → Option ℕ → Type 0
IsFirstOdd header None = (offset : ℕ) → ¬ IsOddField header offset
IsFirstOdd header (Some first) = IsOddField header first × ((offset : ℕ) → IsOddField header offset → first ≤ offset)

-- the signature of a header that a slot lists, if a set has one such table: the slot's address, at its number
abbrev pub once_numbered : Slot → Option Numbered
once_numbered s =
    if is_once s.table.signature
    then Some (record { number = s.table.signature; at = s.number; value = s.table.address })
    else None
