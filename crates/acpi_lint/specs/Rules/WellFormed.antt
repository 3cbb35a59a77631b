-- A MADT that is well-formed: its entries fill it, and none has a type that the stages read with another length than its
-- type's. Only of such a one is it known what is not in it.
use Rattle.std.specs.Prelude.{◌≡◌, ℕ, List, Option, None, slice_index}
use Rattle.acpi_base.specs.Entries.{PlacedEntry, StandsWith, IsTypeOf}
use Rattle.acpi_base.specs.Madt as madt

-- there are no bytes after these entries, and none of them has another length than its type's
abbrev pub IsWellFormed : {E : Type 0} → (E → Type 0) → List (PlacedEntry E) → Option ℕ → Type 0
IsWellFormed HasOtherLength entries cut = (cut ≡ None) × ((o : ℕ) → ¬ StandsWith entries o HasOtherLength)

-- the entry has a type that the stages read, and another length than its type's: code 34 (5.2.12)
abbrev pub HasOtherMadtLength : madt.MadtEntry → Type 0
HasOtherMadtLength (madt.Opaque e) = IsTypeOf madt.madt_kinds (slice_index e 0)
HasOtherMadtLength _ = ⊥

-- the MADT has no fault with the codes 33 and 34
abbrev pub IsWellFormedMadt : madt.MadtContents → Type 0
IsWellFormedMadt c = IsWellFormed HasOtherMadtLength c.entries c.cut
