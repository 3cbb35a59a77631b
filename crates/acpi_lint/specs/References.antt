-- Dangling references of the entries of a PPTT (ACPI 6.5, 5.2.30).
use Rattle.std.specs.Prelude.{◌≡◌, ◌≢◌, ◌↔◌, ℕ, Bool, Option, Some, None, is_some, not, ◌==◌, if◌then◌else◌}
use Rattle.acpi_base.specs.Chains.{Dangles}
use Rattle.acpi_base.specs.Entries.{PlacedEntry}
use Rattle.acpi_base.specs.Pptt.{PpttEntry, PpttContents, resource_of, pptt_type, Says}
use Rattle.acpi_check.specs.Chains.{named_offset}
use Rattle.acpi_check.specs.BitSets.{IsIn}
use Rattle.acpi_check.specs.declared.nodes.Chain.{Chain}
use Rattle.acpi_check.specs.declared.bit_set.BitSet.{BitSet}

-- the offset of an entry that passes the test
abbrev pub offset_where : (PpttEntry → Bool) → PlacedEntry PpttEntry → Option ℕ
offset_where test s = if test s.entry then Some s.offset else None

abbrev pub is_linked : Chain → PpttEntry → Bool
is_linked kind e = is_some (named_offset kind e)

abbrev pub is_resource : PpttEntry → Bool
is_resource e = not (pptt_type e == 0)

-- these are the offsets for which `IsThere` holds
abbrev pub AreOffsets : (ℕ → Type 0) → BitSet → Type 0
AreOffsets IsThere offsets = (o : ℕ) → IsIn offsets o ↔ IsThere o

-- the place of a dangling link
abbrev pub IsDanglingLink : Chain → PpttContents → ℕ → ℕ → ℕ → Type 0
IsDanglingLink kind c at other point = Dangles (Says (named_offset kind) c) at other × (point ≡ 0)

-- the entry refers to an offset that is not among these, and is not 0, which refers to nothing
abbrev pub NamesNoLink : Chain → BitSet → ℕ → PpttEntry → ℕ → ℕ → Type 0
NamesNoLink kind offsets at e other point =
    (named_offset kind e ≡ Some other) × (other ≢ 0) × (¬ IsIn offsets other) × (point ≡ 0)

-- a private resource of the entry is not among these
abbrev pub NamesNoResource : BitSet → ℕ → PpttEntry → ℕ → ℕ → Type 0
NamesNoResource offsets at e other point = (resource_of other e ≡ Some point) × ¬ IsIn offsets point
