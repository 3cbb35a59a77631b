-- Places of findings: the lowest, the first of a table's entries, and those of the FADT, the FACS and the SLIT.
use Rattle.std.specs.Prelude.{◌≡◌, ℕ, List, [], ◌∷◌, Option, Some, None, ◌<◌, ◌≤◌, ◌⊎◌, length}
use Rattle.acpi_base.specs.Entries.{PlacedEntry, AreUnused}
use Rattle.acpi_base.specs.Fadt.{FadtTableFault}
use Rattle.acpi_base.specs.declared.code.Code.{Code}
use Rattle.acpi_base.specs.Facs.{NamedFacsFault}
use Rattle.acpi_base.specs.Memory.{Memory}
use Rattle.acpi_base.specs.Slit.{SlitContents}
use Rattle.acpi_lint.specs.Rules.SlitAdvice.{IsSlitDiffers, IsRemoteAsLocal}
use Rattle.acpi_read.specs.EntryTables.{EntryTable}
use Rattle.acpi_rules.specs.declared.place.Place.{Place}
use Rattle.acpi_lint.specs.declared.passes.SoughtEntry.{SoughtEntry}
use Rattle.acpi_lint.specs.declared.passes.SoughtEntry.TheVariants as sought

-- ---- what is picked from the entries of a table: the first place

-- the result of `Gives` for the first of these for which it gives something, or nothing if it gives nothing for any
unfoldable pub PicksFirst : {S T : Type 0} → (S → Option T → Type 0) → List S → Option T → Type 0
PicksFirst Gives [] found = found ≡ None
PicksFirst {S} {T} Gives (s ∷ left) None = Gives s None × PicksFirst Gives left None
PicksFirst {S} {T} Gives (s ∷ left) (Some value) =
    Gives s (Some value) ⊎ (Gives s None × PicksFirst Gives left (Some value))

-- the entry has no such fault, or this is the lowest place of those at its offset: `IsFault o e other point` says
-- that an entry e at o is at fault with these two numbers
abbrev pub FindsOwn : {E : Type 0} → (ℕ → E → ℕ → ℕ → Type 0) → PlacedEntry E → Option Place → Type 0
FindsOwn IsFault s None = (other point : ℕ) → ¬ IsFault s.offset s.entry other point
FindsOwn IsFault s (Some p) =
    (p.at ≡ s.offset) × IsFault s.offset s.entry p.other p.point
    × ((other point : ℕ) → IsFault s.offset s.entry other point → (p.other < other) ⊎ ((p.other ≡ other) × (p.point ≤ point)))

-- ---- the entries that are looked for in a table

-- the entry, which is at `at`, is looked for
abbrev pub IsSoughtEntry : {E : Type 0} → EntryTable E → SoughtEntry → ℕ → E → ℕ → ℕ → Type 0
IsSoughtEntry t (sought.Own code) at e other point = t.IsOwn code e × AreUnused other point
IsSoughtEntry t sought.Single at e other point = t.IsSingle e × AreUnused other point
IsSoughtEntry t (sought.SingleAfter first) at e other point = t.IsSingle e × (first < at) × (other ≡ first) × (point ≡ 0)

-- ---- places of a FADT's faults and of its fields that disagree (ACPI 6.5, 5.2.9)

-- the table has the fault with this code, which is reported at the offset `at`
abbrev pub IsFadtFault : List ℕ → Code → ℕ → ℕ → ℕ → Type 0
IsFadtFault whole fault at other point = FadtTableFault whole fault at × AreUnused other point

-- ---- places of the faults of the FACS that a FADT names (ACPI 6.5, 5.2.10)

-- the FACS that these bytes of a FADT name has the fault with this code, which is reported at `at`
abbrev pub IsFacsFault : Memory → List ℕ → Code → ℕ → ℕ → ℕ → Type 0
IsFacsFault m fadt fault at other point = NamedFacsFault m fadt fault at × AreUnused other point

-- the same, if the FADT has at least 116 bytes
abbrev pub IsFacsFaultOf : Memory → List ℕ → Code → ℕ → ℕ → ℕ → Type 0
IsFacsFaultOf m fadt fault at other point = (116 ≤ length fadt) × IsFacsFault m fadt fault at other point

-- ---- places of distances of a SLIT that differ from those in the other direction (ACPI 6.5, 5.2.17)

-- a distance from this locality differs
abbrev pub IsRowDiffers : SlitContents → ℕ → ℕ → ℕ → ℕ → Type 0
IsRowDiffers c i at other point = (differs : IsSlitDiffers c at other point) × (differs.i ≡ i)

-- a distance from this locality is that of a locality from itself
abbrev pub IsRowLocal : SlitContents → ℕ → ℕ → ℕ → ℕ → Type 0
IsRowLocal c i at other point = IsRemoteAsLocal c at other point × (other ≡ i)
