-- The structures that a set has in memory, and those that overlap (ACPI 6.5, 5.2). The RSDP is at p.
use Rattle.std.specs.Prelude.{◌≡◌, ◌≢◌, ℕ, ◌<◌, ◌≤◌, ◌⊎◌, List, length, Some}
use Rattle.acpi_base.specs.Facs.{IsFacs}
use Rattle.acpi_base.specs.Fadt.{facs_address, dsdt_address}
use Rattle.acpi_base.specs.Listed.{fadt_signature, HasListed}
use Rattle.acpi_base.specs.Memory.{Memory, bytes_at}
use Rattle.acpi_base.specs.Root.{IsRoot, IsRootTable, IsSlot}
use Rattle.acpi_base.specs.Rsdp.{revision_of}
use Rattle.acpi_base.specs.Tables.{IsTable, IsSigned}
use Rattle.acpi_rules.specs.Overlaps.{IsOverlap}
use Rattle.acpi_rules.specs.declared.numbered.Numbered.{Numbered}
use Rattle.acpi_rules.specs.declared.overlap.Range.TheVariants as range
use Rattle.acpi_lint.specs.Rules.Slots.{dsdt_signature}

-- ---- each structure: it is at s and has n bytes

-- the RSDP: 20 bytes, or 36 in the extended form, which are present (5.2.5.3)
abbrev pub IsRsdpRange : Memory → ℕ → ℕ → ℕ → Type 0
IsRsdpRange m p s n =
    (s ≡ p)
    × ((head : List ℕ) × (bytes_at m p 20 ≡ Some head)
    × (((revision_of head < 2) × (n ≡ 20))
    ⊎ ((2 ≤ revision_of head) × ((extended : List ℕ) × (bytes_at m p 36 ≡ Some extended)) × (n ≡ 36))))

-- the root table, if it is complete and has its kind's signature (5.2.7, 5.2.8)
abbrev pub IsRootRange : Memory → ℕ → ℕ → ℕ → Type 0
IsRootRange m p s n = (d : ℕ) × (whole : List ℕ) × IsRoot m p s d × IsRootTable m s d whole × (n ≡ length whole)

-- the FACS that these bytes of a FADT name, if it is valid (5.2.10)
abbrev pub IsFacsRange : Memory → List ℕ → ℕ → ℕ → Type 0
IsFacsRange m fadt s n =
    (facs_address fadt ≢ 0) × (s ≡ facs_address fadt) × ((whole : List ℕ) × IsFacs m s whole × (n ≡ length whole))

-- a table, if it is complete (5.2.6)
abbrev pub IsTableRange : Memory → ℕ → ℕ → Type 0
IsTableRange m s n = (header : List ℕ) × (whole : List ℕ) × IsTable m s header whole × (n ≡ length whole)

-- the DSDT that these bytes of a FADT name, if it is complete and has its signature (5.2.11.1)
abbrev pub IsDsdtRange : Memory → List ℕ → ℕ → ℕ → Type 0
IsDsdtRange m fadt s n =
    (dsdt_address fadt ≢ 0) × (s ≡ dsdt_address fadt) × IsSigned m s dsdt_signature × IsTableRange m s n

-- P of the bytes of the set's FADT, at least 116 (5.2.9)
abbrev pub OfNamingFadt : Memory → ℕ → (List ℕ → Type 0) → Type 0
OfNamingFadt m p P = HasListed m p fadt_signature (λ fadt. (116 ≤ length fadt) × P fadt)

-- ---- all of them

-- a structure of kind o is at s and has n bytes: of kind 0 is the RSDP, of 1 the root table, of 2 the FACS, of 3 the DSDT,
-- and of 4 each table that a slot lists
abbrev pub IsStructure : Memory → ℕ → ℕ → ℕ → ℕ → Type 0
IsStructure m p o s n =
    ((o ≡ 0) × IsRsdpRange m p s n)
    ⊎ ((o ≡ 1) × IsRootRange m p s n)
    ⊎ ((o ≡ 2) × OfNamingFadt m p (λ fadt. IsFacsRange m fadt s n))
    ⊎ ((o ≡ 3) × OfNamingFadt m p (λ fadt. IsDsdtRange m fadt s n))
    ⊎ ((o ≡ 4) × ((k : ℕ) × IsSlot m p k s) × IsTableRange m s n)

-- the first structure, by kind, that begins where g does has the numbers of g, whose place is their start
pub record IsFirstStructure (m : Memory) (p : ℕ) (g : Numbered) : Type 0 where
  pub named : g.at ≡ g.number
  pub o : ℕ
  pub here : IsStructure m p o g.number g.value
  pub first : (k c : ℕ) → IsStructure m p k g.number c → o ≤ k

-- two structures overlap: they begin at `at` and at `other`, and `point` is the lowest address that is in two; of structures
-- that begin at one address only the first is compared
abbrev pub IsTablesOverlap : Memory → ℕ → ℕ → ℕ → ℕ → Type 0
IsTablesOverlap m p = IsOverlap range.Count (IsFirstStructure m p)
