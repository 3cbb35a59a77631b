-- The rules that are rows: which tables they are about, and when a set breaks one.
use Rattle.std.specs.Prelude.{◌≡◌, ℕ, ◌≤◌, List, [], ◌∷◌, length, map, Contains, Option, Some, None}
use Rattle.acpi_base.specs.Listed.{HasListed}
use Rattle.acpi_base.specs.Memory.{Memory}
use Rattle.acpi_base.specs.Policy.{PolicyValue}
use Rattle.acpi_base.specs.declared.table_kind.TableKind.TheVariants as kind
use Rattle.acpi_rules.specs.Rows.{Row, BorRow, IsBroken, row_value, rows_said}
use Rattle.acpi_rules.specs.Terms.{TwoTables}
use Rattle.acpi_lint.specs.FurtherTables.{row_length, row_signature}
use Rattle.acpi_lint.specs.declared.further_table.FurtherTable.TheVariants as further
use Rattle.acpi_lint.specs.declared.further_table.RowTable.{RowTable}
use Rattle.acpi_lint.specs.declared.further_table.RowTable.TheVariants.{Further, Kind}
use Rattle.acpi_lint.specs.declared.rows.dmar.TheConstants.{DMAR, DMAR_SCOPES, DMAR_WITH_SRAT, MADT_WITH_DMAR}
use Rattle.acpi_lint.specs.declared.rows.fadt.TheConstants.{FADT, FADT_FURTHER, FADT_WITH_MADT}
use Rattle.acpi_lint.specs.declared.rows.gtdt.TheConstants.{GTDT, GTDT_WITH_MADT}
use Rattle.acpi_lint.specs.declared.rows.hmat.TheConstants.{HMAT, HMAT_WITH_SRAT}
use Rattle.acpi_lint.specs.declared.rows.hpet.TheConstants.{HPET}
use Rattle.acpi_lint.specs.declared.rows.ivrs.TheConstants.{DEVICES, IVRS, MADT_WITH_IVRS}
use Rattle.acpi_lint.specs.declared.rows.madt.TheConstants.{GIC, MADT, MADT_FURTHER, MADT_WITH_FADT, MADT_WITH_PPTT, MADT_WITH_SRAT}
use Rattle.acpi_lint.specs.declared.rows.mcfg.TheConstants.{MCFG}
use Rattle.acpi_lint.specs.declared.rows.pptt.TheConstants.{PPTT, PPTT_WITH_MADT}
use Rattle.acpi_lint.specs.declared.rows.spcr.TheConstants.{SPCR, SPCR_WITH_MADT}
use Rattle.acpi_lint.specs.declared.rows.srat.TheConstants.{SRAT, SRAT_WITH_MADT, SRAT_WITH_SLIT}
use denote.Ref.{Bor}

-- rules on a table, or on a table with another one
pub record RowGroup : Type 0 where
  pub table : RowTable
  pub other : Option RowTable
  pub rows : List Row

abbrev pub group_value : RowTable × Option RowTable × Bor (List BorRow) → RowGroup
group_value g = record { table = g.0; other = g.1; rows = map row_value g.2.now }

-- the rows on each table, on the parts of a GIC in the MADT, and on one table with another
unfoldable pub fadt_group : RowGroup
fadt_group = record { table = Kind kind.Fadt; other = None; rows = rows_said FADT }

unfoldable pub fadt_further_group : RowGroup
fadt_further_group = record { table = Kind kind.Fadt; other = None; rows = rows_said FADT_FURTHER }

unfoldable pub fadt_with_madt_group : RowGroup
fadt_with_madt_group = record { table = Kind kind.Fadt; other = Some (Kind kind.Madt); rows = rows_said FADT_WITH_MADT }

unfoldable pub madt_group : RowGroup
madt_group = record { table = Kind kind.Madt; other = None; rows = rows_said MADT }

unfoldable pub madt_further_group : RowGroup
madt_further_group = record { table = Kind kind.Madt; other = None; rows = rows_said MADT_FURTHER }

unfoldable pub gic_group : RowGroup
gic_group = record { table = Kind kind.Madt; other = None; rows = rows_said GIC }

unfoldable pub madt_with_fadt_group : RowGroup
madt_with_fadt_group = record { table = Kind kind.Madt; other = Some (Kind kind.Fadt); rows = rows_said MADT_WITH_FADT }

unfoldable pub madt_with_srat_group : RowGroup
madt_with_srat_group = record { table = Kind kind.Madt; other = Some (Kind kind.Srat); rows = rows_said MADT_WITH_SRAT }

unfoldable pub madt_with_pptt_group : RowGroup
madt_with_pptt_group = record { table = Kind kind.Madt; other = Some (Kind kind.Pptt); rows = rows_said MADT_WITH_PPTT }

unfoldable pub srat_group : RowGroup
srat_group = record { table = Kind kind.Srat; other = None; rows = rows_said SRAT }

unfoldable pub srat_with_madt_group : RowGroup
srat_with_madt_group = record { table = Kind kind.Srat; other = Some (Kind kind.Madt); rows = rows_said SRAT_WITH_MADT }

unfoldable pub srat_with_slit_group : RowGroup
srat_with_slit_group = record { table = Kind kind.Srat; other = Some (Kind kind.Slit); rows = rows_said SRAT_WITH_SLIT }

unfoldable pub pptt_group : RowGroup
pptt_group = record { table = Kind kind.Pptt; other = None; rows = rows_said PPTT }

unfoldable pub pptt_with_madt_group : RowGroup
pptt_with_madt_group = record { table = Kind kind.Pptt; other = Some (Kind kind.Madt); rows = rows_said PPTT_WITH_MADT }

unfoldable pub mcfg_group : RowGroup
mcfg_group = record { table = Further further.Mcfg; other = None; rows = rows_said MCFG }

unfoldable pub hpet_group : RowGroup
hpet_group = record { table = Further further.Hpet; other = None; rows = rows_said HPET }

unfoldable pub spcr_group : RowGroup
spcr_group = record { table = Further further.Spcr; other = None; rows = rows_said SPCR }

unfoldable pub spcr_with_madt_group : RowGroup
spcr_with_madt_group = record { table = Further further.Spcr; other = Some (Kind kind.Madt); rows = rows_said SPCR_WITH_MADT }

unfoldable pub hmat_group : RowGroup
hmat_group = record { table = Further further.Hmat; other = None; rows = rows_said HMAT }

unfoldable pub hmat_with_srat_group : RowGroup
hmat_with_srat_group = record { table = Further further.Hmat; other = Some (Kind kind.Srat); rows = rows_said HMAT_WITH_SRAT }

unfoldable pub gtdt_group : RowGroup
gtdt_group = record { table = Further further.Gtdt; other = None; rows = rows_said GTDT }

unfoldable pub gtdt_with_madt_group : RowGroup
gtdt_with_madt_group = record { table = Further further.Gtdt; other = Some (Kind kind.Madt); rows = rows_said GTDT_WITH_MADT }

unfoldable pub dmar_group : RowGroup
dmar_group = record { table = Further further.Dmar; other = None; rows = rows_said DMAR }

unfoldable pub dmar_scopes_group : RowGroup
dmar_scopes_group = record { table = Further further.Dmar; other = None; rows = rows_said DMAR_SCOPES }

unfoldable pub dmar_with_srat_group : RowGroup
dmar_with_srat_group = record { table = Further further.Dmar; other = Some (Kind kind.Srat); rows = rows_said DMAR_WITH_SRAT }

unfoldable pub madt_with_dmar_group : RowGroup
madt_with_dmar_group = record { table = Kind kind.Madt; other = Some (Further further.Dmar); rows = rows_said MADT_WITH_DMAR }

unfoldable pub ivrs_group : RowGroup
ivrs_group = record { table = Further further.Ivrs; other = None; rows = rows_said IVRS }

unfoldable pub devices_group : RowGroup
devices_group = record { table = Further further.Ivrs; other = None; rows = rows_said DEVICES }

unfoldable pub madt_with_ivrs_group : RowGroup
madt_with_ivrs_group = record { table = Kind kind.Madt; other = Some (Further further.Ivrs); rows = rows_said MADT_WITH_IVRS }

-- all of them
abbrev pub row_groups : List RowGroup
row_groups =
    fadt_group ∷ fadt_further_group ∷ fadt_with_madt_group ∷ madt_group ∷ madt_further_group ∷ gic_group
    ∷ madt_with_fadt_group ∷ madt_with_srat_group ∷ madt_with_pptt_group ∷ srat_group
    ∷ srat_with_madt_group ∷ srat_with_slit_group ∷ pptt_group ∷ pptt_with_madt_group ∷ mcfg_group ∷ hpet_group
    ∷ spcr_group ∷ spcr_with_madt_group ∷ hmat_group ∷ hmat_with_srat_group ∷ gtdt_group ∷ gtdt_with_madt_group
    ∷ dmar_group ∷ dmar_scopes_group ∷ dmar_with_srat_group ∷ madt_with_dmar_group ∷ ivrs_group ∷ devices_group
    ∷ madt_with_ivrs_group ∷ []

-- ---- the tables: the first listed one with a signature, if it is complete, whatever its checksum, and long enough for its fields

-- P of the bytes of one
abbrev pub OfTable : RowTable → Memory → PolicyValue → (List ℕ → Type 0) → Type 0
OfTable table m q P = HasListed m q.rsdp (row_signature table) (λ whole. (row_length table ≤ length whole) × P whole)

-- P of the bytes of two, or of one alone
abbrev pub OfTables : RowTable → Option RowTable → Memory → PolicyValue → (TwoTables → Type 0) → Type 0
OfTables table None m q P = OfTable table m q (λ own. P (record { table = own; other = [] }))
OfTables table (Some beside) m q P =
    OfTable table m q (λ own. OfTable beside m q (λ other. P (record { table = own; other = other })))

-- ---- rules that are broken

-- the tables break a row with this number
abbrev pub BreaksRow : TwoTables → Row → ℕ → ℕ → ℕ → ℕ → Type 0
BreaksRow t row number at other point = (row.number ≡ number) × IsBroken row t at other point

-- `Is` holds of one of these
abbrev pub OfAny : {X : Type 0} → (X → ℕ → ℕ → ℕ → ℕ → Type 0) → List X → ℕ → ℕ → ℕ → ℕ → Type 0
OfAny {X} Is xs number at other point = (x : X) × Contains xs x × Is x number at other point

-- the set breaks a row of a group with this number
abbrev pub BreaksGroup : Memory → PolicyValue → RowGroup → ℕ → ℕ → ℕ → ℕ → Type 0
BreaksGroup m q g number at other point =
    OfTables g.table g.other m q (λ t. OfAny (BreaksRow t) g.rows number at other point)

-- the set breaks a row with this number
abbrev pub IsRowBroken : ℕ → Memory → PolicyValue → ℕ → ℕ → ℕ → Type 0
IsRowBroken number m q at other point = OfAny (BreaksGroup m q) row_groups number at other point
