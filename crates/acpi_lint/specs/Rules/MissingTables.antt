-- Advice on tables that another one needs and that are not listed. When a MADT needs a GTDT, a constant of `src/rows/madt.rt` says.
use Rattle.std.specs.Prelude.{◌≡◌, ℕ, List}
use Rattle.acpi_base.specs.Listed.{srat_signature}
use Rattle.acpi_base.specs.Memory.{Memory}
use Rattle.acpi_base.specs.Root.{IsSlot}
use Rattle.acpi_base.specs.Tables.{IsSigned}
use Rattle.acpi_rules.specs.Rows.{IsBroken, row_said}
use Rattle.acpi_lint.specs.FurtherTables.{further_signature}
use Rattle.acpi_lint.specs.Rules.Entries.{alone}
use Rattle.acpi_lint.specs.declared.further_table.FurtherTable.TheVariants as further
use Rattle.acpi_lint.specs.declared.rows.madt.TheConstants.{NEEDS_GTDT}

-- no slot of the root table that the RSDP at p names lists a header with this signature
abbrev pub IsUnlisted : Memory → ℕ → List ℕ → Type 0
IsUnlisted m p signature = (k a : ℕ) → IsSlot m p k a → ¬ IsSigned m a signature

-- 207 HmatAlone: no SRAT, where there is an HMAT (ACPI 6.5, 5.2.28)
abbrev pub IsHmatAlone : Memory → ℕ → ℕ → ℕ → ℕ → Type 0
IsHmatAlone m p at other point = IsUnlisted m p srat_signature × ((at ≡ 0) × (other ≡ 0) × (point ≡ 0))

-- 209 NoGtdt: a GICC without a GTDT (ACPI 6.5, 5.2.25)
abbrev pub IsNoGtdt : Memory → ℕ → List ℕ → ℕ → ℕ → ℕ → Type 0
IsNoGtdt m p madt at other point =
    IsUnlisted m p (further_signature further.Gtdt) × IsBroken (row_said NEEDS_GTDT) (alone madt) at other point
