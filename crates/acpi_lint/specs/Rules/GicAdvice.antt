-- Advice on the redistributors of a GIC, from the bytes of a MADT (ACPI 6.5, 5.2.12.17). Which entries count, and when all are
-- known, three constants of `src/rows/madt.rt` say.
use Rattle.std.specs.Prelude.{◌≡◌, ℕ, ◌/◌, ◌<◌, List, length, map, sum_by, true, Some}
use Rattle.std.specs.List.{list_all, slice_get}
use Rattle.acpi_rules.specs.Rows.{guard_holds, guard_said}
use Rattle.acpi_rules.specs.declared.numbered.Numbered.{Numbered}
use Rattle.acpi_lint.specs.Rules.Entries.{alone, entries_give}
use Rattle.acpi_lint.specs.declared.rows.madt.TheConstants.{GICR_LENGTHS, GICRS_ARE_KNOWN, USABLE_GICCS}
use Rattle.acpi_lint.specs.declared.rows.madt_fields.TheConstants.{MADT_ENTRIES}

-- how many redistributors all ranges have: one takes 128 KiB
abbrev pub redistributor_count : List ℕ → ℕ
redistributor_count madt = sum_by (λ g. g.number / 0x20000) (entries_give MADT_ENTRIES GICR_LENGTHS madt)

-- how many CPU interfaces are usable
abbrev pub interface_count : List ℕ → ℕ
interface_count madt = length (entries_give MADT_ENTRIES USABLE_GICCS madt)

-- the ranges, the first at `at`, have `other` redistributors, fewer than `point`, the number of usable CPU interfaces; all ranges
-- are known
pub record IsGicrTooSmall (madt : List ℕ) (at other point : ℕ) : Type 0 where
  pub known : list_all (guard_holds (alone madt)) (map guard_said GICRS_ARE_KNOWN.now) ≡ true
  pub first : (g : Numbered) × (slice_get (entries_give MADT_ENTRIES GICR_LENGTHS madt) 0 ≡ Some g) × (g.at ≡ at)
  pub count : other ≡ redistributor_count madt
  pub due : point ≡ interface_count madt
  pub fewer : other < point
