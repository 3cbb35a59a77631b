-- Advice on the platform timers of a GTDT (ACPI 6.5, 5.2.25.1, 5.2.25.2). Which ranges of registers there are, a constant of
-- `src/rows/gtdt.rt` says.
use Rattle.std.specs.Prelude.{ℕ, List, map}
use Rattle.acpi_rules.specs.Overlaps.{IsOverlap}
use Rattle.acpi_rules.specs.Rows.{IsGivenByAny, row_said}
use Rattle.acpi_rules.specs.declared.overlap.Range.TheVariants as range
use Rattle.acpi_lint.specs.Rules.Entries.{alone}
use Rattle.acpi_lint.specs.declared.rows.gtdt.TheConstants.{TIMER_RANGES}

-- 219 TimerOverlap: two of these ranges share an address
abbrev pub IsTimerOverlap : List ℕ → ℕ → ℕ → ℕ → Type 0
IsTimerOverlap gtdt = IsOverlap range.Count (IsGivenByAny (map row_said TIMER_RANGES.now) (alone gtdt))
