-- Examples of advice on the redistributors of a GIC: the rule broken, and kept (ACPI 6.5, 5.2.12.17).
use Rattle.std.specs.Prelude.{ℕ, List, [], ◌∷◌, ◌++◌}
use Rattle.acpi_base.specs.Number.{number_bytes}
use Rattle.acpi_lint.specs.Rules.GicAdvice.{IsGicrTooSmall}
use Rattle.acpi_examples.specs.Advice.{IsKept}
use Rattle.acpi_examples.specs.Rows.{gicc, gicd, gicr, madt, patched, zeros}

-- a range of redistributors of this length, and an entry of its type of a byte more
abbrev pub gicr_of : ℕ → List ℕ
gicr_of size = patched 12 (number_bytes 4 size) (gicr 0 0)

abbrev pub long_gicr : List ℕ
long_gicr = patched 1 (17 ∷ []) (gicr 0 0) ++ 0 ∷ []

-- a distributor of this version, a CPU interface that is Enabled, and these entries
abbrev pub gic : ℕ → List (List ℕ) → List ℕ
gic version more = madt (gicd version ∷ gicc 0 1 zeros ∷ more)

-- a range of a byte less than a redistributor, and two ranges of half of one; not so if it has just as many bytes, if an entry of
-- their type has another length, or with a distributor of version 2
pub record IsGicAdvised : Type 0 where
  pub few : IsGicrTooSmall (gic 3 (gicr_of 0x1ffff ∷ [])) 0x90 0 1
  pub halves : IsGicrTooSmall (gic 4 (gicr_of 0x10000 ∷ gicr_of 0x10000 ∷ [])) 0x90 0 1
  pub enough : IsKept (IsGicrTooSmall (gic 3 (gicr_of 0x20000 ∷ [])))
  pub other : IsKept (IsGicrTooSmall (gic 3 (gicr_of 0x10000 ∷ long_gicr ∷ [])))
  pub older : IsKept (IsGicrTooSmall (gic 2 (gicr_of 0x10000 ∷ [])))
