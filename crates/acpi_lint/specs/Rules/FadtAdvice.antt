-- Advice on the FADT (ACPI 6.5, 5.2.9). Offsets are from its start; `at` is a field's.
use Rattle.std.specs.Prelude.{◌≡◌, ℕ, ◌≤◌, ◌⊎◌, List, false}
use Rattle.acpi_base.specs.Number.{field}
use Rattle.acpi_base.specs.Across.{HasIoApic, IsServed}
use Rattle.acpi_base.specs.Entries.{Stands, StandsWith}
use Rattle.acpi_base.specs.Fadt.{is_reduced}
use Rattle.acpi_base.specs.Madt.{MadtEntry, Override, OverrideValue, MadtContents}
use Rattle.acpi_base.specs.Policy.{PolicyValue}
use Rattle.acpi_lint.specs.Rules.WellFormed.{IsWellFormedMadt}

-- ---- the interrupt of the FADT among those of the MADT

-- the entry is an override of the ISA interrupt `source` (5.2.12.5)
abbrev pub IsOverrideOf : ℕ → MadtEntry → Type 0
IsOverrideOf source (Override v) = (v.bus ≡ 0) × (v.source ≡ source)
IsOverrideOf source _ = ⊥

-- the first override of the ISA interrupt gives it the interrupt number g
pub record IsFirstOverride (c : MadtContents) (source g : ℕ) : Type 0 where
  pub at : ℕ
  pub v : OverrideValue
  pub stands : Stands c.entries at (Override v)
  pub of : IsOverrideOf source (Override v)
  pub is : v.gsi ≡ g
  pub first : (p : ℕ) → StandsWith c.entries p (IsOverrideOf source) → at ≤ p

-- the interrupt number of an ISA interrupt: that of its first override, or else its own
abbrev pub IsGsiOf : MadtContents → ℕ → ℕ → Type 0
IsGsiOf c source g =
    IsFirstOverride c source g ⊎ (((p : ℕ) → ¬ StandsWith c.entries p (IsOverrideOf source)) × (g ≡ source))

-- no I/O APIC serves the interrupt number of SCI_INT, at 46, though there are some; applies if the hardware is not reduced, and
-- the MADT is well-formed
pub record IsSciNowhere (q : PolicyValue) (whole : List ℕ) (c : MadtContents) (at other point : ℕ) : Type 0 where
  pub not_reduced : is_reduced whole ≡ false
  pub well_formed : IsWellFormedMadt c
  pub place : (at ≡ 46) × (other ≡ 0)
  pub number : IsGsiOf c (field whole 46 2) point
  pub some : HasIoApic c
  pub nowhere : ¬ IsServed q c point
