-- What a MADT says about an interrupt number (ACPI 6.5, 5.2.12.3, 5.2.12.5).
use Rattle.std.specs.Prelude.{◌≡◌, ℕ, ◌+◌, ◌<◌, ◌≤◌, List, false}
use Rattle.acpi_base.specs.Across.{HasIoApic, IsServed}
use Rattle.acpi_base.specs.Entries.{StandsWith}
use Rattle.acpi_base.specs.Fadt.{is_reduced}
use Rattle.acpi_base.specs.Madt.{MadtEntry, IoApic, Override, MadtContents}
use Rattle.acpi_base.specs.Policy.{PolicyValue, inputs_of}
use Rattle.acpi_lint.specs.Rules.WellFormed.{IsWellFormedMadt}

-- the entry, which is at `at`, is an override of this ISA interrupt that gives it the interrupt number `other`
abbrev pub IsOwnOverride : ℕ → ℕ → MadtEntry → ℕ → ℕ → Type 0
IsOwnOverride source at (Override v) other point =
    (v.bus ≡ 0) × (v.source ≡ source) × (v.gsi ≡ other) × (point ≡ 0)
IsOwnOverride source at _ other point = ⊥

-- there is such an entry at `at`
abbrev pub IsOverrideAt : ℕ → MadtContents → ℕ → ℕ → ℕ → Type 0
IsOverrideAt source c at other point = StandsWith c.entries at (λ e. IsOwnOverride source at e other point)

-- the entry is an I/O APIC that serves the interrupt number g
abbrev pub ServesNumber : PolicyValue → ℕ → MadtEntry → Type 0
ServesNumber q g (IoApic v) = (v.gsi_base ≤ g) × (g < v.gsi_base + inputs_of q v.address)
ServesNumber q g _ = ⊥

-- by this FADT the hardware is not reduced, and no I/O APIC serves g, although there are some
abbrev pub IsUnserved : PolicyValue → List ℕ → MadtContents → ℕ → Type 0
IsUnserved q whole c g = (is_reduced whole ≡ false) × HasIoApic c × (¬ IsServed q c g)

-- the same, and the MADT is well-formed
abbrev pub IsNowhere : PolicyValue → List ℕ → MadtContents → ℕ → Type 0
IsNowhere q whole c g = IsUnserved q whole c g × IsWellFormedMadt c
