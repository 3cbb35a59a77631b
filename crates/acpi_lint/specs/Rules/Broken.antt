-- When each rule of advice is broken. What `at`, `other` and `point` mean is in the file of each table.
use Rattle.std.specs.Prelude.{ℕ, ◌≤◌, ◌⊎◌, List}
use Rattle.acpi_base.specs.Memory.{Memory}
use Rattle.acpi_base.specs.Policy.{PolicyValue}
use Rattle.acpi_base.specs.Contents.{HasMadt, HasSlit}
use Rattle.acpi_base.specs.Madt.{MadtContents}
use Rattle.acpi_base.specs.Slit.{SlitContents, HasSlitSize}
use Rattle.acpi_base.specs.declared.table_kind.TableKind.TheVariants as kind
use Rattle.acpi_lint.specs.Rules.GicAdvice.{IsGicrTooSmall}
use Rattle.acpi_lint.specs.Rules.Slots.{IsListedTwice, IsSecondTable, IsListedApart}
use Rattle.acpi_lint.specs.Rules.FadtAdvice.{IsSciNowhere}
use Rattle.acpi_lint.specs.Rules.FadtBlocks.{IsPortPastEnd}
use Rattle.acpi_lint.specs.Rules.SlitAdvice.{IsSlitDiffers, IsRemoteAsLocal}
use Rattle.acpi_lint.specs.Rules.Ports.{IsPortsOverlap}
use Rattle.acpi_lint.specs.Rules.Structures.{OfNamingFadt, IsTablesOverlap}
use Rattle.acpi_lint.specs.Rules.CacheTypes.{IsSameCacheType}
use Rattle.acpi_lint.specs.Rules.Hierarchy.{IsNoPackage}
use Rattle.acpi_lint.specs.Rules.McfgAdvice.{IsEcamOverlap}
use Rattle.acpi_lint.specs.Rules.MissingTables.{IsHmatAlone, IsNoGtdt}
use Rattle.acpi_lint.specs.Rules.SpcrAdvice.{IsGsiUnserved, IsNameOpen}
use Rattle.acpi_lint.specs.Rules.TimerAdvice.{IsTimerOverlap}
use Rattle.acpi_lint.specs.Rules.RootAdvice.{IsNullSlot, IsRootHeader, IsRsdtDiffers}
use Rattle.acpi_lint.specs.Rules.RsdpAdvice.{IsRsdpReserved, IsRsdpText}
use Rattle.acpi_lint.specs.Rules.HeaderAdvice.{IsHeaderText, IsSecondOther}
use Rattle.acpi_lint.specs.Rules.NamedAdvice.{IsDsdtText, IsDsdtWrong, IsFacsReserved, IsS4BiosDiffers}
use Rattle.acpi_lint.specs.RowGroups.{IsRowBroken, OfTable}
use Rattle.acpi_lint.specs.Rules.Rows.{rule_number}
use Rattle.acpi_lint.specs.declared.further_table.FurtherTable.TheVariants as further
use Rattle.acpi_lint.specs.declared.further_table.RowTable.TheVariants.{Further, Kind}
use Rattle.acpi_lint.specs.declared.rule.Rule.{Rule}
use Rattle.acpi_lint.specs.declared.rule.Rule.TheVariants as rule

-- ---- the tables that advice is about: the first listed one of its kind, if it is complete, whatever its checksum, and long
-- enough for its fields

-- P of the FADT's bytes, at least 116 (5.2.9)
abbrev pub OfFadt : Memory → PolicyValue → (List ℕ → Type 0) → Type 0
OfFadt m q P = OfNamingFadt m q.rsdp P

-- P of what the MADT says, of at least 44 bytes (5.2.12)
abbrev pub OfMadt : Memory → PolicyValue → (MadtContents → Type 0) → Type 0
OfMadt m q P = HasMadt m q (λ madt. (44 ≤ madt.size) × P madt)

-- P of what the SLIT says, which has a cell for each pair of localities and nothing else (5.2.17)
abbrev pub OfSlit : Memory → PolicyValue → (SlitContents → Type 0) → Type 0
OfSlit m q P = HasSlit m q (λ slit. HasSlitSize slit × P slit)

-- ---- the rules

-- what a rule that is not a row, or is one in part, looks at, and the relation that says with which numbers it is broken there
pub data Condition : Type 1 where
  Rows : Condition  -- none: the rule is a row
  Slots : (Memory → ℕ → ℕ → ℕ → ℕ → Type 0) → Condition  -- the slots of the root table that the RSDP at an address names
  Set : (Memory → ℕ → ℕ → ℕ → ℕ → Type 0) → Condition  -- the memory, from the RSDP at an address on
  Fadt : (List ℕ → ℕ → ℕ → ℕ → Type 0) → Condition
  FadtMemory : (Memory → List ℕ → ℕ → ℕ → ℕ → Type 0) → Condition  -- what the FADT names in memory
  FadtMadt : (PolicyValue → List ℕ → MadtContents → ℕ → ℕ → ℕ → Type 0) → Condition
  Madt : (List ℕ → ℕ → ℕ → ℕ → Type 0) → Condition  -- the bytes of the MADT
  MadtSlots : (Memory → ℕ → List ℕ → ℕ → ℕ → ℕ → Type 0) → Condition  -- its bytes, and the slots of the root table
  Slit : (SlitContents → ℕ → ℕ → ℕ → Type 0) → Condition
  Pptt : (List ℕ → ℕ → ℕ → ℕ → Type 0) → Condition  -- the bytes of the PPTT
  Mcfg : (List ℕ → ℕ → ℕ → ℕ → Type 0) → Condition
  HmatSlots : (Memory → ℕ → ℕ → ℕ → ℕ → Type 0) → Condition  -- that there is one, and the slots of the root table
  Gtdt : (List ℕ → ℕ → ℕ → ℕ → Type 0) → Condition
  Spcr : (List ℕ → ℕ → ℕ → ℕ → Type 0) → Condition
  SpcrMadt : (PolicyValue → List ℕ → MadtContents → ℕ → ℕ → ℕ → Type 0) → Condition

-- the condition of each rule
abbrev pub condition : Rule → Condition
condition rule.ListedTwice = Slots IsListedTwice
condition rule.SecondTable = Slots IsSecondTable
condition rule.ListedApart = Slots IsListedApart
condition rule.SciNowhere = FadtMadt IsSciNowhere
condition rule.SlitDiffers = Slit IsSlitDiffers
condition rule.NullSlot = Slots IsNullSlot
condition rule.RsdtDiffers = Set IsRsdtDiffers
condition rule.TablesOverlap = Set IsTablesOverlap
condition rule.DsdtWrong = FadtMemory IsDsdtWrong
condition rule.PortsOverlap = Fadt IsPortsOverlap
condition rule.PortPastEnd = Fadt IsPortPastEnd
condition rule.FacsReserved = FadtMemory IsFacsReserved
condition rule.RsdpReserved = Set IsRsdpReserved
condition rule.HeaderText = Slots IsHeaderText
condition rule.SecondOther = Slots IsSecondOther
condition rule.GicrTooSmall = Madt IsGicrTooSmall
condition rule.RemoteAsLocal = Slit IsRemoteAsLocal
condition rule.NoPackage = Pptt IsNoPackage
condition rule.RsdpText = Set IsRsdpText
condition rule.RootHeader = Slots IsRootHeader
condition rule.DsdtText = FadtMemory IsDsdtText
condition rule.S4BiosDiffers = FadtMemory IsS4BiosDiffers
condition rule.SameCacheType = Pptt IsSameCacheType
condition rule.EcamOverlap = Mcfg IsEcamOverlap
condition rule.HmatAlone = HmatSlots IsHmatAlone
condition rule.NoGtdt = MadtSlots IsNoGtdt
condition rule.TimerOverlap = Gtdt IsTimerOverlap
condition rule.SpcrName = Spcr IsNameOpen
condition rule.SpcrGsi = SpcrMadt IsGsiUnserved
condition _ = Rows

-- the condition holds in a set for these numbers
abbrev pub HoldsAt : Condition → Memory → PolicyValue → ℕ → ℕ → ℕ → Type 0
HoldsAt Rows m q at other point = ⊥
HoldsAt (Slots P) m q at other point = P m q.rsdp at other point
HoldsAt (Set P) m q at other point = P m q.rsdp at other point
HoldsAt (Fadt P) m q at other point = OfFadt m q (λ fadt. P fadt at other point)
HoldsAt (FadtMemory P) m q at other point = OfFadt m q (λ fadt. P m fadt at other point)
HoldsAt (FadtMadt P) m q at other point = OfFadt m q (λ fadt. OfMadt m q (λ madt. P q fadt madt at other point))
HoldsAt (Madt P) m q at other point = OfTable (Kind kind.Madt) m q (λ madt. P madt at other point)
HoldsAt (MadtSlots P) m q at other point = OfTable (Kind kind.Madt) m q (λ madt. P m q.rsdp madt at other point)
HoldsAt (Slit P) m q at other point = OfSlit m q (λ slit. P slit at other point)
HoldsAt (Pptt P) m q at other point = OfTable (Kind kind.Pptt) m q (λ pptt. P pptt at other point)
HoldsAt (Mcfg P) m q at other point = OfTable (Further further.Mcfg) m q (λ mcfg. P mcfg at other point)
HoldsAt (HmatSlots P) m q at other point = OfTable (Further further.Hmat) m q (λ hmat. P m q.rsdp at other point)
HoldsAt (Gtdt P) m q at other point = OfTable (Further further.Gtdt) m q (λ gtdt. P gtdt at other point)
HoldsAt (Spcr P) m q at other point = OfTable (Further further.Spcr) m q (λ spcr. P spcr at other point)
HoldsAt (SpcrMadt P) m q at other point =
    OfTable (Further further.Spcr) m q (λ spcr. OfMadt m q (λ madt. P q spcr madt at other point))

-- the set breaks a rule that is not a row
abbrev pub IsBrokenByHand : Rule → Memory → PolicyValue → ℕ → ℕ → ℕ → Type 0
IsBrokenByHand r = HoldsAt (condition r)

-- the rule is broken at these numbers
abbrev pub IsBroken : Rule → Memory → PolicyValue → ℕ → ℕ → ℕ → Type 0
IsBroken r m q at other point = IsBrokenByHand r m q at other point ⊎ IsRowBroken (rule_number r) m q at other point
