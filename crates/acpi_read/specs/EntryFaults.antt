-- The MADT, the SRAT and the PPTT as tables of entries: their codes, and the code of the lowest fault that an entry can
-- have by itself.
use Rattle.std.specs.Prelude.{Some, None, ◌==◌, if◌then◌else◌}
use Rattle.acpi_base.specs.Madt.{MadtEntry, IoApic, Override}
use Rattle.acpi_base.specs.Madt as madt
use Rattle.acpi_base.specs.Pptt.{PpttEntry}
use Rattle.acpi_base.specs.Srat.{SratEntry, MemoryRange}
use Rattle.acpi_base.specs.declared.code.Code.{Code}
use Rattle.acpi_base.specs.declared.code.Code.TheVariants as code
use Rattle.acpi_read.specs.declared.entry_codes.EntryCodes.{EntryCodes}

-- ---- the MADT

abbrev pub madt_codes : EntryCodes
madt_codes = record { short = Some code.MadtShort; cut = code.MadtEntryCut; second = Some code.SecondAddressOverride }

abbrev pub madt_own_code : MadtEntry → Code
madt_own_code (IoApic v) = code.GsiPastEnd
madt_own_code (Override v) = if v.bus == 0 then code.ReservedInti else code.OverrideBus
madt_own_code (madt.Opaque e) = code.MadtEntryLength
madt_own_code _ = code.ReservedInti

-- ---- the SRAT

abbrev pub srat_codes : EntryCodes
srat_codes = record { short = Some code.SratShort; cut = code.SratEntryCut; second = None }

abbrev pub srat_own_code : SratEntry → Code
srat_own_code (MemoryRange v) = code.RangePastEnd
srat_own_code _ = code.SratEntryLength

-- ---- the PPTT

abbrev pub pptt_codes : EntryCodes
pptt_codes = record { short = None; cut = code.PpttEntryCut; second = None }

abbrev pub pptt_own_code : PpttEntry → Code
pptt_own_code e = code.PpttEntryLength
