-- Values of the program as plain values, and whether they can be written.
use Rattle.std.specs.Prelude.{◌≡◌, ◌*◌, ◌^◌, ◌<◌, ◌≤◌, length, map, slice_index}
use Rattle.std.specs.List.{All}
use Rattle.std.specs.Option.{option_map}
use Rattle.acpi_base.specs.Memory.{Memory}
use Rattle.acpi_base.specs.Policy.{PolicyValue}
use Rattle.acpi_base.specs.Faults.{IsFirstFault}
use Rattle.acpi_base.specs.Statements.{IsClean, CleanTo}
use Rattle.acpi_base.specs.declared.stage.Stage.TheVariants as stage
use Rattle.acpi_base.specs.Header.{HeadValue}
use Rattle.acpi_base.specs.Entries.{IsEntry, IsTypeOf}
use Rattle.acpi_base.specs.Madt.{madt_kinds, madt_entry}
use Rattle.acpi_base.specs.Srat.{srat_kinds, srat_entry}
use Rattle.acpi_base.specs.Pptt.{pptt_entry}
use Rattle.acpi_read.specs.Madts.{madt_value, madt_bytes}
use Rattle.acpi_read.specs.Srats.{srat_value, srat_bytes}
use Rattle.acpi_read.specs.Pptts.{pptt_value, HasReferences, pptt_bytes}
use Rattle.acpi_read.specs.declared.madt.MadtEntry.{MadtEntry}
use Rattle.acpi_read.specs.declared.madt.MadtEntry.TheVariants as madt
use Rattle.acpi_read.specs.declared.srat.SratEntry.{SratEntry}
use Rattle.acpi_read.specs.declared.srat.SratEntry.TheVariants as srat
use Rattle.acpi_read.specs.declared.pptt.PpttEntry.{PpttEntry}
use Rattle.acpi_read.specs.declared.pptt.PpttEntry.TheVariants as pptt
use Rattle.acpi_check.specs.declared.refusal.Refusal.{Refusal}
use Rattle.acpi_check.specs.declared.refusal.Refusal.TheVariants.{Fault, OutOfMemory}
use Rattle.acpi_write.specs.Values as value
use Rattle.acpi_write.specs.Encoded.{encoded_length, FitsHead}
use Rattle.acpi_write.specs.Spells.{DoEntriesSay}
pub use Rattle.acpi_write.specs.Spells.{IsCompleteTable}
use Rattle.acpi_write.specs.declared.encode.WriteFault.{WriteFault}
use Rattle.acpi_write.specs.declared.encode.WriteFault.TheVariants as fault
use Rattle.acpi_write.specs.declared.set_value.SetValue.{SetValue}
use Rattle.acpi_write.specs.declared.set_value.ValuesFault.{ValuesFault}
use Rattle.acpi_write.specs.declared.set_value.ValuesFault.TheVariants as values_fault
use Rattle.acpi_write.specs.declared.table_value.Head.{Head}
use Rattle.acpi_write.specs.declared.table_value.TableValue.{TableValue}
use Rattle.acpi_write.specs.declared.table_value.TableValue.TheVariants as table

abbrev pub head_value : Head → HeadValue
head_value h =
    record {
      revision = h.revision;
      oemid = h.oemid;
      oem_table_id = h.oem_table_id;
      oem_revision = h.oem_revision;
      creator_id = h.creator_id;
      creator_revision = h.creator_revision;
    }

-- what a value of the program represents
abbrev pub table_value : TableValue → value.TableValue
table_value (table.Madt head address flags entries) =
    value.Known (head_value head) (value.Madt address flags (map madt_value entries.items))
table_value (table.Srat head entries) = value.Known (head_value head) (value.Srat (map srat_value entries.items))
table_value (table.Slit head count cells) = value.Known (head_value head) (value.Slit count cells.now)
table_value (table.Pptt head entries) = value.Known (head_value head) (value.Pptt (map pptt_value entries.items))
table_value (table.Fadt head body) = value.Known (head_value head) (value.Fadt body.items)
table_value (table.Other bytes) = value.Other bytes.now

abbrev pub set_value : SetValue → value.SetValue
set_value v =
    record {
      oemid = v.oemid;
      root = head_value v.root;
      tables = map table_value v.tables.items;
      facs = option_map (λ bytes. bytes.now) v.facs;
    }

-- why a set has no value: it is not clean, and this is its first fault, or there is no memory
abbrev pub IsValuesRefusal : Memory → PolicyValue → ValuesFault → Type 0
IsValuesRefusal m q (values_fault.NotClean w) = (¬ IsClean m q) × IsFirstFault m q w
IsValuesRefusal m q values_fault.Memory = CleanTo stage.Madt m q

-- the refusal of a check as that of a value
abbrev pub values_fault_of : Refusal → ValuesFault
values_fault_of (Fault w) = values_fault.NotClean w
values_fault_of OutOfMemory = values_fault.Memory

-- ---- shape: whether there are bytes for a value

-- an entry that is kept as bytes has its own length in its length byte, and a type without a meaning in its table
abbrev pub IsShapedMadt : MadtEntry → Type 0
IsShapedMadt (madt.Opaque bytes) = IsEntry bytes.now × ¬ IsTypeOf madt_kinds (slice_index bytes.now 0)
IsShapedMadt _ = Unit {0}

abbrev pub IsShapedSrat : SratEntry → Type 0
IsShapedSrat (srat.Opaque bytes) = IsEntry bytes.now × ¬ IsTypeOf srat_kinds (slice_index bytes.now 0)
IsShapedSrat _ = Unit {0}

-- and a node has 4 bytes for each of its references
abbrev pub IsShapedPptt : PpttEntry → Type 0
IsShapedPptt (pptt.Opaque bytes) = IsEntry bytes.now × (2 ≤ slice_index bytes.now 0)
IsShapedPptt entry = HasReferences entry

-- the value can be written, except that it may be too long
abbrev pub IsShaped : TableValue → Type 0
IsShaped (table.Madt head address flags entries) = All IsShapedMadt entries.items
IsShaped (table.Srat head entries) = All IsShapedSrat entries.items
IsShaped (table.Slit head count cells) = length cells.now ≡ count * count
IsShaped (table.Pptt head entries) = All IsShapedPptt entries.items
IsShaped (table.Fadt head body) = 80 ≤ length body.items
IsShaped (table.Other bytes) = IsCompleteTable bytes.now

-- the table that is written has fewer than 2^32 bytes
abbrev pub IsShort : TableValue → Type 0
IsShort v = encoded_length (table_value v) < 2 ^ 32

-- ---- what is written

-- its numbers have their width, and the bytes of each entry are an entry with its contents
abbrev pub DoPartsSay : TableValue → Type 0
DoPartsSay (table.Madt head address flags entries) = FitsHead (head_value head) × (address < 2 ^ 32) × (flags < 2 ^ 32) × DoEntriesSay madt_entry madt_bytes madt_value entries.items
DoPartsSay (table.Srat head entries) = FitsHead (head_value head) × DoEntriesSay srat_entry srat_bytes srat_value entries.items
DoPartsSay (table.Slit head count cells) = FitsHead (head_value head) × (count < 2 ^ 64)
DoPartsSay (table.Pptt head entries) = FitsHead (head_value head) × DoEntriesSay pptt_entry pptt_bytes pptt_value entries.items
DoPartsSay (table.Fadt head body) = FitsHead (head_value head)
DoPartsSay (table.Other bytes) = Unit {0}

-- why the table is not written
abbrev pub IsRefusal : TableValue → WriteFault → Type 0
IsRefusal v fault.Shape = ¬ IsShaped v
IsRefusal v fault.TooLong = IsShaped v × (2 ^ 32 ≤ encoded_length (table_value v))
IsRefusal v fault.Memory = IsShaped v × (encoded_length (table_value v) < 2 ^ 32)
