-- An example of a rebuilt set, worked out by hand from the rules: the contents of the clean set of `ExampleSet`,
-- and its image rebuilt from 0xF0000 on.
use Rattle.std.specs.Prelude.{ℕ, List, [], ◌∷◌, ◌++◌, replicate, Some}
use Rattle.std.specs.FinMap.{empty}
use Rattle.acpi_base.specs.Memory.{Memory}
use Rattle.acpi_base.specs.Header.{HeadValue}
use Rattle.acpi_base.specs.Signature.{rsdp_signature, xsdt_signature}
use Rattle.acpi_base.specs.Listed.{fadt_signature}
use Rattle.acpi_base.specs.Madt.{MadtEntry, LocalApic, IoApic, Override}
use Rattle.acpi_base.specs.Srat.{SratEntry, ApicDomain, MemoryRange}
use Rattle.acpi_base.specs.Pptt.{PpttEntry, Node}
use Rattle.acpi_examples.specs.Tables.{table}
use Rattle.acpi_examples.specs.Sets.{new_leaf_bytes}
use Rattle.acpi_examples.specs.Slits.{one_locality_bytes}
use Rattle.acpi_examples.specs.ExampleSet.{fadt_body, facs_bytes, madt_bytes, srat_bytes}
use Rattle.acpi_write.specs.Values.{TableValue, Known, Madt, Srat, Slit, Pptt, Fadt, SetValue}
use Rattle.acpi_write.specs.Rebuilt.{PlacedBlock, with_blocks}

-- ---- the contents of the set

-- the contents of the headers, with this Revision
abbrev pub head_with : ℕ → HeadValue
head_with revision =
    record {
      revision = revision;
      oemid = replicate 6 0x41;
      oem_table_id = replicate 8 0x41;
      oem_revision = 1;
      creator_id = 0x41414141;
      creator_revision = 1;
    }

-- the MADT's entries
abbrev pub madt_entries : List MadtEntry
madt_entries =
    LocalApic (record { uid = 7; apic_id = 5; flags = 1 })
    ∷ IoApic (record { id = 0; address = 0xfec00000; gsi_base = 0 })
    ∷ Override (record { bus = 0; source = 0; gsi = 2; flags = 0 })
    ∷ []

-- the SRAT's
abbrev pub srat_entries : List SratEntry
srat_entries =
    ApicDomain (record { domain = 0; apic_id = 5; flags = 1; eid = 0; clock_domain = 0 })
    ∷ MemoryRange (record { domain = 0; base = 0; size = 0x100000; flags = 1 })
    ∷ []

-- the PPTT's
abbrev pub pptt_entries : List PpttEntry
pptt_entries = Node (record { flags = 10; parent = 0; id = 7; resources = [] }) ∷ []

-- the tables in the order of their slots; the FADT's body has 0 for the FACS's address
abbrev pub complete_tables : List TableValue
complete_tables =
    Known (head_with 2) (Fadt (fadt_body (0 ∷ 0 ∷ 0 ∷ 0 ∷ [])))
    ∷ Known (head_with 1) (Madt 0xfee00000 1 madt_entries)
    ∷ Known (head_with 1) (Srat srat_entries)
    ∷ Known (head_with 1) (Slit 1 (10 ∷ []))
    ∷ Known (head_with 2) (Pptt pptt_entries)
    ∷ []

-- the complete set
abbrev pub example_value : SetValue
example_value = record { oemid = replicate 6 0x41; root = head_with 1; tables = complete_tables; facs = Some facs_bytes }

-- ---- its new image

-- the base address
abbrev pub new_base : ℕ
new_base = 0xf0000

-- an RSDP whose XSDT is at 0xF0040
abbrev pub new_rsdp : List ℕ
new_rsdp =
    rsdp_signature ++ 89 ∷ replicate 6 0x41 ++ 2 ∷ 0 ∷ 0 ∷ 0 ∷ 0
    ∷ 36 ∷ 0 ∷ 0 ∷ 0 ∷ 0x40 ∷ 0 ∷ 0xf ∷ 0 ∷ 0 ∷ 0 ∷ 0 ∷ 0 ∷ 141 ∷ 0 ∷ 0 ∷ 0
    ∷ []

-- an XSDT that lists 0xF0100, 0xF01C0, 0xF0240, 0xF02C0 and 0xF0300
abbrev pub new_xsdt : List ℕ
new_xsdt =
    table xsdt_signature 76 1 200
    (0 ∷ 1 ∷ 0xf ∷ 0 ∷ 0 ∷ 0 ∷ 0 ∷ 0
    ∷ 0xc0 ∷ 1 ∷ 0xf ∷ 0 ∷ 0 ∷ 0 ∷ 0 ∷ 0
    ∷ 0x40 ∷ 2 ∷ 0xf ∷ 0 ∷ 0 ∷ 0 ∷ 0 ∷ 0
    ∷ 0xc0 ∷ 2 ∷ 0xf ∷ 0 ∷ 0 ∷ 0 ∷ 0 ∷ 0
    ∷ 0 ∷ 3 ∷ 0xf ∷ 0 ∷ 0 ∷ 0 ∷ 0 ∷ 0
    ∷ [])

-- a FADT with a FACS at 0xF00C0
abbrev pub new_fadt : List ℕ
new_fadt = table fadt_signature 129 2 221 (fadt_body (0xc0 ∷ 0 ∷ 0xf ∷ 0 ∷ []))

-- bytes at an address
abbrev pub block_at : ℕ → List ℕ → PlacedBlock
block_at address bytes = record { address = address; bytes = bytes }

-- its parts, each at the next multiple of 64: the FACS, the MADT, the SRAT, the SLIT and the PPTT have the bytes that
-- they had
abbrev pub new_blocks : List PlacedBlock
new_blocks =
    block_at 0xf0000 new_rsdp
    ∷ block_at 0xf0040 new_xsdt
    ∷ block_at 0xf00c0 facs_bytes
    ∷ block_at 0xf0100 new_fadt
    ∷ block_at 0xf01c0 madt_bytes
    ∷ block_at 0xf0240 srat_bytes
    ∷ block_at 0xf02c0 one_locality_bytes
    ∷ block_at 0xf0300 new_leaf_bytes
    ∷ []

-- the image of these and nothing else
unfoldable pub new_image : Memory
new_image = with_blocks empty new_blocks
