-- Examples of complete sets: an image with an RSDP, an RSDT and two tables, and a fault of each stage across tables, worked out
-- by hand from the rules. The sets have no FADT: a check would report that first.
use Rattle.std.specs.Prelude.{◌≡◌, ℕ, List, [], ◌∷◌, ◌++◌, replicate, All}
use Rattle.std.specs.FinMap.{empty}
use Rattle.acpi_base.specs.Memory.{Memory, IsImage, with_bytes}
use Rattle.acpi_base.specs.Number.{byte_sum}
use Rattle.acpi_base.specs.Policy.{PolicyValue}
use Rattle.acpi_base.specs.Signature.{rsdp_signature, rsdt_signature}
use Rattle.acpi_base.specs.Tables.{IsTable}
use Rattle.acpi_base.specs.Root.{IsSlot}
use Rattle.acpi_base.specs.Listed.{madt_signature, srat_signature, pptt_signature, IsListedTable}
use Rattle.acpi_base.specs.Faults.{Fault}
use Rattle.acpi_examples.specs.Tables.{table, IsValidExample}
use Rattle.acpi_examples.specs.Madts.{madt_table, two_io_apics_bytes}
use Rattle.acpi_examples.specs.Srats.{two_processors_bytes}
use Rattle.acpi_base.specs.declared.policy.HotPlug.TheVariants.{Counted}
use Rattle.acpi_base.specs.declared.policy.Processors.{Processors}
use Rattle.acpi_base.specs.declared.policy.Processors.TheVariants.{Enabled, Usable}
use Rattle.acpi_base.specs.declared.code.Code.{Code}
use Rattle.acpi_base.specs.declared.code.Code.TheVariants as code

-- ---- the image of two tables

-- an RSDP of revision 0 whose RSDT is at 0x1000
abbrev pub rsdp_bytes : List ℕ
rsdp_bytes = rsdp_signature ++ 0x4b ∷ replicate 6 0x41 ++ 0 ∷ 0 ∷ 0x10 ∷ 0 ∷ 0 ∷ []

-- an RSDT that lists 0x2000 and 0x3000
abbrev pub rsdt_bytes : List ℕ
rsdt_bytes = table rsdt_signature 44 1 178 (0 ∷ 0x20 ∷ 0 ∷ 0 ∷ 0 ∷ 0x30 ∷ 0 ∷ 0 ∷ [])

-- the address of the RSDP
abbrev pub rsdp_at : ℕ
rsdp_at = 0xe0000

-- the image of these two, and of a table at 0x2000 and another at 0x3000
abbrev pub set_of : List ℕ → List ℕ → Memory
set_of one other =
    with_bytes (with_bytes (with_bytes (with_bytes empty 0x3000 other) 0x2000 one) 0x1000 rsdt_bytes) rsdp_at rsdp_bytes

-- ---- the tables

-- a MADT with one processor, of APIC ID 5, with these flags
abbrev pub processor_bytes : ℕ → ℕ → List ℕ
processor_bytes checksum flags = madt_table 52 checksum (0 ∷ 8 ∷ 0 ∷ 5 ∷ flags ∷ 0 ∷ 0 ∷ 0 ∷ [])

-- the processor is enabled
abbrev pub enabled_bytes : List ℕ
enabled_bytes = processor_bytes 45 1

-- it is online capable
abbrev pub capable_bytes : List ℕ
capable_bytes = processor_bytes 44 2

-- it is neither
abbrev pub disabled_bytes : List ℕ
disabled_bytes = processor_bytes 46 0

-- a MADT with an I/O APIC that serves interrupt numbers from 0 on, and an override that names 24
abbrev pub named_bytes : List ℕ
named_bytes =
    madt_table 66 53
    (1 ∷ 12 ∷ 0 ∷ 0 ∷ 0 ∷ 0 ∷ 0xc0 ∷ 0xfe ∷ 0 ∷ 0 ∷ 0 ∷ 0
    ∷ 2 ∷ 10 ∷ 0 ∷ 9 ∷ 24 ∷ 0 ∷ 0 ∷ 0 ∷ 0 ∷ 0
    ∷ [])

-- a MADT with one processor, of UID 5, which is not enabled
abbrev pub uid_bytes : List ℕ
uid_bytes = madt_table 52 46 (0 ∷ 8 ∷ 5 ∷ 0 ∷ 0 ∷ 0 ∷ 0 ∷ 0 ∷ [])

-- a PPTT of this revision with one leaf, of ID 7
abbrev pub leaf_bytes : ℕ → ℕ → List ℕ
leaf_bytes revision checksum =
    table pptt_signature 56 revision checksum
    (0 ∷ 20 ∷ 0 ∷ 0 ∷ 10 ∷ 0 ∷ 0 ∷ 0 ∷ 0 ∷ 0 ∷ 0 ∷ 0 ∷ 7 ∷ 0 ∷ 0 ∷ 0 ∷ 0 ∷ 0 ∷ 0 ∷ 0 ∷ [])

abbrev pub new_leaf_bytes : List ℕ
new_leaf_bytes = leaf_bytes 2 197

abbrev pub old_leaf_bytes : List ℕ
old_leaf_bytes = leaf_bytes 1 198

-- ---- the sets

-- a processor and an SRAT that puts it in two domains
abbrev pub enabled_set : Memory
enabled_set = set_of enabled_bytes two_processors_bytes

abbrev pub capable_set : Memory
capable_set = set_of capable_bytes two_processors_bytes

abbrev pub disabled_set : Memory
disabled_set = set_of disabled_bytes two_processors_bytes

-- two MADTs; an I/O APIC of the second serves the number that an override of the first names
abbrev pub two_madts : Memory
two_madts = set_of named_bytes two_io_apics_bytes

-- a MADT without the ID of the PPTT's leaf
abbrev pub leaf_set : Memory
leaf_set = set_of uid_bytes new_leaf_bytes

abbrev pub old_leaf_set : Memory
old_leaf_set = set_of uid_bytes old_leaf_bytes

-- ---- what they state

-- the set's first listed tables with these signatures have these bytes
abbrev pub ListsBoth : Memory → List ℕ → List ℕ → List ℕ → List ℕ → Type 0
ListsBoth m signature one other_signature other =
    IsListedTable m rsdp_at signature one × IsListedTable m rsdp_at other_signature other

-- the sets are images, and their root tables list these tables; of two MADTs the first is listed, though the second is
-- complete in the next slot
pub record AreListedTables : Type 0 where
  pub images : All IsImage (enabled_set ∷ capable_set ∷ disabled_set ∷ two_madts ∷ leaf_set ∷ old_leaf_set ∷ [])
  pub rsdp_sum : byte_sum rsdp_bytes ≡ 0
  pub valid : All IsValidExample (rsdt_bytes ∷ enabled_bytes ∷ capable_bytes ∷ disabled_bytes ∷ named_bytes ∷ uid_bytes ∷ new_leaf_bytes ∷ old_leaf_bytes ∷ [])
  pub enabled_lists : ListsBoth enabled_set madt_signature enabled_bytes srat_signature two_processors_bytes
  pub capable_lists : ListsBoth capable_set madt_signature capable_bytes srat_signature two_processors_bytes
  pub disabled_lists : ListsBoth disabled_set madt_signature disabled_bytes srat_signature two_processors_bytes
  pub first_madt : IsListedTable two_madts rsdp_at madt_signature named_bytes
  pub second_slot : IsSlot two_madts rsdp_at 1 0x3000
  pub second_madt : (header : List ℕ) × IsTable two_madts 0x3000 header two_io_apics_bytes
  pub not_first : ¬ IsListedTable two_madts rsdp_at madt_signature two_io_apics_bytes
  pub leaf_lists : ListsBoth leaf_set madt_signature uid_bytes pptt_signature new_leaf_bytes
  pub old_leaf_lists : ListsBoth old_leaf_set madt_signature uid_bytes pptt_signature old_leaf_bytes

-- a check of these sets: so many inputs of each I/O APIC, and which processors count as enabled
abbrev pub policy : ℕ → Processors → PolicyValue
policy inputs processors =
    record { rsdp = rsdp_at; default_inputs = inputs; inputs = empty; hotplug = Counted; processors = processors }

-- the set has this fault
abbrev pub HasFault : Memory → PolicyValue → Code → ℕ → ℕ → ℕ → Type 0
HasFault m q c at other point = Fault m q (record { code = c; at = at; other = other; point = point })

-- the faults of the sets, and what is none: the processor does not count as enabled, or the entries are exchanged; the
-- I/O APIC has one more input; the PPTT is of revision 1
pub record AreSetFaults : Type 0 where
  pub two_domains : (p : Processors) → HasFault enabled_set (policy 24 p) code.TwoDomains 0x40 0x30 5
  pub exchanged : (p : Processors) → ¬ HasFault enabled_set (policy 24 p) code.TwoDomains 0x30 0x40 5
  pub capable : HasFault capable_set (policy 24 Usable) code.TwoDomains 0x40 0x30 5
  pub only_capable : ¬ HasFault capable_set (policy 24 Enabled) code.TwoDomains 0x40 0x30 5
  pub disabled : (p : Processors) → ¬ HasFault disabled_set (policy 24 p) code.TwoDomains 0x40 0x30 5
  pub nowhere : HasFault two_madts (policy 24 Enabled) code.GsiNowhere 0x38 0 0x18
  pub served : ¬ HasFault two_madts (policy 25 Enabled) code.GsiNowhere 0x38 0 0x18
  pub unknown : HasFault leaf_set (policy 24 Enabled) code.LeafUnknown 0x24 0 7
  pub of_revision_1 : ¬ HasFault old_leaf_set (policy 24 Enabled) code.LeafUnknown 0x24 0 7
