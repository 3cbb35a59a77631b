-- The root table, which is the XSDT or the RSDT, and its slots (ACPI 6.5, 5.2.7, 5.2.8).
use Rattle.std.specs.Prelude.{◌≡◌, ◌≢◌, ℕ, ◌+◌, ◌-◌, ◌*◌, ◌%◌, ◌≤◌, List, length, Option, Some, None, true, ◌⊎◌, ◌==◌, if◌then◌else◌}
use Rattle.acpi_base.specs.Frames.{FrameFault}
use Rattle.acpi_base.specs.Memory.{Memory, bytes_at}
use Rattle.acpi_base.specs.Number.{field, byte_sum}
use Rattle.acpi_base.specs.Signature.{has_signature, rsdt_signature, xsdt_signature}
use Rattle.acpi_base.specs.Rsdp.{Addresses, addresses_at}
use Rattle.acpi_base.specs.Tables.{table_frame, IsTable, length_of}
use Rattle.acpi_base.specs.declared.code.Code.{Code}
use Rattle.acpi_base.specs.declared.code.Code.TheVariants as code
use Rattle.acpi_base.specs.declared.frame.Question.TheVariants as question

-- where the root table is, and the width of its slots in bytes
pub record Root : Type 0 where
  pub address : ℕ
  pub width : ℕ

-- the XSDT if one is named, otherwise the RSDT if one is named, otherwise none
unfoldable pub chosen_root : Addresses → Option Root
chosen_root named =
    if named.xsdt == 0
    then (if named.rsdt == 0 then None else Some (record { address = named.rsdt; width = 4 }))
    else Some (record { address = named.xsdt; width = 8 })

-- the RSDP at p is readable and names a root table at r with slots of d bytes
pub record IsRoot (m : Memory) (p r d : ℕ) : Type 0 where
  pub named : Addresses
  pub read : addresses_at m p ≡ Some named
  pub chosen : chosen_root named ≡ Some (record { address = r; width = d })

-- the RSDP at p is readable and names no root table
pub record HasNoRoot (m : Memory) (p : ℕ) : Type 0 where
  pub named : Addresses
  pub read : addresses_at m p ≡ Some named
  pub none : chosen_root named ≡ None

-- slots have 4 bytes in an RSDT and 8 in an XSDT
abbrev pub IsSlotWidth : ℕ → Type 0
IsSlotWidth d = (d ≡ 4) ⊎ (d ≡ 8)

-- the signature of a root table with slots of d bytes
abbrev pub root_signature : ℕ → List ℕ
root_signature d = if d == 8 then xsdt_signature else rsdt_signature

-- a table with the signature of a root table with slots of d bytes is at r, and these are all its bytes
pub record IsRootTable (m : Memory) (r d : ℕ) (whole : List ℕ) : Type 0 where
  pub header : List ℕ
  pub table : IsTable m r header whole
  pub signed : has_signature header (root_signature d) ≡ true

-- slot k, from 0, of a root table with slots of d bytes lies completely within its bytes and has the address a, which is not 0
pub record HasSlot (whole : List ℕ) (d k a : ℕ) : Type 0 where
  pub inside : 36 + d * (k + 1) ≤ length whole
  pub address : field whole (36 + d * k) d ≡ a
  pub listed : a ≢ 0

-- the root table that the RSDP at p names has its kind's signature, and its slot k lists the address a
pub record IsSlot (m : Memory) (p k a : ℕ) : Type 0 where
  pub r : ℕ
  pub d : ℕ
  pub whole : List ℕ
  pub root : IsRoot m p r d
  pub table : IsRootTable m r d whole
  pub slot : HasSlot whole d k a

-- a root table with slots of d bytes is at r whose bytes, these, are a whole number of slots after the header and sum to 0
pub record IsValidRootTable (m : Memory) (r d : ℕ) (whole : List ℕ) : Type 0 where
  pub table : IsRootTable m r d whole
  pub slots : (length whole - 36) % d ≡ 0
  pub zero_sum : byte_sum whole ≡ 0

-- Stage 2: there is a root table, and it is valid.
pub record IsValidRoot (m : Memory) (p : ℕ) : Type 0 where
  pub r : ℕ
  pub d : ℕ
  pub whole : List ℕ
  pub root : IsRoot m p r d
  pub valid : IsValidRootTable m r d whole

-- The faults of a root table at r with slots of d bytes, by their code.
abbrev pub RootTableFault : Memory → ℕ → ℕ → Code → Type 0
RootTableFault m r d code.RootHeaderOut = FrameFault table_frame m r question.Header
RootTableFault m r d code.RootSignature = FrameFault table_frame m r (question.Signature (root_signature d))
RootTableFault m r d code.RootLength = FrameFault table_frame m r question.Length
RootTableFault m r d code.RootOut = FrameFault table_frame m r question.Bytes
RootTableFault m r d code.RootRagged = (header : List ℕ) × (bytes_at m r 36 ≡ Some header) × (36 ≤ length_of header) × ((length_of header - 36) % d ≢ 0)
RootTableFault m r d code.RootSum = FrameFault table_frame m r question.Sum
RootTableFault m r d _ = ⊥

-- The faults of the root table that an RSDP names, by their code.
abbrev pub NamedRootFault : Memory → Addresses → Code → Type 0
NamedRootFault m named fault =
    ((fault ≡ code.NoRoot) × (chosen_root named ≡ None))
    ⊎ ((r d : ℕ) × (chosen_root named ≡ Some (record { address = r; width = d })) × RootTableFault m r d fault)

-- The faults of stage 2, by their code and the address that each is reported at: the RSDP's if there is no root table,
-- otherwise the root table's.
abbrev pub RootFault : Memory → ℕ → Code → ℕ → Type 0
RootFault m p fault at =
    (HasNoRoot m p × (fault ≡ code.NoRoot) × (at ≡ p))
    ⊎ ((d : ℕ) × IsRoot m p at d × RootTableFault m at d fault)
