-- The tables that a set lists (ACPI 6.5, 5.2.6 to 5.2.8): all their addresses, and the first with a signature.
use Rattle.std.specs.Prelude.{ℕ, ◌+◌, ◌-◌, ◌*◌, ◌/◌, ◌<◌, ◌==◌, not, filter, map, List, length, codes, Option, Some, None}
use Rattle.std.specs.List.{range_with_len}
use Rattle.acpi_base.specs.Memory.{Memory}
use Rattle.acpi_base.specs.Number.{field}
use Rattle.acpi_base.specs.Tables.{IsTable, IsSigned}
use Rattle.acpi_base.specs.Root.{IsRoot, IsRootTable, HasSlot}

-- ---- signatures

-- the FADT's (5.2.9)
abbrev pub fadt_signature : List ℕ
fadt_signature = codes "FACP"

-- the MADT's (5.2.12)
abbrev pub madt_signature : List ℕ
madt_signature = codes "APIC"

-- the SRAT's (5.2.16)
abbrev pub srat_signature : List ℕ
srat_signature = codes "SRAT"

-- the SLIT's (5.2.17)
abbrev pub slit_signature : List ℕ
slit_signature = codes "SLIT"

-- the PPTT's (5.2.30)
abbrev pub pptt_signature : List ℕ
pptt_signature = codes "PPTT"

-- ---- the slots of a root table's bytes

-- the numbers in the slots, of d bytes each, that lie completely within a root table's bytes
abbrev pub slot_numbers : List ℕ → ℕ → List ℕ
slot_numbers whole d = map (λ k. field whole (36 + d * k) d) (range_with_len 0 ((length whole - 36) / d))

-- the addresses that a root table's bytes list, in the order of their slots; 0 lists nothing
unfoldable pub listed_addresses : List ℕ → ℕ → List ℕ
listed_addresses whole d = filter (λ a. not (a == 0)) (slot_numbers whole d)

-- a is the first address in the slots, of d bytes each, of a root table's bytes, at which a header with this signature is
-- present; nothing else is required there
pub record IsFirstListed (m : Memory) (whole : List ℕ) (d : ℕ) (signature : List ℕ) (a : ℕ) : Type 0 where
  pub k : ℕ
  pub slot : HasSlot whole d k a
  pub signed : IsSigned m a signature
  pub none_before : (j b : ℕ) → j < k → HasSlot whole d j b → ¬ IsSigned m b signature

-- no slot, of d bytes each, of a root table's bytes has the address of a header with this signature
abbrev pub IsNoneListed : Memory → List ℕ → ℕ → List ℕ → Type 0
IsNoneListed m whole d signature = (k a : ℕ) → HasSlot whole d k a → ¬ IsSigned m a signature

-- ---- of a set

-- a is the first listed address with this signature of the root table that the RSDP at p names
pub record IsFirstTable (m : Memory) (p : ℕ) (signature : List ℕ) (a : ℕ) : Type 0 where
  pub r : ℕ
  pub d : ℕ
  pub whole : List ℕ
  pub root : IsRoot m p r d
  pub table : IsRootTable m r d whole
  pub first : IsFirstListed m whole d signature a

-- the first listed table with this signature of the set that the RSDP at p leads to: it is complete, and these are its bytes
pub record IsListedTable (m : Memory) (p : ℕ) (signature whole : List ℕ) : Type 0 where
  pub a : ℕ
  pub header : List ℕ
  pub first : IsFirstTable m p signature a
  pub table : IsTable m a header whole

-- P of the bytes of that table, if the set lists it
abbrev pub ForListed : Memory → ℕ → List ℕ → (List ℕ → Type 0) → Type 0
ForListed m p signature P = (whole : List ℕ) → IsListedTable m p signature whole → P whole

-- the set lists that table, with P of its bytes
abbrev pub HasListed : Memory → ℕ → List ℕ → (List ℕ → Type 0) → Type 0
HasListed m p signature P = (whole : List ℕ) × IsListedTable m p signature whole × P whole

-- the root table that the RSDP at p names is a table, and lists no header with this signature
pub record ListsNone (m : Memory) (p : ℕ) (signature : List ℕ) : Type 0 where
  pub r : ℕ
  pub d : ℕ
  pub root_bytes : List ℕ
  pub root : IsRoot m p r d
  pub table : IsRootTable m r d root_bytes
  pub none : IsNoneListed m root_bytes d signature

-- the set's first listed table with this signature has these bytes, or it lists none
abbrev pub IsListed : Memory → ℕ → List ℕ → Option (List ℕ) → Type 0
IsListed m p signature None = ListsNone m p signature
IsListed m p signature (Some whole) = IsListedTable m p signature whole
