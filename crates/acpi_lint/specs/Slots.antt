-- The slots of a root table, and what is at the addresses that they list (ACPI 6.5, 5.2.6 to 5.2.8).
use Rattle.std.specs.Prelude.{◌≡◌, ℕ, ◌<◌, ◌≤◌, ◌⊎◌, option_map, unwrap_or, ◌↔◌, ◌==◌, if◌then◌else◌, List, Option, Some, None, IsTrue, MatchOption, AllPairs, Contains}
use Rattle.std.specs.Option.{option_and_then}
use Rattle.acpi_base.specs.Facs.{facs_signature}
use Rattle.acpi_lint.specs.Rules.HeaderAdvice.{IsOddText, signature_number}
use Rattle.acpi_lint.specs.Rules.Slots.{dsdt_signature}
use Rattle.acpi_base.specs.Memory.{Memory, bytes_at}
use Rattle.acpi_base.specs.Root.{IsSlot}
use Rattle.acpi_base.specs.TableKinds.{signature_of}
use Rattle.acpi_base.specs.Tables.{IsSigned, TableFault}
use Rattle.acpi_base.specs.declared.table_kind.TableKind.{TableKind}
use Rattle.acpi_base.specs.declared.table_kind.TableKind.TheVariants as kind
use Rattle.acpi_read.specs.Roots.{RootValue, IsCompleteRoot}
use Rattle.acpi_lint.specs.FurtherTables.{further_signature}
use Rattle.acpi_lint.specs.declared.first_slots.FirstSlots.{FirstSlots}
use Rattle.acpi_lint.specs.declared.further_table.FurtherTable.{FurtherTable}
use Rattle.acpi_lint.specs.declared.further_table.FurtherTable.TheVariants as further
use Rattle.acpi_lint.specs.declared.listed_slots.Slot.{Slot}
use Rattle.acpi_rules.specs.declared.numbered.Numbered.{Numbered}
use Rattle.acpi_rules.specs.declared.place.Place.{Place}
use Rattle.acpi_lint.specs.declared.table_at.Sought.{Sought}
use Rattle.acpi_lint.specs.declared.table_at.Sought.TheVariants as sought
use Rattle.acpi_lint.specs.declared.table_at.TableAt.{TableAt}

-- ---- what is at an address

-- the signature of a DSDT or a FACS is present at a
abbrev pub IsApart : Memory → ℕ → Type 0
IsApart m a = IsSigned m a dsdt_signature ⊎ IsSigned m a facs_signature

-- this is looked for, and is at a
abbrev pub IsSought : Memory → Sought → ℕ → Type 0
IsSought m (sought.Fault code) a = TableFault m a code
IsSought m (sought.Kind kind) a = IsSigned m a (signature_of kind)
IsSought m (sought.Further table) a = IsSigned m a (further_signature table)
IsSought m sought.Apart a = IsApart m a

-- the same by what is recorded about an address
abbrev pub HasSought : Sought → TableAt → Type 0
HasSought (sought.Fault code) table = table.fault ≡ Some code
HasSought (sought.Kind kind) table = table.kind ≡ Some kind
HasSought (sought.Further further) table = table.further ≡ Some further
HasSought sought.Apart table = IsTrue table.is_apart

-- the signature of the header at a as a number, 0 if there is none
abbrev pub signature_at : Memory → ℕ → ℕ
signature_at m a = unwrap_or (option_map signature_number (bytes_at m a 36)) 0

-- no text of the header at a is odd, or the first one that is is at this offset
abbrev pub FindsOddAt : Memory → ℕ → Option ℕ → Type 0
FindsOddAt m a None = (offset : ℕ) → ¬ IsOddText m a offset
FindsOddAt m a (Some first) = IsOddText m a first × ((offset : ℕ) → IsOddText m a offset → first ≤ offset)

-- what is recorded about an address is what is there
pub record IsTableAt (m : Memory) (table : TableAt) : Type 0 where
  pub signature : table.signature ≡ signature_at m table.address
  pub text : FindsOddAt m table.address table.odd_text
  pub tells : (sought : Sought) → HasSought sought table ↔ IsSought m sought table.address

-- ---- slots

-- the address that a slot lists
abbrev pub listed_address : Slot → ℕ
listed_address s = s.table.address

-- this is the root table that the RSDP at p names, or there is no complete one
abbrev pub IsRootOf : Memory → ℕ → Option RootValue → Type 0
IsRootOf m p found = MatchOption found ((root : RootValue) → ¬ IsCompleteRoot m p root) (IsCompleteRoot m p)

-- `Lists k a` says that slot k lists the address a: these are the slots, in their order, each with what is there
pub record AreSlots (m : Memory) (Lists : ℕ → ℕ → Type 0) (slots : List Slot) : Type 0 where
  pub rise : AllPairs (λ s t. s.number < t.number) slots
  pub listed : (s : Slot) → Contains slots s → Lists s.number s.table.address × IsTableAt m s.table
  pub all : (k a : ℕ) → Lists k a → (s : Slot) × Contains slots s × (s.number ≡ k) × (s.table.address ≡ a)

-- this slot of a set lists an address of which `Is` holds, and none before it does
pub record IsFirstSlot (m : Memory) (p : ℕ) (Is : ℕ → Type 0) (s : Slot) : Type 0 where
  pub slot : IsSlot m p s.number s.table.address
  pub here : Is s.table.address
  pub before : (k a : ℕ) → k < s.number → IsSlot m p k a → ¬ Is a

-- no slot lists such an address, or this is the first that does
abbrev pub FindsSlot : Memory → ℕ → (ℕ → Type 0) → Option Slot → Type 0
FindsSlot m p Is None = (k a : ℕ) → IsSlot m p k a → ¬ Is a
FindsSlot m p Is (Some s) = IsFirstSlot m p Is s

-- the first slot of a kind
abbrev pub first_of : FirstSlots → TableKind → Option Slot
first_of firsts kind.Fadt = firsts.fadt
first_of firsts kind.Madt = firsts.madt
first_of firsts kind.Srat = firsts.srat
first_of firsts kind.Slit = firsts.slit
first_of firsts kind.Pptt = firsts.pptt

-- the first slot of a further table
abbrev pub first_of_further : FirstSlots → FurtherTable → Option Slot
first_of_further firsts further.Mcfg = firsts.mcfg
first_of_further firsts further.Hpet = firsts.hpet
first_of_further firsts further.Hmat = firsts.hmat
first_of_further firsts further.Gtdt = firsts.gtdt
first_of_further firsts further.Dmar = firsts.dmar
first_of_further firsts further.Ivrs = firsts.ivrs
first_of_further firsts further.Spcr = firsts.spcr

-- these are the first slots of each kind, and of each further table
pub record AreFirstSlots (m : Memory) (p : ℕ) (firsts : FirstSlots) : Type 0 where
  pub kinds : (kind : TableKind) → FindsSlot m p (IsSought m (sought.Kind kind)) (first_of firsts kind)
  pub further : (table : FurtherTable)
      → FindsSlot m p (IsSought m (sought.Further table)) (first_of_further firsts table)

-- ---- advice

-- a slot's address, at the slot's number
abbrev pub numbered_slot : Slot → Numbered
numbered_slot s = record { number = s.table.address; at = s.number; value = s.number }

-- the place of a slot that lists another address than the first slot of its kind
abbrev pub second_after : Slot → Slot → Option Place
second_after s first =
    if first.table.address == s.table.address
    then None
    else Some (record { at = s.number; other = first.number; point = s.table.address })

abbrev pub second_place : FirstSlots → Slot → Option Place
second_place firsts s = option_and_then (λ kind. option_and_then (second_after s) (first_of firsts kind)) s.table.kind
