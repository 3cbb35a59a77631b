-- Advice on the root tables that the RSDP names (ACPI 6.5, 5.2.7, 5.2.8).
use Rattle.std.specs.Prelude.{◌≡◌, ◌≢◌, ℕ, ◌+◌, ◌*◌, ◌^◌, ◌≤◌, ◌⊎◌, ◌==◌, ◌||◌, if◌then◌else◌, nat_le, List, length, Option, Some, None, option_map}
use Rattle.std.specs.List.{filter_map, sum_by}
use Rattle.acpi_base.specs.Entries.{AreUnused}
use Rattle.acpi_base.specs.Listed.{slot_numbers}
use Rattle.acpi_base.specs.Memory.{Memory, bytes_at}
use Rattle.acpi_base.specs.Number.{field}
use Rattle.acpi_base.specs.Root.{IsRoot, IsRootTable}
use Rattle.acpi_lint.specs.Rules.HeaderAdvice.{IsOddOem}

-- P of the bytes of the root table that the RSDP at p names, and of how many bytes a slot of it has
pub record OfRoot (P : List ℕ → ℕ → ℕ → ℕ → ℕ → Type 0) (m : Memory) (p at other point : ℕ) : Type 0 where
  pub r : ℕ
  pub d : ℕ
  pub whole : List ℕ
  pub root : IsRoot m p r d
  pub table : IsRootTable m r d whole
  pub holds : P whole d at other point

-- ---- the header

-- the Revision, at 8, is not 1
abbrev pub IsOtherRevision : List ℕ → ℕ → ℕ → ℕ → Type 0
IsOtherRevision whole at other point = (at ≡ 8) × (other ≡ 0) × (point ≡ field whole 8 1) × (point ≢ 1)

-- it is not, or a text of the header has a byte that is no text; `at` is the field's offset, `point` the number there
abbrev pub IsOddRoot : List ℕ → ℕ → ℕ → ℕ → ℕ → Type 0
IsOddRoot whole d at other point = IsOtherRevision whole at other point ⊎ IsOddOem whole at other point

abbrev pub IsRootHeader : Memory → ℕ → ℕ → ℕ → ℕ → Type 0
IsRootHeader = OfRoot IsOddRoot

-- ---- slots that list nothing

-- slot `at`, of d bytes, lies within a root table's bytes and is 0
abbrev pub IsNullIn : List ℕ → ℕ → ℕ → ℕ → ℕ → Type 0
IsNullIn whole d at other point =
    (36 + d * (at + 1) ≤ length whole) × (field whole (36 + d * at) d ≡ 0) × AreUnused other point

-- a slot of the root table that the RSDP at p names is 0; `at` is the slot's number
abbrev pub IsNullSlot : Memory → ℕ → ℕ → ℕ → ℕ → Type 0
IsNullSlot = OfRoot IsNullIn

-- ---- an RSDT beside the XSDT

-- the signature, as a number, of what is at an address below 2^32 that a slot lists, if its 4 bytes are present
unfoldable pub listed_signature : Memory → ℕ → Option ℕ
listed_signature m a =
    if a == 0 || nat_le (2 ^ 32) a then None else option_map (λ head. field head 0 4) (bytes_at m a 4)

-- those of all slots, of d bytes each, of a root table's bytes
abbrev pub listed_signatures : Memory → List ℕ → ℕ → List ℕ
listed_signatures m whole d = filter_map (listed_signature m) (slot_numbers whole d)

-- how often a number is among others
abbrev pub times_in : List ℕ → ℕ → ℕ
times_in others n = sum_by (λ k. if k == n then 1 else 0) others

-- the root table of the RSDP at p is an XSDT with these bytes
pub record IsXsdt (m : Memory) (p : ℕ) (whole : List ℕ) : Type 0 where
  pub r : ℕ
  pub root : IsRoot m p r 8
  pub table : IsRootTable m r 8 whole

-- the RSDP at p, of which 36 bytes are present, names an RSDT, at 16, with these bytes
pub record IsNamedRsdt (m : Memory) (p : ℕ) (whole : List ℕ) : Type 0 where
  pub rsdp : List ℕ
  pub present : bytes_at m p 36 ≡ Some rsdp
  pub named : field rsdp 16 4 ≢ 0
  pub table : IsRootTable m (field rsdp 16 4) 4 whole

-- the two list tables with the signature `point` a different number of times; `at` is the offset of RsdtAddress in the RSDP
abbrev pub IsRsdtDiffers : Memory → ℕ → ℕ → ℕ → ℕ → Type 0
IsRsdtDiffers m p at other point =
    (at ≡ 16) × (other ≡ 0)
    × ((xsdt rsdt : List ℕ) × IsXsdt m p xsdt × IsNamedRsdt m p rsdt
    × (times_in (listed_signatures m xsdt 8) point ≢ times_in (listed_signatures m rsdt 4) point))
