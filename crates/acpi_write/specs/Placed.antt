-- When a set can be rebuilt at a base address.
use Rattle.std.specs.Prelude.{◌≡◌, ℕ, ◌+◌, ◌%◌, ◌^◌, ◌<◌, ◌≤◌, Bool, true, false, nat_lt, ◌↔◌, List, [], ◌∷◌, length, take, drop, Some}
use Rattle.std.specs.List.{AllByRecursion, list_any}
use Rattle.acpi_base.specs.Header.{head_of}
use Rattle.acpi_base.specs.Listed.{listed_addresses}
use Rattle.acpi_base.specs.Memory.{Memory, bytes_at}
use Rattle.acpi_base.specs.Root.{IsRoot, IsValidRootTable}
use Rattle.acpi_base.specs.Rsdp.{IsValidRsdp}
use Rattle.acpi_write.specs.Encoded.{FitsHead}
use Rattle.acpi_write.specs.Rebuilt.{aligned_address, xsdt_length, part_lengths, facs_place, table_places, rebuilt_image}
use Rattle.acpi_write.specs.Values.{TableValue, Known, Fadt, SetValue}
use Rattle.acpi_write.specs.declared.placing.RebuildFault.{RebuildFault}
use Rattle.acpi_write.specs.declared.placing.RebuildFault.TheVariants as fault

-- the ends of blocks of these lengths, after their last byte: the first begins at an address, each further one at the lowest
-- multiple of 64 not below the end of the one before
unfoldable pub block_ends : ℕ → List ℕ → List ℕ
block_ends a [] = []
block_ends a (n ∷ rest) = (a + n) ∷ block_ends (aligned_address (a + n)) rest

-- the blocks that end there are below 2^64: the end of a block is after its last byte, so it may be 2^64 itself
abbrev pub DoEndInside : List ℕ → Type 0
DoEndInside addresses = AllByRecursion (λ a. a ≤ 2 ^ 64) addresses

-- a FADT of fewer than 140 bytes, 36 of which are its header's: it has only 4 for the FACS's address (5.2.9)
abbrev pub is_narrow : TableValue → Bool
is_narrow (Known _ (Fadt body)) = nat_lt (length body) 104
is_narrow _ = false

-- the set's value can be placed at the base address: this is a multiple of 64, the XSDT's Length has 32 bits, no part
-- passes the last address, and the FADT has room for the FACS's address
pub record IsPlaced (v : SetValue) (base : ℕ) : Type 0 where
  pub aligned : base % 64 ≡ 0
  pub size : xsdt_length v < 2 ^ 32
  pub inside : DoEndInside (block_ends base (part_lengths v))
  pub low : list_any is_narrow v.tables ≡ true → facs_place v base < 2 ^ 32

-- why the set cannot be placed at a base address that is a multiple of 64. At most one of these holds: each requires
-- that those before it do not.
abbrev pub IsPlacingRefusal : SetValue → ℕ → RebuildFault → Type 0
IsPlacingRefusal v base fault.TableTooLong = 2 ^ 32 ≤ xsdt_length v
IsPlacingRefusal v base fault.PastEnd = (xsdt_length v < 2 ^ 32) × ¬ DoEndInside (block_ends base (part_lengths v))
IsPlacingRefusal v base fault.NeedsLow = (xsdt_length v < 2 ^ 32) × DoEndInside (block_ends base (part_lengths v)) × (list_any is_narrow v.tables ≡ true) × (2 ^ 32 ≤ facs_place v base)
IsPlacingRefusal v base _ = ⊥

-- ---- laws

-- a set can be placed at a base address if this is a multiple of 64, and there is no reason why it cannot
abbrev pub PlacedUnlessRefused : Type 0
PlacedUnlessRefused = (v : SetValue) (base : ℕ) → IsPlaced v base ↔ ((base % 64 ≡ 0) × ((fault : RebuildFault) → ¬ IsPlacingRefusal v base fault))

-- the image's RSDP at the base address is valid and has the set's OEMID, and it names an XSDT that is valid, has the
-- root table's header and lists the addresses of the set's tables
pub record LeadsToTables (v : SetValue) (base : ℕ) (m : Memory) : Type 0 where
  pub rsdp : IsValidRsdp m base
  pub head : List ℕ
  pub head_present : bytes_at m base 20 ≡ Some head
  pub oemid : take 6 (drop 9 head) ≡ v.oemid
  pub r : ℕ
  pub root_bytes : List ℕ
  pub root : IsRoot m base r 8
  pub valid : IsValidRootTable m r 8 root_bytes
  pub root_head : head_of root_bytes ≡ v.root
  pub lists : listed_addresses root_bytes 8 ≡ table_places v base

-- each rebuilt image does
abbrev pub RebuiltLeadsToTables : Type 0
RebuiltLeadsToTables = (v : SetValue) (base : ℕ) → length v.oemid ≡ 6 → FitsHead v.root → IsPlaced v base → LeadsToTables v base (rebuilt_image v base)
