-- Where the RSDP is looked for (ACPI 6.5, 5.2.5.1): in the memory of the BIOS, at multiples of 16.
use Rattle.std.specs.Prelude.{◌≡◌, ℕ, ◌%◌, ◌<◌, ◌≤◌, List, Some, true}
use Rattle.acpi_base.specs.Memory.{Memory, bytes_at}
use Rattle.acpi_base.specs.Number.{byte_sum}
use Rattle.acpi_base.specs.Signature.{has_signature, rsdp_signature}

-- a multiple of 16 from 0xE0000 to 0xFFFF0
pub record IsSearched (a : ℕ) : Type 0 where
  pub least : 0xe0000 ≤ a
  pub most : a ≤ 0xffff0
  pub aligned : a % 16 ≡ 0

-- the 20 bytes at a are present, begin with the RSDP's signature and sum to 0
pub record LooksLikeRsdp (m : Memory) (a : ℕ) : Type 0 where
  pub head : List ℕ
  pub present : bytes_at m a 20 ≡ Some head
  pub signed : has_signature head rsdp_signature ≡ true
  pub zero_sum : byte_sum head ≡ 0

-- the search finds the RSDP at p, and at no lower address
pub record IsFound (m : Memory) (p : ℕ) : Type 0 where
  pub searched : IsSearched p
  pub looks : LooksLikeRsdp m p
  pub least : (a : ℕ) → a < p → IsSearched a → ¬ LooksLikeRsdp m a

-- the search finds no RSDP
abbrev pub IsNowhere : Memory → Type 0
IsNowhere m = (a : ℕ) → IsSearched a → ¬ LooksLikeRsdp m a
