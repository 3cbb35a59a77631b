-- The bytes of a rebuilt set as they are in memory, from its base address on.
use Rattle.std.specs.Prelude.{◌≡◌, ℕ, suc, ◌+◌, ◌<◌, ◌≤◌, List, length, slice_index, None, IsSome, unwrap_or}
use Rattle.acpi_base.specs.Memory.{Memory, byte_of}
use Rattle.acpi_base.specs.Policy.{PolicyValue, with_rsdp}
use Rattle.acpi_base.specs.Statements.{IsClean}
use Rattle.acpi_write.specs.Rebuilding.{IsRebuilt}

-- All bytes of an image, which begins at the address a at the earliest: byte k is the image's at a + k, or 0 if it has none
-- there. The last byte is one of the image's, so these are as few as possible.
pub record AreAllBytes (m : Memory) (a : ℕ) (bytes : List ℕ) : Type 0 where
  pub each : (k : ℕ) → k < length bytes → slice_index bytes k ≡ unwrap_or (byte_of m (a + k)) 0
  pub before : (x : ℕ) → x < a → byte_of m x ≡ None
  pub behind : (x : ℕ) → a + length bytes ≤ x → byte_of m x ≡ None
  pub last : (k : ℕ) → length bytes ≡ suc k → IsSome (byte_of m (a + k))

-- These are all bytes of the rebuilt image, which is clean under the policy with the RSDP at the base address.
pub record AreRebuiltBytes (m : Memory) (q : PolicyValue) (base : ℕ) (all : List ℕ) : Type 0 where
  pub image : Memory
  pub rebuilt : IsRebuilt m q base image
  pub clean : IsClean image (with_rsdp q base)
  pub bytes : AreAllBytes image base all

-- an image has one list of all its bytes from an address on
abbrev pub AllBytesAreOne : Type 0
AllBytesAreOne =
    (m : Memory) (a : ℕ) (bytes others : List ℕ) → AreAllBytes m a bytes → AreAllBytes m a others → bytes ≡ others
