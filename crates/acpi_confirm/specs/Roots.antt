-- The root table of a set and its slots (ACPI 6.5, 5.2.7, 5.2.8).
use Rattle.std.specs.Prelude.{◌≡◌, ℕ, ◌<◌, ◌≤◌, List, length, Option, Some, MatchOption}
use denote.Ref.{Bor}
use Rattle.acpi_base.specs.Memory.{Memory, bytes_at}
use Rattle.acpi_base.specs.Listed.{IsFirstListed}
use Rattle.acpi_base.specs.Root.{HasSlot, IsRoot, IsRootTable, IsSlotWidth}
use Rattle.acpi_base.specs.Tables.{IsSigned}

-- the RSDP at p names a root table with slots of d bytes, which is complete, and these are its bytes
pub record IsCompleteRoot (m : Memory) (p d : ℕ) (bytes : List ℕ) : Type 0 where
  pub r : ℕ
  pub root : IsRoot m p r d
  pub table : IsRootTable m r d bytes

-- the slots of a root table begin after its header, and have 4 or 8 bytes
pub record HasSlots (d : ℕ) (bytes : List ℕ) : Type 0 where
  pub width : IsSlotWidth d
  pub long : 36 ≤ length bytes

-- what slot k of a root table's bytes lists: its address and the header there, if the slot has an address and one is present
-- there
abbrev pub IsHeaderIn : Memory → List ℕ → ℕ → ℕ → Option (ℕ × Bor (List ℕ)) → Type 0
IsHeaderIn m bytes d k found =
    MatchOption found ((a : ℕ) (header : List ℕ) → HasSlot bytes d k a → ¬ (bytes_at m a 36 ≡ Some header))
    (λ here. HasSlot bytes d k here.0 × (bytes_at m here.0 36 ≡ Some here.1.now))

-- the address in slot k, if a header with the signature is present there
abbrev pub IsSignedIn : Memory → List ℕ → ℕ → ℕ → List ℕ → Option ℕ → Type 0
IsSignedIn m bytes d k signature found =
    MatchOption found ((a : ℕ) → HasSlot bytes d k a → ¬ IsSigned m a signature)
    (λ a. HasSlot bytes d k a × IsSigned m a signature)

-- of the slots before k, none lists a header with the signature, or the first one that does was found
abbrev pub IsFirstSoFar : Memory → List ℕ → ℕ → ℕ → List ℕ → Option ℕ → Type 0
IsFirstSoFar m bytes d k signature found =
    MatchOption found ((j b : ℕ) → j < k → HasSlot bytes d j b → ¬ IsSigned m b signature)
    (IsFirstListed m bytes d signature)
