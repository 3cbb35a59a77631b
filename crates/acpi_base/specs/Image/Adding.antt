-- When bytes cannot be added to an image, and what adding them gives.
use Rattle.std.specs.Prelude.{◌≡◌, ◌⊎◌, ℕ, ◌+◌, ◌^◌, List, length, Option, Some, Result, Ok, Err, nat_lt, if◌then◌else◌}
use Rattle.std.specs.Option.{option_map, option_map_or}
use Rattle.acpi_base.specs.declared.image.ImageFault.{ImageFault}
use Rattle.acpi_base.specs.declared.image.ImageFault.TheVariants.{PastEnd, Twice}
use Rattle.acpi_base.specs.declared.image.ImageFault.TheVariants as fault
use Rattle.acpi_base.specs.Memory.{Memory, first_present, with_bytes}

-- why the bytes cannot be added: they would pass the address 2^64 - 1, or this is the lowest of their addresses that is present
abbrev pub add_refusal : Memory → ℕ → List ℕ → Option ImageFault
add_refusal m base bytes =
    if nat_lt (2 ^ 64) (base + length bytes)
    then Some PastEnd
    else option_map (λ address. Twice address) (first_present m base (length bytes))

-- the memory with these bytes put in, or the lowest of their addresses that it has already
abbrev pub added : Memory → ℕ → List ℕ → Result Memory ℕ
added m base bytes = option_map_or (λ address. Err address) (first_present m base (length bytes)) (Ok (with_bytes m base bytes))

-- why the runs that give this result make no image: an address comes twice, or none does and memory ran out
abbrev pub IsLayoutRefusal : Result Memory ℕ → ImageFault → Type 0
IsLayoutRefusal present refusal =
    ((m : Memory) × (refusal ≡ fault.Memory) × (present ≡ Ok m))
    ⊎ ((address : ℕ) × (refusal ≡ Twice address) × (present ≡ Err address))
