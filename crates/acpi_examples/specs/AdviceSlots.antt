-- Examples of advice on the slots of the root table, on small images: each rule broken, and kept (ACPI 6.5, 5.2,
-- 5.2.7, 5.2.9).
use Rattle.std.specs.Prelude.{List, ℕ, [], ◌∷◌}
use Rattle.std.specs.FinMap.{empty}
use Rattle.acpi_base.specs.Memory.{Memory, with_bytes}
use Rattle.acpi_base.specs.Signature.{rsdt_signature}
use Rattle.acpi_lint.specs.Rules.Slots.{IsListedTwice, IsSecondTable, IsListedApart, dsdt_signature}
use Rattle.acpi_examples.specs.Tables.{table}
use Rattle.acpi_examples.specs.Advice.{IsKept}
use Rattle.acpi_examples.specs.Sets.{rsdp_at, rsdp_bytes, set_of, two_madts, leaf_set}
use Rattle.acpi_examples.specs.ExampleSet.{facs_bytes}

-- ---- the images

-- an RSDT whose first slot is 0, and whose other two list 0x2000
abbrev pub twice_bytes : List ℕ
twice_bytes = table rsdt_signature 48 1 0 (0 ∷ 0 ∷ 0 ∷ 0 ∷ 0 ∷ 0x20 ∷ 0 ∷ 0 ∷ 0 ∷ 0x20 ∷ 0 ∷ 0 ∷ [])

-- the image of an RSDP and this RSDT alone
abbrev pub twice_set : Memory
twice_set = with_bytes (with_bytes empty 0x1000 twice_bytes) rsdp_at rsdp_bytes

-- an image whose root table lists a DSDT's header and a FACS
abbrev pub dsdt_bytes : List ℕ
dsdt_bytes = table dsdt_signature 36 2 0 []

abbrev pub apart_set : Memory
apart_set = set_of dsdt_bytes facs_bytes

-- ---- what they state

-- an address in two slots; a second MADT; a DSDT and a FACS. Not so for a MADT and a PPTT, at two addresses.
pub record AreSlotsAdvised : Type 0 where
  pub twice : IsListedTwice twice_set rsdp_at 2 1 0x2000
  pub not_twice : IsKept (IsListedTwice leaf_set rsdp_at)
  pub second : IsSecondTable two_madts rsdp_at 1 0 0x3000
  pub no_second : IsKept (IsSecondTable leaf_set rsdp_at)
  pub dsdt : IsListedApart apart_set rsdp_at 0 0 0x2000
  pub facs : IsListedApart apart_set rsdp_at 1 0 0x3000
  pub none_apart : IsKept (IsListedApart leaf_set rsdp_at)
