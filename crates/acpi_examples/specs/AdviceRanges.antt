-- Examples of advice on ranges that overlap: tables (ACPI 6.5, 5.2), and register blocks of the FADT (5.2.9). Checksums
-- are 0, since no rule checks them.
use Rattle.std.specs.Prelude.{ℕ, List, [], ◌∷◌, ◌++◌, replicate, codes}
use Rattle.std.specs.FinMap.{empty}
use Rattle.acpi_base.specs.Listed.{fadt_signature}
use Rattle.acpi_base.specs.Memory.{Memory, with_bytes}
use Rattle.acpi_base.specs.Signature.{rsdt_signature}
use Rattle.acpi_lint.specs.Rules.Ports.{IsPortsOverlap}
use Rattle.acpi_lint.specs.Rules.Structures.{IsTablesOverlap}
use Rattle.acpi_examples.specs.Tables.{table}
use Rattle.acpi_examples.specs.Sets.{rsdp_at, rsdp_bytes}
use Rattle.acpi_examples.specs.Advice.{IsKept}

-- an RSDT that lists 0x2000 and 0x2024
abbrev pub near_bytes : List ℕ
near_bytes = table rsdt_signature 44 1 0 (0 ∷ 0x20 ∷ 0 ∷ 0 ∷ 0x24 ∷ 0x20 ∷ 0 ∷ 0 ∷ [])

-- a table of 36 bytes
abbrev pub inner_bytes : List ℕ
inner_bytes = table (codes "SSDT") 36 1 0 []

-- the header of a table of this Length, and that table after it: inside it if its Length is 72
abbrev pub nested_bytes : ℕ → List ℕ
nested_bytes size = table (codes "SSDT") size 1 0 inner_bytes

-- the image of an RSDP, this RSDT, and these two tables
abbrev pub nested_set : ℕ → Memory
nested_set size =
    with_bytes (with_bytes (with_bytes empty 0x2000 (nested_bytes size)) 0x1000 near_bytes) rsdp_at rsdp_bytes

-- a FADT of 116 bytes with the four ports of PM1a_EVT at 0x400, the two ports of PM1a_CNT at 0x400 + `low`, and these
-- bits 23 to 16 of its flags
abbrev pub ports_fadt : ℕ → ℕ → List ℕ
ports_fadt low flags =
    table fadt_signature 116 1 0
    (replicate 20 0 ++ 0 ∷ 4 ∷ 0 ∷ 0 ∷ replicate 4 0
    ++ low ∷ 4 ∷ 0 ∷ 0 ∷ replicate 20 0
    ++ 4 ∷ 2 ∷ replicate 22 0
    ++ 0 ∷ 0 ∷ flags ∷ 0 ∷ [])

-- a FADT of 184 bytes with the four ports of PM1a_EVT at 0x400, and PM1a_CNT, without a length, in this address
-- space, of this width, at 0x3ff
abbrev pub wide_fadt : ℕ → ℕ → List ℕ
wide_fadt space width =
    table fadt_signature 184 3 0
    (replicate 20 0 ++ 0 ∷ 4 ∷ 0 ∷ 0 ∷ replicate 28 0
    ++ 4 ∷ replicate 83 0
    ++ space ∷ width ∷ 0 ∷ 0 ∷ 0xff ∷ 3 ∷ replicate 6 0)

-- ---- what they state

-- a table inside another one; not so if it begins where that ends
pub record AreStructuresOverlapping : Type 0 where
  pub shared : IsTablesOverlap (nested_set 72) rsdp_at 0x2000 0x2024 0x2024
  pub apart : IsKept (IsTablesOverlap (nested_set 36) rsdp_at)

-- the last port of one block is the first of the next, also if the first has 9 bits and no length; not so if the next
-- begins a port later, on reduced hardware, with 8 bits, or if the first is in memory
pub record ArePortsOverlapping : Type 0 where
  pub shared : IsPortsOverlap (ports_fadt 3 0) 0x38 0x40 0x403
  pub apart : IsKept (IsPortsOverlap (ports_fadt 4 0))
  pub reduced : IsKept (IsPortsOverlap (ports_fadt 3 0x10))
  pub bits : IsPortsOverlap (wide_fadt 1 9) 0x40 0x38 0x400
  pub byte : IsKept (IsPortsOverlap (wide_fadt 1 8))
  pub memory : IsKept (IsPortsOverlap (wide_fadt 0 9))

-- all of them
pub record AreRangesAdvised : Type 0 where
  pub structures : AreStructuresOverlapping
  pub ports : ArePortsOverlapping
