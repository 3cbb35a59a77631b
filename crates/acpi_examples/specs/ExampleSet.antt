-- A clean set with each table whose contents are read, worked out by hand from the rules: an image with an RSDP, an XSDT, a
-- FADT with its FACS, a MADT, an SRAT, a SLIT and a PPTT. `acpi_examples::laws::clean_set_example` states that it is clean.
use Rattle.std.specs.Prelude.{ℕ, List, [], ◌∷◌, ◌++◌, replicate}
use Rattle.acpi_base.specs.Memory.{Memory}
use Rattle.acpi_base.specs.Policy.{PolicyValue, new_policy}
use Rattle.acpi_base.specs.Image.Runs.{Run, run_at, memory_of}
use Rattle.acpi_base.specs.Signature.{rsdp_signature, xsdt_signature}
use Rattle.acpi_base.specs.Listed.{fadt_signature}
use Rattle.acpi_base.specs.Facs.{facs_signature}
use Rattle.acpi_examples.specs.Tables.{table}
use Rattle.acpi_examples.specs.Madts.{madt_table}
use Rattle.acpi_examples.specs.Srats.{srat_table}
use Rattle.acpi_examples.specs.Slits.{one_locality_bytes}
use Rattle.acpi_examples.specs.Sets.{rsdp_at, new_leaf_bytes}

-- ---- its parts

-- an RSDP of revision 2 that names no RSDT, and whose XSDT is at 0x1000
abbrev pub rsdp_bytes : List ℕ
rsdp_bytes =
    rsdp_signature ++ 89 ∷ replicate 6 0x41 ++ 2 ∷ 0 ∷ 0 ∷ 0 ∷ 0
    ∷ 36 ∷ 0 ∷ 0 ∷ 0 ∷ 0 ∷ 0x10 ∷ 0 ∷ 0 ∷ 0 ∷ 0 ∷ 0 ∷ 0 ∷ 204 ∷ 0 ∷ 0 ∷ 0
    ∷ []

-- an XSDT that lists 0x2000, 0x4000, 0x5000, 0x6000 and 0x7000
abbrev pub xsdt_bytes : List ℕ
xsdt_bytes =
    table xsdt_signature 76 1 92
    (0 ∷ 0x20 ∷ 0 ∷ 0 ∷ 0 ∷ 0 ∷ 0 ∷ 0
    ∷ 0 ∷ 0x40 ∷ 0 ∷ 0 ∷ 0 ∷ 0 ∷ 0 ∷ 0
    ∷ 0 ∷ 0x50 ∷ 0 ∷ 0 ∷ 0 ∷ 0 ∷ 0 ∷ 0
    ∷ 0 ∷ 0x60 ∷ 0 ∷ 0 ∷ 0 ∷ 0 ∷ 0 ∷ 0
    ∷ 0 ∷ 0x70 ∷ 0 ∷ 0 ∷ 0 ∷ 0 ∷ 0 ∷ 0
    ∷ [])

-- a FADT's bytes from 36 on, with these 4 as FIRMWARE_CTRL: PM1 event and control blocks of 4 and 2 bytes, a timer of 4, no
-- other block, and a reset register of 8 bits at the port 0xCF9
abbrev pub fadt_body : List ℕ → List ℕ
fadt_body firmware_ctrl =
    firmware_ctrl
    ++ replicate 48 0
    ++ 4 ∷ 2 ∷ 0 ∷ 4 ∷ 0 ∷ 0
    ∷ replicate 18 0
    ++ 0 ∷ 4 ∷ 0 ∷ 0
    ∷ 1 ∷ 8 ∷ 0 ∷ 1 ∷ 0xf9 ∷ 0xc ∷ 0 ∷ 0 ∷ 0 ∷ 0 ∷ 0 ∷ 0
    ∷ 6
    ∷ []

-- a FADT with a FACS at 0x3000
abbrev pub fadt_bytes : List ℕ
fadt_bytes = table fadt_signature 129 2 124 (fadt_body (0 ∷ 0x30 ∷ 0 ∷ 0 ∷ []))

-- a FACS
abbrev pub facs_bytes : List ℕ
facs_bytes = facs_signature ++ 64 ∷ replicate 59 0

-- a MADT with an enabled processor of UID 7 and APIC ID 5, an I/O APIC that serves interrupt numbers from 0 on, and an
-- override of ISA interrupt 0 that names 2
abbrev pub madt_bytes : List ℕ
madt_bytes =
    madt_table 74 55
    (0 ∷ 8 ∷ 7 ∷ 5 ∷ 1 ∷ 0 ∷ 0 ∷ 0
    ∷ 1 ∷ 12 ∷ 0 ∷ 0 ∷ 0 ∷ 0 ∷ 0xc0 ∷ 0xfe ∷ 0 ∷ 0 ∷ 0 ∷ 0
    ∷ 2 ∷ 10 ∷ 0 ∷ 0 ∷ 2 ∷ 0 ∷ 0 ∷ 0 ∷ 0 ∷ 0
    ∷ [])

-- an SRAT that puts the processor of APIC ID 5 and the first 0x100000 bytes in domain 0
abbrev pub srat_bytes : List ℕ
srat_bytes =
    srat_table 104 120
    (0 ∷ 16 ∷ 0 ∷ 5 ∷ 1 ∷ replicate 11 0
    ++ 1 ∷ 40 ∷ replicate 16 0 ++ 0x10 ∷ replicate 9 0 ++ 1 ∷ replicate 11 0)

-- the SLIT has one locality, and the PPTT one leaf, whose ID is the processor's UID

-- ---- the set

-- the addresses of its parts
abbrev pub whole_runs : List Run
whole_runs =
    run_at rsdp_at rsdp_bytes
    ∷ run_at 0x1000 xsdt_bytes
    ∷ run_at 0x2000 fadt_bytes
    ∷ run_at 0x3000 facs_bytes
    ∷ run_at 0x4000 madt_bytes
    ∷ run_at 0x5000 srat_bytes
    ∷ run_at 0x6000 one_locality_bytes
    ∷ run_at 0x7000 new_leaf_bytes
    ∷ []

-- the image of these and nothing else
unfoldable pub example_set : Memory
example_set = memory_of whole_runs

-- a check of it, with 24 inputs of each I/O APIC
abbrev pub example_policy : PolicyValue
example_policy = new_policy rsdp_at 24
