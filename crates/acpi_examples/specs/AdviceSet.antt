-- Examples of advice on what the RSDP, the root tables and the FADT name: each rule broken, and kept (ACPI 6.5, 5.2.5
-- to 5.2.11).
use Rattle.std.specs.Prelude.{ℕ, List, [], ◌∷◌, ◌++◌, replicate, codes}
use Rattle.acpi_base.specs.Image.Runs.{Run, run_at, memory_of}
use Rattle.acpi_base.specs.Facs.{facs_signature}
use Rattle.acpi_base.specs.Memory.{Memory}
use Rattle.acpi_base.specs.Signature.{rsdp_signature, rsdt_signature, xsdt_signature}
use Rattle.acpi_lint.specs.Rules.HeaderAdvice.{IsNoText, IsOddOem, IsHeaderText, IsSecondOther}
use Rattle.acpi_lint.specs.Rules.NamedAdvice.{IsDsdtWrong, IsDsdtText, IsS4BiosDiffers, IsOddFacs, IsFacsReserved}
use Rattle.acpi_lint.specs.Rules.RootAdvice.{IsRootHeader, IsNullSlot, IsRsdtDiffers}
use Rattle.acpi_lint.specs.Rules.RsdpAdvice.{IsRsdpReserved, IsRsdpText}
use Rattle.acpi_lint.specs.Rules.Slots.{dsdt_signature}
use Rattle.acpi_examples.specs.Advice.{IsKept}
use Rattle.acpi_examples.specs.AdviceFadt.{dsdt_fadt, facs_fadt}
use Rattle.acpi_examples.specs.AdviceFadtFields.{with_byte}
use Rattle.acpi_examples.specs.AdviceSlots.{twice_set}
use Rattle.acpi_examples.specs.Sets.{rsdp_at, set_of, leaf_set}
use Rattle.acpi_examples.specs.Tables.{table}

-- ---- the RSDP

-- an OEM ID of the lowest printable byte, this byte, the highest printable one, and zeros
abbrev pub oem_of : ℕ → List ℕ
oem_of byte = 0x20 ∷ byte ∷ 0x7e ∷ 0 ∷ 0 ∷ 0 ∷ []

-- an RSDP of 20 bytes with it
abbrev pub named_rsdp : ℕ → List ℕ
named_rsdp byte = rsdp_signature ++ 0 ∷ oem_of byte ++ 0 ∷ 0 ∷ 0x10 ∷ 0 ∷ 0 ∷ []

-- one of 20 bytes with this Revision
abbrev pub short_rsdp : ℕ → List ℕ
short_rsdp revision = rsdp_signature ++ 0 ∷ replicate 6 0x41 ++ revision ∷ 0 ∷ 0x10 ∷ 0 ∷ 0 ∷ []

-- 36 bytes of one whose RSDT is at 0x2000 and whose XSDT is at 0x1000, with this Length and this last reserved byte
abbrev pub sized_rsdp : ℕ → ℕ → List ℕ
sized_rsdp size last =
    rsdp_signature ++ 0 ∷ replicate 6 0x41 ++ 2 ∷ 0 ∷ 0x20 ∷ 0 ∷ 0
    ∷ size ∷ 0 ∷ 0 ∷ 0 ∷ 0 ∷ 0x10 ∷ 0 ∷ 0 ∷ 0 ∷ 0 ∷ 0 ∷ 0 ∷ 0 ∷ 0 ∷ 0 ∷ last
    ∷ []

abbrev pub long_rsdp : ℕ → List ℕ
long_rsdp last = sized_rsdp 36 last

-- the image of one of these alone
abbrev pub rsdp_runs : List ℕ → List Run
rsdp_runs bytes = run_at rsdp_at bytes ∷ []

-- ---- two root tables

-- an XSDT that lists 0x3000
abbrev pub one_xsdt : List ℕ
one_xsdt = table xsdt_signature 44 1 0 (0 ∷ 0x30 ∷ 0 ∷ 0 ∷ 0 ∷ 0 ∷ 0 ∷ 0 ∷ [])

-- an RSDT with these slots, up to two
abbrev pub some_rsdt : ℕ → List ℕ → List ℕ
some_rsdt size slots = table rsdt_signature size 1 0 slots

-- the image of both, and of the signature of an SSDT at 0x3000
abbrev pub both_runs : List ℕ → List Run
both_runs rsdt =
    run_at rsdp_at (long_rsdp 0) ∷ run_at 0x1000 one_xsdt ∷ run_at 0x3000 (codes "SSDT") ∷ run_at 0x2000 rsdt ∷ []

-- an RSDT that lists nothing, and one whose second slot lists what the XSDT does
abbrev pub no_rsdt_slot : List ℕ
no_rsdt_slot = some_rsdt 36 []

abbrev pub late_rsdt_slot : List ℕ
late_rsdt_slot = some_rsdt 44 (0 ∷ 0 ∷ 0 ∷ 0 ∷ 0 ∷ 0x30 ∷ 0 ∷ 0 ∷ [])

-- ---- an RSDT alone

-- one of 39 bytes, which end within its only slot, and one whose two slots list 0x2000
abbrev pub cut_rsdt : List ℕ
cut_rsdt = some_rsdt 39 (0 ∷ 0 ∷ 0 ∷ [])

abbrev pub same_rsdt : List ℕ
same_rsdt = some_rsdt 44 (0 ∷ 0x20 ∷ 0 ∷ 0 ∷ 0 ∷ 0x20 ∷ 0 ∷ 0 ∷ [])

-- the image of one of these, and of these bytes at 0x2000
abbrev pub rsdt_runs : List ℕ → List ℕ → List Run
rsdt_runs rsdt bytes = run_at rsdp_at (short_rsdp 0) ∷ run_at 0x1000 rsdt ∷ run_at 0x2000 bytes ∷ []

-- ---- headers

-- a header with this signature, this Revision and this OEM ID
abbrev pub header_of_oem : List ℕ → ℕ → List ℕ → List ℕ
header_of_oem signature revision oem =
    signature ++ 36 ∷ 0 ∷ 0 ∷ 0 ∷ revision ∷ 0 ∷ oem ++ replicate 8 0x41 ++ replicate 12 0

-- two tables with one signature
abbrev pub plain_header : List ℕ → List ℕ
plain_header signature = header_of_oem signature 2 (replicate 6 0x41)

abbrev pub two_tables : List ℕ → Memory
two_tables signature = set_of (plain_header signature) (plain_header signature)

-- an image whose first table has a zero before a letter in its OEM ID
abbrev pub odd_header : List ℕ
odd_header = header_of_oem (codes "MCFG") 2 (0x41 ∷ 0 ∷ 0x41 ∷ 0 ∷ 0 ∷ 0 ∷ [])

abbrev pub odd_set : Memory
odd_set = set_of odd_header odd_header

-- an RSDT of this Revision that lists nothing, with that OEM ID of this byte
abbrev pub named_rsdt : ℕ → ℕ → List ℕ
named_rsdt revision byte = header_of_oem rsdt_signature revision (oem_of byte)

abbrev pub named_root : ℕ → ℕ → Memory
named_root revision byte = memory_of (rsdt_runs (named_rsdt revision byte) [])

-- ---- what the FADT names

-- the image of 36 bytes at 0x3000 with this signature and that OEM ID
abbrev pub named_runs : List ℕ → ℕ → List Run
named_runs signature byte = run_at 0x3000 (header_of_oem signature 2 (oem_of byte)) ∷ []

-- the image of 36 bytes at 0x3000 with this signature, Length and checksum, and of a DSDT with this checksum
abbrev pub header_runs : List ℕ → ℕ → ℕ → List Run
header_runs signature size checksum = run_at 0x3000 (table signature size 2 checksum []) ∷ []

abbrev pub dsdt_runs : ℕ → List Run
dsdt_runs checksum = header_runs dsdt_signature 36 checksum

-- a FACS with these flags, this Version, this byte at 33, these OSPM Flags, and this last byte
abbrev pub facs_of : ℕ → ℕ → ℕ → ℕ → ℕ → List ℕ
facs_of flags version first ospm last =
    facs_signature ++ 64 ∷ replicate 15 0 ++ flags ∷ replicate 11 0 ++ version ∷ first ∷ 0 ∷ 0 ∷ ospm
    ∷ replicate 26 0
    ++ last ∷ []

-- one with these flags, a Version of 2, and OSPM Flags of 1
abbrev pub flagged_facs : ℕ → List ℕ
flagged_facs flags = facs_of flags 2 0 1 0

-- the image of one of these at 0x3000
abbrev pub facs_runs : List ℕ → List Run
facs_runs facs = run_at 0x3000 facs ∷ []

-- a FADT with a FACS at 0x3000, this S4BIOS_REQ, and these bits 23 to 16 of its flags
abbrev pub s4_fadt : ℕ → ℕ → List ℕ
s4_fadt command flags = with_byte 54 command (with_byte 114 flags (facs_fadt 0x30 0))

-- ---- what they state

-- a slot of 0, not so three bytes of one; an RSDT that lists nothing, and one that lists the same; a Revision of 2, a zero in the
-- OEM ID, and neither
pub record AreRootsAdvised : Type 0 where
  pub null : IsNullSlot twice_set rsdp_at 0 0 0
  pub no_null : IsKept (IsNullSlot leaf_set rsdp_at)
  pub cut : IsKept (IsNullSlot (memory_of (rsdt_runs cut_rsdt [])) rsdp_at)
  pub differs : IsRsdtDiffers (memory_of (both_runs no_rsdt_slot)) rsdp_at 16 0 0x54445353
  pub same : IsKept (IsRsdtDiffers (memory_of (both_runs late_rsdt_slot)) rsdp_at)
  pub revision : IsRootHeader (named_root 2 0x41) rsdp_at 8 0 2
  pub text : IsRootHeader (named_root 1 0) rsdp_at 10 0 0x7e0020
  pub plain : IsKept (IsRootHeader (named_root 1 0x41) rsdp_at)

-- a Revision of 1; a reserved byte; a Length of 37, if 37 bytes are present; not so if 36 are, nor a Revision of 2
-- with 36; a zero in the OEM ID, and none
pub record AreRsdpsAdvised : Type 0 where
  pub revision : IsRsdpReserved (memory_of (rsdp_runs (short_rsdp 1))) rsdp_at 15 0 1
  pub reserved : IsRsdpReserved (memory_of (rsdp_runs (long_rsdp 7))) rsdp_at 35 0 7
  pub long : IsRsdpReserved (memory_of (rsdp_runs (sized_rsdp 37 0 ++ 0 ∷ []))) rsdp_at 20 0 37
  pub cut : IsKept (IsRsdpReserved (memory_of (rsdp_runs (sized_rsdp 37 0))) rsdp_at)
  pub none_reserved : IsKept (IsRsdpReserved (memory_of (rsdp_runs (long_rsdp 0))) rsdp_at)
  pub text : IsRsdpText (memory_of (rsdp_runs (named_rsdp 0))) rsdp_at 9 0 0x7e0020
  pub plain : IsKept (IsRsdpText (memory_of (rsdp_runs (named_rsdp 0x41))) rsdp_at)

-- a zero before a letter of the OEM ID, and the bytes next to those that are printable; not so a zero after the
-- lowest and the highest of these, nor letters; an OEM Table ID and a Creator ID; a second MCFG, not so at the same address, nor a
-- second SSDT
pub record AreHeadersAdvised : Type 0 where
  pub odd : IsHeaderText odd_set rsdp_at 0 10 0x2000
  pub low : IsNoText (0x1f ∷ [])
  pub high : IsNoText (0x7f ∷ [])
  pub text : ¬ IsNoText (0x20 ∷ 0x7e ∷ 0 ∷ [])
  pub letters : IsKept (IsHeaderText (two_tables (codes "MCFG")) rsdp_at)
  pub table_id : IsOddOem (with_byte 23 0x1f (plain_header (codes "MCFG"))) 16 0 0x1f41414141414141
  pub creator : IsOddOem (with_byte 31 0x7f (plain_header (codes "MCFG"))) 28 0 0x7f000000
  pub second : IsSecondOther (two_tables (codes "MCFG")) rsdp_at 1 0 0x3000
  pub same : IsKept (IsSecondOther (memory_of (rsdt_runs same_rsdt (plain_header (codes "MCFG")))) rsdp_at)
  pub several : IsKept (IsSecondOther (two_tables (codes "SSDT")) rsdp_at)

-- an SSDT in place of the DSDT, a Length of 35, a wrong checksum, and the right one; a FACS with a third flag, also
-- where the FADT names it, Version 3, a reserved byte, or a second OSPM Flag, and with two flags; a DSDT with a zero in its OEM ID,
-- with none, and an SSDT in its place; S4BIOS_REQ without S4BIOS_F, the other way round, both, neither, and reduced hardware
pub record AreNamedAdvised : Type 0 where
  pub signature : IsDsdtWrong (memory_of (header_runs (codes "SSDT") 36 0)) (dsdt_fadt 0 0x30) 40 0 0x3000
  pub short : IsDsdtWrong (memory_of (header_runs dsdt_signature 35 0)) (dsdt_fadt 0 0x30) 40 0 0x3000
  pub sum : IsDsdtWrong (memory_of (dsdt_runs 0)) (dsdt_fadt 0 0x30) 40 0 0x3000
  pub right : IsKept (IsDsdtWrong (memory_of (dsdt_runs 23)) (dsdt_fadt 0 0x30))
  pub flags : IsOddFacs (flagged_facs 4) 20 0 4
  pub version : IsOddFacs (facs_of 0 3 0 0 0) 32 0 3
  pub first : IsOddFacs (facs_of 0 2 1 0 0) 33 0 1
  pub ospm : IsOddFacs (facs_of 0 2 0 2 0) 36 0 2
  pub last : IsOddFacs (facs_of 0 2 0 0 1) 63 0 1
  pub two_flags : IsKept (IsOddFacs (flagged_facs 3))
  pub named_flags : IsFacsReserved (memory_of (facs_runs (flagged_facs 4))) (facs_fadt 0x30 0) 20 0 4
  pub named_two : IsKept (IsFacsReserved (memory_of (facs_runs (flagged_facs 3))) (facs_fadt 0x30 0))
  pub text : IsDsdtText (memory_of (named_runs dsdt_signature 0)) (dsdt_fadt 0 0x30) 10 0 0x7e0020
  pub plain : IsKept (IsDsdtText (memory_of (named_runs dsdt_signature 0x41)) (dsdt_fadt 0 0x30))
  pub no_dsdt : IsKept (IsDsdtText (memory_of (named_runs (codes "SSDT") 0)) (dsdt_fadt 0 0x30))
  pub command : IsS4BiosDiffers (memory_of (facs_runs (flagged_facs 2))) (s4_fadt 7 0) 54 0 7
  pub flag : IsS4BiosDiffers (memory_of (facs_runs (flagged_facs 1))) (s4_fadt 0 0) 54 0 0
  pub both : IsKept (IsS4BiosDiffers (memory_of (facs_runs (flagged_facs 1))) (s4_fadt 7 0))
  pub neither : IsKept (IsS4BiosDiffers (memory_of (facs_runs (flagged_facs 2))) (s4_fadt 0 0))
  pub reduced : IsKept (IsS4BiosDiffers (memory_of (facs_runs (flagged_facs 1))) (s4_fadt 0 0x10))

-- all of these
pub record AreSetsAdvised : Type 0 where
  pub roots : AreRootsAdvised
  pub rsdps : AreRsdpsAdvised
  pub headers : AreHeadersAdvised
  pub named : AreNamedAdvised
