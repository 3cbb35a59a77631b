-- Examples of advice on the MCFG (PCI Firmware Specification 3.3, 4.1.2), the SPCR (Microsoft's Serial Port Console
-- Redirection Table 1.10), the HMAT (ACPI 6.5, 5.2.28) and the GTDT (ACPI 6.5, 5.2.25): each rule that is no row broken, and kept.
use Rattle.std.specs.Prelude.{◌≡◌, ℕ, List, [], ◌∷◌, ◌++◌, codes, replicate}
use Rattle.acpi_base.specs.Listed.{madt_signature, srat_signature}
use Rattle.acpi_base.specs.Policy.{PolicyValue, inputs_of}
use Rattle.acpi_lint.specs.Rules.McfgAdvice.{IsEcamOverlap}
use Rattle.acpi_lint.specs.Rules.MissingTables.{IsHmatAlone, IsNoGtdt}
use Rattle.acpi_lint.specs.Rules.SpcrAdvice.{IsGsiUnserved, IsNameOpen}
use Rattle.acpi_lint.specs.Rules.TimerAdvice.{IsTimerOverlap}
use Rattle.acpi_examples.specs.Advice.{IsKept, one_entry, processor, cut_madt}
use Rattle.acpi_examples.specs.AdviceFadt.{overridden}
use Rattle.acpi_examples.specs.Rows.{block, console, ecam, entry, frame, loose_block, mcfg, patched, spcr, timed, timer, watchdog}
use Rattle.acpi_examples.specs.Sets.{rsdp_at, set_of}
use Rattle.acpi_examples.specs.Tables.{table}

-- an MCFG with the buses 0 and 1 from 0x100000 on, and bus 2, of this base address
abbrev pub two_ecams : ℕ → List ℕ
two_ecams base = mcfg 1 (ecam 0x100000 0 0 1 ∷ ecam base 0 2 2 ∷ [])

-- an SPCR of this Revision whose last two bytes are its namespace string, with this last byte
abbrev pub named : ℕ → ℕ → List ℕ
named revision last = spcr revision 90 ((84, 2) ∷ (86, 88) ∷ (89, last) ∷ [])

-- a GTDT whose addresses are all 0 or 2^64 - 1
abbrev pub no_address : List ℕ
no_address =
    timed
    (watchdog 0 0 0 ∷ patched 4 (replicate 16 255) (watchdog 0 0 0) ∷ block (frame 0 0 0 0 ∷ [])
    ∷ patched 4 (replicate 8 255) (block (patched 4 (replicate 16 255) (frame 0 0 0 0) ∷ [])) ∷ [])

-- one whose structures have addresses and are not full: a watchdog without the other address, and a GT Block that does not end with
-- its frame, has none, has nine, or has one that begins too early
abbrev pub loose : List ℕ
loose =
    let both = patched 12 (1 ∷ []) (frame 0 1 0 0) in
    timed
    (watchdog 1 0 0 ∷ watchdog 0 1 0 ∷ patched 4 (1 ∷ []) (loose_block (both ∷ [])) ∷ timer 0 20 ((4, 1) ∷ (16, 20) ∷ [])
    ∷ patched 4 (1 ∷ []) (block (replicate 9 both)) ∷ timer 0 59 ((4, 1) ∷ (12, 1) ∷ (16, 19) ∷ []) ∷ [])

-- the header of a table of 80 bytes, of which no more is there; an HMAT beside one; a MADT of 49 bytes with these entries beside one
abbrev pub header : List ℕ → List ℕ
header signature = table signature 80 1 0 []

abbrev pub hmat_bytes : List ℕ
hmat_bytes = table (codes "HMAT") 40 1 0 (replicate 4 0)

abbrev pub IsAloneBeside : List ℕ → ℕ → ℕ → ℕ → Type 0
IsAloneBeside other = IsHmatAlone (set_of hmat_bytes (header other)) rsdp_at

abbrev pub madt_of : List ℕ → List ℕ
madt_of entries = table madt_signature 49 1 0 (replicate 8 0 ++ entries)

abbrev pub HasNoGtdt : List ℕ → List ℕ → ℕ → ℕ → ℕ → Type 0
HasNoGtdt entries other = IsNoGtdt (set_of (madt_of entries) (header other)) rsdp_at (madt_of entries)

-- ---- what they state

-- an ECAM that begins at the last address of another one; not so behind it
pub record AreEcamsOverlapping : Type 0 where
  pub shared : IsEcamOverlap (two_ecams 0xfffff) 44 60 0x2fffff
  pub apart : IsKept (IsEcamOverlap (two_ecams 0x100000))

-- a string that ends with 7; not so with 0, or of Revision 3
pub record AreNamesOpen : Type 0 where
  pub unclosed : IsNameOpen (named 4 7) 89 0 7
  pub closed : IsKept (IsNameOpen (named 4 0))
  pub older : IsKept (IsNameOpen (named 3 7))

-- the GSI 24, which an I/O APIC with 24 inputs does not serve; not so with 25, if the interrupt is one of the GIC, without an I/O
-- APIC, or if the MADT is cut
pub record AreGsisUnserved (q : PolicyValue) : Type 0 where
  pub unserved : inputs_of q 0xfec00000 ≡ 24 → IsGsiUnserved q (console 2 24) (overridden 0) 54 0 24
  pub served : inputs_of q 0xfec00000 ≡ 25 → IsKept (IsGsiUnserved q (console 2 24) (overridden 0))
  pub gic : IsKept (IsGsiUnserved q (console 8 24) (overridden 0))
  pub no_io_apic : IsKept (IsGsiUnserved q (console 2 24) (one_entry 8 (processor 1)))
  pub cut : IsKept (IsGsiUnserved q (console 2 24) (cut_madt (overridden 0)))

-- the last byte of a range is the first one of another; not so if it begins behind that, where there is no address, or in structures
-- that are not full
pub record AreTimersOverlapping : Type 0 where
  pub of_watchdog : IsTimerOverlap (timed (watchdog 0x2000 0x2fff 0 ∷ [])) 108 116 0x2fff
  pub of_block : IsTimerOverlap (timed (patched 4 (0xff ∷ 0x2f ∷ []) (block (frame 0 0x2000 0 0 ∷ [])) ∷ [])) 128 108 0x2fff
  pub of_frame : IsTimerOverlap (timed (block (patched 12 (0xff ∷ 0x2f ∷ []) (frame 0 0x2000 0 0) ∷ []) ∷ [])) 128 136 0x2fff
  pub apart : IsKept (IsTimerOverlap (timed (watchdog 0x2000 0x3000 0 ∷ [])))
  pub none : IsKept (IsTimerOverlap no_address)
  pub not_full : IsKept (IsTimerOverlap loose)

-- an HMAT without an SRAT; not so with one, of which the header suffices
pub record AreHmatsAlone : Type 0 where
  pub alone : IsAloneBeside (codes "GTDT") 0 0 0
  pub listed : IsKept (IsAloneBeside srat_signature)

-- a GIC CPU interface without a GTDT; not so with one, of which the header suffices, without such an interface, or if the MADT is
-- cut or has an entry of a wrong length
pub record AreNoGtdts : Type 0 where
  pub missing : HasNoGtdt (entry 11 5) (codes "HMAT") 0 0 0
  pub listed : IsKept (HasNoGtdt (entry 11 5) (codes "GTDT"))
  pub no_gicc : IsKept (HasNoGtdt (entry 12 5) (codes "HMAT"))
  pub cut : IsKept (HasNoGtdt (entry 11 4 ++ 0 ∷ []) (codes "HMAT"))
  pub unread : IsKept (HasNoGtdt (entry 11 2 ++ entry 0 3) (codes "HMAT"))

-- all of them
pub record AreDevicesAdvised (q : PolicyValue) : Type 0 where
  pub ecams : AreEcamsOverlapping
  pub names : AreNamesOpen
  pub gsis : AreGsisUnserved q
  pub timers : AreTimersOverlapping
  pub hmats : AreHmatsAlone
  pub gtdts : AreNoGtdts
