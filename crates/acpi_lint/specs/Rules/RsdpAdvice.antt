-- Advice on the RSDP (ACPI 6.5, 5.2.5.3). `at` is the offset of a field from its start, `point` the number there.
use Rattle.std.specs.Prelude.{◌≡◌, ◌≢◌, ℕ, ◌<◌, ◌⊎◌, List, Some}
use Rattle.acpi_base.specs.Frames.{frame_length}
use Rattle.acpi_base.specs.Memory.{Memory, bytes_at}
use Rattle.acpi_base.specs.Rsdp.{IsExtended, extended_frame, revision_of}
use Rattle.acpi_lint.specs.Rules.FixedFields.{IsUsed}
use Rattle.acpi_lint.specs.Rules.HeaderAdvice.{IsOddNumber}

-- the Revision is neither 0 nor 2
abbrev pub IsOddRevision : Memory → ℕ → ℕ → ℕ → ℕ → Type 0
IsOddRevision m p at other point =
    (at ≡ 15) × (other ≡ 0) × (point ≢ 0) × (point ≢ 2)
    × ((head : List ℕ) × (bytes_at m p 20 ≡ Some head) × (point ≡ revision_of head))

-- the RSDP has the extended form, and these are its 36 bytes
abbrev pub AreExtendedBytes : Memory → ℕ → List ℕ → Type 0
AreExtendedBytes m p bytes = IsExtended m p × (bytes_at m p 36 ≡ Some bytes)

-- the extended form has a Length above 36, and as many bytes are present
abbrev pub IsLongRsdp : Memory → ℕ → List ℕ → ℕ → ℕ → ℕ → Type 0
IsLongRsdp m p bytes at other point =
    (at ≡ 20) × (other ≡ 0) × (point ≡ frame_length extended_frame bytes) × (36 < point)
    × ((whole : List ℕ) × (bytes_at m p point ≡ Some whole))

-- the extended form is longer than 36 bytes, or has a reserved byte that is not 0
abbrev pub IsOddExtended : Memory → ℕ → ℕ → ℕ → ℕ → Type 0
IsOddExtended m p at other point =
    (bytes : List ℕ) × AreExtendedBytes m p bytes
    × (IsLongRsdp m p bytes at other point ⊎ IsUsed bytes 33 36 at other point)

-- the Revision is neither 0 nor 2, or the extended form is longer than 36 bytes or has a reserved byte that is not 0
abbrev pub IsRsdpReserved : Memory → ℕ → ℕ → ℕ → ℕ → Type 0
IsRsdpReserved m p at other point = IsOddRevision m p at other point ⊎ IsOddExtended m p at other point

-- the OEM ID has a byte that is no text; its first 20 bytes are present
abbrev pub IsRsdpText : Memory → ℕ → ℕ → ℕ → ℕ → Type 0
IsRsdpText m p at other point = (head : List ℕ) × (bytes_at m p 20 ≡ Some head) × IsOddNumber head 9 6 at other point
