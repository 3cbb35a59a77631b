-- The first field, text or reserved byte of a FACS, an RSDP or a header that has no meaning.
use Rattle.std.proofs.Common.{◌≡◌, ◌≢◌, ℕ, ◌≤◌, List, Option, Some, false, subst, inl, inr, arith}
use Rattle.std.specs.Prelude.{◌⊎◌}
use Rattle.std.specs.Option.{option_or}
use Rattle.acpi_base.specs.Facs.{IsFacs}
use Rattle.acpi_base.specs.Fadt.{facs_address, is_reduced}
use Rattle.acpi_base.specs.Memory.{Memory, bytes_at}
use Rattle.acpi_base.proofs.Frames.{one_frame}
use Rattle.acpi_base.proofs.Options.{same_value}
use Rattle.acpi_rules.specs.Places.{FindsLeast}
use Rattle.acpi_lint.specs.Rules.NamedAdvice.{IsDsdtHeader, IsDsdtText, IsOddFacs, IsFacsReserved, IsOtherS4Bios, IsS4BiosDiffers}
use Rattle.acpi_lint.specs.Rules.FixedFields.{IsAbove, IsUsed}
use Rattle.acpi_lint.specs.Rules.HeaderAdvice.{IsOddNumber, IsOddOem}
use Rattle.acpi_lint.specs.Rules.RootAdvice.{IsOddRoot, IsOtherRevision}
use Rattle.acpi_lint.specs.Rules.RsdpAdvice.{AreExtendedBytes, IsOddRevision, IsLongRsdp, IsOddExtended, IsRsdpReserved, IsRsdpText}
use Rattle.acpi_rules.specs.declared.place.Place.{Place}
use Rattle.acpi_lint.proofs.FirstPlaces.{first_of_two}
use Rattle.acpi_rules.proofs.LeastPlaces.{least_as}

-- ---- of a FACS

-- the last three
abbrev IsLastOdd : List ℕ → ℕ → ℕ → ℕ → Type 0
IsLastOdd facs at other point =
    IsUsed facs 33 36 at other point ⊎ IsAbove facs 36 4 1 at other point ⊎ IsUsed facs 40 64 at other point

last_from : (facs : List ℕ) (at other point : ℕ) → IsLastOdd facs at other point → 33 ≤ at
last_from facs at other point (inl reserved) = omega (arith, reserved.0)
last_from facs at other point (inr (inl ospm)) = omega (arith, ospm.0)
last_from facs at other point (inr (inr rest)) = omega (arith, rest.0)

ospm_from : (facs : List ℕ) (at other point : ℕ) → IsAbove facs 36 4 1 at other point ⊎ IsUsed facs 40 64 at other point
    → 36 ≤ at
ospm_from facs at other point (inl ospm) = omega (arith, ospm.0)
ospm_from facs at other point (inr rest) = omega (arith, rest.0)

version_from : (facs : List ℕ) (at other point : ℕ) → IsAbove facs 32 1 2 at other point ⊎ IsLastOdd facs at other point
    → 32 ≤ at
version_from facs at other point (inl version) = omega (arith, version.0)
version_from facs at other point (inr last) = omega (arith, last_from facs at other point last)

pub first_odd : (facs : List ℕ) (flags version reserved ospm rest : Option Place) → FindsLeast
    (IsAbove facs 20 4 3) flags
    → FindsLeast (IsAbove facs 32 1 2) version → FindsLeast (IsUsed facs 33 36) reserved
    → FindsLeast (IsAbove facs 36 4 1) ospm → FindsLeast (IsUsed facs 40 64) rest
    → FindsLeast (IsOddFacs facs) (option_or flags (option_or version (option_or reserved (option_or ospm rest))))
first_odd facs flags version reserved ospm rest one two three four five =
    first_of_two {P = IsAbove facs 20 4 3} 32 flags _ one
    (first_of_two {P = IsAbove facs 32 1 2} {Q = IsLastOdd facs} 33 version _ two
    (first_of_two {P = IsUsed facs 33 36} 36 reserved _ three
    (first_of_two {P = IsAbove facs 36 4 1} {Q = IsUsed facs 40 64} 40 ospm rest four five
    (λ at other point h. omega (arith, h.0)) (λ at other point h. omega (arith, h.0)))
    (λ at other point h. omega (arith, h.1)) (ospm_from facs))
    (λ at other point h. omega (arith, h.0)) (last_from facs))
    (λ at other point h. omega (arith, h.0)) (version_from facs)

-- what is found in the FACS that a FADT names
pub of_named_facs : (m : Memory) (fadt facs : List ℕ) (found : Option Place) → facs_address fadt ≢ 0
    → IsFacs m (facs_address fadt) facs → FindsLeast (IsOddFacs facs) found → FindsLeast (IsFacsReserved m fadt) found
of_named_facs m fadt facs found named is least =
    least_as found (λ at other point odd. (named, (facs, is, odd)))
    (λ at other point (also, (others, there, odd)).
    subst (λ (f : List ℕ). IsOddFacs f at other point) (one_frame there.frame is.frame) odd)
    least

-- ---- of an RSDP

pub first_extended : (m : Memory) (p : ℕ) (bytes : List ℕ) (long rest : Option Place) → AreExtendedBytes m p bytes
    → FindsLeast (IsLongRsdp m p bytes) long → FindsLeast (IsUsed bytes 33 36) rest
    → FindsLeast (IsOddExtended m p) (option_or long rest)
first_extended m p bytes long rest there one other =
    least_as (option_or long rest) (λ at second third odd. (bytes, there, odd))
    (λ at second third (others, also, odd).
    subst (λ (b : List ℕ). IsLongRsdp m p b at second third ⊎ IsUsed b 33 36 at second third)
    (same_value others bytes also.1 there.1) odd)
    (first_of_two {P = IsLongRsdp m p bytes} {Q = IsUsed bytes 33 36} 33 long rest one other
    (λ at second third h. omega (arith, h.0)) (λ at second third h. omega (arith, h.0)))

extended_from : (m : Memory) (p at other point : ℕ) → IsOddExtended m p at other point → 16 ≤ at
extended_from m p at other point (bytes, there, inl long) = omega (arith, long.0)
extended_from m p at other point (bytes, there, inr rest) = omega (arith, rest.0)

pub first_reserved : (m : Memory) (p : ℕ) (one other : Option Place) → FindsLeast (IsOddRevision m p) one
    → FindsLeast (IsOddExtended m p) other → FindsLeast (IsRsdpReserved m p) (option_or one other)
first_reserved m p one other revision extended =
    first_of_two {P = IsOddRevision m p} {Q = IsOddExtended m p} 16 one other revision extended
    (λ at second third h. omega (arith, h.0)) (extended_from m p)

pub of_head : (m : Memory) (p : ℕ) (head : List ℕ) (found : Option Place) → bytes_at m p 20 ≡ Some head
    → FindsLeast (IsOddNumber head 9 6) found → FindsLeast (IsRsdpText m p) found
of_head m p head found there least =
    least_as found (λ at other point odd. (head, there, odd))
    (λ at other point (others, also, odd).
    subst (λ (b : List ℕ). IsOddNumber b 9 6 at other point) (same_value others head also there) odd)
    least

-- ---- of a header

-- the last two texts
abbrev IsLastText : List ℕ → ℕ → ℕ → ℕ → Type 0
IsLastText header at other point = IsOddNumber header 16 8 at other point ⊎ IsOddNumber header 28 4 at other point

last_text_from : (header : List ℕ) (at other point : ℕ) → IsLastText header at other point → 16 ≤ at
last_text_from header at other point (inl table) = omega (arith, table.0)
last_text_from header at other point (inr creator) = omega (arith, creator.0)

pub first_oem : (header : List ℕ) (id table creator : Option Place) → FindsLeast (IsOddNumber header 10 6) id
    → FindsLeast (IsOddNumber header 16 8) table → FindsLeast (IsOddNumber header 28 4) creator
    → FindsLeast (IsOddOem header) (option_or id (option_or table creator))
first_oem header id table creator one two three =
    first_of_two {P = IsOddNumber header 10 6} {Q = IsLastText header} 16 id _ one
    (first_of_two {P = IsOddNumber header 16 8} {Q = IsOddNumber header 28 4} 28 table creator two three
    (λ at other point h. omega (arith, h.0)) (λ at other point h. omega (arith, h.0)))
    (λ at other point h. omega (arith, h.0)) (last_text_from header)

oem_from : (header : List ℕ) (at other point : ℕ) → IsOddOem header at other point → 10 ≤ at
oem_from header at other point (inl id) = omega (arith, id.0)
oem_from header at other point (inr last) = omega (arith, last_text_from header at other point last)

pub first_of_root : (whole : List ℕ) (revision text : Option Place) → FindsLeast (IsOtherRevision whole) revision
    → FindsLeast (IsOddOem whole) text → (d : ℕ) → FindsLeast (IsOddRoot whole d) (option_or revision text)
first_of_root whole revision text one two d =
    first_of_two {P = IsOtherRevision whole} {Q = IsOddOem whole} 10 revision text one two
    (λ at other point h. omega (arith, h.0)) (oem_from whole)

-- what is found in the header of the DSDT that a FADT names
pub of_dsdt_header : (m : Memory) (fadt header : List ℕ) (found : Option Place) → IsDsdtHeader m fadt header
    → FindsLeast (IsOddOem header) found → FindsLeast (IsDsdtText m fadt) found
of_dsdt_header m fadt header found is least =
    least_as found (λ at other point odd. (header, is, odd))
    (λ at other point (others, also, odd).
    subst (λ (h : List ℕ). IsOddOem h at other point) (same_value others header also.1 is.1) odd)
    least

-- what is found of S4BIOS, by the FACS that a FADT of hardware that is not reduced names
pub of_s4bios_facs : (m : Memory) (fadt facs : List ℕ) (found : Option Place) → is_reduced fadt ≡ false
    → facs_address fadt ≢ 0 → IsFacs m (facs_address fadt) facs → FindsLeast (IsOtherS4Bios fadt facs) found
    → FindsLeast (IsS4BiosDiffers m fadt) found
of_s4bios_facs m fadt facs found full named is least =
    least_as found (λ at other point differs. (full, named, (facs, is, differs)))
    (λ at other point (also_full, also, (others, there, differs)).
    subst (λ (f : List ℕ). IsOtherS4Bios fadt f at other point) (one_frame there.frame is.frame) differs)
    least
