-- Advice on the SPCR (Microsoft's Serial Port Console Redirection Table 1.10), of its bytes, that no row tells.
use Rattle.std.specs.Prelude.{◌≡◌, ◌≢◌, ℕ, ◌+◌, ◌-◌, List, length, bit_and, nat_le, nat_lt, ◌==◌, ◌&&◌, ◌||◌, not, Bool, Option, Some, None, if◌then◌else◌}
use Rattle.acpi_base.specs.Number.{field}
use Rattle.acpi_base.specs.Across.{HasIoApic, IsServed}
use Rattle.acpi_base.specs.Madt.{MadtContents}
use Rattle.acpi_base.specs.Policy.{PolicyValue}
use Rattle.acpi_lint.specs.Rules.WellFormed.{IsWellFormedMadt}

-- ---- 276 SpcrName: the end of the namespace string

-- the offset of its last byte, from Revision 4 on, if it has 2 bytes or more and lies within the table, behind its fields
abbrev pub name_end : List ℕ → Option ℕ
name_end spcr =
    let size = field spcr 84 2 in
    let start = field spcr 86 2 in
    if nat_le 88 (length spcr) && nat_le 4 (field spcr 8 1) && nat_le 2 size && nat_le 88 start
    && nat_le (start + size) (length spcr)
    then Some (start + size - 1)
    else None

-- this byte, at `at`, is not 0 but `point`
abbrev pub IsNameOpen : List ℕ → ℕ → ℕ → ℕ → Type 0
IsNameOpen spcr at other point =
    (name_end spcr ≡ Some at) × (other ≡ 0) × (point ≡ field spcr at 1) × (point ≢ 0)

-- ---- 274 SpcrGsi: an interrupt of an I/O APIC

-- whether it has the fields of its Revision
abbrev pub has_fields : List ℕ → Bool
has_fields spcr = nat_le 80 (length spcr) && (nat_lt (field spcr 8 1) 4 || nat_le 88 (length spcr))

-- its GSI, if its interrupt is one of an I/O APIC
abbrev pub io_apic_gsi : List ℕ → Option ℕ
io_apic_gsi spcr =
    if has_fields spcr && not (bit_and (field spcr 52 1) 2 == 0) then Some (field spcr 54 4) else None

-- no I/O APIC serves an interrupt number, though there are some; and the MADT is well-formed
abbrev pub ServesNone : PolicyValue → MadtContents → ℕ → Type 0
ServesNone q c gsi = HasIoApic c × (¬ IsServed q c gsi)

abbrev pub IsUnserved : PolicyValue → MadtContents → ℕ → Type 0
IsUnserved q c gsi = ServesNone q c gsi × IsWellFormedMadt c

-- the GSI, at 54, is such a number
abbrev pub IsGsiUnserved : PolicyValue → List ℕ → MadtContents → ℕ → ℕ → ℕ → Type 0
IsGsiUnserved q spcr c at other point =
    (at ≡ 54) × (other ≡ 0) × (io_apic_gsi spcr ≡ Some point) × IsUnserved q c point
