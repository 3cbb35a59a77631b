-- Advice on the headers of listed tables (ACPI 6.5, 5.2.6). `at` is a slot's number, `point` the address that it lists.
use Rattle.std.specs.Prelude.{◌≡◌, ◌≢◌, ℕ, ◌<◌, ◌≤◌, ◌⊎◌, ◌==◌, Bool, true, List, [], ◌∷◌, length, map, take, drop, slice_index, codes, Some}
use Rattle.std.specs.List.{list_any}
use Rattle.acpi_base.specs.Memory.{Memory, bytes_at}
use Rattle.acpi_base.specs.Number.{field}
use Rattle.acpi_base.specs.Root.{IsSlot}
use Rattle.acpi_lint.specs.Rules.Slots.{IsSecond}

-- ---- text

-- the fields of a header that are text, by offset and size: the signature, the OEM ID, the OEM Table ID and the Creator ID
abbrev pub IsTextField : ℕ → ℕ → Type 0
IsTextField offset size =
    ((offset ≡ 0) × (size ≡ 4)) ⊎ ((offset ≡ 10) × (size ≡ 6)) ⊎ ((offset ≡ 16) × (size ≡ 8)) ⊎ ((offset ≡ 28) × (size ≡ 4))

-- byte i of the text is no printable ASCII, and none of the zeros at its end: byte j, the same or a later one, is not 0
pub record IsNoText (text : List ℕ) : Type 0 where
  pub i : ℕ
  pub j : ℕ
  pub order : i ≤ j
  pub inside : j < length text
  pub odd : (slice_index text i < 32) ⊎ (126 < slice_index text i)
  pub used : slice_index text j ≢ 0

-- the field at this offset of a header is text, and has such a byte
abbrev pub IsOddField : List ℕ → ℕ → Type 0
IsOddField header offset = (size : ℕ) × IsTextField offset size × IsNoText (take size (drop offset header))

-- the text of this size at an offset, `at`, has such a byte; `point` is the number there
abbrev pub IsOddNumber : List ℕ → ℕ → ℕ → ℕ → ℕ → ℕ → Type 0
IsOddNumber bytes offset size at other point =
    (at ≡ offset) × (other ≡ 0) × (point ≡ field bytes offset size) × IsNoText (take size (drop offset bytes))

-- one of the texts of a header behind its signature has such a byte
abbrev pub IsOddOem : List ℕ → ℕ → ℕ → ℕ → Type 0
IsOddOem header at other point =
    IsOddNumber header 10 6 at other point
    ⊎ IsOddNumber header 16 8 at other point
    ⊎ IsOddNumber header 28 4 at other point

-- the header at a is present, and has such a field at this offset
abbrev pub IsOddText : Memory → ℕ → ℕ → Type 0
IsOddText m a offset = (header : List ℕ) × (bytes_at m a 36 ≡ Some header) × IsOddField header offset

-- a slot lists a header with such a field, at the offset `other`
abbrev pub IsHeaderText : Memory → ℕ → ℕ → ℕ → ℕ → Type 0
IsHeaderText m p at other point = IsSlot m p at point × IsOddText m point other

-- ---- tables of which a set has one

-- a signature as a number
abbrev pub signature_number : List ℕ → ℕ
signature_number signature = field signature 0 4

-- the signatures of the tables beside the five kinds that are read of which a set has one at most
unfoldable pub once_signatures : List ℕ
once_signatures =
    map signature_number
    (codes "BERT" ∷ codes "BGRT" ∷ codes "CCEL" ∷ codes "CPEP" ∷ codes "DBG2" ∷ codes "DMAR" ∷ codes "ECDT" ∷ codes "EINJ"
    ∷ codes "ERST" ∷ codes "FPDT" ∷ codes "GTDT" ∷ codes "HEST" ∷ codes "HMAT" ∷ codes "IORT" ∷ codes "IVRS" ∷ codes "MCFG"
    ∷ codes "MPST" ∷ codes "MSCT" ∷ codes "NFIT" ∷ codes "PCCT" ∷ codes "PDTT" ∷ codes "PHAT" ∷ codes "PMTT" ∷ codes "PRMT"
    ∷ codes "RASF" ∷ codes "RAS2" ∷ codes "SBST" ∷ codes "SDEI" ∷ codes "SDEV" ∷ codes "SPCR" ∷ codes "SVKL" ∷ codes "TPM2"
    ∷ codes "VIOT" ∷ codes "WAET" ∷ codes "WSMT" ∷ [])

-- the signature is one of them
abbrev pub is_once : ℕ → Bool
is_once n = list_any (λ s. s == n) once_signatures

-- slot k lists the address a of a header with the signature n
abbrev pub ListsNumber : Memory → ℕ → ℕ → ℕ → ℕ → Type 0
ListsNumber m p n k a =
    IsSlot m p k a × ((header : List ℕ) × (bytes_at m a 36 ≡ Some header) × (signature_number header ≡ n))

-- the slot lists a table of which a set has one, at another address than `other`, the first slot with its signature
abbrev pub IsSecondOther : Memory → ℕ → ℕ → ℕ → ℕ → Type 0
IsSecondOther m p at other point =
    (signature : ℕ) × (is_once signature ≡ true) × IsSecond (ListsNumber m p signature) at other point
