-- The FACS (ACPI 6.5, 5.2.10). It has no checksum. Offsets are from its start.
use Rattle.std.specs.Prelude.{◌≡◌, ◌≢◌, ℕ, ◌%◌, ◌≤◌, List, length, codes, true, false}
use Rattle.acpi_base.specs.Frames.{IsFrame, FrameFault}
use Rattle.acpi_base.specs.Memory.{Memory}
use Rattle.acpi_base.specs.Signature.{has_signature}
use Rattle.acpi_base.specs.Fadt.{IsFadt, is_reduced, facs_address}
use Rattle.acpi_base.specs.declared.code.Code.{Code}
use Rattle.acpi_base.specs.declared.code.Code.TheVariants as code
use Rattle.acpi_base.specs.declared.frame.Frame.{Frame}
use Rattle.acpi_base.specs.declared.frame.Question.TheVariants as question

-- the FACS's signature
abbrev pub facs_signature : List ℕ
facs_signature = codes "FACS"

-- the checks of a FACS besides its alignment; its header is its first 8 bytes
abbrev pub facs_frame : Frame
facs_frame = record { header = 8; length_at = 4; least = 64 }

-- a FACS is at f: at a multiple of 64, with its signature, a Length of at least 64, and all its bytes
pub record IsFacs (m : Memory) (f : ℕ) (whole : List ℕ) : Type 0 where
  pub aligned : f % 64 ≡ 0
  pub header : List ℕ
  pub frame : IsFrame facs_frame m f header whole
  pub signed : has_signature header facs_signature ≡ true

-- the FADT names a FACS, which is valid, or it names none and the hardware is reduced
pub record HasValidFacs (m : Memory) (fadt : List ℕ) : Type 0 where
  pub none : facs_address fadt ≡ 0 → is_reduced fadt ≡ true
  pub named : facs_address fadt ≢ 0 → (whole : List ℕ) × IsFacs m (facs_address fadt) whole

-- Stage 5: the FADT of the set, if there is one, has a valid FACS or needs none. Stage 4 refuses a FADT of fewer than 116
-- bytes.
abbrev pub IsValidFacs : Memory → ℕ → Type 0
IsValidFacs m p = (fadt : List ℕ) → IsFadt m p fadt → HasValidFacs m fadt

-- The faults of the FACS that a FADT names, by their code, and the address that each is reported at; 0 if none is named.
abbrev pub NamedFacsFault : Memory → List ℕ → Code → ℕ → Type 0
NamedFacsFault m fadt code.NoFacs at = (is_reduced fadt ≡ false) × (facs_address fadt ≡ 0) × (at ≡ 0)
NamedFacsFault m fadt code.FacsAlign at = (facs_address fadt ≢ 0) × (at ≡ facs_address fadt) × (at % 64 ≢ 0)
NamedFacsFault m fadt code.FacsHeaderOut at = (facs_address fadt ≢ 0) × (at ≡ facs_address fadt) × FrameFault facs_frame m at question.Header
NamedFacsFault m fadt code.FacsSignature at = (facs_address fadt ≢ 0) × (at ≡ facs_address fadt) × FrameFault facs_frame m at (question.Signature facs_signature)
NamedFacsFault m fadt code.FacsLength at = (facs_address fadt ≢ 0) × (at ≡ facs_address fadt) × FrameFault facs_frame m at question.Length
NamedFacsFault m fadt code.FacsOut at = (facs_address fadt ≢ 0) × (at ≡ facs_address fadt) × FrameFault facs_frame m at question.Bytes
NamedFacsFault m fadt _ at = ⊥

-- The faults of stage 5, by their code. Each requires a FADT of at least 116 bytes.
abbrev pub FacsFault : Memory → ℕ → Code → ℕ → Type 0
FacsFault m p fault at = (fadt : List ℕ) × IsFadt m p fadt × (116 ≤ length fadt) × NamedFacsFault m fadt fault at
