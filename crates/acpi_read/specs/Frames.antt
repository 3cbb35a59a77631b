-- The bytes of a structure whose header has its length, and the first check that fails (ACPI 6.5, 5.2.5.3, 5.2.6, 5.2.10).
use Rattle.std.specs.Prelude.{◌≡◌, ℕ, ◌≤◌, ◌<◌, Bool, List, length, Option, Some, None, true}
use Rattle.acpi_base.specs.Frames.{IsFrame, FrameFault, frame_length}
use Rattle.acpi_base.specs.Memory.{Memory, bytes_at}
use Rattle.acpi_base.specs.Signature.{has_signature}
use Rattle.acpi_base.specs.declared.frame.Frame.{Frame}
use Rattle.acpi_base.specs.declared.frame.Question.{Question}
use Rattle.acpi_base.specs.declared.frame.Question.TheVariants as question

-- whether a header begins with the signature, if there is one to check
abbrev pub is_signed_as : Option (List ℕ) → List ℕ → Bool
is_signed_as None header = true
is_signed_as (Some signature) header = has_signature header signature

-- a structure with the signature is at a, and these are its bytes
pub record AreBytesOf (f : Frame) (m : Memory) (a : ℕ) (signature : Option (List ℕ)) (whole : List ℕ) : Type 0 where
  pub header : List ℕ
  pub frame : IsFrame f m a header whole
  pub signed : is_signed_as signature header ≡ true
  pub count : length whole ≡ frame_length f header

-- the first fault of a structure at a with the signature, by the check that fails: those before it hold
abbrev pub IsFirstFrameFault : Frame → Memory → ℕ → Option (List ℕ) → Question → Type 0
IsFirstFrameFault f m a signature question.Header = FrameFault f m a question.Header
IsFirstFrameFault f m a signature (question.Signature other) = (signature ≡ Some other) × FrameFault f m a (question.Signature other)
IsFirstFrameFault f m a signature question.Length = (header : List ℕ) × (bytes_at m a f.header ≡ Some header) × (is_signed_as signature header ≡ true) × (frame_length f header < f.least)
IsFirstFrameFault f m a signature question.Bytes = (header : List ℕ) × (bytes_at m a f.header ≡ Some header) × (is_signed_as signature header ≡ true) × (f.least ≤ frame_length f header) × (bytes_at m a (frame_length f header) ≡ None)
IsFirstFrameFault f m a signature question.Sum = ⊥
