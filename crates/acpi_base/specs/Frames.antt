-- Structures whose header has their length (ACPI 6.5, 5.2.5.3, 5.2.6, 5.2.10). Offsets are from a structure's start.
use Rattle.std.specs.Prelude.{◌≡◌, ◌≢◌, ℕ, ◌<◌, ◌≤◌, List, Some, None, false}
use Rattle.acpi_base.specs.Memory.{Memory, bytes_at}
use Rattle.acpi_base.specs.Number.{field, byte_sum}
use Rattle.acpi_base.specs.Signature.{has_signature}
use Rattle.acpi_base.specs.declared.frame.Frame.{Frame}
use Rattle.acpi_base.specs.declared.frame.Question.{Question}
use Rattle.acpi_base.specs.declared.frame.Question.TheVariants as question

-- a structure's length in bytes, header and all, as its header says
abbrev pub frame_length : Frame → List ℕ → ℕ
frame_length frame header = field header frame.length_at 4

-- a structure is at a: the bytes of its header are present, its Length is at least the minimum, and its Length bytes are
-- present
pub record IsFrame (frame : Frame) (m : Memory) (a : ℕ) (header whole : List ℕ) : Type 0 where
  pub header_present : bytes_at m a frame.header ≡ Some header
  pub least : frame.least ≤ frame_length frame header
  pub present : bytes_at m a (frame_length frame header) ≡ Some whole

-- a structure is at a whose bytes sum to 0
pub record IsValidFrame (f : Frame) (m : Memory) (a : ℕ) : Type 0 where
  pub header : List ℕ
  pub whole : List ℕ
  pub frame : IsFrame f m a header whole
  pub zero_sum : byte_sum whole ≡ 0

-- The faults of a structure at a, by the check that fails.
abbrev pub FrameFault : Frame → Memory → ℕ → Question → Type 0
FrameFault frame m a question.Header = bytes_at m a frame.header ≡ None
FrameFault frame m a (question.Signature signature) = (header : List ℕ) × (bytes_at m a frame.header ≡ Some header) × (has_signature header signature ≡ false)
FrameFault frame m a question.Length = (header : List ℕ) × (bytes_at m a frame.header ≡ Some header) × (frame_length frame header < frame.least)
FrameFault frame m a question.Bytes = (header : List ℕ) × (bytes_at m a frame.header ≡ Some header) × (frame.least ≤ frame_length frame header) × (bytes_at m a (frame_length frame header) ≡ None)
FrameFault frame m a question.Sum = (header : List ℕ) × (whole : List ℕ) × IsFrame frame m a header whole × (byte_sum whole ≢ 0)
