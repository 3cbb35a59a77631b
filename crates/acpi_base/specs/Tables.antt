-- System description tables (ACPI 6.5, 5.2.6). Offsets are from a table's start.
use Rattle.std.specs.Prelude.{◌≡◌, ℕ, List, Some, true}
use Rattle.acpi_base.specs.Frames.{IsFrame, IsValidFrame, FrameFault}
use Rattle.acpi_base.specs.Memory.{Memory, bytes_at}
use Rattle.acpi_base.specs.Number.{field}
use Rattle.acpi_base.specs.Signature.{has_signature}
use Rattle.acpi_base.specs.declared.code.Code.{Code}
use Rattle.acpi_base.specs.declared.code.Code.TheVariants as code
use Rattle.acpi_base.specs.declared.frame.Frame.{Frame}
use Rattle.acpi_base.specs.declared.frame.Question.TheVariants as question

-- a table's Length in bytes, header and all, as its header says
abbrev pub length_of : List ℕ → ℕ
length_of header = field header 4 4

-- the checks of a table
abbrev pub table_frame : Frame
table_frame = record { header = 36; length_at = 4; least = 36 }

-- a table is at a: its 36 header bytes are present, its Length is at least 36, and its Length bytes are present
abbrev pub IsTable : Memory → ℕ → List ℕ → List ℕ → Type 0
IsTable m a header whole = IsFrame table_frame m a header whole

-- a header is present at a, with this signature
pub record IsSigned (m : Memory) (a : ℕ) (signature : List ℕ) : Type 0 where
  pub header : List ℕ
  pub header_present : bytes_at m a 36 ≡ Some header
  pub signed : has_signature header signature ≡ true

-- a table is at a whose bytes sum to 0
abbrev pub IsValidTable : Memory → ℕ → Type 0
IsValidTable m a = IsValidFrame table_frame m a

-- The faults of a listed table at a, by their code.
abbrev pub TableFault : Memory → ℕ → Code → Type 0
TableFault m a code.TableHeaderOut = FrameFault table_frame m a question.Header
TableFault m a code.TableLength = FrameFault table_frame m a question.Length
TableFault m a code.TableOut = FrameFault table_frame m a question.Bytes
TableFault m a code.TableSum = FrameFault table_frame m a question.Sum
TableFault m a _ = ⊥
