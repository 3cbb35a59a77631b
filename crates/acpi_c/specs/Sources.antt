-- What a caller passes as an image: pieces, or a text.
use Rattle.std.specs.Prelude.{◌≡◌, ◌⊎◌, ℕ, List, Result, Ok, Err}
use Rattle.std.specs.FinMap.{empty}
use Rattle.acpi_base.specs.Memory.{Memory}
use Rattle.acpi_base.specs.Text.ImageText.{IsText, IsRefused}
use Rattle.acpi_base.specs.Text.TextMemory as memory
use Rattle.acpi_base.specs.declared.text.TextFault.{TextFault}
use Rattle.acpi_base.specs.declared.text.TextFault.TheVariants as fault
use Rattle.acpi_c.specs.Pieces.{FirstFits, with_pieces}
use Rattle.acpi_c.specs.declared.pieces.Piece.{Piece}
use Rattle.acpi_c.specs.declared.refusal.Refusal.{Refusal}
use Rattle.acpi_c.specs.declared.refusal.Refusal.TheVariants as refusal

-- which image it gives, or why none; and what is known of it if memory runs out
pub record Source : Type 1 where
  pub Is : Memory → Type 0
  pub Refuses : Refusal → Type 0
  pub MayRunOut : Type 0

-- memory runs out only if the first piece is not refused
abbrev pub pieces_source : List Piece → Source
pieces_source pieces =
    record {
      Is = λ m. with_pieces 0 empty pieces ≡ Ok m;
      Refuses = λ r. with_pieces 0 empty pieces ≡ Err r;
      MayRunOut = FirstFits pieces;
    }

-- why a text is refused. No device is read, so only memory can fail.
abbrev pub text_refusal : TextFault → Refusal
text_refusal (fault.BadLine line) = refusal.BadLine line
text_refusal (fault.NoAddress line) = refusal.NoAddress line
text_refusal (fault.Twice address) = refusal.TextOverlap address
text_refusal (fault.PastEnd line) = refusal.TextPastEnd line
text_refusal fault.TooLong = refusal.TextTooLong
text_refusal fault.Read = refusal.OutOfMemory
text_refusal fault.Memory = refusal.OutOfMemory

-- memory runs out only at a line of data that can be read, if no line before it has a fault, or for a text without a fault
abbrev pub text_source : List ℕ → Source
text_source text =
    record {
      Is = IsText text;
      Refuses = λ r. (f : TextFault) × IsRefused text f × (r ≡ text_refusal f);
      MayRunOut = memory.MayRunOut text;
    }

-- why there is no result for it: there is no image, or memory runs out
abbrev pub Fails : Source → Refusal → Type 0
Fails source r = ((r ≡ refusal.OutOfMemory) × source.MayRunOut) ⊎ source.Refuses r

-- the result of reading it: its image, or why there is none
abbrev pub Reads : Source → Result Memory Refusal → Type 0
Reads source (Ok m) = source.Is m
Reads source (Err r) = Fails source r
