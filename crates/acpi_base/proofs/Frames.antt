-- The faults of a structure whose header has its length: each can be decided; without one the structure is present, and
-- one that is present can only have a wrong checksum.
use Rattle.std.proofs.Common.{◌≡◌, ◌≤◌, ◌+◌, ℕ, List, length, take, sym, ◌∙◌, arith}
use Rattle.std.specs.Prelude.{◌≢◌, false}
use Rattle.acpi_base.specs.Frames.{frame_length, IsFrame, IsValidFrame, FrameFault}
use Rattle.acpi_base.specs.Memory.{Memory, byte_of, bytes_at}
use Rattle.acpi_base.specs.Number.{field, byte_sum}
use Rattle.acpi_base.specs.Signature.{has_signature}
use Rattle.acpi_base.specs.declared.frame.Frame.{Frame}
use Rattle.acpi_base.specs.declared.frame.Question.{Question}
use Rattle.acpi_base.specs.declared.frame.Question.TheVariants as question
use Rattle.acpi_base.proofs.Images.ByteRuns.{run_of-take}
use Rattle.acpi_base.proofs.Options.{none_and_some, same_value}
use Rattle.acpi_base.proofs.Images.PresentBytes.{length-bytes_at, field-take}
use Rattle.acpi_base.proofs.Faults.Deciding.{Decided, decided_as, both, below, at_most, differs, is_false, is_none, is_some_with, not_below, not_other, not_none}

pub decided : (f : Frame) (m : Memory) (a : ℕ) (q : Question) → Decided (FrameFault f m a q)
decided f m a question.Header = is_none (bytes_at m a f.header)
decided f m a (question.Signature signature) =
    is_some_with (bytes_at m a f.header) _ (λ header. is_false (has_signature header signature))
decided f m a question.Length =
    is_some_with (bytes_at m a f.header) _ (λ header. below (frame_length f header) f.least)
decided f m a question.Bytes =
    decided_as (λ h. (h.0, h.1, h.2.0, h.2.1)) (λ h. (h.0, h.1, (h.2, h.3)))
    (is_some_with (bytes_at m a f.header) _
    (λ header. both (at_most f.least (frame_length f header)) (is_none (bytes_at m a (frame_length f header)))))
decided f m a question.Sum =
    decided_as (λ h. (h.0, h.2.1.0, record { header_present = h.1; least = h.2.0; present = h.2.1.1 }, h.2.1.2))
    (λ h. (h.0, h.2.header_present, (h.2.least, (h.1, h.2.present, h.3))))
    (is_some_with (bytes_at m a f.header) _
    (λ header. both (at_most f.least (frame_length f header))
    (is_some_with (bytes_at m a (frame_length f header)) _ (λ whole. differs (byte_sum whole) 0))))

pub stands : (f : Frame) (m : Memory) (a : ℕ) → ¬ FrameFault f m a question.Header → ¬ FrameFault f m a question.Length
    → ¬ FrameFault f m a question.Bytes → (header : List ℕ) × (whole : List ℕ) × IsFrame f m a header whole
stands f m a in_header long present =
    let header = not_none (bytes_at m a f.header) in_header in
    let least = not_below (frame_length f header.0) f.least (λ short. long (header.0, header.1, short)) in
    let whole = not_none (bytes_at m a (frame_length f header.0)) (λ out. present (header.0, header.1, least, out)) in
    (header.0, whole.0, record { header_present = header.1; least = least; present = whole.1 })

pub valid_without_fault : (f : Frame) (m : Memory) (a : ℕ) → ¬ FrameFault f m a question.Header
    → ¬ FrameFault f m a question.Length → ¬ FrameFault f m a question.Bytes → ¬ FrameFault f m a question.Sum
    → IsValidFrame f m a
valid_without_fault f m a in_header long present zero =
    let is = stands f m a in_header long present in
    let zero_sum = not_other (byte_sum is.1) 0 (λ sum. zero (is.0, is.1, is.2, sum)) in
    record { header = is.0; whole = is.1; frame = is.2; zero_sum = zero_sum }

-- ---- a structure that is present

pub one_frame : {f : Frame} {m : Memory} {a : ℕ} {header whole header' whole' : List ℕ} → IsFrame f m a header whole
    → IsFrame f m a header' whole' → whole ≡ whole'
one_frame {header = header} {whole} {header'} {whole'} one other =
    let same = same_value header header' one.header_present other.header_present in
    same_value whole whole' (rw same at one.present) other.present

pub length_frame : {f : Frame} {m : Memory} {a : ℕ} {header whole : List ℕ} → IsFrame f m a header whole
    → length whole ≡ frame_length f header
length_frame {f} {m} {a} {header} {whole} is = length-bytes_at m a (frame_length f header) whole is.present

pub header_is : {f : Frame} {m : Memory} {a : ℕ} {header whole : List ℕ} → IsFrame f m a header whole
    → f.header ≤ f.least → header ≡ take f.header whole
header_is {f} {m} {a} {header} {whole} is fits =
    same_value header (take f.header whole) is.header_present
    (run_of-take (byte_of m) a (frame_length f header) f.header whole is.present (omega (arith, is.least)))

pub header_field : {f : Frame} {m : Memory} {a : ℕ} {header whole : List ℕ} → IsFrame f m a header whole
    → f.header ≤ f.least → (offset width : ℕ) → offset + width ≤ f.header
    → field whole offset width ≡ field header offset width
header_field {f} {header = header} {whole = whole} is fits offset width inside =
    rw (header_is is fits) (sym (field-take whole f.header offset width inside))

pub says_length : {f : Frame} {m : Memory} {a : ℕ} {header whole : List ℕ} → IsFrame f m a header whole
    → f.header ≤ f.least → f.length_at + 4 ≤ f.header → frame_length f whole ≡ length whole
says_length {f} is fits inside = header_field is fits f.length_at 4 inside ∙ sym (length_frame is)

-- a fault of a structure that is present: it has another signature, or its checksum is wrong
abbrev pub StandsWrong : Question → List ℕ → List ℕ → Type 0
StandsWrong (question.Signature signature) header whole = has_signature header signature ≡ false
StandsWrong question.Sum header whole = byte_sum whole ≢ 0
StandsWrong _ header whole = ⊥

pub stands_wrong : {f : Frame} {m : Memory} {a : ℕ} {header whole : List ℕ} (q : Question) → FrameFault f m a q
    → IsFrame f m a header whole → StandsWrong q header whole
stands_wrong question.Header out is = none_and_some out is.header_present
stands_wrong {header = header} (question.Signature signature) (other, present, unsigned) is =
    rw (same_value other header present is.header_present) at unsigned
stands_wrong question.Length (other, present, short) is = grind (arith, same_value, is.least, is.header_present)
stands_wrong question.Bytes (other, present, least, out) is =
    grind (arith, same_value, none_and_some, is.header_present, is.present)
stands_wrong question.Sum (other, bytes, also, sum) is =
    grind (arith, same_value, sum, also.header_present, also.present, is.header_present, is.present)
