-- The faults of the RSDP: each can be decided, and there is none exactly if it is valid.
use Rattle.std.proofs.Common.{◌≡◌, ◌≤◌, ℕ, List, Some, refl, inr, arith}
use Rattle.acpi_base.specs.Frames.{IsValidFrame}
use Rattle.acpi_base.specs.Memory.{Memory, bytes_at}
use Rattle.acpi_base.specs.Number.{byte_sum}
use Rattle.acpi_base.specs.Signature.{has_signature, rsdp_signature}
use Rattle.acpi_base.specs.Rsdp.{revision_of, extended_frame, IsExtended, IsValidRsdp, RsdpFault}
use Rattle.acpi_base.specs.Codes.{stage_of}
use Rattle.acpi_base.specs.declared.code.Code.{Code}
use Rattle.acpi_base.specs.declared.code.Code.TheVariants as code
use Rattle.acpi_base.specs.declared.frame.Question.TheVariants as question
use Rattle.acpi_base.specs.declared.stage.Stage.TheVariants as stage
use Rattle.acpi_base.proofs.Options.{none_and_some, same_value}
use Rattle.acpi_base.proofs.Faults.Deciding.{Decided, both, at_most, differs, is_false, is_none, is_some_with, not_other, not_false, not_none}
use Rattle.acpi_base.proofs.Frames as frame
use Rattle.acpi_base.proofs.Frames.{stands_wrong}

is_extended : (m : Memory) (p : ℕ) → Decided (IsExtended m p)
is_extended m p = is_some_with (bytes_at m p 20) _ (λ head. at_most 2 (revision_of head))

pub decided : (m : Memory) (p : ℕ) (c : Code) → Decided (RsdpFault m p c)
decided m p code.RsdpOut = is_none (bytes_at m p 20)
decided m p code.RsdpSignature = is_some_with (bytes_at m p 20) _ (λ head. is_false (has_signature head rsdp_signature))
decided m p code.RsdpSum = is_some_with (bytes_at m p 20) _ (λ head. differs (byte_sum head) 0)
decided m p code.RsdpTailOut = both (is_extended m p) (frame.decided extended_frame m p question.Header)
decided m p code.RsdpLength = both (is_extended m p) (frame.decided extended_frame m p question.Length)
decided m p code.RsdpLongOut = both (is_extended m p) (frame.decided extended_frame m p question.Bytes)
decided m p code.RsdpExtendedSum = both (is_extended m p) (frame.decided extended_frame m p question.Sum)
decided m p _ = inr (λ fault. fault)

pub valid_without_fault : (m : Memory) (p : ℕ) → ((c : Code) → stage_of c ≡ stage.Rsdp → ¬ RsdpFault m p c)
    → IsValidRsdp m p
valid_without_fault m p none =
    record {
      head = head;
      head_present = present;
      signed = not_false (has_signature head rsdp_signature)
          (λ unsigned. none code.RsdpSignature refl (head, present, unsigned));
      zero_sum = not_other (byte_sum head) 0 (λ sum. none code.RsdpSum refl (head, present, sum));
      extended = extended;
    }
  where
    first : (head : List ℕ) × (bytes_at m p 20 ≡ Some head)
    first = not_none (bytes_at m p 20) (λ out. none code.RsdpOut refl out)

    head : List ℕ
    head = first.0

    present : bytes_at m p 20 ≡ Some head
    present = first.1

    extended : 2 ≤ revision_of head → IsValidFrame extended_frame m p
    extended more =
        let is : IsExtended m p = (head, present, more) in
        frame.valid_without_fault extended_frame m p (λ out. none code.RsdpTailOut refl (is, out))
        (λ short. none code.RsdpLength refl (is, short)) (λ out. none code.RsdpLongOut refl (is, out))
        (λ sum. none code.RsdpExtendedSum refl (is, sum))

extended_part : {m : Memory} {p : ℕ} → IsValidRsdp m p → IsExtended m p → IsValidFrame extended_frame m p
extended_part valid (head, present, more) =
    valid.extended (rw (same_value head valid.head present valid.head_present) at more)

pub excludes : (m : Memory) (p : ℕ) (c : Code) → RsdpFault m p c → ¬ IsValidRsdp m p
excludes m p code.RsdpOut out valid = none_and_some out valid.head_present
excludes m p code.RsdpSignature (head, present, unsigned) valid =
    grind (arith, same_value, valid.head_present, valid.signed)
excludes m p code.RsdpSum (head, present, sum) valid =
    grind (arith, same_value, sum, valid.head_present, valid.zero_sum)
excludes m p code.RsdpTailOut (is, fault) valid = stands_wrong question.Header fault (extended_part valid is).frame
excludes m p code.RsdpLength (is, fault) valid = stands_wrong question.Length fault (extended_part valid is).frame
excludes m p code.RsdpLongOut (is, fault) valid = stands_wrong question.Bytes fault (extended_part valid is).frame
excludes m p code.RsdpExtendedSum (is, fault) valid =
    let extended = extended_part valid is in stands_wrong question.Sum fault extended.frame extended.zero_sum
excludes m p _ fault valid = absurd fault
