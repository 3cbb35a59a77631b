-- The faults of the FACS: each can be decided, and there is none exactly if the FACS is valid.
use Rattle.std.proofs.Common.{◌≡◌, ◌^◌, ◌<◌, ℕ, List, Some, true, refl, sym, ◌∙◌, ap, subst, inr, arith}
use Rattle.std.specs.Prelude.{◌≢◌, ◌%◌}
use Rattle.std.proofs.lemmas.Bool.{both_ways}
use Rattle.std.proofs.lemmas.Option.{cond_some}
use Rattle.acpi_base.specs.Memory.{Memory, IsImage}
use Rattle.acpi_base.specs.Number.{field}
use Rattle.acpi_base.specs.Signature.{has_signature}
use Rattle.acpi_base.specs.Tables.{length_of}
use Rattle.acpi_base.specs.Listed.{fadt_signature}
use Rattle.acpi_base.specs.Fadt.{is_reduced, wide_address, facs_address, IsFadt, IsValidFadt}
use Rattle.acpi_base.specs.Facs.{facs_signature, facs_frame, IsFacs, HasValidFacs, IsValidFacs, NamedFacsFault, FacsFault}
use Rattle.acpi_base.specs.Codes.{stage_of}
use Rattle.acpi_base.specs.declared.code.Code.{Code}
use Rattle.acpi_base.specs.declared.code.Code.TheVariants as code
use Rattle.acpi_base.specs.declared.frame.Question.TheVariants as question
use Rattle.acpi_base.specs.declared.stage.Stage.TheVariants as stage
use Rattle.acpi_base.proofs.Options.{cases_Option}
use Rattle.acpi_base.proofs.Images.PresentBytes.{present_field_below}
use Rattle.acpi_base.proofs.Faults.Deciding.{Decided, decided_as, all3, same, differs, is_false, not_other, not_false}
use Rattle.acpi_base.proofs.Frames as frame
use Rattle.acpi_base.proofs.Frames.{stands_wrong}
use Rattle.acpi_base.proofs.Tables.Listed.{one_listed}

-- ---- its address

pub wide_is : (whole : List ℕ) (end offset address : ℕ) → wide_address whole end offset ≡ Some address
    → field whole offset 8 ≡ address
unfolding wide_address
wide_is whole end offset address e = grind (arith, cond_some)

address_fits : {m : Memory} {p : ℕ} {fadt : List ℕ} → IsImage m → IsFadt m p fadt → facs_address fadt < 2 ^ 64
address_fits {m = m} {fadt = fadt} image is =
    let below_width = present_field_below m image is.a (length_of is.header) fadt is.table.present in
    grind (arith, cases_Option (wide_address fadt 140 132), wide_is fadt 140 132, below_width 132 8, below_width 36 4)

named_place : (m : Memory) (fadt : List ℕ) (c : Code) (at : ℕ) → NamedFacsFault m fadt c at → at ≡ facs_address fadt
named_place m fadt code.NoFacs at (full, zero, is) = is ∙ sym zero
named_place m fadt code.FacsAlign at (named, is, loose) = is
named_place m fadt code.FacsHeaderOut at (named, is, out) = is
named_place m fadt code.FacsSignature at (named, is, unsigned) = is
named_place m fadt code.FacsLength at (named, is, short) = is
named_place m fadt code.FacsOut at (named, is, out) = is
named_place m fadt _ at fault = absurd fault

pub place_fits : {m : Memory} {p : ℕ} → IsImage m → (c : Code) (at : ℕ) → FacsFault m p c at → at < 2 ^ 64
place_fits {m} image c at (fadt, is, long, fault) = rw (named_place m fadt c at fault) (address_fits image is)

-- ---- of the FACS that a FADT names

there_with : (fadt : List ℕ) (at : ℕ) (P : Type 0) → Decided P
    → Decided ((facs_address fadt ≢ 0) × (at ≡ facs_address fadt) × P)
there_with fadt at P decide = all3 (differs (facs_address fadt) 0) (same at (facs_address fadt)) decide

named_decided : (m : Memory) (fadt : List ℕ) (c : Code) (at : ℕ) → Decided (NamedFacsFault m fadt c at)
named_decided m fadt code.NoFacs at = all3 (is_false (is_reduced fadt)) (same (facs_address fadt) 0) (same at 0)
named_decided m fadt code.FacsAlign at = there_with fadt at _ (differs (at % 64) 0)
named_decided m fadt code.FacsHeaderOut at = there_with fadt at _ (frame.decided facs_frame m at question.Header)
named_decided m fadt code.FacsSignature at =
    there_with fadt at _ (frame.decided facs_frame m at (question.Signature facs_signature))
named_decided m fadt code.FacsLength at = there_with fadt at _ (frame.decided facs_frame m at question.Length)
named_decided m fadt code.FacsOut at = there_with fadt at _ (frame.decided facs_frame m at question.Bytes)
named_decided m fadt _ at = inr (λ fault. fault)

named_without_fault : (m : Memory) (fadt : List ℕ)
    → ((c : Code) (at : ℕ) → stage_of c ≡ stage.Facs → ¬ NamedFacsFault m fadt c at) → HasValidFacs m fadt
named_without_fault m fadt none = record { none = reduced; named = facs }
  where
    f : ℕ
    f = facs_address fadt

    reduced : f ≡ 0 → is_reduced fadt ≡ true
    reduced zero = not_false (is_reduced fadt) (λ full. none code.NoFacs 0 refl (full, zero, refl))

    facs : f ≢ 0 → (whole : List ℕ) × IsFacs m f whole
    facs named =
        let aligned = not_other (f % 64) 0 (λ loose. none code.FacsAlign f refl (named, refl, loose)) in
        let is = frame.stands facs_frame m f (λ out. none code.FacsHeaderOut f refl (named, refl, out))
        (λ short. none code.FacsLength f refl (named, refl, short))
        (λ out. none code.FacsOut f refl (named, refl, out)) in
        let signed = not_false (has_signature is.0 facs_signature)
        (λ unsigned. none code.FacsSignature f refl (named, refl, (is.0, is.2.header_present, unsigned))) in
        (is.1, record { aligned = aligned; header = is.0; frame = is.2; signed = signed })

named_excludes : (m : Memory) (fadt : List ℕ) (c : Code) (at : ℕ) → NamedFacsFault m fadt c at → ¬ HasValidFacs m fadt
named_excludes m fadt c at fault valid =
    by_code c (subst (λ (x : ℕ). NamedFacsFault m fadt c x) (named_place m fadt c at fault) fault)
  where
    by_code : (c : Code) → NamedFacsFault m fadt c (facs_address fadt) → ⊥
    by_code code.NoFacs (full, zero, is) = both_ways (is_reduced fadt) full (valid.none zero)
    by_code code.FacsAlign (named, is, loose) = loose (valid.named named).1.aligned
    by_code code.FacsHeaderOut (named, is, out) = stands_wrong question.Header out (valid.named named).1.frame
    by_code code.FacsSignature (named, is, unsigned) =
        let facs = (valid.named named).1 in
        both_ways _ (stands_wrong (question.Signature facs_signature) unsigned facs.frame) facs.signed
    by_code code.FacsLength (named, is, short) = stands_wrong question.Length short (valid.named named).1.frame
    by_code code.FacsOut (named, is, out) = stands_wrong question.Bytes out (valid.named named).1.frame
    by_code _ fault = fault

-- ---- of a set's FACS

pub decided : (m : Memory) (p : ℕ) (fadt : IsValidFadt m p) (c : Code) (at : ℕ) → Decided (FacsFault m p c at)
decided m p fadt c at =
    decided_as (λ h. (fadt.whole, fadt.fadt, fadt.valid.long, h))
    (λ h. rw (one_listed m p fadt_signature h.0 fadt.whole h.1 fadt.fadt) at h.3) (named_decided m fadt.whole c at)

pub place : (m : Memory) (p : ℕ) (fadt : IsValidFadt m p) (c : Code) (at : ℕ) → FacsFault m p c at
    → at ≡ facs_address fadt.whole
place m p fadt c at (whole, is, long, fault) =
    named_place m whole c at fault ∙ ap facs_address (one_listed m p fadt_signature whole fadt.whole is fadt.fadt)

pub valid_without_fault : (m : Memory) (p : ℕ) (fadt : IsValidFadt m p)
    → ((c : Code) (at : ℕ) → stage_of c ≡ stage.Facs → ¬ FacsFault m p c at) → IsValidFacs m p
valid_without_fault m p fadt none whole is =
    rw (one_listed m p fadt_signature whole fadt.whole is fadt.fadt)
    (named_without_fault m fadt.whole (λ c at own fault. none c at own (fadt.whole, fadt.fadt, fadt.valid.long, fault)))

pub excludes : (m : Memory) (p : ℕ) (c : Code) (at : ℕ) → FacsFault m p c at → ¬ IsValidFacs m p
excludes m p c at (fadt, is, long, fault) valid = named_excludes m fadt c at fault (valid fadt is)
