-- Values of the command line begin with no hyphen.
use Rattle.std.proofs.Common.{◌≡◌, ◌==◌, ◌&&◌, ◌++◌, ℕ, Bool, List, [], ◌∷◌, Option, Some, None, true, false, true≢false, cond, codes, refl, ap, subst, sym, inl, inr}
use Rattle.std.proofs.Math.Bool.{and-false}
use Rattle.std.proofs.lemmas.Bool.Decides.{eqb_tells}
use Rattle.std.specs.Prelude.{IfSome, not}
use Rattle.std.proofs.lemmas.Option.{option_and_then_some}
use Rattle.clap.specs.Words.{Text}
use Rattle.acpi_arguments.specs.Words.{all_inputs, hex_word, inputs_word}
use Rattle.acpi_arguments.proofs.Spellings.{made_of, spelling}
use Rattle.acpi_arguments.specs.declared.policy_words.Inputs.{Inputs}

-- a text that begins with no hyphen
abbrev pub begins_plain : Text → Bool
begins_plain [] = false
begins_plain (c ∷ cs) = not (c == 45)

abbrev pub IsPlain : Text → Type 0
IsPlain text = begins_plain text ≡ true

-- each of them begins with no hyphen
abbrev pub ArePlain : List Text → Type 0
ArePlain [] = Unit {0}
ArePlain (text ∷ texts) = IsPlain text × ArePlain texts

-- a text that a reader reads is plain, if it reads neither nothing nor what begins with a hyphen
plain_if_read : {T : Type 0} (reads : Text → Option T) (text : Text) (t : T) → reads [] ≡ None
    → ((rest : Text) → reads (45 ∷ rest) ≡ None)
    → reads text ≡ Some t → IsPlain text
plain_if_read reads [] t nothing hyphen e = absurd (cc)
plain_if_read reads (c ∷ cs) t nothing hyphen e = elim (eqb_tells c 45) [
  | inl is ↦ let none = hyphen cs in absurd (cc (ap (λ x. reads (x ∷ cs)) is.1))
  | inr other ↦ rw other.0 refl
]

-- and so is the value of an option that is read so
pub value_is_plain : {T : Type 0} (reads : Option Text → Option T) (value : Option Text) (t : T)
    → reads (Some []) ≡ None → ((rest : Text) → reads (Some (45 ∷ rest)) ≡ None)
    → reads value ≡ Some t → IfSome value IsPlain
value_is_plain reads None t nothing hyphen e = tt
value_is_plain reads (Some text) t nothing hyphen e = plain_if_read (λ text. reads (Some text)) text t nothing hyphen e

pub no_number : (some short : Bool) (n : ℕ) → cond (some && (short && false)) (Some n) None ≡ None
no_number some short n = simp and-false

pub plain_with_more : (text more : Text) → IsPlain text → IsPlain (text ++ more)
plain_with_more [] more plain = absurd (true≢false (sym plain))
plain_with_more (c ∷ cs) more plain = plain

inputs_are_plain : (word : Text) (inputs : Inputs) → inputs_word word ≡ Some inputs → IsPlain word
inputs_are_plain word inputs e =
    let s = spelling word inputs e in
    let address = plain_if_read (hex_word 8) s.address inputs.address refl (λ rest. no_number _ _ _) s.is_address in
    subst IsPlain (sym s.is) (plain_with_more (s.address ++ codes "=") s.count
    (plain_with_more s.address (codes "=") address))

pub all_are_plain : (words : List Text) (counts : List Inputs) → all_inputs words ≡ Some counts → ArePlain words
all_are_plain [] counts e = tt
all_are_plain (word ∷ words) counts e =
    option_and_then_some _ (inputs_word word) counts e (λ first is e.
    made_of _ (all_inputs words) counts e
    (λ rest are e. (inputs_are_plain word first is, all_are_plain words rest are)))
