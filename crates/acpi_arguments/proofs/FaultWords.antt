-- The texts of faults on the command line: each is read as its fault, and no other text is read.
use Rattle.std.proofs.Common.{◌≡◌, ◌<◌, ◌∙◌, ◌^◌, ◌&&◌, ◌++◌, ℕ, true, List, ◌∷◌, Option, Some, None, append_assoc, refl, ap, sym, subst}
use Rattle.std.specs.Prelude.{decimal, nat_lt}
use Rattle.std.specs.Fmt.{digits}
use Rattle.std.specs.List.{list_all}
use Rattle.std.specs.Str.{bytes_eq}
use Rattle.std.proofs.lemmas.Bool.{and_parts, lt-ltb, ltb-true}
use Rattle.std.proofs.lemmas.Option.{cond_some, option_and_then_some}
use Rattle.std.proofs.lemmas.Slice.Eq.{bytes_eq-Decides}
use Rattle.clap.proofs.CutLemmas.{after_first-at, before_first-at}
use Rattle.acpi_base.specs.Codes.{code_name, stage_number, stage_of}
use Rattle.acpi_base.specs.Laws.{NumbersFit}
use Rattle.acpi_base.specs.Text.WitnessText.{hex_text, is_no_blank, witness_line}
use Rattle.acpi_base.specs.declared.code.Code.{Code}
use Rattle.acpi_base.specs.declared.code.Code.TheVariants as code
use Rattle.acpi_base.specs.declared.witness.Witness.{Witness}
use Rattle.acpi_base.proofs.Texts.FaultTexts.{name_has_no_blank, stage_has_no_blank, behind_at, behind_name, behind_stage}
use Rattle.acpi_base.proofs.Texts.HexTexts.{hex_has_no_blank, hex_reads_back}
use Rattle.acpi_arguments.specs.Words.{behind_word, code_by_name, named_fault, written_fault, number_behind_0x, numbers_fit, word_of}
use Rattle.acpi_arguments.proofs.Hyphens.{IsPlain, plain_with_more}
use Rattle.acpi_arguments.proofs.Spellings.{lacks}

-- ---- words

first_is : (word rest : List ℕ) → list_all is_no_blank word ≡ true → word_of (word ++ 32 ∷ rest) ≡ word
first_is word rest none = before_first-at 32 word rest (lacks is_no_blank 32 word refl none)

rest_is : (word rest : List ℕ) → list_all is_no_blank word ≡ true → behind_word (word ++ 32 ∷ rest) ≡ rest
rest_is word rest none = after_first-at 32 word rest (lacks is_no_blank 32 word refl none)

-- ---- what the words say

code_is_named : (c : Code) → code_by_name (code_name c) ≡ Some c
unfolding code_by_name
code_is_named code.RsdpOut = refl
code_is_named _ = refl

number_is : (n : ℕ) → n < 2 ^ 64 → number_behind_0x (hex_text n) ≡ n
unfolding hex_text
number_is n fits = hex_reads_back n fits

line_is : (w : Witness) → witness_line w ≡ decimal (stage_number (stage_of w.code)) ++ 32 ∷ behind_stage w
unfolding witness_line behind_stage behind_name behind_at
line_is w = simp append_assoc

names_itself : (w : Witness) → NumbersFit w → named_fault (witness_line w) ≡ Some w
unfolding named_fault behind_stage behind_name behind_at
names_itself w fits =
    let one : behind_word (witness_line w) ≡ behind_stage w =
    ap behind_word (line_is w) ∙ rest_is (decimal (stage_number (stage_of w.code))) (behind_stage w)
    (stage_has_no_blank w.code) in
    let name : word_of (behind_stage w) ≡ code_name w.code =
    first_is (code_name w.code) (behind_name w) (name_has_no_blank w.code) in
    let two : behind_word (behind_stage w) ≡ behind_name w =
    rest_is (code_name w.code) (behind_name w) (name_has_no_blank w.code) in
    let at : word_of (behind_name w) ≡ hex_text w.at = first_is (hex_text w.at) (behind_at w)
    (hex_has_no_blank w.at fits.0) in
    let three : behind_word (behind_name w) ≡ behind_at w =
    rest_is (hex_text w.at) (behind_at w) (hex_has_no_blank w.at fits.0) in
    let other : word_of (behind_at w) ≡ hex_text w.other =
    first_is (hex_text w.other) (hex_text w.point) (hex_has_no_blank w.other fits.1) in
    let four : behind_word (behind_at w) ≡ hex_text w.point =
    rest_is (hex_text w.other) (hex_text w.point) (hex_has_no_blank w.other fits.1) in
    rw (
      one,
      name,
      code_is_named w.code,
      two,
      at,
      three,
      other,
      four,
      number_is w.at fits.0,
      number_is w.other fits.1,
      number_is w.point fits.2,
    ) refl

-- ---- the fault with a text

fit_is_true : (w : Witness) → NumbersFit w → numbers_fit w ≡ true
fit_is_true w fits = rw (lt-ltb _ _ fits.0, lt-ltb _ _ fits.1, lt-ltb _ _ fits.2) refl

pub is_read : (text : List ℕ) (w : Witness) → NumbersFit w → text ≡ witness_line w → written_fault text ≡ Some w
unfolding written_fault
is_read text w fits line =
    let named : named_fault text ≡ Some w = ap named_fault line ∙ names_itself w fits in
    let same : bytes_eq (witness_line w) text ≡ true = (bytes_eq-Decides (witness_line w) text).1 (sym line) in
    rw (named, same, fit_is_true w fits) refl

pub read_is_written : (text : List ℕ) (w : Witness) → written_fault text ≡ Some w
    → NumbersFit w × (text ≡ witness_line w)
unfolding written_fault
read_is_written text w e =
    option_and_then_some _ (named_fault text) w e (λ v named e.
    let same = cond_some (bytes_eq (witness_line v) text && numbers_fit v) v w e in
    let is = and_parts (bytes_eq (witness_line v) text) (numbers_fit v) same.0 in
    let parts = and_parts (nat_lt v.at (2 ^ 64)) (nat_lt v.other (2 ^ 64) && nat_lt v.point (2 ^ 64)) is.1 in
    let others = and_parts (nat_lt v.other (2 ^ 64)) (nat_lt v.point (2 ^ 64)) parts.1 in
    subst (λ (u : Witness). NumbersFit u × (text ≡ witness_line u)) same.1 (
      (ltb-true _ _ parts.0, ltb-true _ _ others.0, ltb-true _ _ others.1),
      sym ((bytes_eq-Decides (witness_line v) text).0 is.0),
    ))

pub none_is_read : (text : List ℕ) → ((w : Witness) → NumbersFit w → text ≡ witness_line w → ⊥)
    → None ≡ written_fault text
none_is_read text none = go (written_fault text) refl
  where
    go : (read : Option Witness) → written_fault text ≡ read → None ≡ written_fault text
    go None e = sym e
    go (Some w) e = (let is = read_is_written text w e in absurd (none w is.0 is.1))

-- ---- its first byte

stage_is_plain : (c : Code) → IsPlain (decimal (stage_number (stage_of c)))
unfolding digits
stage_is_plain code.RsdpOut = refl
stage_is_plain _ = refl

pub fault_is_plain : (text : List ℕ) (w : Witness) → written_fault text ≡ Some w → IsPlain text
fault_is_plain text w e =
    let is = read_is_written text w e in
    subst IsPlain (sym (is.1 ∙ line_is w))
    (plain_with_more (decimal (stage_number (stage_of w.code))) (32 ∷ behind_stage w) (stage_is_plain w.code))
