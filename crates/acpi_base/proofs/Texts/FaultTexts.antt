-- The texts of faults: their words, and that different faults have different texts.
use Rattle.std.proofs.Common.{◌≡◌, ℕ, ◌^◌, ◌+◌, ◌<◌, ◌==◌, Bool, true, false, cond, List, [], ◌∷◌, ◌++◌, IsTrue, ◌↔◌, refl, sym, ap, ◌∙◌, append_assoc, subst, inl, inr, arith}
use Rattle.std.specs.Prelude.{◌&&◌, decimal}
use Rattle.std.specs.Fmt.{digits}
use Rattle.std.specs.List.{list_all}
use Rattle.std.proofs.lemmas.Bool.{both_ways, cases_lt}
use Rattle.std.proofs.lemmas.List.Folds.{list_all-append}
use Rattle.acpi_base.specs.Codes.{code_number, code_name, stage_number, stage_of}
use Rattle.acpi_base.specs.Text.ImageText.{hex_number}
use Rattle.acpi_base.specs.Laws.{NumbersFit, TextsDiffer}
use Rattle.acpi_base.specs.Text.WitnessText.{hex_text, witness_line, is_no_blank, AreWords, IsHead}
use Rattle.acpi_base.specs.declared.code.Code.{Code}
use Rattle.acpi_base.specs.declared.code.Code.TheVariants as code
use Rattle.acpi_base.specs.declared.witness.Witness.{Witness}
use Rattle.acpi_base.proofs.Faults.Least.{same_parts}
use Rattle.acpi_base.proofs.Faults.Numbers.{codes_by_number, same_code}
use Rattle.acpi_base.proofs.Texts.HexTexts.{hex_reads_back, hex_has_no_blank}

-- ---- words

pub has_blank : (word rest : List ℕ) → list_all is_no_blank (word ++ (32 ∷ rest)) ≡ true → ⊥
has_blank word rest none =
    (let all = sym (list_all-append is_no_blank word (32 ∷ rest)) ∙ none in by (list_all is_no_blank word) all)
  where
    by : (b : Bool) → (b && false) ≡ true → ⊥
    by true e = cc
    by false e = cc

blank_in : (c : ℕ) (word : List ℕ) → c ≡ 32 → list_all is_no_blank (c ∷ word) ≡ true → ⊥
blank_in c word blank all =
    (let none : list_all is_no_blank (32 ∷ word) ≡ true =
    subst (λ (x : ℕ). list_all is_no_blank (x ∷ word) ≡ true) blank all in cc)

rest_of : (a b : Bool) → (a && b) ≡ true → b ≡ true
rest_of true b e = e
rest_of false b e = absurd cc

pub one_word : (word rest other left : List ℕ) → list_all is_no_blank word ≡ true → list_all is_no_blank other ≡ true
    → word ++ (32 ∷ rest) ≡ other ++ (32 ∷ left) → (word ≡ other) × (rest ≡ left)
one_word [] rest [] left p q e = (refl, cc)
one_word [] rest (c ∷ other) left p q e = (let blank : c ≡ 32 = cc in absurd (blank_in c other blank q))
one_word (c ∷ word) rest [] left p q e = (let blank : c ≡ 32 = cc in absurd (blank_in c word blank p))
one_word (c ∷ word) rest (d ∷ other) left p q e =
    let tails : word ++ (32 ∷ rest) ≡ other ++ (32 ∷ left) = cc in
    let heads : c ≡ d = cc in
    let one = one_word word rest other left (rest_of (is_no_blank c) (list_all is_no_blank word) p)
    (rest_of (is_no_blank d) (list_all is_no_blank other) q) tails in
    ((let words = one.0 in cc), one.1)

-- ---- the first two words

same : List ℕ → List ℕ → Bool
same [] [] = true
same (x ∷ xs) (y ∷ ys) = (x == y) && same xs ys
same _ _ = false

-- the number of the first of these codes with a name
number_among : List Code → List ℕ → ℕ
number_among [] name = 0
number_among (c ∷ others) name = cond (same name (code_name c)) (code_number c) (number_among others name)

name_numbers : (c : Code) → number_among codes_by_number (code_name c) ≡ code_number c
unfolding number_among same
name_numbers code.RsdpOut = refl
name_numbers _ = refl

pub same_name : (c d : Code) → code_name c ≡ code_name d → c ≡ d
same_name c d e = same_code c d (sym (name_numbers c) ∙ ap (number_among codes_by_number) e ∙ name_numbers d)

pub name_has_no_blank : (c : Code) → list_all is_no_blank (code_name c) ≡ true
name_has_no_blank code.RsdpOut = refl
name_has_no_blank _ = refl

pub stage_has_no_blank : (c : Code) → list_all is_no_blank (decimal (stage_number (stage_of c))) ≡ true
unfolding digits
stage_has_no_blank code.RsdpOut = refl
stage_has_no_blank _ = refl

-- if no code with a lower number begins a text so, nor this one, none up to it does
pub none_up_to : (stage name : List ℕ) (code : Code) (n : ℕ) (test : Bool) → code_number code ≡ n
    → (IsTrue test ↔ IsHead stage name code) → test ≡ false
    → ((c : Code) → code_number c < n → ¬ IsHead stage name c) → (c : Code) → code_number c < n + 1
    → ¬ IsHead stage name c
none_up_to stage name code n test is same other below c less head =
    elim (cases_lt (code_number c) n) [
      | inl lower ↦ below c lower head
      | inr up ↦ both_ways test other
          (same.1 (subst (λ (d : Code). IsHead stage name d) (same_code c code (omega arith)) head))
    ]

-- ---- numbers

pub same_hex : (m n : ℕ) → m < 2 ^ 64 → n < 2 ^ 64 → hex_text m ≡ hex_text n → m ≡ n
unfolding hex_text
same_hex m n p q e =
    (let ds : digits 16 false m ≡ digits 16 false n = cc in
    sym (hex_reads_back m p) ∙ ap (hex_number 0) ds ∙ hex_reads_back n q)

-- ---- the complete line

-- a fault's stage in decimal
abbrev pub stage_word : Witness → List ℕ
stage_word w = decimal (stage_number (stage_of w.code))

-- the text after the stage, the name and the first number
unfoldable pub behind_at : Witness → List ℕ
behind_at w = hex_text w.other ++ (32 ∷ hex_text w.point)

unfoldable pub behind_name : Witness → List ℕ
behind_name w = hex_text w.at ++ (32 ∷ behind_at w)

unfoldable pub behind_stage : Witness → List ℕ
behind_stage w = code_name w.code ++ (32 ∷ behind_name w)

line_is : (w : Witness) → witness_line w ≡ stage_word w ++ (32 ∷ behind_stage w)
unfolding witness_line behind_stage behind_name behind_at
line_is w = simp append_assoc

pub stage_first : (text stage rest : List ℕ) (w : Witness) → text ≡ witness_line w → list_all is_no_blank stage ≡ true
    → text ≡ stage ++ (32 ∷ rest) → (stage ≡ stage_word w) × (rest ≡ behind_stage w)
stage_first text stage rest w line whole is =
    one_word stage rest (stage_word w) (behind_stage w) whole (stage_has_no_blank w.code) (sym is ∙ line ∙ line_is w)

pub name_next : (text name rest : List ℕ) (w : Witness) → text ≡ behind_stage w → list_all is_no_blank name ≡ true
    → text ≡ name ++ (32 ∷ rest) → (name ≡ code_name w.code) × (rest ≡ behind_name w)
unfolding behind_stage
name_next text name rest w line whole is =
    one_word name rest (code_name w.code) (behind_name w) whole (name_has_no_blank w.code) (sym is ∙ line)

pub at_next : (text at rest : List ℕ) (w : Witness) → NumbersFit w → text ≡ behind_name w
    → list_all is_no_blank at ≡ true → text ≡ at ++ (32 ∷ rest) → (at ≡ hex_text w.at) × (rest ≡ behind_at w)
unfolding behind_name
at_next text at rest w fits line whole is =
    one_word at rest (hex_text w.at) (behind_at w) whole (hex_has_no_blank w.at fits.0) (sym is ∙ line)

others_last : (text other point : List ℕ) (w : Witness) → NumbersFit w → text ≡ behind_at w
    → list_all is_no_blank other ≡ true → text ≡ other ++ (32 ∷ point)
    → (other ≡ hex_text w.other) × (point ≡ hex_text w.point)
unfolding behind_at
others_last text other point w fits line whole is =
    one_word other point (hex_text w.other) (hex_text w.point) whole (hex_has_no_blank w.other fits.1) (sym is ∙ line)

pub line_has_blank : (text : List ℕ) (w : Witness) → text ≡ witness_line w → list_all is_no_blank text ≡ true → ⊥
line_has_blank text w line none =
    has_blank (stage_word w) (behind_stage w)
    (subst (λ (t : List ℕ). list_all is_no_blank t ≡ true) (line ∙ line_is w) none)

pub stage_has_blank_behind : (text : List ℕ) (w : Witness) → text ≡ behind_stage w → list_all is_no_blank text ≡ true
    → ⊥
unfolding behind_stage
stage_has_blank_behind text w line none =
    has_blank (code_name w.code) (behind_name w) (subst (λ (t : List ℕ). list_all is_no_blank t ≡ true) line none)

pub name_has_blank_behind : (text : List ℕ) (w : Witness) → text ≡ behind_name w → list_all is_no_blank text ≡ true → ⊥
unfolding behind_name
name_has_blank_behind text w line none =
    has_blank (hex_text w.at) (behind_at w) (subst (λ (t : List ℕ). list_all is_no_blank t ≡ true) line none)

pub at_has_blank_behind : (text : List ℕ) (w : Witness) → text ≡ behind_at w → list_all is_no_blank text ≡ true → ⊥
unfolding behind_at
at_has_blank_behind text w line none =
    has_blank (hex_text w.other) (hex_text w.point) (subst (λ (t : List ℕ). list_all is_no_blank t ≡ true) line none)

-- the words of a fault's text
pub record WordsOf (w : Witness) (stage name at other point : List ℕ) : Type 0 where
  pub stage_is : stage ≡ stage_word w
  pub name_is : name ≡ code_name w.code
  pub at_is : at ≡ hex_text w.at
  pub other_is : other ≡ hex_text w.other
  pub point_is : point ≡ hex_text w.point

pub words_of : {text stage name at other point : List ℕ} (w : Witness) → NumbersFit w
    → AreWords text stage name at other point → text ≡ witness_line w → WordsOf w stage name at other point
words_of {text} {stage} {name} {at} {other} {point} w fits words line =
    let stages = stage_first text stage _ w line words.stage_whole words.joined in
    let names = name_next _ name _ w stages.1 words.name_whole refl in
    let ats = at_next _ at _ w fits names.1 words.at_whole refl in
    let others = others_last _ other point w fits ats.1 words.other_whole refl in
    record { stage_is = stages.0; name_is = names.0; at_is = ats.0; other_is = others.0; point_is = others.1 }

pub line_of : {text stage name at other point : List ℕ} (w : Witness) → AreWords text stage name at other point
    → WordsOf w stage name at other point → text ≡ witness_line w
unfolding behind_stage behind_name behind_at
line_of w words of = words.joined ∙ rw (of.stage_is, of.name_is, of.at_is, of.other_is, of.point_is) (sym (line_is w))

words_of_line : (w : Witness) → NumbersFit w
    → AreWords (witness_line w) (stage_word w) (code_name w.code) (hex_text w.at) (hex_text w.other) (hex_text w.point)
unfolding behind_stage behind_name behind_at
words_of_line w fits =
    record {
      stage_whole = stage_has_no_blank w.code;
      name_whole = name_has_no_blank w.code;
      at_whole = hex_has_no_blank w.at fits.0;
      other_whole = hex_has_no_blank w.other fits.1;
      joined = line_is w;
    }

pub texts_differ : TextsDiffer
texts_differ w v p q e =
    let of = words_of v q (words_of_line w p) e in
    same_parts (same_name w.code v.code of.name_is) (same_hex w.at v.at p.0 q.0 of.at_is)
    (same_hex w.other v.other p.1 q.1 of.other_is) (same_hex w.point v.point p.2 q.2 of.point_is)
