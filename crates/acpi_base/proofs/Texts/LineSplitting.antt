-- The lines of a text are the parts between its LFs.
use Rattle.std.proofs.Common.{◌≡◌, ℕ, ◌<◌, List, [], ◌∷◌, ◌++◌, length, get_or, refl, sym, ap, subst, ◌∙◌, arith, append_assoc, eqb, false, inl, inr}
use Rattle.std.proofs.lemmas.Bool.{cases_eq, ne_eqb}
use Rattle.std.proofs.lemmas.Bool.Decides.{nat_tests}
use Rattle.std.proofs.lemmas.List.{append-nil}
use Rattle.std.proofs.lemmas.List.Elements.{All-cons, All-nil, All-head, All-tail, All-push, All-weaker, All-from_get_or, Contains-get_or}
use Rattle.std.proofs.lemmas.List.Splits.{slice_split_none, slice_split_at, length-slice_split, join_with_byte-slice_split}
use Rattle.std.specs.List.{All, Contains, join_with_byte, slice_split}
use Rattle.std.specs.Prelude.{◌↔◌}
use Rattle.acpi_base.specs.Text.ImageText.{ended_lines_from, last_line_from}
use Rattle.acpi_base.specs.Text.TextMeaning.{text_lines, AreLines}

-- no byte is an LF
abbrev IsLine : List ℕ → Type 0
IsLine line = All (λ b. eqb b 10 ≡ false) line

-- the lines from a prefix of the first on are the parts between LFs, and have no LF
lines_are_parts : (line bytes : List ℕ) → IsLine line
    → (ended_lines_from line bytes ++ last_line_from line bytes ∷ [] ≡ slice_split (λ b. eqb b 10) (line ++ bytes))
    × All IsLine (ended_lines_from line bytes ++ last_line_from line bytes ∷ [])
unfolding ended_lines_from last_line_from
lines_are_parts line [] whole =
    rw append-nil (sym (slice_split_none _ line whole), All-cons IsLine line [] whole (All-nil _))
lines_are_parts line (b ∷ rest) whole =
    elim (cases_eq b 10) [
      | inl lf ↦
          let later = lines_are_parts [] rest (All-nil _) in
          rw lf (
            ap (λ lines. line ∷ lines) later.0 ∙ sym (slice_split_at _ line 10 rest whole refl),
            All-cons IsLine line _ whole later.1,
          )
      | inr other ↦
          let test = ne_eqb b 10 other in
          rw (test, ← append_assoc line (b ∷ []) rest)
          (lines_are_parts (line ++ b ∷ []) rest (All-push (λ b. eqb b 10 ≡ false) line b whole test))
    ]

parts_of_join : (lines : List (List ℕ)) → 0 < length lines → All IsLine lines
    → slice_split (λ b. eqb b 10) (join_with_byte 10 lines) ≡ lines
parts_of_join [] some whole = absurd (omega arith)
parts_of_join (line ∷ []) some whole = slice_split_none _ line (All-head IsLine line [] whole)
parts_of_join (line ∷ next ∷ lines) some whole =
    slice_split_at _ line 10 _ (All-head IsLine line (next ∷ lines) whole) refl
    ∙ ap (λ parts. line ∷ parts) (parts_of_join (next ∷ lines) (omega arith)
    (All-tail IsLine line (next ∷ lines) whole))

has_no_lf : (line : List ℕ) → IsLine line → ¬ Contains line 10
has_no_lf line whole = grind (arith, nat_tests)

is_line : (line : List ℕ) → (¬ Contains line 10) → IsLine line
is_line line free = All-from_get_or (λ b. eqb b 10 ≡ false) line 0 (λ i h.
    ne_eqb (get_or line i 0) 10 (λ e. free (subst (Contains line) e (Contains-get_or line i 0 h))))

pub lines_mean : (bytes : List ℕ) (lines : List (List ℕ)) → (text_lines bytes ≡ lines) ↔ AreLines bytes lines
lines_mean bytes lines =
    let cut = lines_are_parts [] bytes (All-nil _) in (
      λ e. record {
        some = omega (arith, ap length (sym e ∙ cut.0), length-slice_split (λ b. eqb b 10) bytes);
        joined = ap (join_with_byte 10) (sym e ∙ cut.0) ∙ join_with_byte-slice_split 10 bytes;
        whole = subst (All (λ line. ¬ Contains line 10)) e (All-weaker IsLine _ has_no_lf _ cut.1);
      },
      λ are. cut.0 ∙ ap (slice_split _) (sym are.joined) ∙ parts_of_join lines are.some
          (All-weaker _ IsLine is_line lines are.whole),
    )
