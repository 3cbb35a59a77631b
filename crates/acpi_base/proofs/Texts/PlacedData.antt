-- Where memory may run out for a text: at a line of data with an address, or at the end.
use Rattle.std.proofs.Common.{◌≡◌, ◌⊎◌, inl, inr, ℕ, zero, suc, ◌+◌, ◌<◌, ◌≢◌, List, [], ◌∷◌, ◌++◌, length, get_or, take, drop, refl, sym, subst, ap, ◌∙◌, arith, append_assoc, false}
use Rattle.std.proofs.lemmas.Bool.{ne_eqb}
use Rattle.std.proofs.lemmas.List.{append-nil}
use Rattle.std.specs.Prelude.{Option, Result, Ok, Err, IfErr, OnErr}
use Rattle.acpi_base.specs.Memory.{Memory}
use Rattle.acpi_base.specs.Image.Adding.{IsLayoutRefusal}
use Rattle.acpi_base.specs.declared.image.ImageFault.{ImageFault}
use Rattle.acpi_base.specs.declared.text.TextFault.{TextFault}
use Rattle.acpi_base.specs.declared.text.TextFault.TheVariants as refusal
use Rattle.acpi_base.specs.declared.text.image_text.line.Form.{Form}
use Rattle.acpi_base.specs.declared.text.image_text.line.Form.TheVariants as form
use Rattle.acpi_base.specs.declared.text.image_text.line_parser.LineParser.{LineParser}
use Rattle.acpi_base.specs.Text.ImageText.{Reading, Data, line_of, is_too_long, on_ok, data_fault, start, read_line, read_lines, read_text, ended_lines_from, last_line_from, ended_lines, last_line}
use Rattle.acpi_base.specs.Text.TextMeaning.{text_lines}
use Rattle.acpi_base.specs.Text.TextMemory.{HasRoom, IsPlacedData, HasPlacedData, MayRunOut}
use Rattle.acpi_base.specs.Text.Lines.{IsData, line_with, reading_with, judged_by, told}

-- ---- one line

-- a line of data for which there are addresses
pub record HasRoomFor (next : Option ℕ) (line : List ℕ) : Type 0 where
  pub bytes : List ℕ
  pub spells : line_of line ≡ Data bytes
  pub room : HasRoom next (length bytes)

-- memory runs out at such a line, unless an address came twice before
pub placed_line : (p : LineParser) (d e : Result Memory ℕ) (line : List ℕ) (ending : ℕ) (fault : TextFault)
    → is_too_long (length line) (p.through + length line + ending) ≡ false → e ≡ d
    → (fault ≡ refusal.Memory → HasRoomFor p.next line)
    → told e fault ≡ refusal.Memory → IsPlacedData (judged_by p d) line ending
placed_line p (Ok m) e line ending fault short same has memory =
    let met : fault ≡ refusal.Memory = ap (λ d. told d fault) (sym same) ∙ memory in
    let there = has met in
    record {
      r = reading_with p m;
      bytes = there.bytes;
      faultless = refl;
      short = short;
      spells = there.spells;
      room = there.room;
    }
placed_line p (Err address) e line ending fault short same has memory =
    let twice : refusal.Twice address ≡ refusal.Memory = ap (λ d. told d fault) (sym same) ∙ memory in absurd (cc)

-- the same for what reading the line returned
pub placed_result : {A : Type 0} (p : LineParser) (d e : Result Memory ℕ) (line : List ℕ) (ending : ℕ)
    (result : Result A TextFault) → is_too_long (length line) (p.through + length line + ending) ≡ false
    → OnErr result (e ≡ d)
    → IfErr result (λ fault. fault ≡ refusal.Memory → HasRoomFor p.next line)
    → IfErr result (λ fault. told e fault ≡ refusal.Memory → IsPlacedData (judged_by p d) line ending)
placed_result p d e line ending (Ok x) short same has = tt
placed_result p d e line ending (Err fault) short same has = placed_line p d e line ending fault short same has

-- a line whose form was found
pub form_has : {A : Type 0} (next : Option ℕ) (line bytes : List ℕ) (found : Form) (result : Result A TextFault)
    → line_with found bytes ≡ line_of line
    → IfErr result (λ fault. fault ≡ refusal.Memory → (found ≡ form.Data) × HasRoom next (length bytes))
    → IfErr result (λ fault. fault ≡ refusal.Memory → HasRoomFor next line)
form_has next line bytes found (Ok x) is has = tt
form_has next line bytes found (Err fault) is has = λ memory.
    let facts = has memory in
    record { bytes = bytes; spells = sym is ∙ ap (λ f. line_with f bytes) facts.0; room = facts.1 }

pub data_has : (next : Option ℕ) (line : List ℕ) (count : ℕ) → IsData (line_of line) count → HasRoom next count
    → HasRoomFor next line
data_has next line count spelled room = record {
  bytes = spelled.0;
  spells = spelled.1;
  room = subst (HasRoom next) (sym spelled.2) room;
}

-- ---- the end

-- memory runs out for the image only if no address came twice
pub laid_out : (p : LineParser) (d : Result Memory ℕ) (n : ℕ) (fault : ImageFault) → IsLayoutRefusal d fault
    → data_fault n fault ≡ refusal.Memory → (r : Reading) × (judged_by p d ≡ Ok r)
laid_out p d n fault (inl present) memory = (reading_with p present.0, ap (judged_by p) present.2)
laid_out p d n fault (inr present) memory = (let twice = ap (data_fault n) present.1 in absurd (cc))

-- or for the last line
pub ended_there : {A : Type 0} (P : Type 0) (x y : Result Reading TextFault) (result : Result A TextFault) → x ≡ y
    → IfErr result (λ fault. fault ≡ refusal.Memory → (r : Reading) × (y ≡ Ok r))
    → IfErr result (λ fault. fault ≡ refusal.Memory → P ⊎ ((r : Reading) × (x ≡ Ok r)))
ended_there P x y (Ok image) same faultless = tt
ended_there P x y (Err fault) same faultless = λ memory. let good = faultless memory in inr (good.0, same ∙ good.1)

-- ---- lines that end

-- what comes up to the first LF ends the first line
first_line_from : (line text : List ℕ) (n : ℕ) → n < length text → ((k : ℕ) → k < n → get_or text k 0 ≢ 10)
    → get_or text n 0 ≡ 10
    → (ended_lines_from line text ≡ (line ++ take n text) ∷ ended_lines (drop (suc n) text))
    × (last_line_from line text ≡ last_line (drop (suc n) text))
unfolding ended_lines_from last_line_from
first_line_from line [] n l before at = absurd (omega arith)
first_line_from line (b ∷ rest) zero l before at = rw (at, append-nil) (refl, refl)
first_line_from line (b ∷ rest) (suc n) l before at =
    let other = ne_eqb b 10 (before 0 (omega arith)) in
    rw (other, ← append_assoc line (b ∷ []) (take n rest))
    (first_line_from (line ++ b ∷ []) rest n (omega arith) (λ k h. before (suc k) (omega arith)) at)

pub only_line_from : (line text : List ℕ) → ((k : ℕ) → k < length text → get_or text k 0 ≢ 10)
    → (ended_lines_from line text ≡ []) × (last_line_from line text ≡ line ++ text)
unfolding ended_lines_from last_line_from
only_line_from line [] free = (refl, sym (append-nil line))
only_line_from line (b ∷ rest) free =
    let other = ne_eqb b 10 (free 0 (omega arith)) in
    rw (other, ← append_assoc line (b ∷ []) rest)
    (only_line_from (line ++ b ∷ []) rest (λ k h. free (suc k) (omega arith)))

no_more : (x : Result Reading TextFault) → on_ok x (λ r. read_lines r []) ≡ x
unfolding read_lines
no_more (Ok r) = refl
no_more (Err fault) = refl

one_more_line : (x : Result Reading TextFault) (line : List ℕ) (lines : List (List ℕ))
    → on_ok x (λ r. read_lines r (line ∷ lines)) ≡ on_ok (on_ok x (λ r. read_line r line 1)) (λ r. read_lines r lines)
unfolding read_lines
one_more_line (Ok r) line lines = refl
one_more_line (Err fault) line lines = refl

-- The lines of a text are read on from `middle` at `rest` as they were from `first` at its start.
pub record GoesOn (first : Result Reading TextFault) (text : List ℕ)
    (middle : Result Reading TextFault) (rest : List ℕ) : Type 0 where
  pub lines : on_ok middle (λ r. read_lines r (ended_lines rest)) ≡ on_ok first (λ r. read_lines r (ended_lines text))
  pub last : last_line rest ≡ last_line text
  pub found : HasPlacedData middle rest → HasPlacedData first text

-- after a line
pub goes_on_behind : (first x y : Result Reading TextFault) (whole text : List ℕ) (n : ℕ) (rest : List ℕ)
    → GoesOn first whole x text → n < length text → ((k : ℕ) → k < n → get_or text k 0 ≢ 10) → get_or text n 0 ≡ 10
    → on_ok x (λ r. read_line r (take n text) 1) ≡ y → rest ≡ drop (suc n) text → GoesOn first whole y rest
goes_on_behind first x y whole text n rest on l before at read same =
    let line = take n text in
    let parts = first_line_from [] text n l before at in
    let ended : ended_lines text ≡ line ∷ ended_lines rest = parts.0 ∙ ap (λ t. line ∷ ended_lines t) (sym same) in
    let last : last_line text ≡ last_line rest = parts.1 ∙ ap last_line (sym same) in
    record {
      lines = ap (λ z. on_ok z (λ r. read_lines r (ended_lines rest))) (sym read)
          ∙ sym (one_more_line x line (ended_lines rest))
          ∙ ap (λ lines. on_ok x (λ r. read_lines r lines)) (sym ended)
          ∙ on.lines;
      last = sym last ∙ on.last;
      found = λ there. on.found (record {
        before = line ∷ there.before;
        line = there.line;
        after = there.after;
        ending = there.ending;
        last = there.last;
        lines = ap (λ lines. lines ++ last_line text ∷ []) ended
            ∙ ap (λ end. line ∷ (ended_lines rest ++ end ∷ [])) last
            ∙ ap (λ lines. line ∷ lines) there.lines;
        placed = subst (λ z. IsPlacedData z there.line there.ending)
            (ap (λ z. on_ok z (λ r. read_lines r there.before)) (sym read) ∙ sym (one_more_line x line there.before))
            there.placed;
      });
    }

pub found_here : (x : Result Reading TextFault) (text : List ℕ) (n : ℕ) → n < length text
    → ((k : ℕ) → k < n → get_or text k 0 ≢ 10) → get_or text n 0 ≡ 10 → IsPlacedData x (take n text) 1
    → HasPlacedData x text
found_here x text n l before at placed =
    let parts = first_line_from [] text n l before at in
    record {
      before = [];
      line = take n text;
      after = text_lines (drop (suc n) text);
      ending = 1;
      last = λ none. absurd (cc);
      lines = ap (λ lines. lines ++ last_line text ∷ []) parts.0
          ∙ ap (λ end. take n text ∷ (ended_lines (drop (suc n) text) ++ end ∷ [])) parts.1;
      placed = subst (λ z. IsPlacedData z (take n text) 1) (sym (no_more x)) placed;
    }

pub found_last : (x y : Result Reading TextFault) (text last : List ℕ) → last ≡ last_line text
    → on_ok x (λ r. read_lines r (ended_lines text)) ≡ y → IsPlacedData y last 0 → HasPlacedData x text
found_last x y text last same read placed = record {
  before = ended_lines text;
  line = last;
  after = [];
  ending = 0;
  last = λ none. refl;
  lines = ap (λ line. ended_lines text ++ line ∷ []) (sym same);
  placed = subst (λ z. IsPlacedData z last 0) (sym read) placed;
}

pub goes_on_last : (first x : Result Reading TextFault) (whole text : List ℕ) → GoesOn first whole x text
    → ((k : ℕ) → k < length text → get_or text k 0 ≢ 10)
    → (text ≡ last_line whole) × (on_ok first (λ r. read_lines r (ended_lines whole)) ≡ x)
goes_on_last first x whole text on free =
    let only = only_line_from [] text free in (
      sym only.1 ∙ on.last,
      sym on.lines ∙ ap (λ lines. on_ok x (λ r. read_lines r lines)) only.0 ∙ no_more x,
    )

-- ---- a complete text

-- its ended lines, and then the last one
pub whole_text : (first behind : Result Reading TextFault) (text last : List ℕ) → first ≡ Ok start
    → last ≡ last_line text → on_ok first (λ r. read_lines r (ended_lines text)) ≡ behind
    → read_text text ≡ on_ok behind (λ r. read_line r last 0)
whole_text first behind text last is same read =
    ap (λ x. on_ok (on_ok x (λ r. read_lines r (ended_lines text))) (λ r. read_line r (last_line text) 0)) (sym is)
    ∙ ap (λ x. on_ok x (λ r. read_line r (last_line text) 0)) read
    ∙ ap (λ line. on_ok behind (λ r. read_line r line 0)) (sym same)

-- if memory runs out at its end
whole_runs_out : (first behind : Result Reading TextFault) (text last : List ℕ) → first ≡ Ok start
    → last ≡ last_line text → on_ok first (λ r. read_lines r (ended_lines text)) ≡ behind
    → IsPlacedData behind last 0 ⊎ ((r : Reading) × (on_ok behind (λ r. read_line r last 0) ≡ Ok r)) → MayRunOut text
whole_runs_out first behind text last is same read (inl placed) =
    inl (subst (λ x. HasPlacedData x text) is (found_last first behind text last same read placed))
whole_runs_out first behind text last is same read (inr faultless) =
    inr (faultless.0, whole_text first behind text last is same read ∙ faultless.1)

pub whole_memory : {A : Type 0} (first behind : Result Reading TextFault) (text last : List ℕ)
    (result : Result A TextFault) → first ≡ Ok start
    → last ≡ last_line text → on_ok first (λ r. read_lines r (ended_lines text)) ≡ behind
    → IfErr result (λ fault. fault ≡ refusal.Memory
    → IsPlacedData behind last 0 ⊎ ((r : Reading) × (on_ok behind (λ r. read_line r last 0) ≡ Ok r)))
    → IfErr result (λ fault. fault ≡ refusal.Memory → MayRunOut text)
whole_memory first behind text last (Ok image) is same read err = tt
whole_memory first behind text last (Err fault) is same read err = λ memory.
    whole_runs_out first behind text last is same read (err memory)
