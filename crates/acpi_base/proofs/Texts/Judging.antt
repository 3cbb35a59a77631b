-- What `read_image` returns.
use Rattle.std.proofs.Common.{◌≡◌, ℕ, List, [], ◌∷◌, true, arith, ◌⊎◌, inl, inr, ◌+◌, ◌≤◌, ◌++◌, length, take, refl, sym, subst, ap, ◌∙◌, length-append}
use Rattle.std.specs.Prelude.{Err, Option, Result, Ok, IfOk, IfErr, MatchResult}
use Rattle.std.specs.Io.KnownBytes.{Consumes, IsAtEnd, Keeps}
use Rattle.std.proofs.KnownBytes.{Consumes-trans, Consumes-kept}
use Rattle.std.proofs.lemmas.List.{take-append-le}
use Rattle.acpi_base.specs.Text.ImageText.{Line, Reading, take_line, read_line, read_lines, IsRefused, max_text, read_text, IsText, IsRefusedPrefix}
use Rattle.acpi_base.specs.Text.TextReading.{is_of_text, IsRefusal, CountsRead}
use Rattle.acpi_base.specs.declared.text.TextFault.{TextFault}
use Rattle.acpi_base.specs.Memory.{Memory}
use Rattle.acpi_base.specs.Text.TextMachine.{ReaderState, Stopped, EndsAs, initial_state, run, text_result, prefix_result}
use Rattle.acpi_base.specs.Tally.{CountsFailure}
use Rattle.acpi_base.specs.Text.LineBuffers.{HasRead, IsLineBuffer, byte_count, state_with}
use Rattle.acpi_base.specs.declared.text.image_text.line_buffer.LineBuffer.{LineBuffer}
use Rattle.acpi_base.specs.Text.Lines.{Refuses, reading_with, judged_by, told}
use Rattle.acpi_base.specs.declared.text.image_text.line_parser.LineParser.{LineParser}
use Rattle.acpi_base.specs.declared.text.TextFault.TheVariants as text
use Rattle.acpi_base.proofs.Texts.LineBuffers.{short_bounds}
use Rattle.acpi_base.proofs.Texts.ByteMachine.{run_append, run_reads_text, run_reads_prefix, refused_where_stopped, prefix_is_decided}

-- ---- what a text is refused with is a fault of the text: neither a failed read nor out of memory

own_said : (r : Reading) (n : ℕ) (said : Line) (fault : TextFault) → take_line r n said ≡ Err fault
    → is_of_text fault ≡ true
own_said r n said fault e = grind arith

own_line : (r : Reading) (line : List ℕ) (ending : ℕ) (fault : TextFault) → read_line r line ending ≡ Err fault
    → is_of_text fault ≡ true
unfolding read_line
own_line r line ending fault e = grind (arith, own_said)

own_lines : (r : Reading) (lines : List (List ℕ)) (fault : TextFault) → read_lines r lines ≡ Err fault
    → is_of_text fault ≡ true
unfolding read_lines
own_lines r [] fault e = absurd (cc)
own_lines r (line ∷ rest) fault e = grind (arith, own_line, λ (s : Reading). own_lines s rest fault)

pub refusals_are_own : (bytes : List ℕ) (fault : TextFault) → IsRefused bytes fault → is_of_text fault ≡ true
refusals_are_own bytes fault refused = grind (arith, own_line, own_lines)

-- ---- what `read_image` returns

-- ---- a text that is refused

never_read : (bytes : List ℕ) → IsRefused bytes text.Read → ⊥
never_read bytes refused = (let own = refusals_are_own bytes text.Read refused in absurd (cc))

-- a fault of a prefix is a reason to refuse the text
pub prefix_refused : (bytes : List ℕ) (left : Option (List ℕ)) (fault : TextFault)
    → (fault ≡ text.Memory) ⊎ IsRefusedPrefix bytes fault → IsRefusal bytes left fault
prefix_refused bytes left (text.BadLine line) (inl e) = absurd (cc)
prefix_refused bytes left (text.BadLine line) (inr e) = inl e
prefix_refused bytes left (text.NoAddress line) (inl e) = absurd (cc)
prefix_refused bytes left (text.NoAddress line) (inr e) = inl e
prefix_refused bytes left (text.Twice address) (inl e) = absurd (cc)
prefix_refused bytes left (text.Twice address) (inr e) = inl e
prefix_refused bytes left (text.PastEnd line) (inl e) = absurd (cc)
prefix_refused bytes left (text.PastEnd line) (inr e) = inl e
prefix_refused bytes left text.TooLong (inl e) = absurd (cc)
prefix_refused bytes left text.TooLong (inr e) = inl e
prefix_refused bytes left text.Read (inl e) = absurd (cc)
prefix_refused bytes left text.Read (inr e) = absurd (never_read (bytes ++ []) (prefix_is_decided bytes [] text.Read e))
prefix_refused bytes left text.Memory e = tt

pub text_refused : (bytes : List ℕ) (left : Option (List ℕ)) (fault : TextFault) → IsAtEnd left
    → (fault ≡ text.Memory) ⊎ IsRefused bytes fault → IsRefusal bytes left fault
text_refused bytes left (text.BadLine line) end (inl e) = absurd (cc)
text_refused bytes left (text.BadLine line) end (inr e) = inr (end, e)
text_refused bytes left (text.NoAddress line) end (inl e) = absurd (cc)
text_refused bytes left (text.NoAddress line) end (inr e) = inr (end, e)
text_refused bytes left (text.Twice address) end (inl e) = absurd (cc)
text_refused bytes left (text.Twice address) end (inr e) = inr (end, e)
text_refused bytes left (text.PastEnd line) end (inl e) = absurd (cc)
text_refused bytes left (text.PastEnd line) end (inr e) = inr (end, e)
text_refused bytes left text.TooLong end (inl e) = absurd (cc)
text_refused bytes left text.TooLong end (inr e) = inr (end, e)
text_refused bytes left text.Read end (inl e) = absurd (cc)
text_refused bytes left text.Read end (inr e) = absurd (never_read bytes e)
text_refused bytes left text.Memory end e = tt

-- ---- what the reader has brought

pub nothing_brought : (left : Option (List ℕ)) (standing : ReaderState) → standing ≡ initial_state
    → Consumes left left [] → HasRead left left standing 0
unfolding run
nothing_brought left standing is none = record { text = []; consumed = none; long = refl; stands = sym is }

-- one more piece
pub more_brought : (before middle left : Option (List ℕ)) (old new : ReaderState) (count more all : ℕ) (piece : List ℕ)
    → HasRead before middle old count
    → Consumes middle left piece → length piece ≡ more → run old piece ≡ new → all ≡ count + more
    → HasRead before left new all
more_brought before middle left old new count more all piece b consumed long is sum = record {
  text = b.text ++ piece;
  consumed = Consumes-trans before middle left b.text piece b.consumed consumed;
  long = (let first = b.long in omega (arith, length-append b.text piece));
  stands = run_append initial_state b.text piece ∙ ap (λ s. run s piece) b.stands ∙ is;
}

pub brought_fits : (buffer : LineBuffer) (count : ℕ) → IsLineBuffer buffer → byte_count buffer ≡ count
    → count ≤ max_text
brought_fits buffer count valid counted =
    let bounds = short_bounds (length buffer.line.items) (byte_count buffer) valid.short in
    let fits = bounds.1 in
    omega arith

same_count : (old new : ℕ) (fault : TextFault) → new ≡ old → (fault ≡ text.Read → ⊥) → CountsRead old new fault
same_count old new (text.BadLine line) same other = same
same_count old new (text.NoAddress line) same other = same
same_count old new (text.Twice address) same other = inl same
same_count old new (text.PastEnd line) same other = same
same_count old new text.TooLong same other = same
same_count old new text.Read same other = absurd (other refl)
same_count old new text.Memory same other = same

-- ---- how reading ends

-- the text, what is left of it, and what is returned
abbrev pub HasReturned : Option (List ℕ) → Option (List ℕ) → Result Memory TextFault → Type 0
HasReturned before left result =
    (bytes : List ℕ) × Consumes before left bytes × (length bytes ≤ max_text + 1)
    × MatchResult result (λ image. IsAtEnd left × IsText bytes image) (IsRefusal bytes left)

-- what the reader has brought is the complete text
is_judged : (left : Option (List ℕ)) (standing : ReaderState) (bytes : List ℕ) (result : Result Memory TextFault)
    → run initial_state bytes ≡ standing → IsAtEnd left
    → IfOk result (EndsAs standing) → IfErr result (Refuses (text_result standing))
    → MatchResult result (λ image. IsAtEnd left × IsText bytes image) (IsRefusal bytes left)
is_judged left standing bytes (Ok image) is end ok err =
    (end, (ok.0, sym (run_reads_text bytes) ∙ ap text_result is ∙ ok.1, ok.2))
is_judged left standing bytes (Err fault) is end ok (inl memory) = text_refused bytes left fault end (inl memory)
is_judged left standing bytes (Err fault) is end ok (inr refused) =
    text_refused bytes left fault end (inr (sym (run_reads_text bytes) ∙ ap text_result is ∙ refused.0))

-- ---- a complete text

whole_read : (bytes : List ℕ) (start end : ReaderState) → start ≡ initial_state → run start bytes ≡ end
    → text_result end ≡ read_text bytes
whole_read bytes start end first is =
    ap text_result (sym is ∙ ap (λ s. run s bytes) first) ∙ run_reads_text bytes

pub whole_stopped : (bytes : List ℕ) (start : ReaderState) (told fault : TextFault) → start ≡ initial_state
    → fault ≡ told → (told ≡ text.Memory) ⊎ (run start bytes ≡ Stopped told)
    → (fault ≡ text.Memory) ⊎ IsRefused bytes fault
whole_stopped bytes start told fault first same (inl memory) = inl (same ∙ memory)
whole_stopped bytes start told fault first same (inr stopped) =
    inr (sym (whole_read bytes start (Stopped told) first stopped) ∙ ap (λ f. Err f) (sym same))

-- ---- what is returned

pub returned_whole : (before middle left : Option (List ℕ)) (standing : ReaderState) (count : ℕ)
    (result : Result Memory TextFault) → HasRead before middle standing count → count ≤ max_text
    → Consumes middle left [] → IsAtEnd left → IfOk result (EndsAs standing)
    → IfErr result (Refuses (text_result standing))
    → HasReturned before left result
unfolding run
returned_whole before middle left standing count result b fits consumed end ok err =
    let all = more_brought before middle left standing standing count 0 count [] b consumed refl refl (omega arith) in
    let long = all.long in
    (all.text, all.consumed, omega arith, is_judged left standing all.text result all.stands end ok err)

-- a text that has ended is not refused with a failed read
pub count_whole : (before middle : Option (List ℕ)) (standing : ReaderState) (count old new : ℕ)
    (result : Result Memory TextFault) → HasRead before middle standing count → new ≡ old
    → IfErr result (Refuses (text_result standing))
    → MatchResult result (λ _. new ≡ old) (CountsRead old new)
count_whole before middle standing count old new (Ok image) b same err = same
count_whole before middle standing count old new (Err fault) b same (inl memory) =
    same_count old new fault same (λ e. absurd (cc))
count_whole before middle standing count old new (Err fault) b same (inr refused) =
    same_count old new fault same
    (λ e. never_read b.text (sym (run_reads_text b.text) ∙ ap text_result b.stands ∙ refused.0 ∙ ap Err e))

-- the machine stops in what has come, of which the buffer has no more
pub stopped_in_buffer : (standing : ReaderState) (count : ℕ) (buffer behind : List ℕ) (told fault : TextFault)
    → count ≤ length buffer → fault ≡ told
    → (told ≡ text.Memory) ⊎ (run standing (take count (buffer ++ behind)) ≡ Stopped told)
    → (fault ≡ text.Memory) ⊎ (run standing (take count buffer) ≡ Stopped fault)
stopped_in_buffer standing count buffer behind told fault bound same stopped =
    subst
    (λ (f : TextFault). (f ≡ text.Memory) ⊎ (run standing (take count buffer) ≡ Stopped f))
    (sym same)
    (subst
    (λ (piece : List ℕ). (told ≡ text.Memory) ⊎ (run standing piece ≡ Stopped told))
    (take-append-le count buffer behind bound)
    stopped)

-- the machine stops in what has come
pub returned_fault : (before middle left : Option (List ℕ)) (standing : ReaderState) (count more : ℕ) (piece : List ℕ)
    (fault : TextFault) → HasRead before middle standing count
    → Consumes middle left piece → length piece ≡ more → count + more ≤ max_text + 1
    → (fault ≡ text.Memory) ⊎ (run standing piece ≡ Stopped fault) → HasReturned before left (Err fault)
returned_fault before middle left standing count more piece fault b consumed long fits (inl memory) =
    let all = more_brought before middle left standing (run standing piece) count more (count + more) piece b consumed
    long refl refl in
    let whole = all.long in
    (all.text, all.consumed, omega arith, prefix_refused all.text left fault (inl memory))
returned_fault before middle left standing count more piece fault b consumed long fits (inr stopped) =
    let all = more_brought before middle left standing (run standing piece) count more (count + more) piece b consumed
    long refl refl in
    let whole = all.long in (
      all.text,
      all.consumed,
      omega arith,
      prefix_refused all.text left fault
          (inr (refused_where_stopped all.text fault (all.stands ∙ stopped))),
    )

pub count_fault : (before middle left : Option (List ℕ)) (standing : ReaderState) (count old new : ℕ) (piece : List ℕ)
    (fault : TextFault) → HasRead before middle standing count
    → Consumes middle left piece → new ≡ old → (fault ≡ text.Memory) ⊎ (run standing piece ≡ Stopped fault)
    → CountsRead old new fault
count_fault before middle left standing count old new piece fault b consumed same (inl memory) =
    same_count old new fault same (λ e. absurd (cc))
count_fault before middle left standing count old new piece fault b consumed same (inr stopped) =
    let all = more_brought before middle left standing (run standing piece) count (length piece) (count + length piece)
    piece b consumed refl refl refl in
    let refused = refused_where_stopped all.text fault (all.stands ∙ stopped) in
    same_count old new fault same
    (λ e. never_read (all.text ++ []) (prefix_is_decided all.text [] text.Read (refused ∙ ap Err e)))

pub count_read : (d : Result Memory ℕ) (old middle new : ℕ) → middle ≡ old → CountsFailure middle new
    → CountsRead old new (told d text.Read)
count_read (Ok m) old middle new same failed = subst (λ (n : ℕ). CountsFailure n new) same failed
count_read (Err address) old middle new same failed = inr (subst (λ (n : ℕ). CountsFailure n new) same failed)

-- a read has failed: this is reported, unless an address came twice before
pub returned_read : (before middle left : Option (List ℕ)) (p : LineParser) (d : Result Memory ℕ) (line : List ℕ)
    (count : ℕ) → HasRead before middle (state_with (judged_by p d) line) count → count ≤ max_text → Keeps middle left
    → HasReturned before left (Err (told d text.Read))
returned_read before middle left p (Ok m) line count b fits keeps =
    let long = b.long in (
      b.text,
      Consumes-kept before middle left b.text b.consumed keeps,
      omega arith,
      (reading_with p m, sym (run_reads_prefix b.text) ∙ ap prefix_result b.stands),
    )
returned_read before middle left p (Err address) line count b fits keeps =
    let long = b.long in (
      b.text,
      Consumes-kept before middle left b.text b.consumed keeps,
      omega arith,
      prefix_refused b.text left (text.Twice address)
          (inr (refused_where_stopped b.text (text.Twice address) b.stands)),
    )
