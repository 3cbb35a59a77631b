-- Reading a text byte by byte gives the same as reading it by lines.
use Rattle.std.proofs.Common.{◌≡◌, ℕ, ◌+◌, List, [], ◌∷◌, ◌++◌, length, refl, sym, ap, ◌∙◌, arith, eqb, if◌then◌else◌, length-append}
use Rattle.std.proofs.lemmas.Bool.Decides.{nat_tests}
use Rattle.std.specs.Prelude.{Result, Ok, Err}
use Rattle.acpi_base.specs.Text.ImageText.{Line, Reading, on_ok, is_too_long, take_line, read_line, read_lines, ended_lines_from, last_line_from, start, read_text, read_prefix, IsRefused, IsRefusedPrefix}
use Rattle.acpi_base.specs.Text.TextMachine.{ReaderState, Going, Stopped, initial_state, step, run, text_result, prefix_result}
use Rattle.acpi_base.specs.declared.text.TextFault.{TextFault}
use Rattle.acpi_base.specs.declared.text.TextFault.TheVariants as text

pub run_append : (s : ReaderState) (xs ys : List ℕ) → run s (xs ++ ys) ≡ run (run s xs) ys
unfolding run
run_append s [] ys = refl
run_append s (b ∷ xs) ys = run_append (step s b) xs ys

pub run_stopped : (fault : TextFault) (bytes : List ℕ) → run (Stopped fault) bytes ≡ Stopped fault
unfolding run
run_stopped fault [] = refl
run_stopped fault (b ∷ rest) = run_stopped fault rest

pub take_line_keeps : (r : Reading) (n : ℕ) (said : Line) (s : Reading) → take_line r n said ≡ Ok s
    → s.through ≡ r.through
take_line_keeps r n said s e = grind (arith)

-- the state within a line of which these bytes have come, by the result of reading the lines before
abbrev pub after : Result Reading TextFault → List ℕ → ReaderState
after (Ok r) line = if is_too_long (length line) (r.through + length line) then Stopped text.TooLong else Going r line
after (Err fault) line = Stopped fault

pub step_after : (r : Reading) (line : List ℕ) (b : ℕ)
    → step (after (Ok r) line) b ≡ (if eqb b 10 then after (read_line r line 1) [] else after (Ok r) (line ++ b ∷ []))
unfolding read_line
step_after r line b = grind (arith, nat_tests, length-append, take_line_keeps)

pub run_after : (x : Result Reading TextFault) (line bytes : List ℕ)
    → run (after x line) bytes ≡ after (on_ok x (λ r. read_lines r (ended_lines_from line bytes)))
    (last_line_from line bytes)
unfolding run read_lines ended_lines_from last_line_from
run_after (Err fault) line bytes = run_stopped fault bytes
run_after (Ok r) line [] = refl
run_after (Ok r) line (b ∷ rest) =
    grind (arith, step_after, run_after (read_line r line 1) [] rest, run_after (Ok r) (line ++ b ∷ []) rest)

pub run_reads_text : (bytes : List ℕ) → text_result (run initial_state bytes) ≡ read_text bytes
unfolding read_line
run_reads_text bytes = grind (arith, nat_tests, run_after (Ok start) [] bytes)

pub run_reads_prefix : (bytes : List ℕ) → prefix_result (run initial_state bytes) ≡ read_prefix bytes
run_reads_prefix bytes = grind (arith, run_after (Ok start) [] bytes)

stands_stopped : (s : ReaderState) (fault : TextFault) → prefix_result s ≡ Err fault → s ≡ Stopped fault
stands_stopped s fault e = grind (arith)

pub refused_where_stopped : (bytes : List ℕ) (fault : TextFault) → run initial_state bytes ≡ Stopped fault
    → IsRefusedPrefix bytes fault
refused_where_stopped bytes fault stops = sym (run_reads_prefix bytes) ∙ ap prefix_result stops

pub stopped_where_refused : (bytes : List ℕ) (fault : TextFault) → IsRefusedPrefix bytes fault
    → run initial_state bytes ≡ Stopped fault
stopped_where_refused bytes fault refused =
    stands_stopped (run initial_state bytes) fault (run_reads_prefix bytes ∙ refused)

pub prefix_is_decided : (bytes more : List ℕ) (fault : TextFault) → IsRefusedPrefix bytes fault
    → IsRefused (bytes ++ more) fault
prefix_is_decided bytes more fault refused =
    sym (run_reads_text (bytes ++ more))
    ∙ (rw (run_append initial_state bytes more, stopped_where_refused bytes fault refused, run_stopped) refl)

-- the law `machine_reads_lines`
pub ruleset machine_laws = (run_reads_text, run_reads_prefix, refused_where_stopped, stopped_where_refused, run_append)
