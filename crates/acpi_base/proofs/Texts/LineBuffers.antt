-- Reading a text in pieces, line by line.
use Rattle.std.proofs.Common.{◌≡◌, ◌⊎◌, inl, inr, ℕ, zero, suc, ◌+◌, ◌<◌, ◌≤◌, ◌≢◌, List, [], ◌∷◌, ◌++◌, length, get_or, take, drop, refl, sym, ap, ◌∙◌, arith, true, false, length-append, append_assoc}
use Rattle.std.proofs.lemmas.Bool.{ne_eqb}
use Rattle.std.proofs.lemmas.Bool.Decides.{nat_tests}
use Rattle.std.proofs.lemmas.List.{append-nil}
use Rattle.std.specs.Prelude.{Result, Ok, Err, IfErr}
use Rattle.std.specs.Result.{IsErrAnd}
use Rattle.acpi_base.specs.Memory.{Memory}
use Rattle.acpi_base.specs.Text.ImageText.{Reading, on_ok, read_line, is_too_long, max_text, max_line}
use Rattle.acpi_base.specs.Text.TextMachine.{Going, Stopped, run, text_result}
use Rattle.acpi_base.specs.Text.Lines.{Refuses, reading_with, judged_by, told}
use Rattle.acpi_base.specs.Text.LineBuffers.{state_with}
use Rattle.acpi_base.specs.declared.text.image_text.line_parser.LineParser.{LineParser}
use Rattle.acpi_base.specs.declared.text.TextFault.{TextFault}
use Rattle.acpi_base.specs.declared.text.TextFault.TheVariants.{TooLong, Twice}
use Rattle.acpi_base.specs.declared.text.TextFault.TheVariants as fault
use Rattle.acpi_base.proofs.Texts.ByteMachine.{after, step_after, run_stopped}

pub going : (r : Reading) (line : List ℕ) → is_too_long (length line) (r.through + length line) ≡ false
    → Going r line ≡ after (Ok r) line
going r line short = rw short refl

-- what comes up to an LF ends the line
pub run_to_end : (r : Reading) (line text : List ℕ) (n : ℕ) → n < length text → ((k : ℕ) → k < n → get_or text k 0 ≢ 10)
    → get_or text n 0 ≡ 10
    → run (after (Ok r) line) text ≡ run (after (read_line r (line ++ take n text) 1) []) (drop (suc n) text)
unfolding run
run_to_end r line [] n l before at = absurd (omega arith)
run_to_end r line (b ∷ rest) zero l before at =
    ap (λ s. run s rest) (step_after r line b ∙ rw at refl)
    ∙ ap (λ whole. run (after (read_line r whole 1) []) rest) (sym (append-nil line))
run_to_end r line (b ∷ rest) (suc n) l before at =
    let other = ne_eqb b 10 (before 0 (omega arith)) in
    ap (λ s. run s rest) (step_after r line b ∙ rw other refl)
    ∙ run_to_end r (line ++ b ∷ []) rest n (omega arith) (λ k h. before (suc k) (omega arith)) at
    ∙ ap (λ whole. run (after (read_line r whole 1) []) (drop (suc n) rest)) (append_assoc line (b ∷ []) (take n rest))

pub run_on : (r : Reading) (line text : List ℕ) → ((k : ℕ) → k < length text → get_or text k 0 ≢ 10)
    → run (after (Ok r) line) text ≡ after (Ok r) (line ++ text)
unfolding run
run_on r line [] free = ap (after (Ok r)) (sym (append-nil line))
run_on r line (b ∷ rest) free =
    let other = ne_eqb b 10 (free 0 (omega arith)) in
    ap (λ s. run s rest) (step_after r line b ∙ rw other refl)
    ∙ run_on r (line ++ b ∷ []) rest (λ k h. free (suc k) (omega arith))
    ∙ ap (after (Ok r)) (append_assoc line (b ∷ []) rest)

-- ---- a line that has not ended

pub short_bounds : (n through : ℕ) → is_too_long n through ≡ false → (n ≤ max_line) × (through ≤ max_text)
short_bounds n through short = grind (arith, nat_tests)

-- more of the line is kept if it fits
kept_going : (r : Reading) (line part : List ℕ) → is_too_long (length line) (r.through + length line) ≡ false
    → ((k : ℕ) → k < length part → get_or part k 0 ≢ 10)
    → length line + length part ≤ max_line → r.through + length line + length part ≤ max_text
    → run (Going r line) part ≡ Going r (line ++ part)
kept_going r line part short free line_fits text_fits =
    ap (λ s. run s part) (going r line short) ∙ run_on r line part free
    ∙ sym (going r (line ++ part) (grind (arith, nat_tests, length-append line part)))

-- and stops the machine if it does not
kept_too_long : (r : Reading) (line part : List ℕ) → is_too_long (length line) (r.through + length line) ≡ false
    → ((k : ℕ) → k < length part → get_or part k 0 ≢ 10)
    → (max_line < length line + length part) ⊎ (max_text < r.through + length line + length part)
    → run (Going r line) part ≡ Stopped TooLong
kept_too_long r line part short free far =
    let long : is_too_long (length (line ++ part)) (r.through + length (line ++ part)) ≡ true =
    grind (arith, nat_tests, length-append line part) in
    ap (λ s. run s part) (going r line short) ∙ run_on r line part free ∙ rw long refl

-- the same, if an address may have come twice
pub kept : (p : LineParser) (line part : List ℕ) → is_too_long (length line) (p.through + length line) ≡ false
    → ((k : ℕ) → k < length part → get_or part k 0 ≢ 10)
    → length line + length part ≤ max_line → p.through + length line + length part ≤ max_text
    → (d : Result Memory ℕ)
    → run (state_with (judged_by p d) line) part ≡ state_with (judged_by p d) (line ++ part)
kept p line part short free line_fits text_fits (Ok m) =
    kept_going (reading_with p m) line part short free line_fits text_fits
kept p line part short free line_fits text_fits (Err address) = run_stopped (Twice address) part

pub kept_refused : (p : LineParser) (line part : List ℕ) → is_too_long (length line) (p.through + length line) ≡ false
    → ((k : ℕ) → k < length part → get_or part k 0 ≢ 10)
    → (max_line < length line + length part) ⊎ (max_text < p.through + length line + length part)
    → (d : Result Memory ℕ)
    → run (state_with (judged_by p d) line) part ≡ Stopped (told d TooLong)
kept_refused p line part short free far (Ok m) = kept_too_long (reading_with p m) line part short free far
kept_refused p line part short free far (Err address) = run_stopped (Twice address) part

kept_memory : (p : LineParser) (line part : List ℕ) (d : Result Memory ℕ) (stop : TextFault) → stop ≡ fault.Memory
    → (told d stop ≡ fault.Memory) ⊎ (run (state_with (judged_by p d) line) part ≡ Stopped (told d stop))
kept_memory p line part (Ok m) stop memory = inl memory
kept_memory p line part (Err address) stop memory = inr (run_stopped (Twice address) part)

pub not_kept : {A : Type 0} (p : LineParser) (line part : List ℕ) (d : Result Memory ℕ) (result : Result A TextFault)
    → IsErrAnd result (λ stop. stop ≡ fault.Memory)
    → IfErr result (λ stop. (told d stop ≡ fault.Memory)
    ⊎ (run (state_with (judged_by p d) line) part ≡ Stopped (told d stop)))
not_kept p line part d (Ok x) memory = tt
not_kept p line part d (Err stop) memory = kept_memory p line part d stop memory

pub refuses_told : (p : LineParser) (d : Result Memory ℕ) (f : Reading → Result Reading TextFault) (stop : TextFault)
    → ((m : Memory) → Refuses (f (reading_with p m)) stop) → Refuses (on_ok (judged_by p d) f) (told d stop)
refuses_told p (Ok m) f stop refuses = refuses m
refuses_told p (Err address) f stop refuses = inr (refl, refl)

pub line_too_long : (r : Reading) (line part : List ℕ) (ending : ℕ) → max_line < length line + length part
    → read_line r (line ++ part) ending ≡ Err TooLong
unfolding read_line
line_too_long r line part ending far = grind (arith, nat_tests, length-append line part)

-- ---- lines that end

pub standing : (p : LineParser) (line : List ℕ) → is_too_long (length line) (p.through + length line) ≡ false
    → (d : Result Memory ℕ) → state_with (judged_by p d) line ≡ after (judged_by p d) line
standing p line short (Ok m) = going (reading_with p m) line short
standing p line short (Err address) = refl

-- what comes up to an LF ends the line, unless the machine has stopped
pub run_past_end : (x : Result Reading TextFault) (line text : List ℕ) (n : ℕ) → n < length text
    → ((k : ℕ) → k < n → get_or text k 0 ≢ 10) → get_or text n 0 ≡ 10
    → run (after x line) text ≡ run (after (on_ok x (λ r. read_line r (line ++ take n text) 1)) []) (drop (suc n) text)
run_past_end (Ok r) line text n l before at = run_to_end r line text n l before at
run_past_end (Err stop) line text n l before at = run_stopped stop text ∙ sym (run_stopped stop (drop (suc n) text))

-- after an LF the machine goes on from where the line was read
pub line_passed : (p q : LineParser) (d e : Result Memory ℕ) (line text : List ℕ) (n : ℕ) (rest : List ℕ)
    → is_too_long (length line) (p.through + length line) ≡ false → n < length text
    → ((k : ℕ) → k < n → get_or text k 0 ≢ 10) → get_or text n 0 ≡ 10
    → on_ok (judged_by p d) (λ r. read_line r (line ++ take n text) 1) ≡ judged_by q e
    → q.through ≤ max_text → rest ≡ drop (suc n) text
    → run (state_with (judged_by p d) line) text ≡ run (state_with (judged_by q e) []) rest
line_passed p q d e line text n rest short l before at read fits same =
    ap (λ t. run t text) (standing p line short d)
    ∙ run_past_end (judged_by p d) line text n l before at
    ∙ ap (λ x. run (after x []) (drop (suc n) text)) read
    ∙ ap (λ t. run t (drop (suc n) text)) (sym (standing q [] (grind (arith, nat_tests)) e))
    ∙ ap (run (state_with (judged_by q e) [])) (sym same)

-- and stops if the line was refused
pub line_refused : (p : LineParser) (d : Result Memory ℕ) (line text : List ℕ) (n : ℕ) (stop : TextFault)
    → is_too_long (length line) (p.through + length line) ≡ false → n < length text
    → ((k : ℕ) → k < n → get_or text k 0 ≢ 10) → get_or text n 0 ≡ 10
    → Refuses (on_ok (judged_by p d) (λ r. read_line r (line ++ take n text) 1)) stop
    → (stop ≡ fault.Memory) ⊎ (run (state_with (judged_by p d) line) text ≡ Stopped stop)
line_refused p d line text n stop short l before at (inl memory) = inl memory
line_refused p d line text n stop short l before at (inr refused) = inr (
    ap (λ t. run t text) (standing p line short d)
    ∙ run_past_end (judged_by p d) line text n l before at
    ∙ ap (λ x. run (after x []) (drop (suc n) text)) refused.0
    ∙ run_stopped stop (drop (suc n) text))

pub ended : (x : Result Reading TextFault) (line : List ℕ)
    → text_result (state_with x line) ≡ on_ok x (λ r. read_line r line 0)
ended (Ok r) line = refl
ended (Err stop) line = refl
