-- Reading rows one after another, and adding their bytes at once.
use Rattle.std.proofs.Common.{◌≡◌, ◌≢◌, ◌⊎◌, inl, inr, ℕ, zero, suc, ◌+◌, ◌*◌, ◌^◌, ◌<◌, ◌≤◌, List, [], ◌++◌, length, get_or, drop, Some, None, refl, sym, subst, ap, ◌∙◌, add-one, arith, false, length-append}
use Rattle.std.proofs.lemmas.Bool.Decides.{nat_tests}
use Rattle.std.proofs.lemmas.List.{drop-drop, get_or-drop, length-drop}
use Rattle.std.proofs.lemmas.Simd.{get_or-chunk, length-chunk}
use Rattle.std.specs.Prelude.{Result, Ok, Err, Option, nat_lt}
use Rattle.std.specs.Option.{option_map, option_map_or}
use lib.Lanes.{chunk}
use Rattle.acpi_base.specs.Memory.{Memory, first_present, with_bytes}
use Rattle.acpi_base.specs.Image.Adding.{added}
use Rattle.acpi_base.specs.Text.ImageText.{Reading, Data, digit_of, data_fault, is_too_long, line_of, on_ok, read_line, max_text}
use Rattle.acpi_base.specs.Text.Lines.{judged, judged_by, told}
use Rattle.acpi_base.specs.Text.LineBuffers.{IsLineBuffer, buffer_state, byte_count, state_with}
use Rattle.acpi_base.specs.Text.Rows.{AreRows, HasReadRows, IsPlacedRow, IsRowAt, rows_read}
use Rattle.acpi_base.specs.Text.TextMachine.{Stopped, run}
use Rattle.acpi_base.specs.Text.TextMemory.{HasPlacedData}
use Rattle.acpi_base.specs.declared.image.ImageFault.TheVariants as add
use Rattle.acpi_base.specs.declared.text.TextFault.{TextFault}
use Rattle.acpi_base.specs.declared.text.TextFault.TheVariants.{Twice}
use Rattle.acpi_base.specs.declared.text.TextFault.TheVariants as fault
use Rattle.acpi_base.specs.declared.text.image_text.line_parser.LineParser.{LineParser}
use Rattle.acpi_base.specs.declared.text.image_text.line_buffer.LineBuffer.{LineBuffer}
use Rattle.acpi_base.proofs.Images.Drafts.{added-append, added_nothing, on_ok_assoc, on_ok_same}
use Rattle.acpi_base.proofs.Texts.ByteMachine.{after, run_stopped}
use Rattle.acpi_base.proofs.Texts.DataLines.{absent, data_alone}
use Rattle.acpi_base.proofs.Texts.LineBuffers.{run_past_end, short_bounds, standing}
use Rattle.acpi_base.proofs.Texts.PlacedData.{GoesOn, found_here, goes_on_behind, placed_line}

-- ---- rows

pub rows_push : (text bytes all row : List ℕ) (n : ℕ) → AreRows text n bytes → IsRowAt text (48 * n) row
    → all ≡ bytes ++ row → AreRows text (n + 1) all
rows_push text bytes all row n rows last is =
    subst (λ k. AreRows text k all) (sym (add-one n)) (bytes, row, rows, is, last)

pub rows_length : (text bytes : List ℕ) (n : ℕ) → AreRows text n bytes → length bytes ≡ 16 * n
rows_length text bytes zero rows = ap length rows
rows_length text bytes (suc n) rows =
    let before = rows_length text rows.0 n rows.2 in
    let last = rows.4.sixteen in
    ap length rows.3 ∙ length-append rows.0 rows.1 ∙ omega (arith, before, last)

pub rows_within : (text bytes : List ℕ) (n : ℕ) → AreRows text n bytes → 48 * n ≤ length text
rows_within text bytes zero rows = omega arith
rows_within text bytes (suc n) rows = omega (arith, rows.4.within)

-- a row is a line of data, without an LF
pub row_line : (text row : List ℕ) (at : ℕ) → IsRowAt text at row → line_of (chunk at 47 text) ≡ Data row
row_line text row at is = data_alone (chunk at 47 text) row is.spells (omega (arith, is.sixteen))

pub row_free : (text row : List ℕ) (at : ℕ) → IsRowAt text at row → (k : ℕ) → k < 47
    → get_or (drop at text) k 0 ≢ 10
unfolding digit_of
row_free text row at is k within same =
    let line = chunk at 47 text in
    absent 10 refl refl line [] None row is.spells k
    (omega (arith, length-chunk at 47 text (omega (arith, is.within)), within))
    (get_or-chunk at 47 text k 0 within ∙ sym (get_or-drop at text k 0) ∙ same)

-- ---- the machine, and the lines of a text

next_row : (text : List ℕ) (n : ℕ) → drop 48 (drop (48 * n) text) ≡ drop (48 * suc n) text
next_row text n = drop-drop 48 (48 * n) text ∙ ap (λ k. drop k text) (omega arith)

row_fits : (text row : List ℕ) (at : ℕ) → IsRowAt text at row → 47 < length (drop at text)
row_fits text row at is = omega (arith, length-drop at text, is.within)

row_ends : (text row : List ℕ) (at : ℕ) → IsRowAt text at row → get_or (drop at text) 47 0 ≡ 10
row_ends text row at is = get_or-drop at text 47 0 ∙ is.ended

pub rows_run : (x : Result Reading TextFault) (text bytes : List ℕ) (n : ℕ) → AreRows text n bytes
    → run (after x []) text ≡ run (after (rows_read x text n) []) (drop (48 * n) text)
rows_run x text bytes zero rows = refl
rows_run x text bytes (suc n) rows =
    let is = rows.4 in
    rows_run x text rows.0 n rows.2
    ∙ run_past_end (rows_read x text n) [] (drop (48 * n) text) 47 (row_fits text rows.1 (48 * n) is)
    (row_free text rows.1 (48 * n) is) (row_ends text rows.1 (48 * n) is)
    ∙ ap (run (after (rows_read x text (suc n)) [])) (next_row text n)

pub rows_on : (first x : Result Reading TextFault) (whole text bytes : List ℕ) (n : ℕ) → GoesOn first whole x text
    → AreRows text n bytes → GoesOn first whole (rows_read x text n) (drop (48 * n) text)
rows_on first x whole text bytes zero on rows = on
rows_on first x whole text bytes (suc n) on rows =
    let is = rows.4 in
    goes_on_behind first (rows_read x text n) (rows_read x text (suc n)) whole (drop (48 * n) text) 47
    (drop (48 * suc n) text) (rows_on first x whole text rows.0 n on rows.2) (row_fits text rows.1 (48 * n) is)
    (row_free text rows.1 (48 * n) is) (row_ends text rows.1 (48 * n) is) refl (sym (next_row text n))

-- ---- the bytes of all rows at once

-- after n rows, if the next address and the data are these
abbrev rows_later : LineParser → ℕ → ℕ → Result Memory ℕ → Result Reading TextFault
rows_later p n next (Ok m) =
    Ok (record { lines = p.lines + n; through = p.through + 48 * n; next = Some next; image = m })
rows_later p n next (Err address) = Err (Twice address)

row_put : (p : LineParser) (m : Memory) (line row : List ℕ) (n b : ℕ) → line_of line ≡ Data row → length line ≡ 47
    → length row ≡ 16 → p.through + 48 * suc n ≤ max_text → b + 16 ≤ 2 ^ 64
    → read_line (record { lines = p.lines + n; through = p.through + 48 * n; next = Some b; image = m }) line 1
    ≡ rows_later p (suc n) (b + 16) (added m b row)
unfolding read_line
row_put p m line row n b spells long sixteen text_fits fits =
    let short : is_too_long (length line) (p.through + 48 * n + length line + 1) ≡ false = grind (arith, nat_tests) in
    let below : nat_lt (2 ^ 64) (b + length row) ≡ false = grind (arith, nat_tests) in
    rw (short, spells, below) (either (first_present m b (length row)))
  where
    either : (o : Option ℕ)
        → option_map_or (λ fault. Err (data_fault (p.lines + n + 1) fault))
        (option_map (λ address. add.Twice address) o)
        (Ok (record {
          lines = p.lines + n + 1;
          through = p.through + 48 * n + length line + 1;
          next = Some (b + length row);
          image = with_bytes m b row;
        }))
        ≡ rows_later p (suc n) (b + 16) (option_map_or (λ address. Err address) o (Ok (with_bytes m b row)))
    either (Some address) = refl
    either None =
        let lines : p.lines + n + 1 ≡ p.lines + suc n = omega arith in
        let through : p.through + 48 * n + length line + 1 ≡ p.through + 48 * suc n = omega (arith, long) in
        rw (lines, through, sixteen) refl

nothing_read : (p : LineParser) (d : Result Memory ℕ) (a : ℕ) → p.next ≡ Some a
    → judged_by p d ≡ rows_later p 0 (a + 0) d
nothing_read p (Ok m) a next =
    let lines : p.lines + 0 ≡ p.lines = omega arith in
    let through : p.through + 0 ≡ p.through = omega arith in
    let here : a + 0 ≡ a = omega arith in
    rw (next, lines, through, here) refl
nothing_read p (Err address) a next = refl

row_later : (p : LineParser) (d : Result Memory ℕ) (line row : List ℕ) (n b : ℕ) → line_of line ≡ Data row
    → length line ≡ 47 → length row ≡ 16 → p.through + 48 * suc n ≤ max_text → b + 16 ≤ 2 ^ 64
    → on_ok (rows_later p n b d) (λ r. read_line r line 1)
    ≡ rows_later p (suc n) (b + 16) (on_ok d (λ m. added m b row))
row_later p (Ok m) line row n b spells long sixteen text_fits fits =
    row_put p m line row n b spells long sixteen text_fits fits
row_later p (Err address) line row n b spells long sixteen text_fits fits = refl

added_on : (d : Result Memory ℕ) (before last bytes : List ℕ) (a b : ℕ) → b ≡ a + length before
    → bytes ≡ before ++ last
    → on_ok (on_ok d (λ m. added m a before)) (λ m. added m b last) ≡ on_ok d (λ m. added m a bytes)
added_on d before last bytes a b behind is =
    on_ok_assoc d (λ m. added m a before) (λ m. added m b last)
    ∙ on_ok_same d _ _ (λ m.
    ap (λ k. on_ok (added m a before) (λ n. added n k last)) behind
    ∙ sym (added-append m a before last)
    ∙ ap (added m a) (sym is))

rows_put : (p : LineParser) (d : Result Memory ℕ) (text bytes : List ℕ) (n a : ℕ) → AreRows text n bytes
    → p.next ≡ Some a → p.through + 48 * n ≤ max_text → a + 16 * n ≤ 2 ^ 64
    → rows_read (judged_by p d) text n ≡ rows_later p n (a + 16 * n) (on_ok d (λ m. added m a bytes))
rows_put p d text bytes zero a rows next text_fits fits =
    nothing_read p d a next ∙ ap (rows_later p 0 (a + 0)) (added_nothing d a bytes (ap length rows))
rows_put p d text bytes (suc n) a rows next text_fits fits =
    let is = rows.4 in
    let line = chunk (48 * n) 47 text in
    let so_far = rows_length text rows.0 n rows.2 in
    ap (λ x. on_ok x (λ r. read_line r line 1))
    (rows_put p d text rows.0 n a rows.2 next (omega (arith, text_fits)) (omega (arith, fits)))
    ∙ row_later p (on_ok d (λ m. added m a rows.0)) line rows.1 n (a + 16 * n) (row_line text rows.1 (48 * n) is)
    (length-chunk (48 * n) 47 text (omega (arith, is.within))) is.sixteen text_fits (omega (arith, fits))
    ∙ ap (rows_later p (suc n) (a + 16 * n + 16))
    (added_on d rows.0 rows.1 bytes a (a + 16 * n) (omega (arith, so_far)) rows.3)
    ∙ ap (λ k. rows_later p (suc n) k (on_ok d (λ m. added m a bytes))) (omega arith)

later_is : (p q : LineParser) (d : Result Memory ℕ) (n b : ℕ) → q.lines ≡ p.lines + n
    → q.through ≡ p.through + 48 * n → q.next ≡ Some b → rows_later p n b d ≡ judged_by q d
later_is p q (Ok m) n b lines through next = rw (lines, through, next) refl
later_is p q (Err address) n b lines through next = refl

pub rows_added : (p q : LineParser) (d e : Result Memory ℕ) (text bytes : List ℕ) (n a : ℕ) → AreRows text n bytes
    → p.next ≡ Some a → p.through + 48 * n ≤ max_text → a + 16 * n ≤ 2 ^ 64
    → e ≡ on_ok d (λ m. added m a bytes)
    → q.lines ≡ p.lines + n → q.through ≡ p.through + 48 * n → q.next ≡ Some (a + 16 * n)
    → rows_read (judged_by p d) text n ≡ judged_by q e
rows_added p q d e text bytes n a rows next text_fits fits is lines through later =
    rows_put p d text bytes n a rows next text_fits fits
    ∙ ap (rows_later p n (a + 16 * n)) (sym is)
    ∙ later_is p q e n (a + 16 * n) lines through later

-- ---- where memory runs out

first_row : (text bytes : List ℕ) (n : ℕ) → 0 < n → AreRows text n bytes → (row : List ℕ) × IsRowAt text 0 row
first_row text bytes zero some rows = absurd (omega (arith, some))
first_row text bytes (suc zero) some rows = (rows.1, rows.4)
first_row text bytes (suc (suc n)) some rows = first_row text rows.0 (suc n) (omega arith) rows.2

pub placed_row : (p : LineParser) (d e : Result Memory ℕ) (text bytes : List ℕ) (n a : ℕ) → AreRows text n bytes
    → 0 < n → p.next ≡ Some a → p.through + 48 * n ≤ max_text → a + 16 * n ≤ 2 ^ 64 → e ≡ d
    → told e fault.Memory ≡ fault.Memory → IsPlacedRow (judged_by p d) text
placed_row p d e text bytes n a rows some next text_fits fits same memory =
    let first = first_row text bytes n some rows in
    let is = first.1 in
    let line = chunk 0 47 text in
    let long = length-chunk 0 47 text (omega (arith, is.within)) in
    let short : is_too_long (length line) (p.through + length line + 1) ≡ false = grind (arith, nat_tests) in
    record {
      bytes = first.0;
      row = is;
      placed = placed_line p d e line 1 fault.Memory short same
          (λ _. record {
            bytes = first.0;
            spells = row_line text first.0 0 is;
            room = record { address = a; placed = next; fits = omega (arith, is.sixteen, fits, some) };
          }) memory;
    }

-- ---- lines and rows of a piece

-- The rest of the piece is read on from here as the piece was from the start.
pub record IsReadOn (first : LineBuffer) (piece : List ℕ) (f : LineBuffer) (rest : List ℕ) : Type 0 where
  pub valid : IsLineBuffer f
  pub run : run (buffer_state f) rest ≡ run (buffer_state first) piece
  pub count : byte_count f + length rest ≡ byte_count first + length piece
  pub whole : first.line.items ≡ [] → f.line.items ≡ []
  pub on : first.line.items ≡ [] → GoesOn (judged first.parser) piece (judged f.parser) rest

standing_at : (f : LineBuffer) → IsLineBuffer f → f.line.items ≡ [] → buffer_state f ≡ after (judged f.parser) []
standing_at f valid empty =
    ap (state_with (judged f.parser)) empty
    ∙ standing f.parser []
    (grind (arith, nat_tests, short_bounds (length f.line.items) (byte_count f) valid.short)) f.parser.image

pub rows_passed : (first f g : LineBuffer) (piece rest : List ℕ) (taken : ℕ) → IsReadOn first piece f rest
    → HasReadRows (judged f.parser) (judged g.parser) rest taken → IsLineBuffer g → g.line ≡ f.line
    → f.line.items ≡ [] → g.parser.through ≡ f.parser.through + taken → IsReadOn first piece g (drop taken rest)
rows_passed first f g piece rest taken at read valid same empty through =
    let still : g.line.items ≡ [] = ap (λ l. l.items) same ∙ empty in
    let here : drop taken rest ≡ drop (48 * read.count) rest = ap (λ k. drop k rest) read.whole in
    let within = rows_within rest read.bytes read.count read.rows in
    let none = ap length empty in
    let still_none = ap length still in
    let left = length-drop taken rest in
    let whole = read.whole in
    let so_far = at.count in
    record {
      valid = valid;
      run = ap (λ s. run s (drop taken rest)) (standing_at g valid still)
          ∙ ap (run (after (judged g.parser) [])) here
          ∙ ap (λ x. run (after x []) (drop (48 * read.count) rest)) (sym read.read)
          ∙ sym (rows_run (judged f.parser) rest read.bytes read.count read.rows)
          ∙ ap (λ s. run s rest) (sym (standing_at f at.valid empty))
          ∙ at.run;
      count = omega arith;
      whole = λ start. still;
      on = λ start. rw (here, ← read.read)
          (rows_on (judged first.parser) (judged f.parser) piece rest read.bytes read.count (at.on start) read.rows);
    }

pub taken_within : {x y : Result Reading TextFault} (text : List ℕ) (taken : ℕ) → HasReadRows x y text taken
    → taken ≤ length text
taken_within text taken read =
    let within = rows_within text read.bytes read.count read.rows in
    let whole = read.whole in
    omega arith

-- memory runs out at the first row
pub row_refused : (first f : LineBuffer) (piece rest : List ℕ) → IsReadOn first piece f rest
    → first.line.items ≡ [] → IsPlacedRow (judged f.parser) rest → HasPlacedData (judged first.parser) piece
row_refused first f piece rest at start placed =
    let is = placed.row in
    (at.on start).found
    (found_here (judged f.parser) rest 47 (row_fits rest placed.bytes 0 is) (row_free rest placed.bytes 0 is)
    (row_ends rest placed.bytes 0 is) placed.placed)

-- a fault that reading had met before
pub met_before : (first f : LineBuffer) (piece rest : List ℕ) (stop : TextFault) → IsReadOn first piece f rest
    → (stop ≡ fault.Memory) ⊎ (judged f.parser ≡ Err stop)
    → (stop ≡ fault.Memory) ⊎ (run (buffer_state first) piece ≡ Stopped stop)
met_before first f piece rest stop at (inl memory) = inl memory
met_before first f piece rest stop at (inr met) = inr (
    sym at.run ∙ ap (λ x. run (state_with x f.line.items) rest) met ∙ run_stopped stop rest)
