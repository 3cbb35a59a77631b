-- The written form of an image is read as the image.
use Rattle.std.proofs.Common.{◌≡◌, ℕ, zero, suc, ◌+◌, ◌-◌, ◌*◌, ◌^◌, ◌<◌, ◌≤◌, ◌⊎◌, inl, inr, false, List, [], ◌∷◌, ◌++◌, length, take, drop, Some, None, Result, Ok, Err, refl, sym, ap, ◌∙◌, subst, arith, append_assoc, length-append, length-drop}
use Rattle.std.specs.Prelude.{slice_index}
use Rattle.std.specs.List.{AllByRecursion, flat_map}
use Rattle.std.specs.FinMap.{empty, get-empty}
use Rattle.std.specs.Ordering.{nat_cmp}
use Rattle.std.proofs.lemmas.Bool.{cases_lt, le-ltb}
use Rattle.std.proofs.lemmas.List.{length-take, take-append-drop, get_or_append_left, get_or-append_right}
use Rattle.acpi_base.specs.Memory.{Memory, byte_of, with_bytes, first_present}
use Rattle.acpi_base.specs.Image.Adding.{add_refusal}
use Rattle.acpi_base.specs.Image.Runs.{Run, end_of, IsComplete}
use Rattle.acpi_base.specs.Text.WrittenText.{AreSortedRuns, with_runs, IsEmptyFrom, row, rows, row_count, address_line, run_lines, line_with_lf, text_of, runs_text, WrittenIsText}
use Rattle.acpi_base.specs.Text.ImageText.{Line, Blank, Address, Data, Reading, start, on_ok, is_too_long, skip_blanks, form_of, line_of, take_line, read_line, read_lines, ended_lines_from, last_line_from, read_text, IsText}
use Rattle.acpi_base.specs.declared.text.TextFault.{TextFault}
use Rattle.acpi_base.proofs.Images.RunMemory.{same_memory, no_bytes}
use Rattle.acpi_base.proofs.Images.RunBytes.{byte_of-with_bytes_within, byte_of-with_bytes_outside}
use Rattle.acpi_base.proofs.Images.ByteRuns.{first_of_none}
use Rattle.acpi_base.proofs.Texts.Written.Lines.{Plain, row_line, row_plain, length-row, address_line_is, ended_line, last_of_line}

-- these lines are read without a fault, and put these bytes in
record Reads (r : Reading) (lines : List (List ℕ)) (next : ℕ) (m : Memory) : Type 0 where
  reading : Reading
  read : read_lines r lines ≡ Ok reading
  next_is : reading.next ≡ Some next
  image_is : reading.image ≡ m
  through_is : reading.through ≡ r.through + length (text_of lines)

fits_text : (line_bytes through : ℕ) → line_bytes ≤ 65536 → through ≤ 67108864 → is_too_long line_bytes through ≡ false
fits_text line_bytes through short fits = rw (le-ltb 65536 line_bytes short, le-ltb 67108864 through fits) refl

-- a line that is short enough is read as what it says
read_short : (r : Reading) (line : List ℕ) (ending : ℕ) (said : Line) → line_of line ≡ said → length line ≤ 65536
    → r.through + length line + ending ≤ 67108864
    → read_line r line ending ≡ take_line (record r { lines = r.lines + 1; through = r.through + length line + ending })
    (r.lines + 1) said
unfolding read_line
read_short r line ending said is short fits =
    rw (fits_text (length line) (r.through + length line + ending) short fits, is) refl

one_line : (r : Reading) (line : List ℕ) (s : Reading) → read_line r line 1 ≡ Ok s → read_lines r (line ∷ []) ≡ Ok s
unfolding read_lines
one_line r line s e = rw e refl

lines_append : (r : Reading) (xs ys : List (List ℕ)) (s : Reading) → read_lines r xs ≡ Ok s
    → read_lines r (xs ++ ys) ≡ read_lines s ys
unfolding read_lines
lines_append r [] ys s e = ap (λ (t : Result Reading TextFault). on_ok t (λ u. read_lines u ys)) e
lines_append r (x ∷ xs) ys s e =
    elim (read_line r x 1) as (λ t. on_ok t (λ u. read_lines u xs) ≡ Ok s
    → on_ok t (λ u. read_lines u (xs ++ ys)) ≡ read_lines s ys) [
      | Ok u ↦ λ f. lines_append u xs ys s f
      | Err fault ↦ λ f. absurd (cc)
    ] e

none_refused : (m : Memory) (a : ℕ) (bytes : List ℕ) → IsEmptyFrom m a → a + length bytes ≤ 2 ^ 64
    → add_refusal m a bytes ≡ None
none_refused m a bytes below fits =
    let none : first_present m a (length bytes) ≡ None = first_of_none (byte_of m) a (length bytes)
    (λ k l. below (a + k) (omega arith)) in
    rw (le-ltb (2 ^ 64) (a + length bytes) fits, none) refl

ends_later : (m : Memory) (a : ℕ) (bytes : List ℕ) → IsEmptyFrom m a
    → IsEmptyFrom (with_bytes m a bytes) (a + length bytes)
ends_later m a bytes below x past = byte_of-with_bytes_outside m a bytes x (inr past) ∙ below x (omega arith)

data_taken : (r : Reading) (n a : ℕ) (bytes : List ℕ) → r.next ≡ Some a → add_refusal r.image a bytes ≡ None
    → take_line r n (Data bytes) ≡ Ok (record r { next = Some (a + length bytes); image = with_bytes r.image a bytes })
data_taken r n a bytes next none = rw (next, none) refl

-- a row is read
row_read : (r : Reading) (a : ℕ) (bytes : List ℕ) → r.next ≡ Some a → IsEmptyFrom r.image a → a + length bytes ≤ 2 ^ 64
    → 0 < length bytes → length bytes ≤ 16 → AllByRecursion (λ b. b < 256) bytes
    → r.through + length (text_of (row bytes ∷ [])) ≤ 67108864
    → Reads r (row bytes ∷ []) (a + length bytes) (with_bytes r.image a bytes)
row_read r a bytes next below fits some few low short =
    let count = length-row bytes in
    let joined = length-append (row bytes) (10 ∷ []) in
    let joined' = length-append (row bytes ++ 10 ∷ []) [] in
    let line = read_short r (row bytes) 1 (Data bytes) (row_line bytes some low) (omega (arith, count))
    (omega (arith, short, joined, joined')) in
    let after : Reading = record r { lines = r.lines + 1; through = r.through + length (row bytes) + 1 } in
    let taken = data_taken after (r.lines + 1) a bytes next (none_refused r.image a bytes below fits) in
    record {
      reading = record after { next = Some (a + length bytes); image = with_bytes r.image a bytes };
      read = one_line r (row bytes) _ (line ∙ taken);
      next_is = refl;
      image_is = refl;
      through_is = omega (arith, joined, joined');
    }

pub put_parts : (m : Memory) (a : ℕ) (xs ys : List ℕ)
    → with_bytes (with_bytes m a xs) (a + length xs) ys ≡ with_bytes m a (xs ++ ys)
put_parts m a xs ys =
    same_memory (with_bytes (with_bytes m a xs) (a + length xs) ys) (with_bytes m a (xs ++ ys))
    (λ x. each x (cases_lt x a) (cases_lt x (a + length xs)) (cases_lt x (a + length xs + length ys)))
  where
    count : length (xs ++ ys) ≡ length xs + length ys
    count = length-append xs ys

    same_place : (x : ℕ) → a + length xs ≤ x → x - (a + length xs) ≡ x - a - length xs
    same_place x second = omega arith

    each : (x : ℕ) → (x < a) ⊎ (a ≤ x) → (x < a + length xs) ⊎ (a + length xs ≤ x)
        → (x < a + length xs + length ys) ⊎ (a + length xs + length ys ≤ x)
        → byte_of (with_bytes (with_bytes m a xs) (a + length xs) ys) x ≡ byte_of (with_bytes m a (xs ++ ys)) x
    each x (inl below) _ _ =
        byte_of-with_bytes_outside (with_bytes m a xs) (a + length xs) ys x (inl (omega arith))
        ∙ byte_of-with_bytes_outside m a xs x (inl below)
        ∙ sym (byte_of-with_bytes_outside m a (xs ++ ys) x (inl below))
    each x (inr from) (inl first) _ =
        byte_of-with_bytes_outside (with_bytes m a xs) (a + length xs) ys x (inl first)
        ∙ byte_of-with_bytes_within m a xs x from first
        ∙ ap Some (sym (get_or_append_left xs ys 0 (x - a) (omega arith)))
        ∙ sym (byte_of-with_bytes_within m a (xs ++ ys) x from (omega (arith, count)))
    each x (inr from) (inr second) (inl within) =
        byte_of-with_bytes_within (with_bytes m a xs) (a + length xs) ys x second within
        ∙ ap Some (ap (slice_index ys) (same_place x second)
        ∙ sym (get_or-append_right xs ys (length xs) (x - a) 0 refl (omega arith)))
        ∙ sym (byte_of-with_bytes_within m a (xs ++ ys) x from (omega (arith, count)))
    each x (inr from) (inr second) (inr behind) =
        byte_of-with_bytes_outside (with_bytes m a xs) (a + length xs) ys x (inr behind)
        ∙ byte_of-with_bytes_outside m a xs x (inr second)
        ∙ sym (byte_of-with_bytes_outside m a (xs ++ ys) x (inr (omega (arith, count))))

pub text_append : (xs ys : List (List ℕ)) → text_of (xs ++ ys) ≡ text_of xs ++ text_of ys
text_append [] ys = refl
text_append (x ∷ xs) ys =
    ap (λ (t : List ℕ). line_with_lf x ++ t) (text_append xs ys)
    ∙ sym (append_assoc (line_with_lf x) (text_of xs) (text_of ys))

length-text_append : (xs ys : List (List ℕ)) → length (text_of (xs ++ ys)) ≡ length (text_of xs) + length (text_of ys)
length-text_append xs ys = ap length (text_append xs ys) ∙ length-append (text_of xs) (text_of ys)

reads_both : (r : Reading) (xs ys : List (List ℕ)) (a b : ℕ) (m n : Memory) → (first : Reads r xs a m)
    → Reads first.reading ys b n → Reads r (xs ++ ys) b n
reads_both r xs ys a b m n first rest = record {
  reading = rest.reading;
  read = lines_append r xs ys first.reading first.read ∙ rest.read;
  next_is = rest.next_is;
  image_is = rest.image_is;
  through_is = omega (arith, rest.through_is, first.through_is, length-text_append xs ys);
}

all_take : (P : ℕ → Type 0) (k : ℕ) (xs : List ℕ) → AllByRecursion P xs → AllByRecursion P (take k xs)
all_take P zero xs all = tt
all_take P (suc k) [] all = tt
all_take P (suc k) (x ∷ xs) all = (all.0, all_take P k xs all.1)

all_drop : (P : ℕ → Type 0) (k : ℕ) (xs : List ℕ) → AllByRecursion P xs → AllByRecursion P (drop k xs)
all_drop P zero xs all = all
all_drop P (suc k) [] all = tt
all_drop P (suc k) (x ∷ xs) all = all_drop P k xs all.1

no_lines : (r : Reading) → read_lines r [] ≡ Ok r
unfolding read_lines
no_lines r = refl

rows_read : (n : ℕ) (r : Reading) (a : ℕ) (bytes : List ℕ) → r.next ≡ Some a → IsEmptyFrom r.image a
    → a + length bytes ≤ 2 ^ 64 → length bytes ≤ 16 * n → 16 * n < length bytes + 16
    → AllByRecursion (λ b. b < 256) bytes
    → r.through + length (text_of (rows n bytes)) ≤ 67108864
    → Reads r (rows n bytes) (a + length bytes) (with_bytes r.image a bytes)
unfolding rows
rows_read zero r a bytes next below fits few many low short =
    let none : length bytes ≡ 0 = omega arith in
    let here : a ≡ a + length bytes = omega arith in
    record {
      reading = r;
      read = no_lines r;
      next_is = next ∙ ap Some here;
      image_is = no_bytes r.image a bytes none;
      through_is = omega arith;
    }
rows_read (suc n) r a bytes next below fits few many low short =
    let front = length-take 16 bytes in
    let back = length-drop 16 bytes in
    let split = length-text_append (row (take 16 bytes) ∷ []) (rows n (drop 16 bytes)) in
    let first = row_read r a (take 16 bytes) next below (omega (arith, front)) (omega (arith, front))
    (omega (arith, front)) (all_take (λ b. b < 256) 16 bytes low) (omega (arith, short, split)) in
    let ends = subst (λ (m : Memory). IsEmptyFrom m (a + length (take 16 bytes))) (sym first.image_is)
    (ends_later r.image a (take 16 bytes) below) in
    let rest = rows_read n first.reading (a + length (take 16 bytes)) (drop 16 bytes) first.next_is ends
    (omega (arith, front, back)) (omega (arith, back)) (omega (arith, back)) (all_drop (λ b. b < 256) 16 bytes low)
    (omega (arith, short, split, first.through_is)) in
    let both = reads_both r (row (take 16 bytes) ∷ []) (rows n (drop 16 bytes)) _ _ _ _ first rest in
    let place : a + length (take 16 bytes) + length (drop 16 bytes) ≡ a + length bytes = omega (arith, front, back) in
    let image : with_bytes first.reading.image (a + length (take 16 bytes)) (drop 16 bytes) ≡ with_bytes r.image a
    bytes =
    ap (λ (m : Memory). with_bytes m (a + length (take 16 bytes)) (drop 16 bytes)) first.image_is
    ∙ put_parts r.image a (take 16 bytes) (drop 16 bytes)
    ∙ ap (with_bytes r.image a) (take-append-drop 16 bytes) in
    subst (λ (x : ℕ). Reads r (row (take 16 bytes) ∷ rows n (drop 16 bytes)) x (with_bytes r.image a bytes)) place
    (subst (λ (m : Memory). Reads r (row (take 16 bytes) ∷ rows n (drop 16 bytes))
    (a + length (take 16 bytes) + length (drop 16 bytes)) m) image both)

address_taken : (r : Reading) (a : ℕ) → a < 2 ^ 64 → r.through + length (text_of (address_line a ∷ [])) ≤ 67108864
    → Reads r (address_line a ∷ []) a r.image
address_taken r a fits short =
    let line = address_line_is a fits in
    let few = line.short in
    let joined = length-append (address_line a) (10 ∷ []) in
    let joined' = length-append (address_line a ++ 10 ∷ []) [] in
    let after : Reading = record r { lines = r.lines + 1; through = r.through + length (address_line a) + 1 } in
    record {
      reading = record after { next = Some a };
      read = one_line r (address_line a) _
          (read_short r (address_line a) 1 (Address a) line.says (omega (arith, few))
          (omega (arith, short, joined, joined')));
      next_is = refl;
      image_is = refl;
      through_is = omega (arith, joined, joined');
    }

run_read : (r : Reading) (bound : ℕ) (w : Run) → IsEmptyFrom r.image bound → bound ≤ w.base → IsComplete w
    → r.through + length (text_of (run_lines w)) ≤ 67108864
    → Reads r (run_lines w) (end_of w) (with_bytes r.image w.base w.bytes)
run_read r bound w below from whole short =
    let filled = whole.filled in
    let fits = whole.fits in
    let split = length-text_append (address_line w.base ∷ []) (rows (row_count w.bytes) w.bytes) in
    let first = address_taken r w.base (omega arith) (omega (arith, short, split)) in
    let ends : IsEmptyFrom first.reading.image w.base = subst (λ (m : Memory). IsEmptyFrom m w.base)
    (sym first.image_is) (λ x past. below x (omega arith)) in
    let rest = rows_read (row_count w.bytes) first.reading w.base w.bytes first.next_is ends fits (omega arith)
    (omega arith) whole.bytes (omega (arith, short, split, first.through_is)) in
    subst (λ (m : Memory). Reads r (run_lines w) (end_of w) (with_bytes m w.base w.bytes)) first.image_is
    (reads_both r (address_line w.base ∷ []) (rows (row_count w.bytes) w.bytes) _ _ _ _ first rest)

-- ---- all runs

record Ends (r : Reading) (lines : List (List ℕ)) (m : Memory) : Type 0 where
  reading : Reading
  read : read_lines r lines ≡ Ok reading
  image_is : reading.image ≡ m
  through_is : reading.through ≡ r.through + length (text_of lines)

runs_read : (rs : List Run) (r : Reading) (bound : ℕ) → AreSortedRuns bound rs → IsEmptyFrom r.image bound
    → r.through + length (text_of (flat_map run_lines rs)) ≤ 67108864
    → Ends r (flat_map run_lines rs) (with_runs r.image rs)
unfolding with_runs
runs_read [] r bound up below short =
    record { reading = r; read = no_lines r; image_is = refl; through_is = omega arith }
runs_read (w ∷ rs) r bound up below short =
    let split = length-text_append (run_lines w) (flat_map run_lines rs) in
    let first = run_read r bound w below up.0 up.1 (omega (arith, short, split)) in
    let later : IsEmptyFrom (with_bytes r.image w.base w.bytes) (end_of w + 1) =
    λ x past. ends_later r.image w.base w.bytes (λ y h. below y (omega (arith, up.0))) x (omega arith) in
    let ends : IsEmptyFrom first.reading.image (end_of w + 1) =
    subst (λ (m : Memory). IsEmptyFrom m (end_of w + 1)) (sym first.image_is) later in
    let rest = runs_read rs first.reading (end_of w + 1) up.2 ends (omega (arith, short, split, first.through_is)) in
    record {
      reading = rest.reading;
      read = lines_append r (run_lines w) (flat_map run_lines rs) first.reading first.read ∙ rest.read;
      image_is = rest.image_is ∙ ap (λ (m : Memory). with_runs m rs) first.image_is;
      through_is = omega (arith, rest.through_is, first.through_is, split);
    }

-- ---- the text's lines

abbrev AllPlain : List (List ℕ) → Type 0
AllPlain lines = AllByRecursion (λ (l : List ℕ). AllByRecursion Plain l) lines

lines_again : (lines : List (List ℕ)) → AllPlain lines → ended_lines_from [] (text_of lines) ≡ lines
unfolding ended_lines_from
lines_again [] all = refl
lines_again (l ∷ ls) all =
    ap (ended_lines_from []) (append_assoc l (10 ∷ []) (text_of ls)) ∙ ended_line l [] (text_of ls) all.0
    ∙ ap (λ (rest : List (List ℕ)). l ∷ rest) (lines_again ls all.1)

last_again : (lines : List (List ℕ)) → AllPlain lines → last_line_from [] (text_of lines) ≡ []
unfolding last_line_from
last_again [] all = refl
last_again (l ∷ ls) all =
    ap (last_line_from []) (append_assoc l (10 ∷ []) (text_of ls)) ∙ last_of_line l [] (text_of ls) all.0
    ∙ last_again ls all.1

rows_plain : (n : ℕ) (bytes : List ℕ) → AllByRecursion (λ b. b < 256) bytes → AllPlain (rows n bytes)
unfolding rows
rows_plain zero bytes low = tt
rows_plain (suc n) bytes low = (
  row_plain (take 16 bytes) (all_take (λ b. b < 256) 16 bytes low),
  rows_plain n (drop 16 bytes) (all_drop (λ b. b < 256) 16 bytes low),
)

plain_append : (xs ys : List (List ℕ)) → AllPlain xs → AllPlain ys → AllPlain (xs ++ ys)
plain_append [] ys a b = b
plain_append (x ∷ xs) ys a b = (a.0, plain_append xs ys a.1 b)

runs_plain : (rs : List Run) (bound : ℕ) → AreSortedRuns bound rs → AllPlain (flat_map run_lines rs)
runs_plain [] bound up = tt
runs_plain (w ∷ rs) bound up =
    let filled = up.1.filled in
    let fits = up.1.fits in
    plain_append (run_lines w) (flat_map run_lines rs) (
      (address_line_is w.base (omega arith)).plain,
      rows_plain (row_count w.bytes) w.bytes up.1.bytes,
    ) (runs_plain rs (end_of w + 1) up.2)

empty_line : line_of [] ≡ Blank
unfolding line_of skip_blanks form_of
empty_line = refl

pub written_is_text : (rs : List Run) → AreSortedRuns 0 rs → length (runs_text rs) ≤ 67108864
    → IsText (runs_text rs) (with_runs empty rs)
unfolding runs_text
written_is_text rs up short =
    let lines = flat_map run_lines rs in
    let plain = runs_plain rs 0 up in
    let ends = runs_read rs start 0 up (λ x h. get-empty nat_cmp x) (omega (arith, short)) in
    let last = read_short ends.reading [] 0 Blank empty_line (omega arith) (omega (arith, ends.through_is, short)) in
    let read : read_text (text_of lines) ≡ Ok
    (record ends.reading { lines = ends.reading.lines + 1; through = ends.reading.through + 0 + 0 }) =
    rw (lines_again lines plain, last_again lines plain, ends.read) last in (
      record ends.reading { lines = ends.reading.lines + 1; through = ends.reading.through + 0 + 0 },
      read,
      ends.image_is,
    )

pub written_read : WrittenIsText
written_read text m is short =
    subst (λ (t : List ℕ). IsText t m) (sym is.is)
    (subst (λ (n : Memory). IsText (runs_text is.runs) n) is.image
    (written_is_text is.runs is.rising (subst (λ (t : List ℕ). length t ≤ 67108864) is.is short)))
