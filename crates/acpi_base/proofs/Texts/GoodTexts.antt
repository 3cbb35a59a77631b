-- Reading a text by lines gives what the text means.
use Rattle.std.proofs.Common.{◌≡◌, ◌≢◌, ◌⊎◌, inl, inr, ℕ, zero, suc, ◌+◌, ◌<◌, ◌≤◌, List, [], ◌∷◌, ◌++◌, length, refl, sym, ap, subst, arith, false, length-append}
use Rattle.std.proofs.lemmas.Bool.{ltb-false, or_parts}
use Rattle.std.proofs.lemmas.List.Elements.{All-cons, All-head, All-tail}
use Rattle.std.specs.Prelude.{Option, None, Some, IsSome, is_some, Result, Ok, Err, map, ◌↔◌}
use Rattle.std.specs.Option.{option_map_or}
use Rattle.std.specs.List.{All, AllByRecursion, Contains, slice_get}
use Rattle.std.specs.FinMap.{empty, get-empty}
use Rattle.std.specs.Ordering.{nat_cmp}
use Rattle.std.proofs.lemmas.Bool.Decides.{nat_tests}
use Rattle.acpi_base.specs.Memory.{Memory, byte_of, with_bytes}
use Rattle.acpi_base.specs.Image.Adding.{add_refusal}
use Rattle.acpi_base.specs.Text.ImageText.{Line, Blank, Address, Data, Bad, Reading, start, on_ok, max_line, max_text, is_too_long, data_fault, put_data, take_line, line_of, read_line, read_lines, ended_lines_from, last_line_from, ended_lines, last_line, read_text, IsText, IsRefused}
use Rattle.acpi_base.specs.declared.text.TextFault.{TextFault}
use Rattle.acpi_base.specs.Text.TextMeaning.{text_lines, parsed_lines, all_data, IsGoodText}
use Rattle.acpi_base.proofs.Options.{same_options, a_value}
use Rattle.acpi_base.proofs.Images.RunMemory.{same_memory}
use Rattle.acpi_base.proofs.Texts.LineParsing.{data_some}
use Rattle.acpi_base.proofs.Texts.ByteMachine.{take_line_keeps}
use Rattle.acpi_base.proofs.Texts.DataPlaces.{place_of, stands_is_place}
use Rattle.acpi_base.proofs.Images.DataImages.{Given, Makes, first_here, data_more, data_less, taken, not_refused}

none_given : (m : Memory) (a b : ℕ) → Given (λ n. None) [] m a b → byte_of m a ≡ Some b
none_given m a b (inl e) = e
none_given m a b (inr (n, p, d)) = absurd (cc)

nothing_makes : (m f : Memory) → m ≡ f → Makes (λ n. None) [] m f
nothing_makes m f e = grind (arith, none_given)

made_of_nothing : (m f : Memory) → Makes (λ n. None) [] m f → m ≡ f
made_of_nothing m f made =
    same_memory m f (λ x. same_options (byte_of m x) (byte_of f x)
    (λ b. (λ p. (made.image x b).1 (inl p), λ p. none_given m x b ((made.image x b).0 p))))

-- ---- the lines in turn

-- the lines can be taken in turn, from the next address and the image m on, and leave the image f
abbrev Goes : Option ℕ → Memory → List Line → Memory → Type 0
Goes next m [] f = m ≡ f
Goes next m (Blank ∷ rest) f = Goes next m rest f
Goes next m (Address address ∷ rest) f = Goes (Some address) m rest f
Goes None m (Data bytes ∷ rest) f = ⊥
Goes (Some a) m (Data bytes ∷ rest) f =
    (add_refusal m a bytes ≡ None) × Goes (Some (a + length bytes)) (with_bytes m a bytes) rest f
Goes next m (Bad ∷ rest) f = ⊥

abbrev LinesMake : Option ℕ → List Line → Memory → Memory → Type 0
LinesMake next lines m f = Makes (place_of next lines) (all_data lines) m f

goes_makes : (next : Option ℕ) (m : Memory) (lines : List Line) (f : Memory) → Goes next m lines f
    → LinesMake next lines m f
goes_makes next m [] f g = nothing_makes m f g
goes_makes next m (Blank ∷ rest) f g = goes_makes next m rest f g
goes_makes next m (Address address ∷ rest) f g = goes_makes (Some address) m rest f g
goes_makes None m (Data bytes ∷ rest) f g = absurd g
goes_makes (Some a) m (Data bytes ∷ rest) f g =
    data_more a bytes (place_of (Some (a + length bytes)) rest) (all_data rest) m f (taken m a bytes g.0)
    (goes_makes (Some (a + length bytes)) (with_bytes m a bytes) rest f g.1)
goes_makes next m (Bad ∷ rest) f g = absurd g

goes_none_bad : (next : Option ℕ) (m : Memory) (lines : List Line) (f : Memory) → Goes next m lines f
    → ¬ Contains lines Bad
goes_none_bad next m [] f g c = absurd (omega (arith, c.1))
goes_none_bad None m (Data bytes ∷ rest) f g c = absurd g
goes_none_bad next m (Bad ∷ rest) f g c = absurd g
goes_none_bad next m (line ∷ rest) f g (zero, h, e) = absurd (cc)
goes_none_bad next m (Address address ∷ rest) f g (suc k, h, e) =
    goes_none_bad (Some address) m rest f g (k, omega arith, e)
goes_none_bad (Some a) m (Data bytes ∷ rest) f g (suc k, h, e) =
    goes_none_bad (Some (a + length bytes)) (with_bytes m a bytes) rest f g.1 (k, omega arith, e)
goes_none_bad next m (Blank ∷ rest) f g (suc k, h, e) = goes_none_bad next m rest f g (k, omega arith, e)

-- a line that is not bad, and a data line has a byte
abbrev IsValid : Line → Type 0
IsValid (Data bytes) = 0 < length bytes
IsValid Bad = ⊥
IsValid line = Unit {0}

makes_goes : (next : Option ℕ) (m : Memory) (lines : List Line) (f : Memory) → AllByRecursion IsValid lines
    → LinesMake next lines m f → Goes next m lines f
makes_goes next m [] f valid made = made_of_nothing m f made
makes_goes next m (Blank ∷ rest) f valid made = makes_goes next m rest f valid.1 made
makes_goes next m (Address address ∷ rest) f valid made = makes_goes (Some address) m rest f valid.1 made
makes_goes None m (Data bytes ∷ rest) f valid made =
    absurd (grind (
      arith,
      valid.0,
      made.stands 0 (omega (arith, valid.0, length-append bytes (all_data rest))),
      first_here None (length bytes) (place_of None rest) 0 valid.0,
    ))
makes_goes (Some a) m (Data bytes ∷ rest) f valid made =
    let both = data_less a bytes (place_of (Some (a + length bytes)) rest) (all_data rest) m f made in (
      not_refused m a bytes valid.0 both.0,
      makes_goes (Some (a + length bytes)) (with_bytes m a bytes) rest f valid.1
          both.1,
    )
makes_goes next m (Bad ∷ rest) f valid made = absurd valid.0

-- ---- reading takes the lines in turn

put_goes : (r : Reading) (n : ℕ) (bytes : List ℕ) (next : Option ℕ) (s : Reading) → put_data r n bytes next ≡ Ok s
    → (rest : List Line) (f : Memory) → Goes s.next s.image rest f → Goes next r.image (Data bytes ∷ rest) f
put_goes r n bytes None s e rest f g = absurd (cc)
put_goes r n bytes (Some a) s e rest f g = grind (arith)

take_goes : (r : Reading) (n : ℕ) (line : Line) (s : Reading) → take_line r n line ≡ Ok s
    → (rest : List Line) (f : Memory) → Goes s.next s.image rest f → Goes r.next r.image (line ∷ rest) f
take_goes r n (Data bytes) s e rest f g = put_goes r n bytes r.next s e rest f g
take_goes r n line s e rest f g = grind arith

goes_put : (r : Reading) (n : ℕ) (bytes : List ℕ) (next : Option ℕ) (rest : List Line) (f : Memory)
    → Goes next r.image (Data bytes ∷ rest) f
    → (s : Reading) × (put_data r n bytes next ≡ Ok s) × Goes s.next s.image rest f
goes_put r n bytes None rest f g = absurd g
goes_put r n bytes (Some a) rest f g =
    let after : Reading = record r { next = Some (a + length bytes); image = with_bytes r.image a bytes } in
    (after, ap (λ refusal. option_map_or (λ fault. Err (data_fault n fault)) refusal (Ok after)) g.0, g.1)

goes_take : (r : Reading) (n : ℕ) (line : Line) (rest : List Line) (f : Memory) → Goes r.next r.image (line ∷ rest) f
    → (s : Reading) × (take_line r n line ≡ Ok s) × Goes s.next s.image rest f
goes_take r n Blank rest f g = (r, refl, g)
goes_take r n (Address address) rest f g = (record r { next = Some address }, refl, g)
goes_take r n (Data bytes) rest f g = goes_put r n bytes r.next rest f g
goes_take r n Bad rest f g = absurd g

read_line_parts : (r : Reading) (line : List ℕ) (ending : ℕ) (s : Reading) → read_line r line ending ≡ Ok s
    → (length line ≤ max_line) × (s.through ≡ r.through + length line + ending) × (s.through ≤ max_text)
    × ((rest : List Line) (f : Memory) → Goes s.next s.image rest f → Goes r.next r.image (line_of line ∷ rest) f)
unfolding read_line
read_line_parts r line ending s e = grind (arith, or_parts, take_line_keeps, ltb-false, take_goes)

read_line_from : (r : Reading) (line : List ℕ) (ending : ℕ) (rest : List Line) (f : Memory) → length line ≤ max_line
    → r.through + length line + ending ≤ max_text → Goes r.next r.image (line_of line ∷ rest) f
    → (s : Reading) × (read_line r line ending ≡ Ok s) × (s.through ≡ r.through + length line + ending)
    × Goes s.next s.image rest f
unfolding read_line
read_line_from r line ending rest f line_fits text_fits g =
    let through : ℕ = r.through + length line + ending in
    let before : Reading = record r { lines = r.lines + 1; through = through } in
    let took = goes_take before (r.lines + 1) (line_of line) rest f g in
    let short : is_too_long (length line) through ≡ false = grind (arith, nat_tests) in
    (took.0, rw short took.1, take_line_keeps before (r.lines + 1) (line_of line) took.0 took.1, took.2)

-- the bytes of ended lines, each with its LF
abbrev total : List (List ℕ) → ℕ
total [] = 0
total (line ∷ rest) = length line + 1 + total rest

abbrev read_rest : Reading → List (List ℕ) → List ℕ → Result Reading TextFault
read_rest r ended last = on_ok (read_lines r ended) (λ s. read_line s last 0)

abbrev IsShort : List ℕ → Type 0
IsShort line = length line ≤ max_line

rest_parts : (r : Reading) (ended : List (List ℕ)) (last : List ℕ) (s : Reading) → read_rest r ended last ≡ Ok s
    → All IsShort (ended ++ last ∷ []) × (r.through + total ended + length last ≤ max_text)
    × Goes r.next r.image (map line_of (ended ++ last ∷ [])) s.image
unfolding read_lines
rest_parts r [] last s e = grind (arith, read_line_parts)
rest_parts r (line ∷ ended) last s e =
    grind (
      arith,
      read_line_parts r line 1,
      λ (t : Reading). rest_parts t ended last s,
      All-cons IsShort line (ended ++ last ∷ []),
    )

rest_from : (r : Reading) (ended : List (List ℕ)) (last : List ℕ) (f : Memory) → All IsShort (ended ++ last ∷ [])
    → r.through + total ended + length last ≤ max_text
    → Goes r.next r.image (map line_of (ended ++ last ∷ [])) f
    → (s : Reading) × (read_rest r ended last ≡ Ok s) × (s.image ≡ f)
unfolding read_lines
rest_from r [] last f short fits g =
    let one = read_line_from r last 0 [] f (All-head IsShort last [] short) (omega arith) g in
    (one.0, one.1, one.3)
rest_from r (line ∷ ended) last f short fits g =
    let one = read_line_from r line 1 (map line_of (ended ++ last ∷ [])) f
    (All-head IsShort line (ended ++ last ∷ []) short) (omega arith) g in
    let same = one.2 in
    let more = rest_from one.0 ended last f (All-tail IsShort line (ended ++ last ∷ []) short) (omega arith) one.3 in
    (more.0, rw one.1 more.1, more.2)

total_length : (line bytes : List ℕ)
    → total (ended_lines_from line bytes) + length (last_line_from line bytes) ≡ length line + length bytes
unfolding ended_lines_from last_line_from
total_length line [] = omega arith
total_length line (b ∷ rest) = grind (arith, length-append, total_length [] rest, total_length (line ++ b ∷ []) rest)

valid_line : (line : List ℕ) (parsed : Line) → line_of line ≡ parsed → parsed ≢ Bad → IsValid parsed
valid_line line (Data bytes) e good = data_some line bytes e
valid_line line Bad e good = good refl
valid_line line parsed e good = tt

valid_lines : (lines : List (List ℕ)) → ¬ Contains (map line_of lines) Bad → AllByRecursion IsValid (map line_of lines)
valid_lines [] good = tt
valid_lines (line ∷ lines) good = (
  valid_line line (line_of line) refl (λ e. good (0, omega arith, e)),
  valid_lines lines (λ c. good (suc c.0, omega (arith, c.1), c.2)),
)

-- ---- reading gives what the text means

-- the image is empty before the text
given_first : (place : ℕ → Option ℕ) (bytes : List ℕ) (a b : ℕ) → Given place bytes (empty {R = nat_cmp}) a b
    → (n : ℕ) × (place n ≡ Some a) × (slice_get bytes n ≡ Some b)
given_first place bytes a b (inl e) = absurd (grind (arith, get-empty {X = ℕ} nat_cmp a))
given_first place bytes a b (inr g) = g

abbrev nothing : Memory
nothing = empty {R = nat_cmp}

pub text_is_good : (bytes : List ℕ) (m : Memory) → IsText bytes m → IsGoodText bytes m
text_is_good bytes m (r, e, same) =
    let lines = parsed_lines bytes in
    let parts = rest_parts start (ended_lines bytes) (last_line bytes) r e in
    let goes : Goes None nothing (parsed_lines bytes) m =
    subst (λ (x : Memory). Goes None nothing (parsed_lines bytes) x) same parts.2 in
    let made = goes_makes None nothing (parsed_lines bytes) m goes in
    record {
      text_fits = (let fits = parts.1 in omega (arith, total_length [] bytes));
      lines_fit = parts.0;
      none_bad = goes_none_bad None nothing lines m goes;
      stands = λ n h. (let at = a_value (place_of None lines n) (made.stands n h) in
          (at.0, (stands_is_place lines n at.0).1 at.1));
      below = λ n a s. made.below n a ((stands_is_place lines n a).0 s);
      once = λ n k a s t. made.once n k a ((stands_is_place lines n a).0 s) ((stands_is_place lines k a).0 t);
      image = λ a b. (
        λ p. (let g = given_first (place_of None lines) (all_data lines) a b ((made.image a b).0 p) in
            (g.0, (stands_is_place lines g.0 a).1 g.1, g.2)),
        λ g. (made.image a b).1 (inr (g.0, (stands_is_place lines g.0 a).0 g.1, g.2)),
      );
    }

pub good_is_text : (bytes : List ℕ) (m : Memory) → IsGoodText bytes m → IsText bytes m
good_is_text bytes m good =
    let lines = parsed_lines bytes in
    let made : LinesMake None (parsed_lines bytes) nothing m = record {
      stands = λ n h. (let at = good.stands n h in ap is_some ((stands_is_place lines n at.0).0 at.1));
      below = λ n a p. good.below n a ((stands_is_place lines n a).1 p);
      once = λ n k a p q. good.once n k a ((stands_is_place lines n a).1 p) ((stands_is_place lines k a).1 q);
      free = λ n a p. get-empty nat_cmp a;
      image = λ a b. (
        λ p. (let g = (good.image a b).0 p in inr (g.0, (stands_is_place lines g.0 a).0 g.1, g.2)),
        λ g. (let h = given_first (place_of None lines) (all_data lines) a b g in
            (good.image a b).1 (h.0, (stands_is_place lines h.0 a).1 h.1, h.2)),
      );
    } in
    let goes = makes_goes None nothing lines m (valid_lines (text_lines bytes) good.none_bad) made in
    rest_from start (ended_lines bytes) (last_line bytes) m good.lines_fit
    (let fits = good.text_fits in omega (arith, total_length [] bytes)) goes

-- ---- one result for each text

pub good_or_refused : (bytes : List ℕ) → ((m : Memory) × IsGoodText bytes m)
    ⊎ ((fault : TextFault) × IsRefused bytes fault)
good_or_refused bytes =
    elim (read_text bytes) as (λ x. read_text bytes ≡ x → ((m : Memory) × IsGoodText bytes m)
    ⊎ ((fault : TextFault) × IsRefused bytes fault)) [
      | Ok r ↦ λ e. inl (r.image, text_is_good bytes r.image (r, e, refl))
      | Err fault ↦ λ e. inr (fault, e)
    ] refl

pub good_not_refused : (bytes : List ℕ) (m : Memory) (fault : TextFault) → IsGoodText bytes m → ¬ IsRefused bytes fault
good_not_refused bytes m fault good refused = grind (arith, good_is_text bytes m good)

pub one_image : (bytes : List ℕ) (m n : Memory) → IsGoodText bytes m → IsGoodText bytes n → m ≡ n
one_image bytes m n good other = grind (arith, good_is_text bytes m good, good_is_text bytes n other)

pub one_refusal : (bytes : List ℕ) (one other : TextFault) → IsRefused bytes one → IsRefused bytes other → one ≡ other
one_refusal bytes one other refused too = grind arith
