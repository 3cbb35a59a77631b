-- Entries one after another: what is read from them, and what is written for them.
use Rattle.std.proofs.Common.{◌≡◌, ℕ, zero, suc, ◌+◌, ◌≤◌, List, [], ◌∷◌, ◌++◌, length, get_or, take, drop, map, flat_map, Some, None, refl, sym, ap, ◌∙◌, arith, length-append, length-drop}
use Rattle.std.specs.List.{All}
use Rattle.std.proofs.lemmas.Bool.Decides.{nat_tests}
use Rattle.std.proofs.lemmas.List.{drop-drop, drop_at, get_or-take, take_at}
use Rattle.std.proofs.lemmas.List.Elements.{All-nil, All-cons, All-head, All-tail, All-map, All-contains_itself}
use Rattle.acpi_base.specs.Entries.{IsEntry, PlacedEntry, Stands, first_entry, entries_from, entries_of, cut_of, entries_read_by}
use Rattle.acpi_base.proofs.Entries.{no_cut_fault, one_cut}
use Rattle.acpi_write.specs.Bodies.{SpellEntries, entries_in}
use Rattle.acpi_write.specs.Spells.{SaysEntry, DoEntriesSay}

-- ---- from a cut to the entries of the table

-- these entries one after another from an offset on
abbrev pub standing : ℕ → List (List ℕ) → List (PlacedEntry (List ℕ))
standing offset [] = []
standing offset (e ∷ es) = record { offset = offset; entry = e } ∷ standing (offset + length e) es

first_is : (e rest left : List ℕ) → IsEntry e → left ≡ e ++ rest → first_entry left ≡ Some e
unfolding first_entry
first_is e rest left is all =
    let fits : length e ≤ length left = omega (arith, ap length all, length-append e rest) in
    let run : take (length e) left ≡ e = ap (take (length e)) all ∙ take_at e rest (length e) refl in
    grind (arith, nat_tests, get_or-take (length e) left 1 0, is.least, is.said, run, fits)

nothing_at_end : (left : List ℕ) → left ≡ [] → first_entry left ≡ None
unfolding first_entry
nothing_at_end left none = rw none refl

entries_again : (n offset : ℕ) (es : List (List ℕ)) (left : List ℕ) → All IsEntry es → flat_map (λ e. e) es ≡ left
    → length es ≤ n → entries_from n offset left ≡ standing offset es
unfolding entries_from
entries_again zero offset [] left each joined count = refl
entries_again zero offset (e ∷ es) left each joined count = absurd (omega (arith, count))
entries_again (suc n) offset [] left each joined count = rw (nothing_at_end left (sym joined)) refl
entries_again (suc n) offset (e ∷ es) left each joined count =
    let here = All-head IsEntry e es each in
    let rest = flat_map (λ x. x) es in
    let begins = first_is e rest left here (sym joined) in
    let behind : drop (length e) left ≡ rest = ap (drop (length e)) (sym joined) ∙ drop_at e rest (length e) refl in
    let more = entries_again n (offset + length e) es (drop (length e) left) (All-tail IsEntry e es each) (sym behind)
    (omega (arith, count)) in
    rw begins (ap (λ (l : List (PlacedEntry (List ℕ))). record { offset = offset; entry = e } ∷ l) more)

few : (es : List (List ℕ)) → All IsEntry es → length es ≤ length (flat_map (λ e. e) es)
few [] each = omega arith
few (e ∷ es) each =
    let here = All-head IsEntry e es each in
    let least = here.least in
    let rest = few es (All-tail IsEntry e es each) in
    omega (arith, least, rest, length-append e (flat_map (λ x. x) es))

pub cut_stands : (first : ℕ) (whole : List ℕ) (es : List (List ℕ)) → All IsEntry es
    → flat_map (λ e. e) es ≡ drop first whole → entries_of first whole ≡ standing first es
unfolding entries_of
cut_stands first whole es each joined =
    entries_again (length whole) first es (drop first whole) each joined
    (omega (arith, few es each, ap length joined, length-drop first whole))

pub said_standing : {E : Type 0} (read : List ℕ → E) (offset : ℕ) (es : List (List ℕ))
    → entries_in (entries_read_by read (standing offset es)) ≡ map read es
said_standing read offset [] = refl
said_standing read offset (e ∷ es) = ap (λ l. read e ∷ l) (said_standing read (offset + length e) es)

each_in : {E : Type 0} (P : E → Type 0) (entries : List (PlacedEntry E)) → ((o : ℕ) (e : E) → Stands entries o e → P e)
    → All P (entries_in entries)
each_in {E} P entries own =
    All-map P (λ (s : PlacedEntry E). s.entry) entries
    (λ k d h. own (get_or entries k d).offset (get_or entries k d).entry (All-contains_itself entries k d h))

-- the bytes of a table that entries fill encode these entries
pub spelled_entries : {E : Type 0} (read : List ℕ → E) (Own : E → Type 0) (first : ℕ) (whole : List ℕ)
    → first ≤ length whole → cut_of first whole ≡ None
    → ((o : ℕ) (e : E) → Stands (entries_read_by read (entries_of first whole)) o e → Own e)
    → SpellEntries read Own first whole (entries_in (entries_read_by read (entries_of first whole)))
spelled_entries {E} read Own first whole long filled own =
    let cut = (no_cut_fault first whole).0 filled in
    let stand = cut_stands first whole cut.0 cut.1.each cut.1.joined in
    record {
      long = long;
      es = cut.0;
      cut = cut.1;
      say = sym (ap (λ l. entries_in (entries_read_by read l)) stand ∙ said_standing read first cut.0);
      lengths = each_in Own (entries_read_by read (entries_of first whole)) own;
    }

-- ---- what is written for entries

pub joined_again : {X E : Type 0} (bytes_of : E → List ℕ) (value : X → E) (xs : List X)
    → flat_map (λ e. e) (map (λ x. bytes_of (value x)) xs) ≡ flat_map bytes_of (map value xs)
joined_again bytes_of value [] = refl
joined_again bytes_of value (x ∷ xs) = ap (λ (bs : List ℕ). bytes_of (value x) ++ bs) (joined_again bytes_of value xs)

pub entries_each : {X E : Type 0} (read : List ℕ → E) (bytes_of : E → List ℕ) (value : X → E) (xs : List X)
    → DoEntriesSay read bytes_of value xs
    → All IsEntry (map (λ x. bytes_of (value x)) xs) × (map read (map (λ x. bytes_of (value x)) xs) ≡ map value xs)
entries_each read bytes_of value [] say = (All-nil _, refl)
entries_each {X} {E} read bytes_of value (x ∷ xs) say =
    let P : X → Type 0 = λ y. SaysEntry read (bytes_of (value y)) (value y) in
    let here = All-head P x xs say in
    let rest = entries_each read bytes_of value xs (All-tail P x xs say) in
    (All-cons IsEntry (bytes_of (value x)) (map (λ y. bytes_of (value y)) xs) here.0 rest.0, λ i. here.1 i ∷ rest.1 i)

pub spell_entries : {X E : Type 0} (read : List ℕ → E) (bytes_of : E → List ℕ) (value : X → E) (Own : E → Type 0)
    (first : ℕ) (whole : List ℕ) (xs : List X)
    → first ≤ length whole → drop first whole ≡ flat_map bytes_of (map value xs) → DoEntriesSay read bytes_of value xs
    → All (λ x. Own (value x)) xs → SpellEntries read Own first whole (map value xs)
spell_entries read bytes_of value Own first whole xs long behind say own =
    let each = entries_each read bytes_of value xs say in
    record {
      long = long;
      es = map (λ x. bytes_of (value x)) xs;
      cut = record { each = each.0; joined = joined_again bytes_of value xs ∙ sym behind };
      say = each.1;
      lengths = All-map Own value xs own;
    }

pub one_entries : {E : Type 0} (read : List ℕ → E) (Own : E → Type 0) (first : ℕ) (bytes : List ℕ) (vs ws : List E)
    → SpellEntries read Own first bytes vs → SpellEntries read Own first bytes ws → vs ≡ ws
one_entries read Own first bytes vs ws a b =
    sym a.say ∙ ap (map read) (one_cut (drop first bytes) a.es b.es a.cut b.cut) ∙ b.say

-- ---- parts of a body

pub behind : (first n at : ℕ) (whole part rest : List ℕ) → drop first whole ≡ part ++ rest → length part ≡ n
    → at ≡ first + n → drop at whole ≡ rest
behind first n at whole part rest stands count is =
    ap (λ (k : ℕ). drop k whole) is ∙ sym (drop-drop n first whole) ∙ ap (drop n) stands ∙ drop_at part rest n count

pub reaches : (first n : ℕ) (whole part rest : List ℕ) → first ≤ length whole → drop first whole ≡ part ++ rest
    → length part ≡ n → first + n ≤ length whole
reaches first n whole part rest long stands count =
    omega (arith, long, count, ap length stands, length-drop first whole, length-append part rest)
