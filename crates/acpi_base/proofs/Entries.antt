-- The entries of a table, by the cuts of its bytes into entries.
use Rattle.std.proofs.Common.{◌≡◌, ℕ, zero, suc, ◌+◌, ◌-◌, ◌<◌, ◌≤◌, List, [], ◌∷◌, ◌++◌, length, take, drop, map, Some, None, refl, sym, ap, ◌∙◌, subst, inl, inr, append_assoc, append-nil, length-append, length-drop, arith}
use Rattle.std.specs.Prelude.{◌⊎◌, slice_index, flat_map, sum_by}
use Rattle.std.specs.List.{AllByRecursion}
use Rattle.std.proofs.lemmas.Bool.Decides.{nat_tests}
use Rattle.std.proofs.lemmas.Bool.{cases_lt}
use Rattle.std.proofs.lemmas.Option.{cond_some}
use Rattle.std.proofs.lemmas.List.{length-take, length-take-le, take-append-drop, get_or-take, take_at, drop_at, drop-drop, nil_from_length}
use Rattle.std.proofs.lemmas.List.Elements.{All-from_recursion, recursion_from_All}
use Rattle.std.proofs.lemmas.List.Sums.{sum_by-cons}
use Rattle.acpi_base.specs.Entries.{IsEntry, PlacedEntry, Stands, first_entry, entries_from, entries_of, end_of_entries, cut_of, IsCut, IsStart, StandsAt, OneCut, CutsWhereAllStand, EntriesStand, CutIsStart, NoCutFault, NoneInShort}
use Rattle.acpi_base.proofs.Elements.{first_or_later}
use Rattle.acpi_base.proofs.Options.{cases_Option, none_and_some, same_value}

-- ---- the first entry

-- the bytes begin with the entry
record IsFirst (left e : List ℕ) : Type 0 where
  entry : IsEntry e
  fits : length e ≤ length left
  run : take (length e) left ≡ e

first_is : (left e : List ℕ) → IsFirst left e → first_entry left ≡ Some e
unfolding first_entry
first_is left e first =
    grind (arith, nat_tests, get_or-take (length e) left 1 0, first.entry.least, first.entry.said, first.run)

first_says : (left e : List ℕ) → first_entry left ≡ Some e → IsFirst left e
unfolding first_entry
first_says left e is =
    let parts = cond_some _ _ _ is in
    let count = length-take-le (slice_index left 1) left in
    let said = get_or-take (slice_index left 1) left 1 0 in
    record {
      entry = record { least = grind (arith, nat_tests, count); said = grind (arith, nat_tests, count, said) };
      fits = grind (arith, nat_tests, count);
      run = grind (arith, nat_tests, count);
    }

pub nothing_at_end : first_entry [] ≡ None
unfolding first_entry
nothing_at_end = refl

-- ---- entries one after another

abbrev joined : List (List ℕ) → List ℕ
joined es = flat_map (λ e. e) es

-- these are the first entries of the remaining bytes, one after another, and `more` is what comes after them
abbrev Path : List (List ℕ) → List ℕ → List ℕ → Type 0
Path [] left more = left ≡ more
Path (e ∷ es) left more = (first_entry left ≡ Some e) × Path es (drop (length e) left) more

path_of : (es : List (List ℕ)) (left more : List ℕ) → AllByRecursion IsEntry es → joined es ++ more ≡ left
    → Path es left more
path_of [] left more each is = sym is
path_of (e ∷ es) left more each is =
    let begins : e ++ (joined es ++ more) ≡ left = sym (append_assoc e (joined es) more) ∙ is in
    let run : take (length e) left ≡ e = grind (arith, begins, take_at e (joined es ++ more) (length e) refl) in
    let behind : joined es ++ more ≡ drop (length e) left =
    grind (arith, begins, drop_at e (joined es ++ more) (length e) refl) in
    let fits : length e ≤ length left = grind (arith, begins, length-append) in (
      first_is left e (record { entry = each.0; fits = fits; run = run }),
      path_of es (drop (length e) left) more each.1 behind,
    )

-- conversely, a path is joined entries and more
record IsJoined (es : List (List ℕ)) (left more : List ℕ) : Type 0 where
  each : AllByRecursion IsEntry es
  is : joined es ++ more ≡ left

joined_of : (es : List (List ℕ)) (left more : List ℕ) → Path es left more → IsJoined es left more
joined_of [] left more path = record { each = tt; is = sym path }
joined_of (e ∷ es) left more path =
    let first = first_says left e path.0 in
    let rest = joined_of es (drop (length e) left) more path.1 in
    record {
      each = (first.entry, rest.each);
      is = grind (arith, append_assoc e (joined es) more, rest.is, first.run, take-append-drop (length e) left);
    }

path_length : (es : List (List ℕ)) (left more : List ℕ) → Path es left more
    → length (joined es) + length more ≡ length left
path_length es left more path = grind (arith, length-append, (joined_of es left more path).is)

cut_path : (body : List ℕ) (es : List (List ℕ)) → IsCut body es → Path es body []
cut_path body es cut = path_of es body [] (recursion_from_All IsEntry es cut.each) (append-nil (joined es) ∙ cut.joined)

one_path : (es ds : List (List ℕ)) (left more rest : List ℕ) → Path es left more → Path ds left rest
    → first_entry more ≡ None → first_entry rest ≡ None → es ≡ ds
one_path [] [] left more rest path other ended none = refl
one_path [] (d ∷ ds) left more rest path other ended none = absurd (none_and_some (ap first_entry path ∙ ended) other.0)
one_path (e ∷ es) [] left more rest path other ended none = absurd (none_and_some (ap first_entry other ∙ none) path.0)
one_path (e ∷ es) (d ∷ ds) left more rest path other ended none =
    let same : e ≡ d = same_value e d path.0 other.0 in
    let moved : Path es (drop (length d) left) more = subst (λ (x : List ℕ). Path es (drop (length x) left) more) same
    path.1 in
    let others = one_path es ds (drop (length d) left) more rest moved other.1 ended none in
    cc

-- ---- the list of entries

abbrev standing : ℕ → List ℕ → PlacedEntry (List ℕ)
standing o e = record { offset = o; entry = e }

-- the entry e comes after a path
record IsBehind (offset : ℕ) (left : List ℕ) (o : ℕ) (e : List ℕ) : Type 0 where
  es : List (List ℕ)
  more : List ℕ
  path : Path es left more
  here : first_entry more ≡ Some e
  place : o ≡ offset + length (joined es)

listed : (es : List (List ℕ)) (n offset : ℕ) (left more : List ℕ) (o : ℕ) (e : List ℕ) → Path es left more
    → first_entry more ≡ Some e → length left ≤ n → o ≡ offset + length (joined es)
    → Stands (entries_from n offset left) o e
unfolding entries_from
listed [] zero offset left more o e path here enough place =
    let first = first_says more e here in
    let count : length left ≡ length more = ap length path in
    absurd (omega arith)
listed (d ∷ ds) zero offset left more o e path here enough place =
    (let first = first_says left d path.0 in absurd (omega arith))
listed [] (suc n) offset left more o e path here enough place =
    rw (ap first_entry path ∙ here) (0, omega arith, ap (λ (k : ℕ). standing k e) (omega arith))
listed (d ∷ ds) (suc n) offset left more o e path here enough place =
    let first = first_says left d path.0 in
    let rest = listed ds n (offset + length d) (drop (length d) left) more o e path.1 here
    (omega (arith, length-drop (length d) left)) (omega (arith, length-append d (joined ds))) in
    rw (path.0) (suc rest.0, omega (arith, rest.1), rest.2)

behind_path : (n offset : ℕ) (left : List ℕ) (o : ℕ) (e : List ℕ) → Stands (entries_from n offset left) o e
    → IsBehind offset left o e
unfolding entries_from
behind_path zero offset left o e stands = absurd (omega (arith, stands.1))
behind_path (suc n) offset left o e stands =
    elim (cases_Option (first_entry left)) [
      | inr none ↦ (let nothing = rw none at stands in absurd (omega (arith, nothing.1)))
      | inl (d, here) ↦
          elim (first_or_later (standing offset d) (standing o e)
          (entries_from n (offset + length d) (drop (length d) left)) (rw here at stands)) [
            | inl same ↦
                let place : offset ≡ o = ap (λ (s : PlacedEntry (List ℕ)). s.offset) same in
                let entry : d ≡ e = ap (λ (s : PlacedEntry (List ℕ)). s.entry) same in
                record { es = []; more = left; path = refl; here = here ∙ ap Some entry; place = omega arith }
            | inr rest ↦
                let found = behind_path n (offset + length d) (drop (length d) left) o e rest in
                let place = found.place in
                record {
                  es = d ∷ found.es;
                  more = found.more;
                  path = (here, found.path);
                  here = found.here;
                  place = omega (arith, length-append d (joined found.es));
                }
          ]
    ]

abbrev bytes_of : List (PlacedEntry (List ℕ)) → List (List ℕ)
bytes_of xs = map (λ s. s.entry) xs

-- the entries of the list are a path after which no entry can begin
record IsLast (left : List ℕ) (xs : List (PlacedEntry (List ℕ))) : Type 0 where
  more : List ℕ
  path : Path (bytes_of xs) left more
  none : first_entry more ≡ None

last_of : (n offset : ℕ) (left : List ℕ) → length left ≤ n → IsLast left (entries_from n offset left)
unfolding entries_from
last_of zero offset left enough =
    record { more = left; path = refl; none = ap first_entry (nil_from_length left (omega arith)) ∙ nothing_at_end }
last_of (suc n) offset left enough =
    elim (cases_Option (first_entry left)) [
      | inr none ↦ rw none (record { more = left; path = refl; none = none })
      | inl (d, here) ↦
          let first = first_says left d here in
          let least = first.entry.least in
          let rest = last_of n (offset + length d) (drop (length d) left)
          (omega (arith, length-drop (length d) left)) in
          rw here (record { more = rest.more; path = (here, rest.path); none = rest.none })
    ]

size_of : (xs : List (PlacedEntry (List ℕ))) → sum_by (λ s. length s.entry) xs ≡ length (joined (bytes_of xs))
size_of [] = refl
size_of (x ∷ xs) =
    grind (arith, sum_by-cons (λ (s : PlacedEntry (List ℕ)). length s.entry) x xs, length-append, size_of xs)

-- ---- starts

behind_is : (first : ℕ) (whole : List ℕ) (es : List (List ℕ)) (more : List ℕ) → Path es (drop first whole) more
    → drop (first + length (joined es)) whole ≡ more
behind_is first whole es more path =
    grind (
      arith,
      drop-drop (length (joined es)) first whole,
      (joined_of es (drop first whole) more path).is,
      drop_at (joined es) more (length (joined es)) refl,
    )

-- a path leads to each start
record IsReached (first : ℕ) (whole : List ℕ) (o : ℕ) (es : List (List ℕ)) : Type 0 where
  path : Path es (drop first whole) (drop o whole)
  place : o ≡ first + length (joined es)

reached : (first : ℕ) (whole : List ℕ) (o : ℕ) (s : IsStart first whole o) → IsReached first whole o s.es
reached first whole o s =
    let from = s.from in
    let below = s.below in
    let is : joined s.es ++ drop o whole ≡ drop first whole =
    grind (
      arith,
      s.cut.joined,
      drop-drop (o - first) first whole,
      take-append-drop (o - first) (drop first whole),
    ) in
    let path = path_of s.es (drop first whole) (drop o whole) (recursion_from_All IsEntry s.es s.cut.each) is in
    record {
      path = path;
      place =
          omega (
            arith,
            path_length s.es (drop first whole) (drop o whole) path,
            length-drop o whole,
            length-drop first whole,
          );
    }

start_at : (first : ℕ) (whole : List ℕ) (es : List (List ℕ)) (more : List ℕ) → Path es (drop first whole) more
    → 0 < length more → IsStart first whole (first + length (joined es))
start_at first whole es more path some =
    let is = joined_of es (drop first whole) more path in
    let count = path_length es (drop first whole) more path in
    let run : take ((first + length (joined es)) - first) (drop first whole) ≡ joined es =
    grind (arith, is.is, take_at (joined es) more (length (joined es)) refl) in
    record {
      from = omega arith;
      below = omega (arith, length-drop first whole);
      es = es;
      cut = record { each = All-from_recursion IsEntry es is.each; joined = sym run };
    }

stands_first : (first : ℕ) (whole : List ℕ) (o : ℕ) (e : List ℕ) → StandsAt first whole o e
    → first_entry (drop o whole) ≡ Some e
stands_first first whole o e s =
    let run : take (length e) (drop o whole) ≡ e = grind (arith, s.run) in
    first_is (drop o whole) e (record {
      entry = s.entry;
      fits =
          omega (arith, length-take (length e) (drop o whole), ap length run);
      run = run;
    })

first_stands : (first : ℕ) (whole : List ℕ) (o : ℕ) (e : List ℕ) → IsStart first whole o
    → first_entry (drop o whole) ≡ Some e → StandsAt first whole o e
first_stands first whole o e start is =
    let here = first_says (drop o whole) e is in
    record { start = start; entry = here.entry; run = grind (arith, here.run) }

stands_or_none : (first : ℕ) (whole : List ℕ) (o : ℕ) → IsStart first whole o
    → ((e : List ℕ) × StandsAt first whole o e) ⊎ (first_entry (drop o whole) ≡ None)
stands_or_none first whole o start =
    elim (cases_Option (first_entry (drop o whole))) [
      | inl (e, is) ↦
          inl (e, first_stands first whole o e start is)
      | inr none ↦ inr none
    ]

-- ---- how the entries end

abbrev es_of : ℕ → List ℕ → List (List ℕ)
es_of first whole = bytes_of (entries_of first whole)

cut_cases : (first : ℕ) (whole : List ℕ)
    → ((end_of_entries first whole < length whole) → cut_of first whole ≡ Some (end_of_entries first whole))
    × ((length whole ≤ end_of_entries first whole) → cut_of first whole ≡ None)
unfolding cut_of
cut_cases first whole = (λ less. grind (arith, nat_tests), λ most. grind (arith, nat_tests))

-- after all entries there is a start at which none can begin, or nothing
ends : (first : ℕ) (whole : List ℕ)
    → (IsStart first whole (end_of_entries first whole) × (first_entry (drop (end_of_entries first whole) whole) ≡ None)
    × (cut_of first whole ≡ Some (end_of_entries first whole)))
    ⊎ (IsCut (drop first whole) (es_of first whole) × (cut_of first whole ≡ None))
unfolding entries_of end_of_entries
ends first whole =
    let es = es_of first whole in
    let end = end_of_entries first whole in
    let last = last_of (length whole) first (drop first whole) (omega (arith, length-drop first whole)) in
    let is = joined_of es (drop first whole) last.more last.path in
    let place : first + length (joined es) ≡ end = ap (λ (k : ℕ). first + k) (sym (size_of (entries_of first whole))) in
    let count = path_length es (drop first whole) last.more last.path in
    elim (cases_lt 0 (length last.more)) [
      | inl some ↦
          let start : IsStart first whole end = subst (IsStart first whole) place
          (start_at first whole es last.more last.path some) in
          let behind : drop end whole ≡ last.more = ap (λ (k : ℕ). drop k whole) (sym place)
          ∙ behind_is first whole es last.more last.path in
          inl (start, ap first_entry behind ∙ last.none, (cut_cases first whole).0 start.below)
      | inr nothing ↦
          let nil : last.more ≡ [] = nil_from_length last.more (omega arith) in
          let filled : joined es ≡ drop first whole = grind (arith, nil, is.is, append-nil (joined es)) in
          let most : length whole ≤ end = omega (arith, length-drop first whole) in
          inr (record { each = All-from_recursion IsEntry es is.each; joined = filled }, (cut_cases first whole).1 most)
    ]

one_end : (first : ℕ) (whole : List ℕ) (o p : ℕ) → IsStart first whole o → first_entry (drop o whole) ≡ None
    → IsStart first whole p → first_entry (drop p whole) ≡ None → o ≡ p
one_end first whole o p s none t nothing =
    let one = reached first whole o s in
    let other = reached first whole p t in
    grind (
      arith,
      one.place,
      other.place,
      one_path s.es t.es (drop first whole) (drop o whole) (drop p whole) one.path
          other.path none nothing,
    )

cut_ends : (first : ℕ) (whole : List ℕ) (es : List (List ℕ)) (o : ℕ) → IsCut (drop first whole) es
    → IsStart first whole o → first_entry (drop o whole) ≡ None → ⊥
cut_ends first whole es o cut s none =
    let start = reached first whole o s in
    let path = cut_path (drop first whole) es cut in
    let same = one_path s.es es (drop first whole) (drop o whole) [] start.path path none nothing_at_end in
    grind (arith, same, start.place, s.below, path_length es (drop first whole) [] path, length-drop first whole)

-- ---- the laws

pub one_cut : OneCut
one_cut body es others cut other =
    one_path es others body [] [] (cut_path body es cut) (cut_path body others other) nothing_at_end nothing_at_end

pub entries_stand : EntriesStand
unfolding entries_of
entries_stand first whole o e = (
  λ s. let start = reached first whole o s.start in
      listed s.start.es (length whole) first (drop first whole) (drop o whole) o e start.path
      (stands_first first whole o e s) (omega (arith, length-drop first whole)) start.place,
  λ stands. let found = behind_path (length whole) first (drop first whole) o e stands in
      let here = first_says found.more e found.here in
      let start = start_at first whole found.es found.more found.path (omega (arith, here.entry.least, here.fits)) in
      let behind = behind_is first whole found.es found.more found.path in
      subst (λ (k : ℕ). StandsAt first whole k e) (sym found.place)
      (first_stands first whole _ e start (ap first_entry behind ∙ found.here)),
)

pub cut_is_start : CutIsStart
cut_is_start first whole o = (
  λ is. elim (ends first whole) [
    | inr (_, none) ↦ absurd (none_and_some none is)
    | inl (start, ended, cut) ↦
        let same : end_of_entries first whole ≡ o = same_value _ _ cut is in
        let none : first_entry (drop o whole) ≡ None = ap (λ (k : ℕ). first_entry (drop k whole)) (sym same) ∙ ended in
        (subst (IsStart first whole) same start, λ e s. none_and_some none (stands_first first whole o e s))
  ],
  λ here. elim (stands_or_none first whole o here.0) [
    | inl (e, s) ↦ absurd (here.1 e s)
    | inr none ↦
        elim (ends first whole) [
          | inl (start, ended, cut) ↦ cut ∙ ap Some (one_end first whole _ o start ended here.0 none)
          | inr (cut, _) ↦ absurd (cut_ends first whole _ o cut here.0 none)
        ]
  ],
)

pub no_cut_fault : NoCutFault
no_cut_fault first whole = (
  λ is. elim (ends first whole) [
    | inl (_, _, some) ↦ absurd (none_and_some is some)
    | inr (cut, _) ↦
        (es_of first whole, cut)
  ],
  λ cut. elim (ends first whole) [
    | inl (start, ended, _) ↦
        absurd (cut_ends first whole cut.0 _ cut.1 start ended)
    | inr (_, none) ↦ none
  ],
)

pub cuts_where_all_stand : CutsWhereAllStand
cuts_where_all_stand first whole = (
  λ cut o s. elim (stands_or_none first whole o s) [
    | inl stands ↦ stands
    | inr none ↦
        absurd (cut_ends first whole cut.0 o cut.1 s none)
  ],
  λ stand. elim (ends first whole) [
    | inr (cut, _) ↦ (es_of first whole, cut)
    | inl (start, ended, _) ↦ (let here = stand _ start in
        absurd (none_and_some ended (stands_first first whole _ here.0 here.1)))
  ],
)

pub none_in_short : NoneInShort
none_in_short first whole short = (
  elim (cases_Option (cut_of first whole)) [
    | inr none ↦ none
    | inl (o, is) ↦ (let start = ((cut_is_start first whole o).0 is).0 in
        absurd (omega (arith, start.from, start.below)))
  ],
  λ o e stands. let start = ((entries_stand first whole o e).1 stands).start in
      absurd (omega (arith, start.from, start.below)),
)
