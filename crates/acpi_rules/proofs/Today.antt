-- The entries of the MADT, the SRAT and the PPTT are a series.
use Rattle.std.proofs.Common.{◌≡◌, ◌∙◌, ℕ, zero, suc, ◌+◌, ◌≤◌, ◌<◌, true, false, List, [], ◌∷◌, length, drop, min, Option, Some, None, refl, sym, ap, inl, inr, arith, length-drop}
use Rattle.std.specs.Prelude.{MatchOption, ◌==◌, nat_lt, slice_index}
use Rattle.std.specs.Option.{option_map}
use Rattle.std.proofs.Math.Nat.{min-eq_left, min-eq_right}
use Rattle.std.proofs.lemmas.Bool.Decides.{nat_tests}
use Rattle.std.proofs.lemmas.Bool.{cases_lt}
use Rattle.std.proofs.lemmas.List.{get_or-drop, drop_all}
use Rattle.std.proofs.lemmas.List.Sums.{sum_by-cons}
use Rattle.acpi_base.specs.Entries.{first_entry, entries_from, entries_of, end_of_entries, cut_of}
use Rattle.acpi_base.specs.Number.{field}
use Rattle.acpi_rules.specs.Fields.{reading}
use Rattle.acpi_rules.specs.Series.{first_bytes, first_structure, head_said, size_in, most_of, start_of}
use Rattle.acpi_rules.specs.Sites.{whole_table}
use Rattle.acpi_rules.specs.Walks.{Placed, structures_from, cut_from, walk_of}
use Rattle.acpi_rules.specs.Laws.{IsStop, IsComplete, Follow, end_from}
use Rattle.acpi_rules.specs.Today.{entry_head, entries_at, EntriesAreSeries}
use Rattle.acpi_rules.specs.declared.series.Shape.TheVariants.{Headed}
use Rattle.acpi_rules.specs.declared.structures.Cut.{Cut}
use Rattle.acpi_rules.proofs.Following.{cases_Option, cut_stops_from, none_fits, none_left, structures_follow}

said : (left : List ℕ) → 2 ≤ length left → head_said entry_head left ≡ slice_index left 1
unfolding reading field head_said
said left two = let at = get_or-drop 1 left 0 0 in grind (arith, nat_tests, at)

unsaid : (left : List ℕ) → length left < 2 → head_said entry_head left ≡ 0
unfolding head_said
unsaid left few = grind (arith, nat_tests)

first_same : (left : List ℕ) → first_structure (Headed entry_head) left ≡ first_entry left
unfolding first_bytes size_in first_entry
first_same left =
    elim (cases_lt (length left) 2) [
      | inr two ↦ (let is = said left two in grind (arith, nat_tests, is))
      | inl few ↦ (let is = unsaid left few in grind (arith, nat_tests, is))
    ]

same_from : (n at : ℕ) (left : List ℕ) → structures_from (Headed entry_head) n at left ≡ entries_from n at left
unfolding structures_from entries_from
same_from zero at left = refl
same_from (suc n) at left =
    elim (cases_Option (first_entry left)) [
      | inr none ↦ rw (first_same left, none) refl
      | inl (e, some) ↦
          rw (first_same left, some)
          (ap (λ (ws : List Placed). record { offset = at; entry = e } ∷ ws)
          (same_from n (at + length e) (drop (length e) left)))
    ]

-- structures that follow one another end within what encloses them
end_within : (inside : Placed) (at : ℕ) (ws : List Placed) → at ≤ inside.offset + length inside.entry
    → Follow inside at ws
    → end_from at ws ≤ inside.offset + length inside.entry
end_within inside at [] within follow = omega (arith, within)
end_within inside at (w ∷ ws) within (part, rest) =
    let later = end_within inside (at + length w.entry) ws part.within rest in
    let sum = sum_by-cons (λ (x : Placed). length x.entry) w ws in
    omega (arith, later, sum)

-- where both walks stop
same_cut : (first : ℕ) (whole : List ℕ) (c : Option Cut) → end_from first (entries_of first whole) ≤ length whole
    → MatchOption c (IsComplete false (length whole) (length whole) first (entries_of first whole))
    (IsStop (Headed entry_head) false (length whole) (length whole) first (drop first whole) (entries_of first whole))
    → option_map (λ c. c.at) c ≡ cut_of first whole
unfolding cut_of end_of_entries
same_cut first whole None within complete =
    let filled : nat_lt (end_from first (entries_of first whole)) (length whole) ≡ false =
    grind (arith, nat_tests, complete) in
    rw filled refl
same_cut first whole (Some c) within stop =
    let behind = stop.behind in
    let other = stop.unfilled refl in
    let less : nat_lt (end_from first (entries_of first whole)) (length whole) ≡ true =
    grind (arith, nat_tests, behind, other, within) in
    rw (less, behind) refl

-- of a table that is not short
of_long : (first : ℕ) (whole : List ℕ) → first ≤ length whole
    → ((walk_of (entries_at first) (whole_table whole)).structures ≡ entries_of first whole)
    × (option_map (λ c. c.at) (walk_of (entries_at first) (whole_table whole)).cut ≡ cut_of first whole)
unfolding entries_of most_of start_of
of_long first whole long =
    let start : min first (length whole) ≡ first = min-eq_left long in
    let at : 0 + first ≡ first = omega arith in
    let end : 0 + length whole ≡ length whole = omega arith in
    let same = same_from (length whole) first (drop first whole) in
    let follow = structures_follow (entries_at first) (whole_table whole) in
    let within : end_from first (entries_of first whole) ≤ length whole =
    rw (← same) (
    let w = end_within (whole_table whole) first
    (structures_from (Headed entry_head) (length whole) first (drop first whole))
    (omega (arith, long)) (rw (start, at) at follow) in
    omega (arith, w)) in
    let stops = cut_stops_from (Headed entry_head) false (length whole) (length whole) first (drop first whole)
    (λ _. omega (arith, length-drop first whole)) in
    (rw (start, at) same, rw (start, at, end) (same_cut first whole _ within (rw same at stops)))

-- of no bytes
no_cut : (n at : ℕ) → cut_from (Headed entry_head) false n at at [] ≡ None
unfolding cut_from
no_cut zero at = (let same : at == at ≡ true = grind (arith, nat_tests) in rw same refl)
no_cut (suc n) at =
    let same : at == at ≡ true = grind (arith, nat_tests) in
    rw (none_fits (Headed entry_head), same) refl

-- of a table that is short
of_short : (first : ℕ) (whole : List ℕ) → length whole < first
    → ((walk_of (entries_at first) (whole_table whole)).structures ≡ entries_of first whole)
    × (option_map (λ c. c.at) (walk_of (entries_at first) (whole_table whole)).cut ≡ cut_of first whole)
unfolding entries_of end_of_entries cut_of most_of start_of
of_short first whole short =
    let start : min first (length whole) ≡ length whole = min-eq_right (omega (arith, short)) in
    let past : drop first whole ≡ [] = drop_all first whole (omega (arith, short)) in
    let all : drop (length whole) whole ≡ [] = drop_all (length whole) whole (omega arith) in
    let nothing = none_left (Headed entry_head) (length whole) (0 + length whole) in
    let entries : entries_from (length whole) first (drop first whole) ≡ [] =
    rw past (sym (same_from (length whole) first []) ∙ none_left (Headed entry_head) (length whole) first) in
    let end : nat_lt (first + 0) (length whole) ≡ false = grind (arith, nat_tests) in (
      rw (start, all) (nothing ∙ sym entries),
      rw (start, all, entries, no_cut (length whole) (0 + length whole), end) refl,
    )

pub entries_are_series : EntriesAreSeries
entries_are_series first whole =
    elim (cases_lt (length whole) first) [
      | inl short ↦ of_short first whole short
      | inr long ↦ of_long first whole long
    ]
