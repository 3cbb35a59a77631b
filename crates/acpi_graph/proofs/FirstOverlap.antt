-- The first overlap of spans in order: it is that of a span and the next one.
use Rattle.std.proofs.Common.{◌≡◌, ◌≢◌, ℕ, ◌<◌, ◌≤◌, ◌⊎◌, suc, List, length, get_or, inl, inr, arith, refl, sym, ◌∙◌, ap, subst}
use Rattle.std.specs.List.{AllPairs, AllAdjacentBelow, Contains}
use Rattle.std.proofs.lemmas.List.{get_or_default}
use Rattle.std.proofs.lemmas.Bool.{cases_lt}
use Rattle.std.proofs.Math.Nat.{eq-or-lt_of_le}
use Rattle.acpi_graph.specs.declared.span.Span.{Span}
use Rattle.acpi_graph.specs.Spans.{NamesDiffer, HasNumber, LiesInTwo, IsClear, ComesBefore, IsFirstClash}
use Rattle.acpi_graph.proofs.ClearOfNeighbours.{ends_before_later}

-- the one span ends by the start of the other
abbrev pub EndsBy : Span → Span → Type 0
EndsBy a b = a.end ≤ b.start

-- the span is at this index of the list
pub record StandsAt (xs : List Span) (k : ℕ) (s : Span) : Type 0 where
  pub within : k < length xs
  pub is : get_or xs k s ≡ s

pub read_at : (xs : List Span) (k : ℕ) (s d : Span) → StandsAt xs k s → get_or xs k d ≡ s
read_at xs k s d at = get_or_default xs k d s at.within ∙ at.is

pub same_place : (xs : List Span) (k : ℕ) (a b : Span) → StandsAt xs k a → StandsAt xs k b → a ≡ b
same_place xs k a b at_a at_b = sym (read_at xs k a a at_a) ∙ read_at xs k b a at_b

listed : (xs : List Span) (k : ℕ) (s : Span) → StandsAt xs k s → Contains xs s
listed xs k s at = (k, at.within, at.is)

apart : (i j : ℕ) → i ≢ j → (i < j) ⊎ (j < i)
apart i j differ = elim (cases_lt i j) [
  | inl before ↦ inl before
  | inr not_before ↦ inr (omega arith)
]

ends_by : (xs : List Span) (high : ℕ) → high ≤ length xs → AllAdjacentBelow EndsBy xs high
    → (i j : ℕ) (a b : Span) → StandsAt xs i a → StandsAt xs j b → i < j → j < high → a.end ≤ b.start
ends_by xs high within next i j a b at_a at_b before below =
    let far : (get_or xs i a).end ≤ (get_or xs j a).start =
    ends_before_later (λ s. s.start) (λ s. s.end) xs high within
    (λ k d _. let filled : (get_or xs k d).start < (get_or xs k d).end = (get_or xs k d).not_empty in omega arith)
    next i j a before below in
    let at_i : get_or xs i a ≡ a = at_a.is in
    let at_j : get_or xs j a ≡ b = read_at xs j b a at_b in
    subst (λ s. a.end ≤ s.start) at_j (subst (λ s. s.end ≤ (get_or xs j a).start) at_i far)

none_shared : (xs : List Span) (high : ℕ) → high ≤ length xs → AllAdjacentBelow EndsBy xs high
    → (i j : ℕ) (a b : Span) → StandsAt xs i a → StandsAt xs j b → i < j → j < high
    → (number : ℕ) → HasNumber a number → HasNumber b number → ⊥
none_shared xs high within next i j a b at_a at_b before below number in_a in_b =
    let ends : a.end ≤ b.start = ends_by xs high within next i j a b at_a at_b before below in
    let inside : number < a.end = in_a.below_end in
    let reached : b.start ≤ number = in_b.from_start in
    omega arith

pub stands : (xs : List Span) (s : Span) → Contains xs s → (k : ℕ) × StandsAt xs k s
stands xs s found = (found.0, record { within = found.1; is = found.2 })

-- two spans that share a number are at two indices
record TwoPlaces (xs : List Span) (one other : Span) : Type 0 where
  pub i : ℕ
  pub j : ℕ
  pub at_one : StandsAt xs i one
  pub at_other : StandsAt xs j other
  pub differ : i ≢ j

two_places : (xs : List Span) (number : ℕ) (shared : LiesInTwo xs number) → TwoPlaces xs shared.one shared.other
two_places xs number shared =
    let at_one = stands xs shared.one shared.one_listed in
    let at_other = stands xs shared.other shared.other_listed in
    record {
      i = at_one.0;
      j = at_other.0;
      at_one = at_one.1;
      at_other = at_other.1;
      differ = λ same. shared.two (ap (λ s. s.name) (same_place xs at_other.0 shared.one shared.other
          (subst (λ k. StandsAt xs k shared.one) same at_one.1) at_other.1));
    }

pub is_clear : (xs : List Span) → AllAdjacentBelow EndsBy xs (length xs) → IsClear xs
is_clear xs next number shared =
    let places = two_places xs number shared in
    elim (apart places.i places.j places.differ) [
      | inl before ↦ none_shared xs (length xs) (omega arith) next places.i places.j shared.one shared.other
          places.at_one places.at_other before places.at_other.within number shared.one_holds shared.other_holds
      | inr after ↦ none_shared xs (length xs) (omega arith) next places.j places.i shared.other shared.one
          places.at_other places.at_one after places.at_one.within number shared.other_holds shared.one_holds
    ]

comes_before : (xs : List Span) → AllPairs ComesBefore xs
    → (i j : ℕ) (a b : Span) → StandsAt xs i a → StandsAt xs j b → i < j → ComesBefore a b
comes_before xs ordered i j a b at_a at_b before =
    subst (λ s. ComesBefore a s) (read_at xs j b a at_b)
    (subst (λ s. ComesBefore s (get_or xs j a)) at_a.is (ordered i j a before at_b.within))

starts_by : (a b : Span) → ComesBefore a b → a.start ≤ b.start
starts_by a b before = elim before [
  | inl lower ↦ omega arith
  | inr level ↦ let equal : a.start ≡ b.start = level.0 in omega arith
]

starts_rise : (xs : List Span) → AllPairs ComesBefore xs
    → (i j : ℕ) (a b : Span) → StandsAt xs i a → StandsAt xs j b → i ≤ j → a.start ≤ b.start
starts_rise xs ordered i j a b at_a at_b upto = elim (eq-or-lt_of_le upto) [
  | inl same ↦
      let one : a ≡ b = same_place xs j a b (subst (λ k. StandsAt xs k a) same at_a) at_b in
      subst (λ s. a.start ≤ s.start) one (omega arith)
  | inr before ↦ starts_by a b (comes_before xs ordered i j a b at_a at_b before)
]

-- The first span that overlaps the next, with the next: a is at k, b after it.
pub record Overlaps (xs : List Span) (k : ℕ) (a b : Span) : Type 0 where
  pub at_a : StandsAt xs k a
  pub at_b : StandsAt xs (suc k) b
  pub before : AllAdjacentBelow EndsBy xs (suc k)
  pub into : b.start < a.end

no_lower : (xs : List Span) → AllPairs ComesBefore xs → (k : ℕ) (a b : Span) → Overlaps xs k a b
    → (i j : ℕ) (one other : Span) → StandsAt xs i one → StandsAt xs j other → i < j
    → (number : ℕ) → HasNumber one number → HasNumber other number → b.start ≤ number
no_lower xs ordered k a b overlaps i j one other at_one at_other before number in_one in_other =
    elim (cases_lt j (suc k)) [
      | inl below ↦
          let inside : k < length xs = overlaps.at_a.within in
          absurd (none_shared xs (suc k) (omega arith) overlaps.before i j one other at_one at_other before below number
          in_one in_other)
      | inr above ↦
          let rises : b.start ≤ other.start = starts_rise xs ordered (suc k) j b other overlaps.at_b at_other above in
          let reached : other.start ≤ number = in_other.from_start in
          omega arith
    ]

least_shared : (xs : List Span) → AllPairs ComesBefore xs → (k : ℕ) (a b : Span) → Overlaps xs k a b
    → (number : ℕ) → LiesInTwo xs number → b.start ≤ number
least_shared xs ordered k a b overlaps number shared =
    let places = two_places xs number shared in
    elim (apart places.i places.j places.differ) [
      | inl before ↦ no_lower xs ordered k a b overlaps places.i places.j shared.one shared.other places.at_one
          places.at_other before number shared.one_holds shared.other_holds
      | inr after ↦ no_lower xs ordered k a b overlaps places.j places.i shared.other shared.one places.at_other
          places.at_one after number shared.other_holds shared.one_holds
    ]

later_holder : (xs : List Span) → AllPairs ComesBefore xs → (k : ℕ) (a b : Span) → Overlaps xs k a b
    → (s : Span) → Contains xs s → HasNumber s b.start → s.name ≢ a.name → s.name ≢ b.name → ComesBefore b s
later_holder xs ordered k a b overlaps s found holds not_a not_b =
    let at_s = stands xs s found in
    let inside : k < length xs = overlaps.at_a.within in
    elim (cases_lt (suc k) at_s.0) [
      | inl above ↦ comes_before xs ordered (suc k) at_s.0 b s overlaps.at_b at_s.1 above
      | inr upto ↦ elim (eq-or-lt_of_le upto) [
        | inl second ↦
            absurd (not_b (ap (λ x. x.name)
            (same_place xs (suc k) s b (subst (λ p. StandsAt xs p s) second at_s.1) overlaps.at_b)))
        | inr below ↦ elim (cases_lt at_s.0 k) [
          | inl before ↦
              let ends : s.end ≤ a.start = ends_by xs (suc k) (omega arith) overlaps.before at_s.0 k s a at_s.1
              overlaps.at_a before (omega arith) in
              let rises : a.start ≤ b.start = starts_rise xs ordered k (suc k) a b overlaps.at_a overlaps.at_b
              (omega arith) in
              let reaches : b.start < s.end = holds.below_end in
              absurd (omega arith)
          | inr not_before ↦
              let first : at_s.0 ≡ k = omega arith in
              absurd (not_a (ap (λ x. x.name)
              (same_place xs k s a (subst (λ p. StandsAt xs p s) first at_s.1) overlaps.at_a)))
        ]
      ]
    ]

pub is_first_clash : (xs : List Span) → NamesDiffer xs → AllPairs ComesBefore xs → (k : ℕ) (a b : Span)
    → Overlaps xs k a b
    → IsFirstClash xs a.name b.name b.start
is_first_clash xs names ordered k a b overlaps =
    let filled : b.start < b.end = b.not_empty in
    let in_order : ComesBefore a b = comes_before xs ordered k (suc k) a b overlaps.at_a overlaps.at_b (omega arith) in
    record {
      two = record {
        earlier = a;
        later = b;
        earlier_listed = listed xs k a overlaps.at_a;
        later_listed = listed xs (suc k) b overlaps.at_b;
        earlier_name = refl;
        later_name = refl;
        two = subst (λ s. a.name ≢ s.name) (read_at xs (suc k) b a overlaps.at_b)
            (subst (λ s. s.name ≢ (get_or xs (suc k) a).name) overlaps.at_a.is
            (names k (suc k) a (omega arith) overlaps.at_b.within));
        earlier_holds = record { from_start = starts_by a b in_order; below_end = overlaps.into };
        later_holds = record { from_start = omega arith; below_end = filled };
        in_order = in_order;
        others_after = later_holder xs ordered k a b overlaps;
      };
      least = least_shared xs ordered k a b overlaps;
    }
