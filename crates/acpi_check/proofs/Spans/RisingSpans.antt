-- Spans that begin in rising order are merged into spans that also end in rising order, in which numbers are looked up.
use Rattle.std.proofs.Common.{◌≡◌, ℕ, suc, ◌+◌, ◌<◌, ◌≤◌, List, [], ◌∷◌, ◌++◌, length, get_or, leb, leb-true, sym, ◌∙◌, ap, subst, inl, inr, arith}
use Rattle.std.specs.Prelude.{◌⊎◌, ◌↔◌, All, Contains, MatchBool, max}
use Rattle.std.specs.List.Sorted.{IsNonDecreasingBy}
use Rattle.std.proofs.lemmas.Bool.{cases_Bool, cases_eq, cases_lt, leb-false}
use Rattle.std.proofs.lemmas.List.{get_or_default}
use Rattle.std.proofs.lemmas.List.Elements.{Contains-append_left, Contains-push, Contains-push_cases, Contains-get_or}
use Rattle.std.proofs.lemmas.List.Kept.{AllPairs-cons}
use Rattle.acpi_base.proofs.Elements.{first_element, later_element, no_element}
use Rattle.acpi_graph.specs.Spans.{HasNumber}
use Rattle.acpi_graph.specs.declared.span.Span.{Span}
use Rattle.acpi_check.specs.ServedGsis.{IsInSpans, DoStartsRise, DoRise, IsPlaceOf}

-- ---- merged

-- a pair of spans that begin and end in rising order
abbrev Rises : Span → Span → Type 0
Rises a b = (a.start ≤ b.start) × (a.end ≤ b.end)

rise_with : (xs : List Span) (y : Span) → DoRise xs → ((x : Span) → Contains xs x → Rises x y) → DoRise (xs ++ y ∷ [])
rise_with [] y rise each = λ i j d before within. absurd (omega arith)
rise_with (x ∷ xs) y rise each =
    AllPairs-cons Rises x (xs ++ y ∷ []) behind
    (rise_with xs y (λ i j d before within. rise (suc i) (suc j) d (omega (arith, before)) (omega (arith, within)))
    (λ z here. each z (later_element x z xs here)))
  where
    from_first : (z : Span) → Contains (xs ++ y ∷ []) z → Rises x z
    from_first z here =
        elim (Contains-push_cases xs y z here) [
          | inl (k, within, is) ↦ subst (Rises x) is (rise 0 (suc k) z (omega arith) (omega (arith, within)))
          | inr same ↦ subst (Rises x) same (each x (first_element x xs))
        ]

    behind : All (Rises x) (xs ++ y ∷ [])
    behind k d within = from_first (get_or (xs ++ y ∷ []) k d) (Contains-get_or (xs ++ y ∷ []) k d within)

-- the number is in one of these, or from start on and below end
abbrev IsHeld : List Span → ℕ → ℕ → ℕ → Type 0
IsHeld merged start end g = IsInSpans merged g ⊎ ((start ≤ g) × (g < end))

-- the first k spans are merged into these and one from start on and below end
pub record AreMerged (spans : List Span) (k : ℕ) (merged : List Span) (start end : ℕ) : Type 0 where
  pub rise : DoRise merged
  pub some : start < end
  pub below : (r : Span) → Contains merged r → (r.start ≤ start) × (r.end ≤ end)
  pub low : (j : ℕ) (d : Span) → k ≤ j → j < length spans → start ≤ (get_or spans j d).start
  pub from : (g : ℕ) → IsHeld merged start end g → IsInSpans spans g
  pub has : (j : ℕ) (d : Span) → j < k → (g : ℕ) → HasNumber (get_or spans j d) g → IsHeld merged start end g

in_given : {spans : List Span} {k g : ℕ} (span d0 : Span) → k < length spans → get_or spans k d0 ≡ span
    → span.start ≤ g → g < span.end → IsInSpans spans g
in_given {spans} {k} span d0 within is from below =
    record {
      span = span;
      listed = subst (Contains spans) is (Contains-get_or spans k d0 within);
      holds = record { from_start = from; below_end = below };
    }

pub first_merged : (spans : List Span) (first d0 : Span) → DoStartsRise spans → 0 < length spans
    → get_or spans 0 d0 ≡ first → first.start < first.end → AreMerged spans 0 [] first.start first.end
first_merged spans first d0 starts within is some =
    record {
      rise = λ i j d before inside. absurd (omega arith);
      some = some;
      below = λ r here. absurd (no_element r here);
      low = λ j d least inside. elim (cases_eq 0 j) [
        | inl same ↦ subst (λ (i : ℕ). first.start ≤ (get_or spans i d).start) same
            (omega (arith, ap (λ (s : Span). s.start) (here d)))
        | inr other ↦
            omega (arith, ap (λ (s : Span). s.start) (here d), starts 0 j d (omega (arith, other)) inside)
      ];
      from = λ g h. elim h [
        | inl none ↦ absurd (no_element none.span none.listed)
        | inr (from, below) ↦ in_given first d0 within is from below
      ];
      has = λ j d before. absurd (omega (arith, before));
    }
  where
    here : (d : Span) → get_or spans 0 d ≡ first
    here d = get_or_default spans 0 d d0 within ∙ is

-- the next span begins before the last one ends, or where it ends
pub one_merged : (spans : List Span) (k : ℕ) (merged : List Span) (start end raised : ℕ) (span d0 : Span)
    → k < length spans → get_or spans k d0 ≡ span → span.start ≤ end → raised ≡ max end span.end
    → AreMerged spans k merged start end → AreMerged spans (k + 1) merged start raised
one_merged spans k merged start end raised span d0 within is touches greatest before =
    record {
      rise = before.rise;
      some = omega (arith, before.some, greatest);
      below = λ r there. let (begin, last) = before.below r there in (begin, omega (arith, last, greatest));
      low = λ j d later inside. before.low j d (omega (arith, later)) inside;
      from = λ g h. elim h [
        | inl early ↦ before.from g (inl early)
        | inr (from, below) ↦ elim (cases_lt g end) [
          | inl inside ↦ before.from g (inr (from, inside))
          | inr behind ↦
              in_given span d0 within is (omega (arith, touches, behind)) (omega (arith, behind, below, greatest))
        ]
      ];
      has = λ j d below g holds. elim (cases_eq j k) [
        | inr other ↦ elim (before.has j d (omega (arith, other, below)) g holds) [
          | inl early ↦ inl early
          | inr (from, less) ↦ inr (from, omega (arith, less, greatest))
        ]
        | inl same ↦
            let there = subst (λ (s : Span). HasNumber s g) (ap (λ (i : ℕ). get_or spans i d) same ∙ here d) holds in
            inr (
              omega (arith, before.low k d0 (omega arith) within, ap (λ (s : Span). s.start) is, there.from_start),
              omega (arith, there.below_end, greatest),
            )
      ];
    }
  where
    here : (d : Span) → get_or spans k d ≡ span
    here d = get_or_default spans k d d0 within ∙ is

-- with the last one, which is `more`
with_last : (merged : List Span) (more : Span) (start end g : ℕ) → more.start ≡ start → more.end ≡ end
    → IsInSpans (merged ++ more ∷ []) g ↔ IsHeld merged start end g
with_last merged more start end g begins ends = (
  λ h. elim (Contains-push_cases merged more h.span h.listed) [
    | inl early ↦ inl (record { span = h.span; listed = early; holds = h.holds })
    | inr same ↦
        let holds = subst (λ (s : Span). HasNumber s g) (sym same) h.holds in
        inr (omega (arith, begins, holds.from_start), omega (arith, ends, holds.below_end))
  ],
  λ h. elim h [
    | inl early ↦ record {
      span = early.span;
      listed = Contains-append_left merged (more ∷ []) early.span early.listed;
      holds = early.holds;
    }
    | inr (from, below) ↦ record {
      span = more;
      listed = Contains-push merged more;
      holds = record { from_start = omega (arith, begins, from); below_end = omega (arith, ends, below) };
    }
  ],
)

rise_to : {spans : List Span} {k start end : ℕ} (merged : List Span) (more : Span) → more.start ≡ start
    → more.end ≡ end → AreMerged spans k merged start end → DoRise (merged ++ more ∷ [])
rise_to merged more begins ends are =
    rise_with merged more are.rise
    (λ r there. let (begin, last) = are.below r there in (omega (arith, begin, begins), omega (arith, last, ends)))

-- the next span begins after the last one
pub next_merged : (spans : List Span) (k : ℕ) (merged : List Span) (start end : ℕ) (more span d0 : Span)
    → DoStartsRise spans → k < length spans → get_or spans k d0 ≡ span → end < span.start → span.start < span.end
    → more.start ≡ start → more.end ≡ end → AreMerged spans k merged start end
    → AreMerged spans (k + 1) (merged ++ more ∷ []) span.start span.end
next_merged spans k merged start end more span d0 starts within is behind some begins ends before =
    record {
      rise = rise_to merged more begins ends before;
      some = some;
      below = λ r there. elim (Contains-push_cases merged more r there) [
        | inl early ↦
            let (begin, last) = before.below r early in
            (omega (arith, begin, before.some, behind), omega (arith, last, behind, some))
        | inr same ↦ subst (λ (s : Span). (s.start ≤ span.start) × (s.end ≤ span.end)) same
            (omega (arith, begins, before.some, behind), omega (arith, ends, behind, some))
      ];
      low = λ j d later inside.
          omega (arith, ap (λ (s : Span). s.start) (here d), starts k j d (omega (arith, later)) inside);
      from = λ g h. elim h [
        | inl early ↦ before.from g ((with_last merged more start end g begins ends).0 early)
        | inr (from, below) ↦ in_given span d0 within is from below
      ];
      has = λ j d below g holds. elim (cases_eq j k) [
        | inr other ↦ inl
            ((with_last merged more start end g begins ends).1
            (before.has j d (omega (arith, other, below)) g holds))
        | inl same ↦
            let there = subst (λ (s : Span). HasNumber s g) (ap (λ (i : ℕ). get_or spans i d) same ∙ here d) holds in
            inr (there.from_start, there.below_end)
      ];
    }
  where
    here : (d : Span) → get_or spans k d ≡ span
    here d = get_or_default spans k d d0 within ∙ is

pub all_merged : (spans : List Span) (k : ℕ) (merged : List Span) (start end : ℕ) (more : Span) → length spans ≤ k
    → more.start ≡ start → more.end ≡ end → AreMerged spans k merged start end
    → DoRise (merged ++ more ∷ []) × ((g : ℕ) → IsInSpans (merged ++ more ∷ []) g ↔ IsInSpans spans g)
all_merged spans k merged start end more over begins ends are = (
  rise_to merged more begins ends are,
  λ g. (
    λ h. are.from g ((with_last merged more start end g begins ends).0 h),
    λ h. (
        let (j, within, is) = h.listed in
        (with_last merged more start end g begins ends).1
        (are.has j h.span (omega (arith, within, over)) g (subst (λ (s : Span). HasNumber s g) (sym is) h.holds))),
  ),
)

-- ---- looked up

pub ends_rise : (spans : List Span) → DoRise spans → IsNonDecreasingBy (λ (s : Span). s.end) spans
ends_rise spans rise i j d upto within =
    elim (cases_eq i j) [
      | inl same ↦ rw same (omega arith)
      | inr other ↦ (rise i j d (omega (arith, upto, other)) within).1
    ]

pub in_none : (spans : List Span) (g place : ℕ) → DoRise spans → IsPlaceOf spans g place
    → ((d : Span) → place < length spans → g < (get_or spans place d).start) → ¬ IsInSpans spans g
in_none spans g place rise is behind h =
    let (k, within, at) = h.listed in
    let span = h.span in
    elim (cases_lt k place) [
      | inl before ↦ omega (arith, is.ended k span before within, ap (λ (s : Span). s.end) at, h.holds.below_end)
      | inr from ↦ elim (cases_eq k place) [
        | inl same ↦
            omega (
              arith,
              behind span (omega (arith, same, within)),
              ap (λ (i : ℕ). (get_or spans i span).start) same,
              ap (λ (s : Span). s.start) at,
              h.holds.from_start,
            )
        | inr other ↦
            omega (
              arith,
              behind span (omega (arith, from, within)),
              (rise place k span (omega (arith, from, other)) within).0,
              ap (λ (s : Span). s.start) at,
              h.holds.from_start,
            )
      ]
    ]

pub in_place : (spans : List Span) (g place : ℕ) (d0 : Span) → DoRise spans → IsPlaceOf spans g place
    → place < length spans
    → MatchBool (leb (get_or spans place d0).start g) (IsInSpans spans g) (¬ IsInSpans spans g)
in_place spans g place d0 rise is within =
    elim (cases_Bool (leb (get_or spans place d0).start g)) [
      | inr not ↦ rw not (in_none spans g place rise is (λ d inside. omega (
        arith,
        leb-false _ _ not,
        ap (λ (s : Span). s.start) (get_or_default spans place d d0 within),
      )))
      | inl upto ↦ rw upto (record {
        span = get_or spans place d0;
        listed = Contains-get_or spans place d0 within;
        holds = record { from_start = leb-true _ _ upto; below_end = is.later place d0 (omega arith) within };
      })
    ]
