-- The first overlap of ranges: there is one if two ranges contain the same number, and only one.
use Rattle.std.proofs.Common.{◌≡◌, ◌≢◌, ◌⊎◌, ℕ, suc, ◌+◌, ◌<◌, ◌≤◌, refl, sym, ◌∙◌, subst, inl, inr, List, arith}
use Rattle.std.specs.Prelude.{Contains}
use Rattle.std.proofs.lemmas.Bool.{cases_eq}
use Rattle.acpi_base.specs.Overlaps.{IsIntervalOverlap, AreApart, AreApartBelow, ComesBefore, IsFirstIntervalOverlap}
use Rattle.acpi_base.specs.Entries.{PlacedEntry, StandsWith}
use Rattle.acpi_base.proofs.Faults.Deciding.{Decided, decided_as, both, differs, not_below}
use Rattle.acpi_base.proofs.Faults.Least.{NoneOrFirst, ByNumber, first_by, first_at, least_below}
use Rattle.acpi_base.proofs.Elements.{bounded}
use Rattle.acpi_base.proofs.EntryOffsets.{AreOnes, stands_with_decided}

-- finitely many ranges: those at one offset that contain one number have one start; a range contains no number before
-- its start; whether it contains a number can be decided; and offsets and numbers are bounded
pub record AreFiniteRanges (HoldsAt : ℕ → ℕ → ℕ → Type 0) : Type 0 where
  pub one_start : (o s t x : ℕ) → HoldsAt o s x → HoldsAt o t x → s ≡ t
  pub from_start : (o s x : ℕ) → HoldsAt o s x → s ≤ x
  pub decide : (o s x : ℕ) → Decided (HoldsAt o s x)
  pub offsets : ℕ
  pub numbers : ℕ
  pub within : (o s x : ℕ) → HoldsAt o s x → (o < offsets) × (x < numbers)

-- ---- there is one

-- a range by its offset and its start
record Range : Type 0 where
  offset : ℕ
  start : ℕ

-- the order of ranges: by their starts, and then by their offsets
abbrev IsEarlier : Range → Range → Type 0
IsEarlier = ByNumber (λ r. r.start) (λ r u. r.offset ≤ u.offset)

earliest : (P : ℕ → ℕ → Type 0) (n m : ℕ) → ((o s : ℕ) → P o s → (o < n) × (s < m)) → ((o s : ℕ) → Decided (P o s))
    → NoneOrFirst IsEarlier (λ r. P r.offset r.start)
earliest P n m below decide =
    first_by (λ r. r.start) (λ r u. r.offset ≤ u.offset) (λ r. P r.offset r.start) m
    (λ r here. (below r.offset r.start here).1)
    (λ s. first_at (λ r. r.offset) _ n (λ r here. (below r.offset r.start here.0).0)
    (λ o. decided_as (λ here. (record { offset = o; start = s }, ((here, refl), refl)))
    (λ h. rw (← h.1.1) (rw (← h.1.0.1) h.1.0.0)) (decide o s)))

clash_at : {HoldsAt : ℕ → ℕ → ℕ → Type 0} → AreFiniteRanges HoldsAt → (x : ℕ)
    → ((o p : ℕ) → ¬ IsIntervalOverlap HoldsAt o p x)
    ⊎ ((at other : ℕ) × IsIntervalOverlap HoldsAt at other x
    × (AreApartBelow HoldsAt x → IsFirstIntervalOverlap HoldsAt at other x))
clash_at {HoldsAt} ranges x =
    elim (earliest (λ o s. HoldsAt o s x) ranges.offsets (suc x) below (λ o s. ranges.decide o s x)) [
      | inl none ↦ inl (λ o p overlap. none (record { offset = o; start = overlap.s }) overlap.one_holds)
      | inr (one, first) ↦
          elim (earliest (λ o s. HoldsAt o s x × (o ≢ one.offset)) ranges.offsets (suc x) (λ o s h. below o s h.0)
          (λ o s. both (ranges.decide o s x) (differs o one.offset))) [
            | inl none ↦
                inl (λ o p overlap. elim (cases_eq o one.offset) [
                  | inr apart ↦ none (record { offset = o; start = overlap.s }) (overlap.one_holds, apart)
                  | inl is ↦ none (record { offset = p; start = overlap.t })
                      (overlap.other_holds, λ same. overlap.two (is ∙ sym same))
                ])
            | inr (other, second) ↦
                let overlap : IsIntervalOverlap HoldsAt one.offset other.offset x =
                record {
                  s = one.start;
                  t = other.start;
                  one_holds = first.holds;
                  other_holds = second.holds.0;
                  two = λ is. second.holds.1 (sym is);
                } in
                inr (
                  one.offset,
                  other.offset,
                  overlap,
                  λ least. record {
                    overlap = overlap;
                    in_order = grind (arith, first.least other second.holds.0, second.holds.1);
                    others_after =
                        λ p u holds apart others. grind
                        (arith, second.least (record { offset = p; start = u }) (holds, apart), others);
                    least = least;
                  },
                )
          ]
    ]
  where
    below : (o s : ℕ) → HoldsAt o s x → (o < ranges.offsets) × (s < suc x)
    below o s holds = (omega (arith, ranges.within o s x holds), omega (arith, ranges.from_start o s x holds))

pub apart_or_first : {HoldsAt : ℕ → ℕ → ℕ → Type 0} → AreFiniteRanges HoldsAt
    → AreApart HoldsAt ⊎ ((at other point : ℕ) × IsFirstIntervalOverlap HoldsAt at other point)
apart_or_first {HoldsAt} ranges =
    elim (least_below (λ x. (o p : ℕ) × IsIntervalOverlap HoldsAt o p x) decide ranges.numbers) [
      | inl none ↦ inl (λ o p x overlap. none x (omega (arith, ranges.within o overlap.s x overlap.one_holds))
          (o, p, overlap))
      | inr (x, inside, first) ↦
          elim (clash_at ranges x) [
            | inl none ↦ absurd (none first.holds.0 first.holds.1 first.holds.2)
            | inr (at, other, overlap, is_first) ↦
                inr (
                  at,
                  other,
                  x,
                  is_first
                      (λ o p y more. not_below y x (λ less. first.none_below y less (o, p, more))),
                )
          ]
    ]
  where
    decide : (x : ℕ) → Decided ((o p : ℕ) × IsIntervalOverlap HoldsAt o p x)
    decide x = elim (clash_at ranges x) [
      | inl none ↦ inr (λ h. none h.0 h.1 h.2)
      | inr (at, other, overlap, _) ↦
          inl (at, other, overlap)
    ]

-- ---- there is only one

before_others : {HoldsAt : ℕ → ℕ → ℕ → Type 0} {at other point : ℕ} → AreFiniteRanges HoldsAt
    → (f : IsFirstIntervalOverlap HoldsAt at other point)
    → (p u : ℕ) → HoldsAt p u point → p ≢ at → ComesBefore f.overlap.s at u p
before_others {HoldsAt} {at} {other} {point} ranges f p u holds apart =
    grind (
      arith,
      cases_eq p other,
      f.in_order,
      f.others_after p u holds apart,
      f.overlap.other_holds,
      ranges.one_start other f.overlap.t u point,
      holds,
    )

same_two : {HoldsAt : ℕ → ℕ → ℕ → Type 0} {a b c d x : ℕ} → AreFiniteRanges HoldsAt
    → IsFirstIntervalOverlap HoldsAt a b x → IsFirstIntervalOverlap HoldsAt c d x → (a ≡ c) × (b ≡ d)
same_two {HoldsAt} {a} {b} {c} {d} {x} ranges f g =
    let first : a ≡ c = grind (
      arith,
      cases_eq a c,
      before_others ranges f c g.overlap.s g.overlap.one_holds,
      before_others ranges g a f.overlap.s f.overlap.one_holds,
    ) in (
      first,
      grind (
        arith,
        cases_eq b d,
        first,
        f.overlap.two,
        g.overlap.two,
        f.others_after d g.overlap.t g.overlap.other_holds,
        g.others_after b f.overlap.t f.overlap.other_holds,
      ),
    )

pub one_first : {HoldsAt : ℕ → ℕ → ℕ → Type 0} {a b c d x y : ℕ} → AreFiniteRanges HoldsAt
    → IsFirstIntervalOverlap HoldsAt a b x → IsFirstIntervalOverlap HoldsAt c d y → (a ≡ c) × (b ≡ d) × (x ≡ y)
one_first {HoldsAt} {a} {b} {c} {d} {x} {y} ranges f g =
    let point : x ≡ y = omega (arith, f.least c d y g.overlap, g.least a b x f.overlap) in
    let two = same_two ranges f (subst (λ (k : ℕ). IsFirstIntervalOverlap HoldsAt c d k) (sym point) g) in
    (two.0, two.1, point)

-- ---- the ranges of entries

-- the ranges of entries are finitely many, if at most one entry is at an offset; `Says s x` of an entry says that it
-- has a range from s on that contains x, and `start` and `end` are where its range begins and ends
pub ranges_of_entries : {E : Type 0} (entries : List (PlacedEntry E)) (Says : ℕ → ℕ → E → Type 0) (start end : E → ℕ)
    → AreOnes entries
    → ((s x : ℕ) (e : E) → Says s x e → (start e ≡ s) × (s ≤ x) × (x < end e))
    → ((s x : ℕ) (e : E) → Decided (Says s x e))
    → AreFiniteRanges (λ o s x. StandsWith entries o (Says s x))
ranges_of_entries {E} entries Says start end ones says decide =
    record {
      one_start = λ o s t x one other. grind (
        arith,
        ones o one.0 other.0 one.1 other.1,
        says s x one.0 one.2,
        says t x other.0 other.2,
      );
      from_start = λ o s x h. (says s x h.0 h.2).1;
      decide = λ o s x. stands_with_decided entries o (Says s x) (decide s x);
      offsets = most.0;
      numbers = most.0;
      within = λ o s x h. grind (arith, most.1 (record { offset = o; entry = h.0 }) h.1, says s x h.0 h.2);
    }
  where
    most : (most : ℕ) × ((r : PlacedEntry E) → Contains entries r → r.offset + end r.entry < most)
    most = bounded (λ r. r.offset + end r.entry) entries
