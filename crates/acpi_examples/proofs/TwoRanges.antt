-- Two ranges of an example that overlap, or do not, beside others that are elsewhere.
use Rattle.std.proofs.Common.{◌≡◌, ◌≢◌, ℕ, ◌<◌, ◌≤◌, nat_lt, refl, sym, ap, ◌∙◌, inl, inr, arith}
use Rattle.std.specs.Prelude.{◌⊎◌, if◌then◌else◌}
use Rattle.std.proofs.lemmas.Bool.{lt-ltb, le-ltb}
use Rattle.acpi_rules.specs.Overlaps.{IsInRange, IsOverlap, range_end}
use Rattle.acpi_rules.specs.declared.numbered.Numbered.{Numbered}
use Rattle.acpi_rules.specs.declared.overlap.Range.{Range}
use Rattle.acpi_examples.specs.Advice.{IsKept}

-- a range: its place, its start, and how many numbers it has or which one is its last
abbrev pub range_of : ℕ → ℕ → ℕ → Numbered
range_of at start value = record { number = start; at = at; value = value }

-- a range is one of these two, or ends before the first and has the place d, or begins after the second and has the
-- place e, or is empty
abbrev pub IsOne : Range → ℕ → Numbered → Numbered → ℕ → Numbered → Type 0
IsOne r d a b e g =
    (g ≡ a) ⊎ (g ≡ b) ⊎ ((g.at ≡ d) × (range_end r g ≤ a.number)) ⊎ ((g.at ≡ e) × (range_end r b ≤ g.number))
    ⊎ (range_end r g ≤ g.number)

abbrev pub AreTwoRanges : Range → (Numbered → Type 0) → ℕ → Numbered → Numbered → ℕ → Type 0
AreTwoRanges r Has d a b e = (g : Numbered) → Has g → IsOne r d a b e g

at_of : {g a : Numbered} → g ≡ a → g.at ≡ a.at
at_of same = ap (λ (n : Numbered). n.at) same

pub two_overlap : (r : Range) (Has : Numbered → Type 0) (d : ℕ) (a b : Numbered) (e : ℕ) → AreTwoRanges r Has d a b e
    → Has a → Has b → a.at ≢ b.at → a.number < b.number → b.number < range_end r a → b.number < range_end r b
    → IsOverlap r Has a.at b.at b.number
two_overlap r Has d a b e each one two differ before inside some = (
  a,
  b,
  record {
    shared = record {
      one = one;
      other = two;
      two = differ;
      one_holds = record { from_start = omega arith; below_end = inside };
      other_holds = record { from_start = omega arith; below_end = some };
    };
    least = λ g f x s. least g f x (each g s.one) (each f s.other) s.two s.one_holds s.other_holds;
    first = λ h has holds other. elim (each h has) [
      | inl same ↦ absurd (other (at_of same))
      | inr (inl same) ↦ rw same (inl before)
      | inr (inr rest) ↦ absurd (outside h rest holds)
    ];
    second = λ h has holds other. elim (each h has) [
      | inl same ↦ absurd (other (at_of same))
      | inr (inl same) ↦ rw same (inr (refl, inr (refl, omega arith)))
      | inr (inr rest) ↦ absurd (outside h rest holds)
    ];
  },
  refl,
  refl,
)
  where
    -- another range does not contain the start of the second one
    outside : (h : Numbered)
        → ((h.at ≡ d) × (range_end r h ≤ a.number)) ⊎ ((h.at ≡ e) × (range_end r b ≤ h.number))
        ⊎ (range_end r h ≤ h.number)
        → ¬ IsInRange r h b.number
    outside h (inl (_, ends)) holds = omega (arith, ends, holds.below_end, before)
    outside h (inr (inl (_, begins))) holds = omega (arith, begins, holds.from_start, some)
    outside h (inr (inr none)) holds = omega (arith, none, holds.from_start, holds.below_end)

    least : (g f : Numbered) (x : ℕ) → IsOne r d a b e g → IsOne r d a b e f → g.at ≢ f.at → IsInRange r g x
        → IsInRange r f x → b.number ≤ x
    least g f x (inr (inl same)) of two held holds = let held = rw same at held in omega (arith, held.from_start)
    least g f x (inr (inr (inr (inl (_, begins))))) of two held holds = omega (arith, begins, held.from_start, some)
    least g f x (inr (inr (inr (inr none)))) of two held holds =
        absurd (omega (arith, none, held.from_start, held.below_end))
    least g f x of (inr (inl same)) two held holds = let holds = rw same at holds in omega (arith, holds.from_start)
    least g f x of (inr (inr (inr (inl (_, begins))))) two held holds = omega (arith, begins, holds.from_start, some)
    least g f x of (inr (inr (inr (inr none)))) two held holds =
        absurd (omega (arith, none, holds.from_start, holds.below_end))
    least g f x (inl same) (inl also) two held holds = absurd (two (at_of same ∙ sym (at_of also)))
    least g f x (inl same) (inr (inr (inl (_, ends)))) two held holds =
        let held = rw same at held in absurd (omega (arith, ends, holds.below_end, held.from_start))
    least g f x (inr (inr (inl (_, ends)))) (inl also) two held holds =
        let holds = rw also at holds in absurd (omega (arith, ends, held.below_end, holds.from_start))
    least g f x (inr (inr (inl (place, _)))) (inr (inr (inl (there, _)))) two held holds =
        absurd (two (place ∙ sym there))

-- ---- ranges that are apart

-- which of them contains x, if any does
abbrev name_at : Range → ℕ → Numbered → Numbered → ℕ → ℕ → ℕ
name_at r d a b e x =
    if nat_lt x a.number then d
    else if nat_lt x b.number then a.at else if nat_lt x (range_end r b) then b.at else e

named : (r : Range) (Has : Numbered → Type 0) (d : ℕ) (a b : Numbered) (e : ℕ) → AreTwoRanges r Has d a b e
    → range_end r a ≤ b.number → (a.number ≤ range_end r a) × (b.number ≤ range_end r b) → (g : Numbered) (x : ℕ)
    → Has g → IsInRange r g x → g.at ≡ name_at r d a b e x
named r Has d a b e each apart (one, two) g x has holds =
    elim (each g has) [
      | inl same ↦
          let held = rw same at holds in
          at_of same
          ∙ sym (rw (
            le-ltb x a.number held.from_start,
            lt-ltb x b.number (omega (arith, held.below_end, apart)),
          ) refl)
      | inr (inl same) ↦
          let held = rw same at holds in
          at_of same
          ∙ sym (rw (
            le-ltb x a.number (omega (arith, held.from_start, apart, one)),
            le-ltb x b.number held.from_start,
            lt-ltb x (range_end r b) held.below_end,
          ) refl)
      | inr (inr (inl (place, ends))) ↦
          place ∙ sym (rw (lt-ltb x a.number (omega (arith, ends, holds.below_end))) refl)
      | inr (inr (inr (inl (place, begins)))) ↦
          place
          ∙ sym (rw (
            le-ltb x a.number (omega (arith, begins, holds.from_start, apart, one, two)),
            le-ltb x b.number (omega (arith, begins, holds.from_start, two)),
            le-ltb x (range_end r b) (omega (arith, begins, holds.from_start)),
          ) refl)
      | inr (inr (inr (inr none))) ↦ absurd (omega (arith, none, holds.from_start, holds.below_end))
    ]

pub two_apart : (r : Range) (Has : Numbered → Type 0) (d : ℕ) (a b : Numbered) (e : ℕ) → AreTwoRanges r Has d a b e
    → range_end r a ≤ b.number → (a.number ≤ range_end r a) × (b.number ≤ range_end r b) → IsKept (IsOverlap r Has)
two_apart r Has d a b e each apart filled at other point (g, f, is, p, q) =
    let s = is.shared in
    s.two
    (named r Has d a b e each apart filled g point s.one s.one_holds
    ∙ sym (named r Has d a b e each apart filled f point s.other s.other_holds))
