-- The first overlap of ranges, by computing, for examples.
use Rattle.std.proofs.Common.{◌≡◌, ◌≢◌, ℕ, List, Option, Some, None, Bool, true, false, ap, arith, inl, inr, refl, sym, subst}
use Rattle.std.specs.Prelude.{◌⊎◌, ◌<◌, ◌≤◌, ◌==◌, ◌&&◌, ◌||◌, Contains, not, nat_lt, nat_le, if◌then◌else◌}
use Rattle.std.specs.Bool.{Decides}
use Rattle.std.specs.List.{filter_map, list_all}
use Rattle.std.proofs.lemmas.Bool.{cases_lt, leb-true, le-leb}
use Rattle.std.proofs.lemmas.Bool.Decides.{Decides-and, Decides-eqb, Decides-ltb, Decides-not, Decides-or, eqb_tells}
use Rattle.std.proofs.lemmas.Option.{same_Some}
use Rattle.acpi_rules.specs.Numbered.{IsNotAbove}
use Rattle.acpi_rules.specs.Overlaps.{AreShared, IsFirstShared, IsInRange, IsOverlap, range_end}
use Rattle.acpi_rules.specs.declared.numbered.Numbered.{Numbered}
use Rattle.acpi_rules.specs.declared.overlap.Range.{Range}
use Rattle.acpi_rules.specs.declared.place.Place.{Place}
use Rattle.acpi_rules.proofs.ComputedLists.{IsAmong, decides_all, decides_no_later, no_later, over, over_from, over_has}
use Rattle.acpi_rules.proofs.Elements.{kept_from, kept_has}
use Rattle.acpi_rules.proofs.OverlappingNumbers.{first_as}
use Rattle.acpi_rules.proofs.RepeatedNumbers.{number_upto}

-- ---- tests

abbrev in_range : Range → Numbered → ℕ → Bool
in_range r h x = nat_le h.number x && nat_lt x (range_end r h)

decides_in_range : (r : Range) (h : Numbered) (x : ℕ) → Decides (in_range r h x) ((h.number ≤ x) × (x < range_end r h))
decides_in_range r h x =
    Decides-and (nat_le h.number x) _ (leb-true h.number x, le-leb h.number x) (Decides-ltb x (range_end r h))

abbrev not_above : Numbered → Numbered → Bool
not_above f h = nat_lt f.number h.number || ((f.number == h.number) && no_later f h)

decides_not_above : (f h : Numbered) → Decides (not_above f h) (IsNotAbove f h)
decides_not_above f h =
    Decides-or (nat_lt f.number h.number) _ (Decides-ltb f.number h.number)
    (Decides-and (f.number == h.number) _ (Decides-eqb f.number h.number) (decides_no_later f h))

-- the range of b begins in that of a, at another place
abbrev meets : Range → Numbered → Numbered → Bool
meets r a b = not (a.at == b.at) && (in_range r a b.number && in_range r b b.number)

abbrev Meets : Range → Numbered → Numbered → Type 0
Meets r a b =
    (¬ (a.at ≡ b.at))
    × (((a.number ≤ b.number) × (b.number < range_end r a)) × ((b.number ≤ b.number) × (b.number < range_end r b)))

decides_meets : (r : Range) (a b : Numbered) → Decides (meets r a b) (Meets r a b)
decides_meets r a b =
    Decides-and (not (a.at == b.at)) _ (Decides-not (a.at == b.at) (Decides-eqb a.at b.at))
    (Decides-and (in_range r a b.number) _ (decides_in_range r a b.number) (decides_in_range r b b.number))

-- h is at the place of g, or its range does not contain x, or neither g nor f is above it
abbrev is_behind : Range → Numbered → Numbered → ℕ → Numbered → Bool
is_behind r g f x h = (h.at == g.at) || (not (in_range r h x) || (not_above g h && not_above f h))

abbrev IsBehind : Range → Numbered → Numbered → ℕ → Numbered → Type 0
IsBehind r g f x h =
    (h.at ≡ g.at) ⊎ ((¬ ((h.number ≤ x) × (x < range_end r h))) ⊎ (IsNotAbove g h × IsNotAbove f h))

decides_behind : (r : Range) (g f : Numbered) (x : ℕ) (h : Numbered)
    → Decides (is_behind r g f x h) (IsBehind r g f x h)
decides_behind r g f x h =
    Decides-or (h.at == g.at) _ (Decides-eqb h.at g.at)
    (Decides-or (not (in_range r h x)) _ (Decides-not (in_range r h x) (decides_in_range r h x))
    (Decides-and (not_above g h) _ (decides_not_above g h) (decides_not_above f h)))

-- no range begins in another one below x
abbrev none_below : Range → List Numbered → ℕ → Bool
none_below r all x = list_all (λ a. list_all (λ b. not (meets r a b) || nat_le x b.number) all) all

abbrev NoneBelow : Range → List Numbered → ℕ → Type 0
NoneBelow r all x =
    (a : Numbered) → Contains all a → (b : Numbered) → Contains all b → (¬ Meets r a b) ⊎ (x ≤ b.number)

decides_none_below : (r : Range) (all : List Numbered) (x : ℕ) → Decides (none_below r all x) (NoneBelow r all x)
decides_none_below r all x =
    decides_all (λ a. list_all (λ b. not (meets r a b) || nat_le x b.number) all)
    (λ a. (b : Numbered) → Contains all b → (¬ Meets r a b) ⊎ (x ≤ b.number))
    (λ a.
    decides_all (λ b. not (meets r a b) || nat_le x b.number) (λ b. (¬ Meets r a b) ⊎ (x ≤ b.number))
    (λ b. Decides-or (not (meets r a b)) _ (Decides-not (meets r a b) (decides_meets r a b))
    (leb-true x b.number, le-leb x b.number)) all)
    all

-- ---- the first overlap

abbrev is_overlap : Range → List Numbered → Numbered → Numbered → Bool
is_overlap r all g f = meets r g f && (none_below r all f.number && list_all (is_behind r g f f.number) all)

abbrev IsOverlapIn : Range → List Numbered → Numbered → Numbered → Type 0
IsOverlapIn r all g f =
    Meets r g f × (NoneBelow r all f.number × ((h : Numbered) → Contains all h → IsBehind r g f f.number h))

decides_overlap : (r : Range) (all : List Numbered) (g f : Numbered)
    → Decides (is_overlap r all g f) (IsOverlapIn r all g f)
decides_overlap r all g f =
    Decides-and (meets r g f) _ (decides_meets r g f)
    (Decides-and (none_below r all f.number) _ (decides_none_below r all f.number)
    (decides_all (is_behind r g f f.number) (IsBehind r g f f.number) (decides_behind r g f f.number) all))

holds_upto : (r : Range) (a b : Numbered) (y : ℕ) → a.at ≢ b.at → IsInRange r a y → IsInRange r b y
    → a.number ≤ b.number → Meets r a b
holds_upto r a b y two one other upto = (
  two,
  (
    (upto, omega (arith, other.from_start, one.below_end)),
    (omega arith, omega (arith, other.from_start, other.below_end)),
  ),
)

overlap_from : (r : Range) (all : List Numbered) (g f : Numbered) → Contains all g → Contains all f
    → IsOverlapIn r all g f → IsFirstShared r (λ h. Contains all h) g f f.number
overlap_from r all g f one other ((two, ((upto, held), (itself, some))), (below, behind)) =
    record {
      shared =
          record {
            one = one;
            other = other;
            two = two;
            one_holds = record { from_start = upto; below_end = held };
            other_holds = record { from_start = itself; below_end = some };
          };
      least = λ a b y s. elim (cases_lt b.number a.number) [
        | inl less ↦ elim (below b s.other a s.one) [
          | inl not ↦ absurd (not (holds_upto r b a y (λ is. s.two (sym is)) s.other_holds s.one_holds (omega arith)))
          | inr least ↦ omega (arith, least, s.one_holds.from_start)
        ]
        | inr more ↦ elim (below a s.one b s.other) [
          | inl not ↦ absurd (not (holds_upto r a b y s.two s.one_holds s.other_holds more))
          | inr least ↦ omega (arith, least, s.other_holds.from_start)
        ]
      ];
      first = λ h listed holds differ. (last h listed holds differ).0;
      second = λ h listed holds differ. (last h listed holds differ).1;
    }
  where
    last : (h : Numbered) → Contains all h → IsInRange r h f.number → h.at ≢ g.at → IsNotAbove g h × IsNotAbove f h
    last h listed holds differ =
        elim (behind h listed) [
          | inl same ↦ absurd (differ same)
          | inr (inl not) ↦ absurd (not (holds.from_start, holds.below_end))
          | inr (inr are) ↦ are
        ]

-- the lowest number that both contain is where the second one begins
begins_there : (r : Range) (Has : Numbered → Type 0) (g f : Numbered) (x : ℕ) → IsFirstShared r Has g f x
    → f.number ≡ x
begins_there r Has g f x is =
    let s = is.shared in
    let upto = number_upto g f (is.first f s.other s.other_holds (λ same. s.two (sym same))) in
    let least = is.least g f f.number (record {
      one = s.one;
      other = s.other;
      two = s.two;
      one_holds =
          record { from_start = upto; below_end = omega (arith, s.other_holds.from_start, s.one_holds.below_end) };
      other_holds =
          record {
            from_start = omega arith;
            below_end = omega (arith, s.other_holds.from_start, s.other_holds.below_end);
          };
    }) in
    omega (arith, least, s.other_holds.from_start)

overlap_has : (r : Range) (all : List Numbered) (Has : Numbered → Type 0)
    → ((g : Numbered) → Contains all g → Has g) → (g f : Numbered) → IsFirstShared r Has g f f.number
    → IsOverlapIn r all g f
overlap_has r all Has back g f is = (
  holds_upto r g f f.number s.two s.one_holds s.other_holds s.one_holds.from_start,
  (
    λ a one b other. of a one b other (meets r a b) (decides_meets r a b),
    λ h listed. elim (eqb_tells h.at g.at) [
      | inl (_, same) ↦ inl same
      | inr (_, differ) ↦ inr (by h listed differ (in_range r h f.number) (decides_in_range r h f.number))
    ],
  ),
)
  where
    s : AreShared r Has g f f.number
    s = is.shared

    of : (a : Numbered) → Contains all a → (b : Numbered) → Contains all b → (t : Bool) → Decides t (Meets r a b)
        → (¬ Meets r a b) ⊎ (f.number ≤ b.number)
    of a one b other true decides =
        let (two, ((upto, held), (itself, some))) = decides.0 refl in
        inr (is.least a b b.number (record {
          one = back a one;
          other = back b other;
          two = two;
          one_holds = record { from_start = upto; below_end = held };
          other_holds = record { from_start = itself; below_end = some };
        }))
    of a one b other false decides = inl (λ meet. let no = decides.1 meet in cc)

    by : (h : Numbered) → Contains all h → h.at ≢ g.at → (t : Bool)
        → Decides t ((h.number ≤ f.number) × (f.number < range_end r h))
        → (¬ ((h.number ≤ f.number) × (f.number < range_end r h))) ⊎ (IsNotAbove g h × IsNotAbove f h)
    by h listed differ true decides =
        let (from, end) = decides.0 refl in
        let holds : IsInRange r h f.number = record { from_start = from; below_end = end } in
        inr (is.first h (back h listed) holds differ, is.second h (back h listed) holds differ)
    by h listed differ false decides = inl (λ holds. let no = decides.1 holds in cc)

abbrev overlap_place : Numbered → Numbered → Place
overlap_place g f = record { at = g.at; other = f.at; point = f.number }

abbrev overlap_here : Range → List Numbered → Numbered → Numbered → Option Place
overlap_here r all g f = if is_overlap r all g f then Some (overlap_place g f) else None

abbrev pub overlaps : Range → List Numbered → List Place
overlaps r all = over (λ g. filter_map (overlap_here r all g) all) all

pub overlaps_has : (r : Range) (all : List Numbered) (Has : Numbered → Type 0)
    → ((g : Numbered) → Has g → Contains all g) → ((g : Numbered) → Contains all g → Has g)
    → (at other point : ℕ) → IsOverlap r Has at other point → IsAmong (overlaps r all) at other point
overlaps_has r all Has there back at other point (g, f, is, p, q) =
    over_has (λ g. filter_map (overlap_here r all g) all) all g _ (there g is.shared.one)
    (kept_has (overlap_here r all g) all f _ (there f is.shared.other)
    (of (is_overlap r all g f) ((decides_overlap r all g f).1 (overlap_has r all Has back g f here))))
  where
    begins : f.number ≡ point
    begins = begins_there r Has g f point is

    here : IsFirstShared r Has g f f.number
    here = subst (λ x. IsFirstShared r Has g f x) (sym begins) is

    of : (b : Bool) → b ≡ true
        → (if b then Some (overlap_place g f) else None) ≡ Some (record { at = at; other = other; point = point })
    of b passes = rw passes (ap Some (λ i. record { at = sym p i; other = sym q i; point = begins i }))

pub overlaps_from : (r : Range) (all : List Numbered) (Has : Numbered → Type 0)
    → ((g : Numbered) → Has g → Contains all g) → ((g : Numbered) → Contains all g → Has g)
    → (at other point : ℕ) → IsAmong (overlaps r all) at other point → IsOverlap r Has at other point
overlaps_from r all Has there back at other point among =
    let (g, in_all, within) = over_from (λ g. filter_map (overlap_here r all g) all) all _ among in
    let (f, listed, is) = kept_from (overlap_here r all g) all _ within in
    of g in_all f listed (is_overlap r all g f) (decides_overlap r all g f) is
  where
    of : (g : Numbered) → Contains all g → (f : Numbered) → Contains all f → (b : Bool)
        → Decides b (IsOverlapIn r all g f)
        → (if b then Some (overlap_place g f) else None) ≡ Some (record { at = at; other = other; point = point })
        → IsOverlap r Has at other point
    of g in_all f listed false decides is = absurd cc
    of g in_all f listed true decides is =
        let same = same_Some _ _ is in
        let first = overlap_from r all g f in_all listed (decides.0 refl) in (
          g,
          f,
          subst (λ x. IsFirstShared r Has g f x) (ap (λ (p : Place). p.point) same)
              (first_as r g f f.number (λ n. (back n, there n)) first),
          sym (ap (λ (p : Place). p.at) same),
          sym (ap (λ (p : Place). p.other) same),
        )
