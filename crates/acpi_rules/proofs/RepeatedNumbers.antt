-- A loop over sorted numbers that are given at places: which of them is the first of its number, and the lowest place
-- of those that were passed of which something is told.
use Rattle.std.proofs.Common.{◌≡◌, ◌≢◌, ℕ, ◌+◌, ◌<◌, ◌≤◌, List, length, get_or, Option, Some, None, refl, sym, ◌∙◌, ap, inl, inr, ◌⊎◌, arith}
use Rattle.std.specs.Prelude.{AllPairs, Contains, IfSome}
use Rattle.std.proofs.lemmas.Bool.{cases_order, cases_lt}
use Rattle.std.proofs.lemmas.List.{get_or_default}
use Rattle.acpi_rules.specs.Numbered.{IsFirst, IsNoLater, IsNotAbove, IsRepeated, IsTold, Repeats, repeat_place}
use Rattle.acpi_rules.specs.Places.{FindsLeast, IsNotAfter}
use Rattle.acpi_rules.specs.declared.numbered.Numbered.{Numbered}
use Rattle.acpi_rules.specs.declared.numbered.Repeat.{Repeat}
use Rattle.acpi_rules.specs.declared.place.Place.{Place}
use Rattle.acpi_rules.proofs.LeastPlaces.{least_as, finds_one_more}

-- ---- the first of a number

pub same_numbered : (a b : Numbered) → a.number ≡ b.number → a.at ≡ b.at → a.value ≡ b.value → a ≡ b
same_numbered a b same place value =
    ap (λ (n : ℕ). record a { number = n }) same
    ∙ ap (λ (p : ℕ). record { number = b.number; at = p; value = a.value }) place
    ∙ ap (λ (v : ℕ). record { number = b.number; at = b.at; value = v }) value

pub one_first : (Has : Numbered → Type 0) {f e : Numbered} → IsFirst Has f → IsFirst Has e
    → f.number ≡ e.number → f ≡ e
one_first Has {f} {e} one other same =
    both (one.least e other.here (sym same)) (other.least f one.here same)
  where
    both : IsNoLater f e → IsNoLater e f → f ≡ e
    both (inl before) (inl behind) = absurd (omega arith)
    both (inl before) (inr there) = absurd (omega (arith, there.0))
    both (inr here) (inl behind) = absurd (omega (arith, here.0))
    both (inr here) (inr there) = same_numbered f e same here.0 (omega (arith, here.1, there.1))

-- at the index i, f is the first of its number; numbers before the index are no greater, those after it no less
pub record IsStanding (sorted : List Numbered) (i : ℕ) (f : Numbered) : Type 0 where
  pub first : IsFirst (λ x. Contains sorted x) f
  pub before : (k : ℕ) (d : Numbered) → k < i → (get_or sorted k d).number ≤ f.number
  pub behind : (k : ℕ) (d : Numbered) → i ≤ k → k < length sorted → f.number ≤ (get_or sorted k d).number

pub number_upto : (a b : Numbered) → IsNotAbove a b → a.number ≤ b.number
number_upto a b (inl less) = omega arith
number_upto a b (inr (same, rest)) = omega (arith, same)

pub never_falls : (sorted : List Numbered) → AllPairs IsNotAbove sorted → (i j : ℕ) (d : Numbered) → i ≤ j
    → j < length sorted → (get_or sorted i d).number ≤ (get_or sorted j d).number
never_falls sorted order i j d least within =
    elim (cases_order i j) [
      | inl same ↦ rw same (omega arith)
      | inr (inl less) ↦ number_upto (get_or sorted i d) (get_or sorted j d) (order i j d less within)
      | inr (inr more) ↦ absurd (omega arith)
    ]

pub itself_no_later : (f : Numbered) → IsNoLater f f
itself_no_later f = inr (refl, omega arith)

first_from : (sorted : List Numbered) → AllPairs IsNotAbove sorted → (i j : ℕ) (d : Numbered) → i ≤ j
    → j < length sorted → (get_or sorted j d).number ≡ (get_or sorted i d).number
    → IsNoLater (get_or sorted i d) (get_or sorted j d)
first_from sorted order i j d least within same =
    elim (cases_order i j) [
      | inl is ↦ rw is (itself_no_later (get_or sorted j d))
      | inr (inl less) ↦
          elim (order i j d less within) [
            | inl below ↦ absurd (omega arith)
            | inr (number, rest) ↦ rest
          ]
      | inr (inr more) ↦ absurd (omega arith)
    ]

pub first_at : (sorted : List Numbered) → AllPairs IsNotAbove sorted → (i : ℕ) (h : Numbered) → i < length sorted
    → get_or sorted i h ≡ h → ((k : ℕ) (d : Numbered) → k < i → (get_or sorted k d).number < h.number)
    → IsFirst (λ x. Contains sorted x) h
first_at sorted order i h within is lesser =
    record {
      here = (i, within, is);
      least = λ g (j, inside, at) same. from g j inside at same;
    }
  where
    from : (g : Numbered) (j : ℕ) → j < length sorted → get_or sorted j g ≡ g → g.number ≡ h.number → IsNoLater h g
    from g j inside at same =
        let there : get_or sorted j h ≡ g = get_or_default sorted j h g inside ∙ at in
        elim (cases_lt j i) [
          | inl before ↦ absurd (omega (arith, lesser j h before, ap (λ (x : Numbered). x.number) there))
          | inr upto ↦
              let found = first_from sorted order i j h upto inside
              (ap (λ (x : Numbered). x.number) there ∙ same ∙ sym (ap (λ (x : Numbered). x.number) is)) in
              rw (is, there) at found
        ]

pub standing_first : (sorted : List Numbered) (f : Numbered) → AllPairs IsNotAbove sorted → 0 < length sorted
    → get_or sorted 0 f ≡ f → IsStanding sorted 0 f
standing_first sorted f order within is =
    record {
      first = first_at sorted order 0 f within is (λ k d below. absurd (omega arith));
      before = λ k d below. absurd (omega arith);
      behind = λ k d least inside.
          let up = never_falls sorted order 0 k d least inside in
          omega (arith, up, ap (λ (x : Numbered). x.number) (get_or_default sorted 0 d f within ∙ is));
    }

-- at the index i, where h is, f is the first of h's number
pub record IsCurrent (sorted : List Numbered) (i : ℕ) (h f : Numbered) : Type 0 where
  pub within : i < length sorted
  pub here : get_or sorted i h ≡ h
  pub first : IsFirst (λ x. Contains sorted x) f
  pub same : h.number ≡ f.number

pub same_number : (sorted : List Numbered) (i : ℕ) (h f : Numbered) → i < length sorted → get_or sorted i h ≡ h
    → IsStanding sorted i f → h.number ≡ f.number → IsCurrent sorted i h f
same_number sorted i h f within is standing same =
    record { within = within; here = is; first = standing.first; same = same }

pub next_number : (sorted : List Numbered) (i : ℕ) (h f : Numbered) → AllPairs IsNotAbove sorted → i < length sorted
    → get_or sorted i h ≡ h → IsStanding sorted i f → h.number ≢ f.number → IsCurrent sorted i h h
next_number sorted i h f order within is standing differ =
    record {
      within = within;
      here = is;
      first = first_at sorted order i h within is
          (λ k d below. omega (arith, standing.before k d below, above));
      same = refl;
    }
  where
    upto : f.number ≤ h.number
    upto = omega (arith, standing.behind i h (omega arith) within, ap (λ (x : Numbered). x.number) is)

    above : f.number < h.number
    above = omega (arith, upto, differ)

pub stands_next : (sorted : List Numbered) (i : ℕ) (h f : Numbered) → AllPairs IsNotAbove sorted
    → IsCurrent sorted i h f → IsStanding sorted (i + 1) f
stands_next sorted i h f order now =
    record {
      first = now.first;
      before = λ k d below. omega (arith, never_falls sorted order k i d (omega arith) now.within, number d);
      behind = λ k d least inside. omega (arith, never_falls sorted order i k d (omega arith) inside, number d);
    }
  where
    number : (d : Numbered) → (get_or sorted i d).number ≡ f.number
    number d = ap (λ (x : Numbered). x.number) (get_or_default sorted i d h now.within ∙ now.here) ∙ now.same

-- ---- the lowest place

-- x is among the first i of these
abbrev pub IsPassed : {X : Type 0} → List X → ℕ → X → Type 0
IsPassed {X} xs i x = (k : ℕ) × (k < i) × (get_or xs k x ≡ x)

-- something is told, at these numbers, of one that was passed
abbrev pub IsRepeatedSoFar : Repeat → List Numbered → ℕ → ℕ → ℕ → ℕ → Type 0
IsRepeatedSoFar r sorted i at other point =
    (g : Numbered) × (f : Numbered) × IsPassed sorted i g × Repeats r (λ x. Contains sorted x) g f
    × (repeat_place r g f ≡ record { at = at; other = other; point = point })

pub none_so_far : (r : Repeat) (sorted : List Numbered) → FindsLeast (IsRepeatedSoFar r sorted 0) None
none_so_far r sorted at other point (g, f, (k, below, here), repeats, is) = omega arith

-- those that were passed at i + 1 were at i, but for the one that is at i
pub passed_next : {X : Type 0} (xs : List X) (i : ℕ) (h g : X) → i < length xs → get_or xs i h ≡ h
    → IsPassed xs (i + 1) g
    → IsPassed xs i g ⊎ (g ≡ h)
passed_next xs i h g within here (k, below, is) =
    elim (cases_lt k i) [
      | inl before ↦ inl (k, before, is)
      | inr upto ↦
          let same : k ≡ i = omega arith in
          inr (sym is ∙ ap (λ (n : ℕ). get_or xs n g) same ∙ get_or_default xs i g h within ∙ here)
    ]

pub passed_still : {X : Type 0} (xs : List X) (i : ℕ) (g : X) → IsPassed xs i g → IsPassed xs (i + 1) g
passed_still xs i g (k, below, is) = (k, omega arith, is)

still : (r : Repeat) (sorted : List Numbered) (i at other point : ℕ) → IsRepeatedSoFar r sorted i at other point
    → IsRepeatedSoFar r sorted (i + 1) at other point
still r sorted i at other point (g, f, passed, repeats, is) = (g, f, passed_still sorted i g passed, repeats, is)

-- what is told at i + 1 was told at i, or is of the one at i
next_told : (r : Repeat) (sorted : List Numbered) (i : ℕ) (h f : Numbered) → IsCurrent sorted i h f
    → (at other point : ℕ) → IsRepeatedSoFar r sorted (i + 1) at other point
    → IsRepeatedSoFar r sorted i at other point
    ⊎ (IsTold r h f × (repeat_place r h f ≡ record { at = at; other = other; point = point }))
next_told r sorted i h f now at other point (g, e, passed, repeats, is) =
    elim (passed_next sorted i h g now.within now.here passed) [
      | inl before ↦ inl (g, e, before, repeats, is)
      | inr same ↦
          let first : e ≡ f = one_first (λ x. Contains sorted x) repeats.first now.first
          (sym repeats.same ∙ ap (λ (x : Numbered). x.number) same ∙ now.same) in
          let told = repeats.told in
          inr (rw (same, first) at told, rw (same, first) at is)
    ]

pub found_kept : (r : Repeat) (sorted : List Numbered) (i : ℕ) (h f : Numbered) (least : Option Place)
    → IsCurrent sorted i h f → (¬ IsTold r h f) → FindsLeast (IsRepeatedSoFar r sorted i) least
    → FindsLeast (IsRepeatedSoFar r sorted (i + 1)) least
found_kept r sorted i h f least now like found =
    least_as least (still r sorted i)
    (λ at other point holds.
    elim (next_told r sorted i h f now at other point holds) [
      | inl before ↦ before
      | inr here ↦ absurd (like here.0)
    ])
    found

-- if something is told of the one at i, its place is one more
pub found_told : (r : Repeat) (sorted : List Numbered) (i : ℕ) (h f : Numbered) (least : Option Place) (low : Place)
    → IsCurrent sorted i h f → IsTold r h f → FindsLeast (IsRepeatedSoFar r sorted i) least
    → (low ≡ repeat_place r h f) ⊎ (least ≡ Some low)
    → IsNotAfter low (repeat_place r h f).at (repeat_place r h f).other (repeat_place r h f).point
    → IfSome least (λ l. IsNotAfter low l.at l.other l.point)
    → FindsLeast (IsRepeatedSoFar r sorted (i + 1)) (Some low)
found_told r sorted i h f least low now repeats found one after before =
    finds_one_more least (repeat_place r h f) low found (
      h,
      f,
      (i, omega arith, now.here),
      record {
        first = now.first;
        here = (i, now.within, now.here);
        same = now.same;
        told = repeats;
      },
      refl,
    )
    (still r sorted i)
    (λ at other point holds.
    elim (next_told r sorted i h f now at other point holds) [
      | inl before ↦ inl before
      | inr here ↦ inr here.1
    ])
    one after before

pub all_passed : (r : Repeat) (sorted : List Numbered) (i : ℕ) (least : Option Place) → length sorted ≤ i
    → FindsLeast (IsRepeatedSoFar r sorted i) least → FindsLeast (IsRepeated r (λ x. Contains sorted x)) least
all_passed r sorted i least end found =
    least_as least (λ at other point (g, f, passed, repeats, is). (g, f, repeats, is))
    (λ at other point (g, f, repeats, is). (g, f, passed g repeats.here, repeats, is)) found
  where
    passed : (g : Numbered) → Contains sorted g → IsPassed sorted i g
    passed g (k, within, is) = (k, omega arith, is)
