-- A loop over sorted numbers whose ranges are compared: until it ends, no two of those that were passed overlap.
use Rattle.std.proofs.Common.{◌≡◌, ◌≢◌, ℕ, ◌+◌, ◌<◌, ◌≤◌, List, length, get_or, Option, Some, None, refl, sym, ◌∙◌, ap, inl, inr, ◌⊎◌, arith}
use Rattle.std.specs.Prelude.{◌↔◌, AllPairs, Contains}
use Rattle.std.proofs.lemmas.Bool.{cases_order, cases_lt}
use Rattle.std.proofs.lemmas.List.{get_or_default}
use Rattle.acpi_rules.specs.Numbered.{IsNotAbove}
use Rattle.acpi_rules.specs.Overlaps.{AreShared, IsFirstShared, IsInRange, IsOverlap, range_end}
use Rattle.acpi_rules.specs.Places.{FindsLeast}
use Rattle.acpi_rules.specs.declared.numbered.Numbered.{Numbered}
use Rattle.acpi_rules.specs.declared.overlap.Range.{Range}
use Rattle.acpi_rules.specs.declared.place.Place.{Place}
use Rattle.acpi_rules.proofs.LeastPlaces.{least_as, not_after_itself}
use Rattle.acpi_rules.proofs.RepeatedNumbers.{IsPassed, itself_no_later, never_falls, number_upto, passed_next, same_numbered}

-- of the first i of these numbers no two at different places have a number in common
abbrev pub AreApart : Range → List Numbered → ℕ → Type 0
AreApart r sorted i =
    (a b : Numbered) (x : ℕ) → IsPassed sorted i a → IsPassed sorted i b → a.at ≢ b.at
    → ¬ (IsInRange r a x × IsInRange r b x)

-- at the index i the range of `high` ends last of those that were passed; none were passed only at the beginning
pub record IsHighest (r : Range) (sorted : List Numbered) (i : ℕ) (high : Numbered) : Type 0 where
  pub k : ℕ
  pub within : k < length sorted
  pub is : get_or sorted k high ≡ high
  pub passed : (k < i) ⊎ ((k ≡ 0) × (i ≡ 0))
  pub ends : (a : Numbered) → IsPassed sorted i a → range_end r a ≤ range_end r high
  pub apart : AreApart r sorted i

pub highest_first : (r : Range) (sorted : List Numbered) (high : Numbered) → 0 < length sorted
    → get_or sorted 0 high ≡ high → IsHighest r sorted 0 high
highest_first r sorted high within is =
    record {
      k = 0;
      within = within;
      is = is;
      passed = inr (refl, refl);
      ends = λ a (k, below, here). absurd (omega arith);
      apart = λ a b x (k, below, here). absurd (omega arith);
    }

-- ---- the order of those that are compared

placed : (xs : List Numbered) (k : ℕ) (d x : Numbered) → k < length xs → get_or xs k x ≡ x → get_or xs k d ≡ x
placed xs k d x within is = get_or_default xs k d x within ∙ is

before : (sorted : List Numbered) (i j : ℕ) (a b : Numbered) → AllPairs IsNotAbove sorted → i < j → j < length sorted
    → get_or sorted i a ≡ a → get_or sorted j b ≡ b → IsNotAbove a b
before sorted i j a b order less within one other =
    let up = order i j b less within in
    rw (placed sorted i b a (omega arith) one, other) at up

-- numbers at other places from the index on are not below the highest one
behind_highest : (r : Range) (sorted : List Numbered) (i j : ℕ) (high h : Numbered) → AllPairs IsNotAbove sorted
    → IsHighest r sorted i high → i ≤ j → j < length sorted → get_or sorted j h ≡ h → h.at ≢ high.at
    → IsNotAbove high h
behind_highest r sorted i j high h order highest least within here differ =
    elim (cases_lt highest.k j) [
      | inl less ↦ before sorted highest.k j high h order less within highest.is here
      | inr upto ↦
          let same : j ≡ highest.k = elim highest.passed [
            | inl less ↦ omega arith
            | inr (none, begin) ↦ omega arith
          ] in
          absurd (differ (ap (λ (x : Numbered). x.at)
          (sym here
          ∙ ap (λ (n : ℕ). get_or sorted n h) same
          ∙ placed sorted highest.k h high highest.within highest.is)))
    ]

-- the highest one, if one was passed
highest_passed : (r : Range) (sorted : List Numbered) (i : ℕ) (high a : Numbered) → IsHighest r sorted i high
    → IsPassed sorted i a → IsPassed sorted i high
highest_passed r sorted i high a highest (k, below, is) =
    elim highest.passed [
      | inl less ↦ (highest.k, less, highest.is)
      | inr (none, begin) ↦ absurd (omega arith)
    ]

passed_upto : (sorted : List Numbered) (i : ℕ) (a h : Numbered) → AllPairs IsNotAbove sorted → i < length sorted
    → get_or sorted i h ≡ h → IsPassed sorted i a → a.number ≤ h.number
passed_upto sorted i a h order within here (k, below, is) =
    number_upto a h (before sorted k i a h order below within is here)

-- ---- the next one

-- the range of the one at the index begins in the highest one, at another place
pub record IsMet (r : Range) (high h : Numbered) : Type 0 where
  pub two : h.at ≢ high.at
  pub some : h.number < range_end r h
  pub within : h.number < range_end r high

-- if it does not, it has no number in common with any that was passed
clear_of : (r : Range) (sorted : List Numbered) (i : ℕ) (high h a : Numbered) (x : ℕ) → AllPairs IsNotAbove sorted
    → i < length sorted → get_or sorted i h ≡ h → IsHighest r sorted i high → ¬ IsMet r high h → IsPassed sorted i a
    → a.at ≢ h.at → IsInRange r a x → IsInRange r h x → ⊥
clear_of r sorted i high h a x order within here highest clear passed differ one other =
    let upto = passed_upto sorted i a h order within here passed in
    let reach = passed_upto sorted i high h order within here (highest_passed r sorted i high a highest passed) in
    let end = highest.ends a passed in
    let some : h.number < range_end r h = omega (arith, other.from_start, other.below_end) in
    let met : h.number < range_end r high = omega (arith, other.from_start, one.below_end, end) in
    let same : h.at ≢ high.at → ⊥ = λ two. clear (record { two = two; some = some; within = met }) in
    elim (cases_order h.at high.at) [
      | inl is ↦
          highest.apart a high h.number passed (highest_passed r sorted i high a highest passed)
          (λ at. differ (at ∙ sym is)) (
            record { from_start = upto; below_end = omega (arith, other.from_start, one.below_end) },
            record { from_start = reach; below_end = met },
          )
      | inr (inl less) ↦ same (λ is. absurd (omega (arith, is)))
      | inr (inr more) ↦ same (λ is. absurd (omega (arith, is)))
    ]

apart_next : (r : Range) (sorted : List Numbered) (i : ℕ) (high h : Numbered) → AllPairs IsNotAbove sorted
    → i < length sorted → get_or sorted i h ≡ h → IsHighest r sorted i high → ¬ IsMet r high h
    → AreApart r sorted (i + 1)
apart_next r sorted i high h order within here highest clear a b x one other two (holds, also) =
    elim (passed_next sorted i h a within here one) [
      | inl early ↦
          elim (passed_next sorted i h b within here other) [
            | inl before ↦ highest.apart a b x early before two (holds, also)
            | inr is ↦
                clear_of r sorted i high h a x order within here highest clear early
                (λ same. two (same ∙ ap (λ (n : Numbered). n.at) (sym is))) holds (rw is at also)
          ]
      | inr is ↦
          elim (passed_next sorted i h b within here other) [
            | inl before ↦
                clear_of r sorted i high h b x order within here highest clear before
                (λ same. two (ap (λ (n : Numbered). n.at) is ∙ sym same)) also (rw is at holds)
            | inr same ↦ absurd (two (ap (λ (n : Numbered). n.at) (is ∙ sym same)))
          ]
    ]

-- the highest one after the next one, whose range ends behind it
pub next_highest : (r : Range) (sorted : List Numbered) (i : ℕ) (high h : Numbered) → AllPairs IsNotAbove sorted
    → i < length sorted → get_or sorted i h ≡ h → IsHighest r sorted i high → ¬ IsMet r high h
    → range_end r high < range_end r h → IsHighest r sorted (i + 1) h
next_highest r sorted i high h order within here highest clear more =
    record {
      k = i;
      within = within;
      is = here;
      passed = inl (omega arith);
      ends = λ a passed. elim (passed_next sorted i h a within here passed) [
        | inl early ↦ (let end = highest.ends a early in omega arith)
        | inr is ↦ rw is (omega arith)
      ];
      apart = apart_next r sorted i high h order within here highest clear;
    }

-- and if it does not
pub same_highest : (r : Range) (sorted : List Numbered) (i : ℕ) (high h : Numbered) → AllPairs IsNotAbove sorted
    → i < length sorted → get_or sorted i h ≡ h → IsHighest r sorted i high → ¬ IsMet r high h
    → range_end r h ≤ range_end r high → IsHighest r sorted (i + 1) high
same_highest r sorted i high h order within here highest clear upto =
    record {
      k = highest.k;
      within = highest.within;
      is = highest.is;
      passed = elim highest.passed [
        | inl less ↦ inl (omega arith)
        | inr (none, begin) ↦ inl (omega arith)
      ];
      ends = λ a passed. elim (passed_next sorted i h a within here passed) [
        | inl early ↦ highest.ends a early
        | inr is ↦ rw is upto
      ];
      apart = apart_next r sorted i high h order within here highest clear;
    }

-- ---- what is found

listed_passed : (sorted : List Numbered) (i : ℕ) (h a : Numbered) → AllPairs IsNotAbove sorted → i < length sorted
    → get_or sorted i h ≡ h → Contains sorted a
    → IsPassed sorted i a ⊎ ((j : ℕ) × (i ≤ j) × (j < length sorted) × (get_or sorted j a ≡ a) × (h.number ≤ a.number))
listed_passed sorted i h a order within here (j, inside, is) =
    elim (cases_lt j i) [
      | inl less ↦ inl (j, less, is)
      | inr upto ↦
          let falls = never_falls sorted order i j h upto inside in
          inr (j, upto, inside, is, rw (here, placed sorted j h a inside is) at falls)
    ]

first_shared : (r : Range) (sorted : List Numbered) (i : ℕ) (high h : Numbered) → AllPairs IsNotAbove sorted
    → i < length sorted → get_or sorted i h ≡ h → IsHighest r sorted i high → IsMet r high h
    → IsFirstShared r (λ g. Contains sorted g) high h h.number
first_shared r sorted i high h order within here highest met =
    record {
      shared =
          record {
            one = (highest.k, highest.within, highest.is);
            other = (i, within, here);
            two = λ same. met.two (sym same);
            one_holds = held;
            other_holds = record { from_start = omega arith; below_end = met.some };
          };
      least = λ a b y shared. elim (listed_passed sorted i h a order within here shared.one) [
        | inl one ↦ elim (listed_passed sorted i h b order within here shared.other) [
          | inl other ↦ absurd (highest.apart a b y one other shared.two (shared.one_holds, shared.other_holds))
          | inr (j, upto, inside, is, more) ↦ omega (arith, more, shared.other_holds.from_start)
        ]
        | inr (j, upto, inside, is, more) ↦ omega (arith, more, shared.one_holds.from_start)
      ];
      first = λ x listed holds differ. elim (listed_passed sorted i h x order within here listed) [
        | inl early ↦ absurd (none x early holds differ)
        | inr (j, upto, inside, is, more) ↦
            behind_highest r sorted i j high x order highest upto inside is differ
      ];
      second = λ x listed holds differ. elim (listed_passed sorted i h x order within here listed) [
        | inl early ↦ absurd (none x early holds differ)
        | inr (j, upto, inside, is, more) ↦ elim (cases_lt i j) [
          | inl less ↦ before sorted i j h x order less inside here is
          | inr also ↦
              let same : h ≡ x =
              sym here ∙ ap (λ (n : ℕ). get_or sorted n h) (omega arith) ∙ placed sorted j h x inside is in
              rw same (inr (refl, itself_no_later x))
        ]
      ];
    }
  where
    start : high.number ≤ h.number
    start = number_upto high h
        (behind_highest r sorted i i high h order highest (omega arith) within here met.two)

    held : IsInRange r high h.number
    held = record { from_start = start; below_end = met.within }

    none : (x : Numbered) → IsPassed sorted i x → IsInRange r x h.number → x.at ≢ high.at → ⊥
    none x early holds differ =
        highest.apart x high h.number early (highest_passed r sorted i high x highest early) differ (holds, held)

-- ---- there is one at most

same_both : (a b : Numbered) → IsNotAbove a b → IsNotAbove b a → a ≡ b
same_both a b (inl less) (inl more) = absurd (omega arith)
same_both a b (inl less) (inr (same, rest)) = absurd (omega (arith, same))
same_both a b (inr (same, rest)) (inl more) = absurd (omega (arith, same))
same_both a b (inr (same, inl early)) (inr (also, inl late)) = absurd (omega arith)
same_both a b (inr (same, inl early)) (inr (also, inr (there, upto))) = absurd (omega (arith, there))
same_both a b (inr (same, inr (here, upto))) (inr (also, inl late)) = absurd (omega (arith, here))
same_both a b (inr (same, inr (here, upto))) (inr (also, inr (there, least))) =
    same_numbered a b same here (omega (arith, upto, least))

one_first_shared : (r : Range) (Has : Numbered → Type 0) (g f a b : Numbered) (x y : ℕ) → IsFirstShared r Has g f x
    → IsFirstShared r Has a b y → (a.at ≡ g.at) × (b.at ≡ f.at) × (y ≡ x)
one_first_shared r Has g f a b x y one other = (first, ap (λ (n : Numbered). n.at) second, point)
  where
    point : y ≡ x
    point = omega (arith, one.least a b y other.shared, other.least g f x one.shared)

    apart : a.at ≢ g.at → ⊥
    apart differ =
        differ (ap (λ (n : Numbered). n.at) (same_both a g
        (other.first g one.shared.one (rw point one.shared.one_holds) (λ is. differ (sym is)))
        (one.first a other.shared.one (rw point at other.shared.one_holds) differ)))

    first : a.at ≡ g.at
    first =
        elim (cases_order a.at g.at) [
          | inl same ↦ same
          | inr (inl less) ↦ absurd (apart (λ is. absurd (omega (arith, is))))
          | inr (inr more) ↦ absurd (apart (λ is. absurd (omega (arith, is))))
        ]

    second : b ≡ f
    second =
        same_both b f
        (other.second f one.shared.other (rw point one.shared.other_holds)
        (λ is. one.shared.two (sym first ∙ sym is)))
        (one.second b other.shared.other (rw point at other.shared.other_holds)
        (λ is. other.shared.two (first ∙ sym is)))

pub found_overlap : (r : Range) (sorted : List Numbered) (i : ℕ) (high h : Numbered) → AllPairs IsNotAbove sorted
    → i < length sorted → get_or sorted i h ≡ h → IsHighest r sorted i high → IsMet r high h
    → FindsLeast (IsOverlap r (λ g. Contains sorted g))
    (Some (record { at = high.at; other = h.at; point = h.number }))
found_overlap r sorted i high h order within here highest met =
    let is = first_shared r sorted i high h order within here highest met in
    record {
      here = (high, h, is, refl, refl);
      least = λ at other point (a, b, also, one, two).
          let (first, second, same) = one_first_shared r (λ g. Contains sorted g) high h a b h.number point is also in
          not_after_itself (record { at = high.at; other = h.at; point = h.number }) at other point
          (one ∙ first, two ∙ second, same);
    }

pub none_overlaps : (r : Range) (sorted : List Numbered) (i : ℕ) (high : Numbered) → length sorted ≤ i
    → IsHighest r sorted i high → FindsLeast (IsOverlap r (λ g. Contains sorted g)) None
none_overlaps r sorted i high end highest at other point (g, f, is, one, two) =
    let s = is.shared in
    highest.apart g f point (passed g s.one) (passed f s.other) s.two (s.one_holds, s.other_holds)
  where
    passed : (g : Numbered) → Contains sorted g → IsPassed sorted i g
    passed g (k, within, is) = (k, omega arith, is)

-- ---- for another relation that says the same

shared_as : (r : Range) {P Q : Numbered → Type 0} (g f : Numbered) (x : ℕ) → ((n : Numbered) → P n → Q n)
    → AreShared r P g f x → AreShared r Q g f x
shared_as r g f x to is =
    record {
      one = to g is.one;
      other = to f is.other;
      two = is.two;
      one_holds = is.one_holds;
      other_holds = is.other_holds;
    }

pub first_as : (r : Range) {P Q : Numbered → Type 0} (g f : Numbered) (x : ℕ) → ((n : Numbered) → P n ↔ Q n)
    → IsFirstShared r P g f x → IsFirstShared r Q g f x
first_as r g f x same is =
    record {
      shared = shared_as r g f x (λ n. (same n).0) is.shared;
      least = λ a b y shared. is.least a b y (shared_as r a b y (λ n. (same n).1) shared);
      first = λ h here. is.first h ((same h).1 here);
      second = λ h here. is.second h ((same h).1 here);
    }

pub overlap_as : (r : Range) {P Q : Numbered → Type 0} (found : Option Place) → ((n : Numbered) → P n ↔ Q n)
    → FindsLeast (IsOverlap r P) found → FindsLeast (IsOverlap r Q) found
overlap_as r found same least =
    least_as found
    (λ at other point (g, f, is, one, two). (g, f, first_as r g f point same is, one, two))
    (λ at other point (g, f, is, one, two).
    (g, f, first_as r g f point (λ n. ((same n).1, (same n).0)) is, one, two))
    least
