-- The entries of a table follow one another within it, so at most one is at an offset, and whether one with a property
-- is there can be decided.
use Rattle.std.proofs.Common.{◌≡◌, ℕ, zero, suc, ◌+◌, ◌<◌, ◌≤◌, List, [], ◌∷◌, length, take, drop, Some, refl, sym, ◌∙◌, ap, subst, inl, inr, arith, length-drop}
use Rattle.std.specs.Prelude.{◌⊎◌, ◌&&◌, Contains, slice_index, nat_le, sum_by}
use Rattle.std.proofs.lemmas.Bool.{and_parts, leb-true, ltb-true, cases_lt}
use Rattle.std.proofs.lemmas.List.{length-take-le, length-take, get_or-take, get_or-drop, get_or_past}
use Rattle.std.proofs.lemmas.List.Sums.{sum_by-cons}
use Rattle.std.proofs.lemmas.Option.{cond_some}
use Rattle.acpi_base.specs.Entries.{PlacedEntry, Stands, StandsWith, first_entry, entries_from, entries_of, end_of_entries, cut_of, entries_read_by, EntryType, IsTypeOf, AreUnused}
use Rattle.acpi_base.proofs.Faults.Deciding.{Decided, decided_as, both, either, same}
use Rattle.acpi_base.proofs.Options.{cases_Option}
use Rattle.acpi_base.proofs.Elements.{no_element, first_or_later, element_of_map, element_decided, bounded}

-- ---- entries do not overlap

-- an entry lies between two offsets, and has at least two bytes
record LiesWithin (from end : ℕ) (s : PlacedEntry (List ℕ)) : Type 0 where
  behind : from ≤ s.offset
  least : 2 ≤ length s.entry
  fits : s.offset + length s.entry ≤ end

-- these follow one another between two offsets
AreSpread : ℕ → ℕ → List (PlacedEntry (List ℕ)) → Type 0
AreSpread from end [] = Unit {0}
AreSpread from end (s ∷ rest) = LiesWithin from end s × AreSpread (s.offset + length s.entry) end rest

first_fits : (left e : List ℕ) → first_entry left ≡ Some e → (2 ≤ length e) × (length e ≤ length left)
unfolding first_entry
first_fits left e is =
    let parts = cond_some (nat_le 2 (length left) && nat_le 2 (slice_index left 1) && nat_le (slice_index left 1)
    (length left)) (take (slice_index left 1) left) e is in
    grind (arith, and_parts, leb-true, length-take-le, parts.0, parts.1)

are_spread : (n offset end : ℕ) (left : List ℕ) → offset + length left ≡ end
    → AreSpread offset end (entries_from n offset left)
unfolding AreSpread entries_from
are_spread zero offset end left sum = tt
are_spread (suc n) offset end left sum =
    elim (cases_Option (first_entry left)) [
      | inr none ↦ rw none tt
      | inl (e, is) ↦
          let fits = first_fits left e is in
          rw is (
            record { behind = omega arith; least = fits.0; fits = omega (arith, fits.1) },
            are_spread n (offset + length e) end (drop (length e) left)
                (omega (arith, fits.1, length-drop (length e) left)),
          )
    ]

lies_within : (from end : ℕ) (es : List (PlacedEntry (List ℕ))) → AreSpread from end es → (s : PlacedEntry (List ℕ))
    → Contains es s → LiesWithin from end s
unfolding AreSpread
lies_within from end [] spread s h = absurd (no_element s h)
lies_within from end (t ∷ rest) spread s h =
    elim (first_or_later t s rest h) [
      | inl is ↦ subst (LiesWithin from end) is spread.0
      | inr later ↦
          let behind = lies_within (t.offset + length t.entry) end rest spread.1 s later in
          let first = spread.0 in
          record { behind = omega arith; least = behind.least; fits = behind.fits }
    ]

-- two entries are the same, or one comes after the other
abbrev AreApart : PlacedEntry (List ℕ) → PlacedEntry (List ℕ) → Type 0
AreApart s t = (s ≡ t) ⊎ ((s.offset + length s.entry ≤ t.offset) ⊎ (t.offset + length t.entry ≤ s.offset))

are_apart : (from end : ℕ) (es : List (PlacedEntry (List ℕ))) → AreSpread from end es
    → (s t : PlacedEntry (List ℕ)) → Contains es s → Contains es t → AreApart s t
unfolding AreSpread
are_apart from end [] spread s t h i = absurd (no_element s h)
are_apart from end (u ∷ rest) spread s t h i =
    cases (are_apart (u.offset + length u.entry) end rest spread.1 s t) (first_or_later u s rest h)
    (first_or_later u t rest i)
  where
    behind : (v : PlacedEntry (List ℕ)) → Contains rest v → u.offset + length u.entry ≤ v.offset
    behind v later = (lies_within (u.offset + length u.entry) end rest spread.1 v later).behind

    cases : (Contains rest s → Contains rest t → AreApart s t) → (u ≡ s) ⊎ Contains rest s → (u ≡ t) ⊎ Contains rest t
        → AreApart s t
    cases _ (inl is) (inl also) = inl (sym is ∙ also)
    cases _ (inl is) (inr later) = inr (inl (rw is at (behind t later)))
    cases _ (inr later) (inl is) = inr (inr (rw is at (behind s later)))
    cases later (inr one) (inr other) = later one other

all_spread : (first : ℕ) (whole : List ℕ) → AreSpread first (first + length (drop first whole)) (entries_of first whole)
unfolding entries_of
all_spread first whole = are_spread (length whole) first (first + length (drop first whole)) (drop first whole) refl

pub entry_within : (first : ℕ) (whole : List ℕ) (o : ℕ) (e : List ℕ) → Stands (entries_of first whole) o e
    → (first ≤ o) × (2 ≤ length e) × (o + length e ≤ length whole)
entry_within first whole o e stands =
    let lies = lies_within first (first + length (drop first whole)) (entries_of first whole) (all_spread first whole)
    (record { offset = o; entry = e }) stands in
    (lies.behind, lies.least, omega (arith, lies.behind, lies.least, lies.fits, length-drop first whole))

pub cut_inside : (first : ℕ) (whole : List ℕ) (o : ℕ) → cut_of first whole ≡ Some o → o < length whole
unfolding cut_of
cut_inside first whole o is = grind (arith, cond_some, ltb-true)

pub entries_apart : (first : ℕ) (whole : List ℕ) (o p : ℕ) (e d : List ℕ) → Stands (entries_of first whole) o e
    → Stands (entries_of first whole) p d
    → ((o ≡ p) × (e ≡ d)) ⊎ ((o + length e ≤ p) ⊎ (p + length d ≤ o))
entries_apart first whole o p e d one other =
    elim (are_apart first (first + length (drop first whole)) (entries_of first whole) (all_spread first whole)
    (record { offset = o; entry = e }) (record { offset = p; entry = d }) one other) [
      | inl same ↦ inl (
        ap (λ (s : PlacedEntry (List ℕ)). s.offset) same,
        ap (λ (s : PlacedEntry (List ℕ)). s.entry) same,
      )
      | inr apart ↦ inr apart
    ]

-- ---- entries of bytes

take_below : (n : ℕ) (bytes : List ℕ) → ((k : ℕ) → slice_index bytes k < 256) → (k : ℕ)
    → slice_index (take n bytes) k < 256
take_below n bytes small k =
    grind (arith, cases_lt k n, get_or-take n bytes k 0, get_or_past (take n bytes) k 0, length-take n bytes, small k)

entries_below : (n offset : ℕ) (left : List ℕ) → ((k : ℕ) → slice_index left k < 256)
    → (s : PlacedEntry (List ℕ)) → Contains (entries_from n offset left) s → (k : ℕ) → slice_index s.entry k < 256
unfolding first_entry entries_from
entries_below zero offset left small s h k = absurd (no_element s h)
entries_below (suc n) offset left small s h k =
    elim (cases_Option (first_entry left)) [
      | inr none ↦ absurd (no_element s (rw none at h))
      | inl (e, is) ↦
          elim (first_or_later (record { offset = offset; entry = e }) s _ (rw is at h)) [
            | inl same ↦
                let entry : take (slice_index left 1) left ≡ s.entry =
                (cond_some _ _ _ is).1 ∙ ap (λ (t : PlacedEntry (List ℕ)). t.entry) same in
                rw (← entry) (take_below (slice_index left 1) left small k)
            | inr later ↦ entries_below n (offset + length e) (drop (length e) left)
                (λ j. grind (arith, get_or-drop (length e) left j 0, small (length e + j))) s later k
          ]
    ]

pub entry_below : (first : ℕ) (whole : List ℕ) → ((k : ℕ) → slice_index whole k < 256)
    → (o : ℕ) (e : List ℕ) → Stands (entries_of first whole) o e → (k : ℕ) → slice_index e k < 256
unfolding entries_of
entry_below first whole small o e stands =
    entries_below (length whole) first (drop first whole)
    (λ j. grind (arith, get_or-drop first whole j 0, small (first + j))) (record { offset = o; entry = e }) stands

-- ---- what entries say

pub said_from : {E : Type 0} (read : List ℕ → E) (entries : List (PlacedEntry (List ℕ))) (o : ℕ) (v : E)
    → Stands (entries_read_by read entries) o v → (e : List ℕ) × Stands entries o e × (read e ≡ v)
said_from {E} read entries o v stands =
    let found = element_of_map (λ s. record { offset = s.offset; entry = read s.entry }) entries
    (record { offset = o; entry = v }) stands in
    let at : found.0.offset ≡ o = ap (λ (s : PlacedEntry E). s.offset) found.2 in (
      found.0.entry,
      subst (λ (k : ℕ). Stands entries k found.0.entry) at found.1,
      ap (λ (s : PlacedEntry E). s.entry) found.2,
    )

pub said_inside : {E : Type 0} (read : List ℕ → E) (first : ℕ) (whole : List ℕ) (o : ℕ) (v : E)
    → Stands (entries_read_by read (entries_of first whole)) o v → o < length whole
said_inside read first whole o v stands =
    let (e, here, is) = said_from read (entries_of first whole) o v stands in
    omega (arith, entry_within first whole o e here)

-- at most one entry is at an offset
abbrev pub AreOnes : {E : Type 0} → List (PlacedEntry E) → Type 0
AreOnes {E} entries = (o : ℕ) (e d : E) → Stands entries o e → Stands entries o d → e ≡ d

pub one_said : {E : Type 0} (read : List ℕ → E) (first : ℕ) (whole : List ℕ)
    → AreOnes (entries_read_by read (entries_of first whole))
one_said read first whole o v u one other =
    let e = said_from read (entries_of first whole) o v one in
    let d = said_from read (entries_of first whole) o u other in
    elim (entries_apart first whole o o e.0 d.0 e.1 d.1) [
      | inl same ↦ sym e.2 ∙ ap read same.1 ∙ d.2
      | inr (inl before) ↦ absurd (omega (arith, entry_within first whole o e.0 e.1))
      | inr (inr behind) ↦ absurd (omega (arith, entry_within first whole o d.0 d.1))
    ]

-- ---- what can be decided

pub stands_with_decided : {E : Type 0} (entries : List (PlacedEntry E)) (o : ℕ) (P : E → Type 0)
    → ((e : E) → Decided (P e)) → Decided (StandsWith entries o P)
stands_with_decided entries o P decide =
    decided_as (λ h. (h.0.entry, subst (λ (k : ℕ). Stands entries k h.0.entry) h.2.0 h.1, h.2.1))
    (λ h. (record { offset = o; entry = h.0 }, h.1, (refl, h.2)))
    (element_decided entries (λ s. (s.offset ≡ o) × P s.entry) (λ s. both (same s.offset o) (decide s.entry)))

pub somewhere_decided : {E : Type 0} (entries : List (PlacedEntry E)) (P : E → Type 0) → ((e : E) → Decided (P e))
    → Decided ((o : ℕ) × StandsWith entries o P)
somewhere_decided entries P decide =
    decided_as (λ h. (h.0.offset, (h.0.entry, h.1, h.2))) (λ h. (record { offset = h.0; entry = h.1.0 }, h.1.1, h.1.2))
    (element_decided entries (λ s. P s.entry) (λ s. decide s.entry))

pub type_decided : {E : Type 0} (kinds : List (EntryType E)) (type : ℕ) → Decided (IsTypeOf kinds type)
type_decided [] type = inr (λ h. h)
type_decided (k ∷ kinds) type = either (same type k.type) (type_decided kinds type)

pub unused_decided : (other point : ℕ) → Decided (AreUnused other point)
unused_decided other point = both (same other 0) (same point 0)

-- ---- of all entries

pub entries_bounded : {E : Type 0} (entries : List (PlacedEntry E)) (number : E → ℕ)
    → (most : ℕ) × ((o : ℕ) (e : E) → Stands entries o e → (o < most) × (number e < most))
entries_bounded entries number =
    let all = bounded (λ s. s.offset + number s.entry) entries in
    (all.0, λ o e stands. let here = all.1 (record { offset = o; entry = e }) stands in (omega arith, omega arith))

-- what holds of all that bytes below 256 say holds of what the entries of a table of such bytes say
pub said_with : {E : Type 0} (read : List ℕ → E) (P : E → Type 0)
    → ((e : List ℕ) → ((k : ℕ) → slice_index e k < 256) → P (read e))
    → (first : ℕ) (whole : List ℕ) → ((k : ℕ) → slice_index whole k < 256) → (o : ℕ) (e : E)
    → Stands (entries_read_by read (entries_of first whole)) o e → P e
said_with read P holds first whole small o e stands =
    let (bytes, here, is) = said_from read (entries_of first whole) o e stands in
    subst P is (holds bytes (entry_below first whole small o bytes here))

-- ---- the cut

ends_before : (n offset : ℕ) (left : List ℕ) (o : ℕ) (e : List ℕ) → Stands (entries_from n offset left) o e
    → o + length e ≤ offset + sum_by (λ s. length s.entry) (entries_from n offset left)
unfolding entries_from
ends_before zero offset left o e stands = absurd (no_element _ stands)
ends_before (suc n) offset left o e stands =
    elim (cases_Option (first_entry left)) [
      | inr none ↦ absurd (no_element _ (rw none at stands))
      | inl (d, is) ↦
          let rest = entries_from n (offset + length d) (drop (length d) left) in
          let sum = sum_by-cons (λ (s : PlacedEntry (List ℕ)). length s.entry) (record { offset = offset; entry = d })
          rest in
          elim (first_or_later (record { offset = offset; entry = d }) (record { offset = o; entry = e }) rest
          (rw is at stands)) [
            | inl same ↦ rw is (grind (
              arith,
              sum,
              ap (λ (s : PlacedEntry (List ℕ)). s.offset) same,
              ap (λ (s : PlacedEntry (List ℕ)). length s.entry) same,
            ))
            | inr later ↦ rw is (omega (arith, sum, ends_before n (offset + length d) (drop (length d) left) o e later))
          ]
    ]

pub cut_behind : (first : ℕ) (whole : List ℕ) (cut o : ℕ) (e : List ℕ) → cut_of first whole ≡ Some cut
    → Stands (entries_of first whole) o e → o < cut
unfolding cut_of end_of_entries entries_of
cut_behind first whole cut o e is stands =
    let end = (cond_some _ _ _ is).1 in
    omega (
      arith,
      end,
      ends_before (length whole) first (drop first whole) o e stands,
      entry_within first whole o e stands,
    )
