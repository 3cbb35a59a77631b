-- The entries of a table, one step at a time: which one is first from an offset on, and which ones come after it.
use Rattle.std.proofs.Common.{◌≡◌, ℕ, zero, suc, ◌+◌, ◌≤◌, List, [], ◌∷◌, length, drop, Some, None, refl, ap, ◌∙◌, sym, inl, inr, arith, length-drop}
use Rattle.std.specs.Prelude.{slice_index}
use Rattle.std.proofs.lemmas.Bool.Decides.{nat_tests}
use Rattle.std.proofs.lemmas.List.{drop-drop, length-take-le, get_or-take}
use Rattle.std.proofs.lemmas.List.Sums.{sum_by-cons}
use Rattle.std.proofs.lemmas.Option.{cond_some}
use Rattle.acpi_base.specs.Entries.{IsEntry, PlacedEntry, first_entry, entries_from, entries_of, end_of_entries}
use Rattle.acpi_base.proofs.Options.{cases_Option}

-- the entry that bytes begin with is an entry, and fits them
record BeginsWith (left e : List ℕ) : Type 0 where
  entry : IsEntry e
  fits : length e ≤ length left

first_says : (left e : List ℕ) → first_entry left ≡ Some e → BeginsWith left e
unfolding first_entry
first_says left e is =
    let parts = cond_some _ _ _ is in
    let count = length-take-le (slice_index left 1) left in
    let said = get_or-take (slice_index left 1) left 1 0 in
    record {
      entry = record { least = grind (arith, nat_tests, count); said = grind (arith, nat_tests, count, said) };
      fits = grind (arith, nat_tests, count);
    }

from_none : (n offset : ℕ) (left : List ℕ) → first_entry left ≡ None → entries_from n offset left ≡ []
unfolding entries_from
from_none zero offset left none = refl
from_none (suc n) offset left none = rw none refl

none_left : (left : List ℕ) → length left ≤ 0 → first_entry left ≡ None
none_left left few =
    elim (cases_Option (first_entry left)) [
      | inr none ↦ none
      | inl (e, is) ↦ (let first = first_says left e is in absurd (omega (arith, first.entry.least, first.fits)))
    ]

enough : (n m offset : ℕ) (left : List ℕ) → length left ≤ n → length left ≤ m
    → entries_from n offset left ≡ entries_from m offset left
unfolding entries_from
enough zero m offset left few small = sym (from_none m offset left (none_left left few))
enough (suc n) zero offset left few small = from_none (suc n) offset left (none_left left small)
enough (suc n) (suc m) offset left few small =
    elim (cases_Option (first_entry left)) [
      | inr none ↦ rw none refl
      | inl (e, is) ↦
          let first = first_says left e is in
          let least = first.entry.least in
          let rest = enough n m (offset + length e) (drop (length e) left) (omega (arith, length-drop (length e) left))
          (omega (arith, length-drop (length e) left)) in
          rw is (ap (λ (more : List (PlacedEntry (List ℕ))). record { offset = offset; entry = e } ∷ more) rest)
    ]

from_some : (n offset : ℕ) (left e : List ℕ) → length left ≤ n → first_entry left ≡ Some e
    → entries_from n offset left ≡ record { offset = offset; entry = e } ∷ entries_from n (offset + length e)
    (drop (length e) left)
unfolding entries_from
from_some zero offset left e few is =
    (let first = first_says left e is in absurd (omega (arith, first.entry.least, first.fits)))
from_some (suc n) offset left e few is =
    let first = first_says left e is in
    let least = first.entry.least in
    let rest = enough n (suc n) (offset + length e) (drop (length e) left) (omega (arith, length-drop (length e) left))
    (omega (arith, length-drop (length e) left)) in
    rw is (ap (λ (more : List (PlacedEntry (List ℕ))). record { offset = offset; entry = e } ∷ more) rest)

-- ---- of a table

-- no entry can begin at an offset: there are none from there on
pub record IsEnd (start : ℕ) (whole : List ℕ) : Type 0 where
  pub none : entries_of start whole ≡ []
  pub end : end_of_entries start whole ≡ start

pub is_end : (start : ℕ) (whole : List ℕ) → first_entry (drop start whole) ≡ None → IsEnd start whole
unfolding entries_of end_of_entries
is_end start whole none =
    let nothing = from_none (length whole) start (drop start whole) none in
    record { none = nothing; end = rw nothing (omega arith) }

-- an entry is at an offset: it is the first from there on, and the others come after it
pub record IsNext (start : ℕ) (whole e : List ℕ) : Type 0 where
  pub entry : IsEntry e
  pub fits : length e ≤ length (drop start whole)
  pub first : entries_of start whole ≡ record { offset = start; entry = e } ∷ entries_of (start + length e) whole
  pub end : end_of_entries start whole ≡ end_of_entries (start + length e) whole

pub is_next : (start : ℕ) (whole e : List ℕ) → first_entry (drop start whole) ≡ Some e → IsNext start whole e
unfolding entries_of end_of_entries
is_next start whole e is =
    let here = first_says (drop start whole) e is in
    let some = from_some (length whole) start (drop start whole) e (omega (arith, length-drop start whole)) is in
    let rest = ap (λ (left : List ℕ). record { offset = start; entry = e } ∷ entries_from (length whole)
    (start + length e) left) (drop-drop (length e) start whole) in
    let all = some ∙ rest in
    let count : PlacedEntry (List ℕ) → ℕ = λ s. length s.entry in
    record {
      entry = here.entry;
      fits = here.fits;
      first = all;
      end = grind (
        arith,
        all,
        sum_by-cons count (record { offset = start; entry = e })
            (entries_of (start + length e) whole),
      );
    }
