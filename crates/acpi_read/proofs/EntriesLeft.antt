-- The entries that remain in a table after its first one.
use Rattle.std.proofs.Common.{◌≡◌, ◌∙◌, ℕ, ◌≤◌, List, length, drop, min, Option, Some, None, inl, inr, refl, sym, arith, length-drop}
use Rattle.std.proofs.Math.Nat.{min-eq_left, min-eq_right}
use Rattle.std.proofs.lemmas.Bool.{cases_lt}
use Rattle.std.proofs.lemmas.List.{drop_all}
use Rattle.std.proofs.lemmas.Bool.Decides.{nat_tests}
use denote.Ref.{Bor}
use Rattle.std.specs.Option.{option_map, MatchOption}
use Rattle.acpi_base.proofs.EntrySteps as step
use Rattle.acpi_base.specs.Entries.{first_entry, entries_of, cut_of}
use Rattle.acpi_read.specs.Entries.{IsLast, IsNext}

is_last : (offset : ℕ) (whole : List ℕ) → first_entry (drop offset whole) ≡ None → IsLast offset whole
unfolding cut_of
is_last offset whole none =
    let end = step.is_end offset whole none in
    let at_end = end.end in
    record { none = end.none; here = λ less. grind (arith, nat_tests); end = λ most. grind (arith, nat_tests) }

is_next : (offset : ℕ) (whole e : List ℕ) → offset ≤ length whole → first_entry (drop offset whole) ≡ Some e
    → IsNext offset whole e
unfolding cut_of
is_next offset whole e within is =
    let next = step.is_next offset whole e is in
    record {
      entry = next.entry;
      fits = omega (arith, next.fits, length-drop offset whole);
      first = next.first;
      cut = rw next.end refl;
    }

-- the entry at an offset, or none, decides what remains from there on
pub last_or_next : (offset : ℕ) (whole : List ℕ) (found : Option (Bor (List ℕ))) → offset ≤ length whole
    → option_map (λ entry. entry.now) found ≡ first_entry (drop offset whole)
    → MatchOption found (IsLast offset whole) (λ entry. IsNext offset whole entry.now)
last_or_next offset whole None within is = is_last offset whole (sym is)
last_or_next offset whole (Some e) within is = is_next offset whole e.now within (sym is)

past_end : (offset : ℕ) (whole : List ℕ) → length whole ≤ offset → IsLast offset whole
unfolding first_entry
past_end offset whole past = is_last offset whole (rw (drop_all offset whole past) refl)

pub entries_within : (first : ℕ) (whole : List ℕ) → entries_of (min first (length whole)) whole ≡ entries_of first whole
entries_within first whole =
    elim (cases_lt (length whole) first) [
      | inl less ↦
          rw (min-eq_right {n = length whole} {m = first} (omega (arith, less)))
          ((past_end (length whole) whole (omega arith)).none ∙ sym (past_end first whole (omega (arith, less))).none)
      | inr fits ↦ rw (min-eq_left fits) refl
    ]

pub cut_within : (first : ℕ) (whole : List ℕ) → cut_of (min first (length whole)) whole ≡ cut_of first whole
cut_within first whole =
    elim (cases_lt (length whole) first) [
      | inl less ↦
          rw (min-eq_right {n = length whole} {m = first} (omega (arith, less)))
          ((past_end (length whole) whole (omega arith)).end (omega arith)
          ∙ sym ((past_end first whole (omega (arith, less))).end (omega (arith, less))))
      | inr fits ↦ rw (min-eq_left fits) refl
    ]
