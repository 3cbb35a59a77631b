-- A pass over the entries of a table, which are at rising offsets.
use Rattle.std.proofs.Common.{◌≡◌, ℕ, suc, ◌<◌, ◌≤◌, List, [], ◌∷◌, length, Option, Some, None, sym, ◌∙◌, ap, subst, inl, inr, arith}
use Rattle.std.specs.Prelude.{◌⊎◌, ⊤, Result, Ok, Err, MatchOption}
use Rattle.std.specs.Result.{IsErr, IsErrAnd}
use Rattle.acpi_base.specs.Codes.{code_number}
use Rattle.acpi_base.specs.Entries.{PlacedEntry, Stands, StandsWith, AreUnused, entries_of, cut_of, entries_read_by}
use Rattle.acpi_base.specs.Faults.{NotAfter}
use Rattle.acpi_base.proofs.Elements.{first_element, later_element, first_or_later, no_element}
use Rattle.acpi_base.proofs.Entries.{none_in_short}
use Rattle.acpi_base.proofs.Faults.Order.{not_after}
use Rattle.acpi_base.proofs.EntryOffsets.{cut_behind, said_from}
use Rattle.acpi_base.specs.declared.code.Code.{Code}
use Rattle.acpi_base.specs.declared.stage.Stage.{Stage}
use Rattle.acpi_base.specs.declared.witness.Witness.{Witness}
use Rattle.acpi_check.specs.PassResults.{FindsFault}
use Rattle.acpi_check.specs.TableResults.{IsFirstOfTable, FindsFirst}
use Rattle.acpi_check.specs.declared.refusal.Refusal.{Refusal}
use Rattle.acpi_check.specs.declared.refusal.Refusal.TheVariants.{Fault}
use Rattle.acpi_check.proofs.EntryPasses.Kept.{AreRising}

-- of these entries those left are still to come, and all others came before them and have P
pub record HasPassed {E : Type 0} (entries left : List (PlacedEntry E)) (P : ℕ → E → Type 0) : Type 0 where
  pub low : ℕ
  pub rises : AreRising low left
  pub listed : (o : ℕ) (e : E) → Stands left o e → Stands entries o e
  pub passed : (o : ℕ) (e : E) → Stands entries o e → Stands left o e ⊎ ((o < low) × P o e)

from_low : {E : Type 0} (low : ℕ) (left : List (PlacedEntry E)) (o : ℕ) (e : E) → AreRising low left → Stands left o e
    → low ≤ o
from_low low [] o e rises stands = absurd (no_element _ stands)
from_low low (s ∷ left) o e rises stands =
    elim (first_or_later s (record { offset = o; entry = e }) left stands) [
      | inl is ↦ omega (arith, rises.0, ap (λ t. t.offset) is)
      | inr later ↦ omega (arith, rises.0, from_low (suc s.offset) left o e rises.1 later)
    ]

pub none_passed : {E : Type 0} (low : ℕ) {entries : List (PlacedEntry E)} (P : ℕ → E → Type 0) → AreRising low entries
    → HasPassed entries entries P
none_passed low P rises =
    record { low = low; rises = rises; listed = λ o e stands. stands; passed = λ o e stands. inl stands }

-- over one more entry
pub one_more : {E : Type 0} {entries : List (PlacedEntry E)} {s : PlacedEntry E} {left : List (PlacedEntry E)}
    {P Q : ℕ → E → Type 0} → HasPassed entries (s ∷ left) P
    → Q s.offset s.entry → ((o : ℕ) (e : E) → o < s.offset → P o e → Q o e) → HasPassed entries left Q
one_more {E} {entries} {s} {left} {P} {Q} before here others =
    record {
      low = suc s.offset;
      rises = before.rises.1;
      listed = λ o e stands. before.listed o e (later_element s (record { offset = o; entry = e }) left stands);
      passed = passed;
    }
  where
    passed : (o : ℕ) (e : E) → Stands entries o e → Stands left o e ⊎ ((o < suc s.offset) × Q o e)
    passed o e stands =
        elim (before.passed o e stands) [
          | inr (earlier, holds) ↦ let first = before.rises.0 in inr (omega arith, others o e (omega arith) holds)
          | inl left_or_here ↦
              elim (first_or_later s (record { offset = o; entry = e }) left left_or_here) [
                | inr later ↦ inl later
                | inl is ↦
                    let at : s.offset ≡ o = ap (λ t. t.offset) is in
                    let same : s.entry ≡ e = ap (λ t. t.entry) is in
                    inr (omega arith, subst (Q o) same (subst (λ k. Q k s.entry) at here))
              ]
        ]

pub past : {E : Type 0} {entries : List (PlacedEntry E)} {s : PlacedEntry E} {left : List (PlacedEntry E)}
    {P : ℕ → E → Type 0} → HasPassed entries (s ∷ left) P → P s.offset s.entry → HasPassed entries left P
past before here = one_more before here (λ o e earlier holds. holds)

-- an entry was passed, or is the next, or comes after it
pub before_or_behind : {E : Type 0} {entries : List (PlacedEntry E)} {s : PlacedEntry E} {left : List (PlacedEntry E)}
    {P : ℕ → E → Type 0} → HasPassed entries (s ∷ left) P
    → (o : ℕ) (e : E) → Stands entries o e → ((o < s.offset) × P o e)
    ⊎ (((o ≡ s.offset) × (e ≡ s.entry)) ⊎ (s.offset < o))
before_or_behind {s = s} {left = left} pass o e stands =
    elim (pass.passed o e stands) [
      | inr (earlier, holds) ↦ let first = pass.rises.0 in inl (omega arith, holds)
      | inl left_or_here ↦
          elim (first_or_later s (record { offset = o; entry = e }) left left_or_here) [
            | inl is ↦ inr (inl (sym (ap (λ t. t.offset) is), sym (ap (λ t. t.entry) is)))
            | inr later ↦ inr (inr (from_low (suc s.offset) left o e pass.rises.1 later))
          ]
    ]

pub left_behind : {E : Type 0} {entries : List (PlacedEntry E)} {s : PlacedEntry E} {left : List (PlacedEntry E)}
    {P : ℕ → E → Type 0} → HasPassed entries (s ∷ left) P
    → (o : ℕ) (e : E) → Stands left o e → s.offset < o
left_behind {s = s} {left = left} pass o e stands = from_low (suc s.offset) left o e pass.rises.1 stands

pub next_stands : {E : Type 0} {entries : List (PlacedEntry E)} {s : PlacedEntry E} {left : List (PlacedEntry E)}
    {P : ℕ → E → Type 0} → HasPassed entries (s ∷ left) P → Stands entries s.offset s.entry
next_stands {s = s} {left = left} pass = pass.listed s.offset s.entry (first_element s left)

pub all_passed : {E : Type 0} {entries : List (PlacedEntry E)} {P : ℕ → E → Type 0} → HasPassed entries [] P
    → (o : ℕ) (e : E) → Stands entries o e → P o e
all_passed pass o e stands =
    elim (pass.passed o e stands) [ inl left ↦ absurd (no_element _ left) | inr (earlier, holds) ↦ holds ]

-- if the entries that were passed have no fault by themselves, a fault of an entry by itself is at the lowest fault of
-- the next entry or after it
pub own_fault_after : {E : Type 0} {entries : List (PlacedEntry E)} {s : PlacedEntry E} {left : List (PlacedEntry E)}
    {P : ℕ → E → Type 0} → HasPassed entries (s ∷ left) P
    → (IsFault : Code → E → Type 0) → ((c : Code) (o : ℕ) (e : E) → P o e → ¬ IsFault c e) → (w : Witness)
    → w.at ≡ s.offset → ((c : Code) → IsFault c s.entry
    → (code_number w.code ≤ code_number c) × AreUnused w.other w.point)
    → (c : Code) (at other point : ℕ) → StandsWith entries at (IsFault c) → AreUnused other point
    → NotAfter w (record { code = c; at = at; other = other; point = point })
own_fault_after {s = s} pass IsFault excludes w place least c at other point (e, stands, wrong) unused =
    elim (before_or_behind pass at e stands) [
      | inl (_, passed) ↦ absurd (excludes c at e passed wrong)
      | inr (inr behind) ↦ inl (omega arith)
      | inr (inl (same, entry)) ↦
          let (first, mine) = least c (subst (IsFault c) entry wrong) in
          not_after w (record { code = c; at = at; other = other; point = point }) (inr (place ∙ sym same, first))
          (mine.0 ∙ sym unused.0) (mine.1 ∙ sym unused.1)
    ]

-- the next entry comes before the cut
pub before_cut : {E : Type 0} (read : List ℕ → E) (first : ℕ) (whole : List ℕ) (at : ℕ) {s : PlacedEntry E}
    {left : List (PlacedEntry E)} {P : ℕ → E → Type 0}
    → HasPassed (entries_read_by read (entries_of first whole)) (s ∷ left) P
    → cut_of first whole ≡ Some at → s.offset < at
before_cut read first whole at {s} pass is =
    let (e, stands, _) = said_from read (entries_of first whole) s.offset s.entry (next_stands pass) in
    cut_behind first whole at s.offset e is stands

pub none_said : {E : Type 0} (read : List ℕ → E) (first : ℕ) (whole : List ℕ) → length whole < first → (o : ℕ) (e : E)
    → ¬ Stands (entries_read_by read (entries_of first whole)) o e
none_said read first whole short o e stands =
    let (bytes, here, _) = said_from read (entries_of first whole) o e stands in
    (none_in_short first whole short).1 o bytes here

pub reported : (s : Stage) (Valid : Type 0) (IsFault : Code → ℕ → ℕ → ℕ → Type 0) (w : Witness) (r : Result ⊤ Refusal)
    → IsErr r → IsErrAnd r (λ v. v ≡ Fault w) → IsFirstOfTable s IsFault w → FindsFirst s Valid IsFault r
reported s Valid IsFault w (Ok _) err is first = absurd cc
reported s Valid IsFault w (Err v) err is first = rw is first

-- a refusal with the fault that was found, if there is one, is a right result
pub refused : (s : Stage) (Valid : Type 0) (IsFault : Code → ℕ → ℕ → ℕ → Type 0) (found : Option Witness)
    (r : Result ⊤ Refusal)
    → MatchOption found (r ≡ Ok tt) (λ w. r ≡ Err (Fault w)) → FindsFault s Valid IsFault found
    → FindsFirst s Valid IsFault r
refused s Valid IsFault None r is valid = rw is valid
refused s Valid IsFault (Some w) r is first = rw is first
