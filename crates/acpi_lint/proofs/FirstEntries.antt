-- The first thing that is picked from the entries of a table is at the lowest place.
use Rattle.std.proofs.Common.{◌≡◌, List, [], ◌∷◌, Option, Some, None, refl, inl, inr, ℕ, suc, ◌<◌, sym, ◌∙◌, ap, subst, arith}
use Rattle.std.specs.Prelude.{Contains, ◌⊎◌}
use Rattle.acpi_base.proofs.Elements.{later_element, first_element, first_or_later, no_element}
use Rattle.acpi_rules.specs.Places.{IsLeast, FindsLeast}
use Rattle.acpi_lint.specs.Places.{PicksFirst, FindsOwn}
use denote.Ref.{Bor}
use Rattle.acpi_base.specs.Entries.{PlacedEntry, Stands, StandsWith}
use Rattle.acpi_read.specs.Entries.{entry_at_value}
use Rattle.acpi_read.specs.declared.typed_entries.EntryAt.{EntryAt}
use Rattle.acpi_check.specs.CollectedValues.{Picks}
use Rattle.acpi_check.proofs.EntryPasses.Kept.{AreRising}
use Rattle.acpi_check.proofs.EntryPasses.Passes.{none_passed, left_behind}
use Rattle.acpi_rules.specs.declared.place.Place.{Place}

-- ---- a pass over entries up to the first from which something is picked

-- what is picked first from those left is picked first from all
pub record IsPicking {S T : Type 0} (Gives : S → Option T → Type 0) (all left : List S) : Type 0 where
  pub listed : (s : S) → Contains left s → Contains all s
  pub others : (found : Option T) → PicksFirst Gives left found → PicksFirst Gives all found

next_picked : {S T : Type 0} (Gives : S → Option T → Type 0) (s : S) (left : List S) (found : Option T) → Gives s None
    → PicksFirst Gives left found → PicksFirst Gives (s ∷ left) found
unfolding PicksFirst
next_picked Gives s left None none more = (none, more)
next_picked Gives s left (Some value) none more = inr (none, more)

pub none_picked : {S T : Type 0} {Gives : S → Option T → Type 0} {all left : List S} {s : S}
    → IsPicking Gives all (s ∷ left) → Gives s None → IsPicking Gives all left
none_picked {Gives = Gives} {left = left} {s = s} before none =
    record {
      listed = λ t here. before.listed t (later_element s t left here);
      others = λ found more. before.others found (next_picked Gives s left found none more);
    }

pub one_picked : {S T : Type 0} {Gives : S → Option T → Type 0} {all left : List S} {s : S} {value : T}
    → IsPicking Gives all (s ∷ left) → Gives s (Some value) → PicksFirst Gives all (Some value)
unfolding PicksFirst
one_picked {value = value} before gives = before.others (Some value) (inl gives)

pub all_passed : {S T : Type 0} {Gives : S → Option T → Type 0} {all left : List S} → IsPicking Gives all left
    → left ≡ [] → PicksFirst Gives all None
unfolding PicksFirst
all_passed before none = before.others None (rw none refl)

-- ---- what is picked first from the entries of a table is at the lowest place

-- the entry at `at` is at fault with these two numbers
abbrev pub IsFaultAt : {E : Type 0} → (ℕ → E → ℕ → ℕ → Type 0) → List (PlacedEntry E) → ℕ → ℕ → ℕ → Type 0
IsFaultAt IsFault entries at other point = StandsWith entries at (λ e. IsFault at e other point)

behind : {E : Type 0} (low : ℕ) (s : PlacedEntry E) (left : List (PlacedEntry E)) → AreRising low (s ∷ left)
    → (o : ℕ) (e : E) → Stands left o e → s.offset < o
behind low s left rises o e stands = left_behind {s = s} (none_passed low (λ o e. Unit {0}) rises) o e stands

here_or_behind : {E : Type 0} (s : PlacedEntry E) (left : List (PlacedEntry E)) (o : ℕ) (e : E) → Stands (s ∷ left) o e
    → ((s.offset ≡ o) × (s.entry ≡ e)) ⊎ Stands left o e
here_or_behind {E} s left o e stands =
    elim (first_or_later s (record { offset = o; entry = e }) left stands) [
      | inl is ↦ inl (ap (λ (t : PlacedEntry E). t.offset) is, ap (λ (t : PlacedEntry E). t.entry) is)
      | inr later ↦ inr later
    ]

-- if the first entry has no fault, the lowest place is that of the others
from_left : {E : Type 0} (IsFault : ℕ → E → ℕ → ℕ → Type 0) (s : PlacedEntry E) (left : List (PlacedEntry E))
    → ((other point : ℕ) → ¬ IsFault s.offset s.entry other point)
    → (found : Option Place) → FindsLeast (IsFaultAt IsFault left) found
    → FindsLeast (IsFaultAt IsFault (s ∷ left)) found
from_left IsFault s left none None valid = λ at other point (e, stands, wrong).
    elim (here_or_behind s left at e stands) [
      | inl (place, entry) ↦
          none other point (rw (place, entry) wrong)
      | inr later ↦ valid at other point (e, later, wrong)
    ]
from_left {E} IsFault s left none (Some p) first =
    record {
      here = (
        first.here.0,
        later_element s (record { offset = p.at; entry = first.here.0 }) left first.here.1,
        first.here.2,
      );
      least = λ at other point (e, stands, wrong).
          elim (here_or_behind s left at e stands) [
            | inl (place, entry) ↦ absurd (none other point (rw (place, entry) wrong))
            | inr later ↦ first.least at other point (e, later, wrong)
          ];
    }

at_first : {E : Type 0} (IsFault : ℕ → E → ℕ → ℕ → Type 0) (low : ℕ) (s : PlacedEntry E) (left : List (PlacedEntry E))
    → AreRising low (s ∷ left) → (p : Place) → FindsOwn IsFault s (Some p) → IsLeast (IsFaultAt IsFault (s ∷ left)) p
at_first {E} IsFault low s left rises p (place, wrong, least) =
    record {
      here = subst (λ (o : ℕ). StandsWith (s ∷ left) o (λ e. IsFault o e p.other p.point)) (sym place)
          (s.entry, first_element s left, wrong);
      least = λ at other point (e, stands, fault).
          elim (here_or_behind s left at e stands) [
            | inl (same, entry) ↦ inr (place ∙ same, least other point (rw (same, entry) fault))
            | inr later ↦ inl (omega (arith, place, behind low s left rises at e later))
          ];
    }

-- the lowest place is what is picked first from entries at rising offsets, if each pick is the lowest place of its
-- entry
pub least_picked : {E : Type 0} (IsFault : ℕ → E → ℕ → ℕ → Type 0) (low : ℕ) (entries : List (PlacedEntry E))
    → AreRising low entries → (Gives : PlacedEntry E → Option Place → Type 0)
    → ((s : PlacedEntry E) (picked : Option Place) → Contains entries s → Gives s picked → FindsOwn IsFault s picked)
    → (found : Option Place) → PicksFirst Gives entries found → FindsLeast (IsFaultAt IsFault entries) found
unfolding PicksFirst
least_picked IsFault low [] rises Gives each found is =
    rw is (λ at other point (e, stands, wrong). absurd (no_element _ stands))
least_picked IsFault low (s ∷ left) rises Gives each None (none, more) =
    from_left IsFault s left (each s None (first_element s left) none) None
    (least_picked IsFault (suc s.offset) left rises.1 Gives (λ t p here. each t p (later_element s t left here)) None
    more)
least_picked IsFault low (s ∷ left) rises Gives each (Some p) (inl gives) =
    at_first IsFault low s left rises p (each s (Some p) (first_element s left) gives)
least_picked IsFault low (s ∷ left) rises Gives each (Some p) (inr (none, more)) =
    from_left IsFault s left (each s None (first_element s left) none) (Some p)
    (least_picked IsFault (suc s.offset) left rises.1 Gives (λ t q here. each t q (later_element s t left here))
    (Some p)
    more)

-- the same for what a call returns for each entry of a table
pub least_of_entries : {E Said : Type 0} (value : E → Said) {Answers : Bor (EntryAt E) → Option Place → Type 0}
    (IsFault : ℕ → Said → ℕ → ℕ → Type 0) (low : ℕ) {said entries : List (PlacedEntry Said)} (found : Option Place)
    → PicksFirst (Picks value Answers) said found → said ≡ entries → AreRising low entries
    → ((at : Bor (EntryAt E)) (picked : Option Place) → Contains entries (entry_at_value value at.now)
    → Answers at picked → FindsOwn IsFault (entry_at_value value at.now) picked)
    → FindsLeast (IsFaultAt IsFault entries) found
least_of_entries {E} {Said} value {Answers} IsFault low {said} {entries} found picks same rises each =
    least_picked IsFault low entries rises (Picks value Answers)
    (λ s picked here (at, is, answers). subst (λ (t : PlacedEntry Said). FindsOwn IsFault t picked) is
    (each at picked (subst (Contains entries) (sym is) here) answers)) found (rw same at picks)
