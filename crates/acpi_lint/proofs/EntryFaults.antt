-- The faults of a table of entries, by what they are about.
use Rattle.std.proofs.Common.{◌≡◌, ℕ, ◌<◌, List, [], ◌∷◌, length, Option, Some, None, refl}
use Rattle.std.specs.Prelude.{Contains}
use Rattle.acpi_base.specs.Entries.{StandsWith, AreUnused}
use Rattle.acpi_base.specs.Policy.{PolicyValue}
use Rattle.acpi_base.specs.declared.code.Code.{Code}
use Rattle.acpi_base.specs.declared.stage.Stage.{Stage}
use Rattle.acpi_base.proofs.Elements.{first_element}
use Rattle.acpi_read.specs.EntryTables.{EntryTable, entries_in, subject_of, IsAbout, AreFaults}
use Rattle.acpi_read.specs.declared.entry_codes.EntryCodes.{EntryCodes}
use Rattle.acpi_read.specs.declared.entry_codes.Subject.{Subject}
use Rattle.acpi_read.specs.declared.entry_codes.Subject.TheVariants.{Second, Own}
use Rattle.acpi_check.proofs.EntryPasses.Kept.{rising}
use Rattle.acpi_check.proofs.EntryPasses.Passes.{none_said}
use Rattle.acpi_rules.specs.Places.{FindsLeast}
use Rattle.acpi_lint.specs.Places.{IsSoughtEntry, PicksFirst, FindsOwn}
use Rattle.acpi_lint.specs.declared.passes.SoughtEntry.{SoughtEntry}
use Rattle.acpi_lint.specs.declared.passes.SoughtEntry.TheVariants as sought
use Rattle.acpi_rules.specs.declared.place.Place.{Place}
use Rattle.acpi_lint.proofs.FirstEntries.{IsFaultAt, least_picked}
use Rattle.acpi_rules.proofs.LeastPlaces.{least_as}
use Rattle.acpi_lint.proofs.LeastPlaces.{least_outside, no_two, first_two}

-- ---- what is looked for

least_sought : {E : Type 0} (t : EntryTable E) (whole : List ℕ) (what : SoughtEntry) (found : Option Place)
    → PicksFirst (FindsOwn (IsSoughtEntry t what)) (entries_in t whole) found
    → FindsLeast (IsFaultAt (IsSoughtEntry t what) (entries_in t whole)) found
least_sought t whole what found picks =
    least_picked (IsSoughtEntry t what) t.first (entries_in t whole) (rising t.read t.first whole)
    (FindsOwn (IsSoughtEntry t what)) (λ s p here gives. gives) found picks

-- a table that ends before the offset of its first entry has none
nothing_picked : {S T : Type 0} (Gives : S → Option T → Type 0) (entries : List S) → ((s : S) → ¬ Contains entries s)
    → PicksFirst Gives entries None
unfolding PicksFirst
nothing_picked Gives [] none = refl
nothing_picked Gives (s ∷ left) none = absurd (none s (first_element s left))

pub none_sought : {E : Type 0} (t : EntryTable E) (whole : List ℕ) (what : SoughtEntry) → length whole < t.first
    → PicksFirst (FindsOwn (IsSoughtEntry t what)) (entries_in t whole) None
none_sought t whole what short =
    nothing_picked (FindsOwn (IsSoughtEntry t what)) (entries_in t whole)
    (λ s here. none_said t.read t.first whole short s.offset s.entry here)

-- ---- by what a fault is about

pub own_found : {E : Type 0} (t : EntryTable E) (whole : List ℕ) (c : Code) (found : Option Place)
    → PicksFirst (FindsOwn (IsSoughtEntry t (sought.Own c))) (entries_in t whole) found
    → FindsLeast (IsAbout t whole Own c) found
own_found t whole c found picks =
    least_outside (entries_in t whole) (t.IsOwn c) (λ at other point. AreUnused other point) found
    (least_sought t whole (sought.Own c) found picks)

first_single : {E : Type 0} (t : EntryTable E) (whole : List ℕ) (found : Option Place)
    → PicksFirst (FindsOwn (IsSoughtEntry t sought.Single)) (entries_in t whole) found
    → FindsLeast (λ at other point. StandsWith (entries_in t whole) at t.IsSingle × AreUnused other point) found
first_single t whole found picks =
    least_outside (entries_in t whole) t.IsSingle (λ at other point. AreUnused other point) found
    (least_sought t whole sought.Single found picks)

pub no_second : {E : Type 0} (t : EntryTable E) (whole : List ℕ) (c : Code)
    → PicksFirst (FindsOwn (IsSoughtEntry t sought.Single)) (entries_in t whole) None
    → FindsLeast (IsAbout t whole Second c) None
no_second t whole c none =
    no_two {IsAt = λ at. StandsWith (entries_in t whole) at t.IsSingle} (first_single t whole None none)

pub second_found : {E : Type 0} (t : EntryTable E) (whole : List ℕ) (c : Code) (first : Place) (found : Option Place)
    → PicksFirst (FindsOwn (IsSoughtEntry t sought.Single)) (entries_in t whole) (Some first)
    → PicksFirst (FindsOwn (IsSoughtEntry t (sought.SingleAfter first.at))) (entries_in t whole) found
    → FindsLeast (IsAbout t whole Second c) found
second_found t whole c first found one behind =
    first_two {IsAt = λ at. StandsWith (entries_in t whole) at t.IsSingle} first found
    (first_single t whole (Some first) one)
    (least_as found (λ at other point (e, here, (is, less, same, unused)). ((e, here, is), less, same, unused))
    (λ at other point ((e, here, is), less, same, unused). (e, here, (is, less, same, unused)))
    (least_sought t whole (sought.SingleAfter first.at) found behind))

-- the lowest place of a fault about what the code is about is that of the stage
pub of_stage : {E : Type 0} {s : Stage} {codes : EntryCodes} {table : PolicyValue → EntryTable E}
    {IsFault : PolicyValue → List ℕ → Code → ℕ → ℕ → ℕ → Type 0} {IsValid : PolicyValue → List ℕ → Type 0}
    (q : PolicyValue) (whole : List ℕ) (c : Code) (about : Subject) (found : Option Place)
    → AreFaults s codes table IsFault IsValid → about ≡ subject_of codes c
    → FindsLeast (IsAbout (table q) whole about c) found → FindsLeast (IsFault q whole c) found
of_stage {table = table} q whole c about found are is least =
    least_as found (are.fault q whole c) (λ at other point wrong. (are.about q whole c at other point wrong).1)
    (rw is at least)
