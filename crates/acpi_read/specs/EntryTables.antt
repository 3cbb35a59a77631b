-- The faults of a table of entries, if each entry is checked by itself.
use Rattle.std.specs.Prelude.{◌≡◌, ℕ, ◌<◌, Bool, false, List, length, Option, Some, None, ◌==◌, if◌then◌else◌}
use Rattle.acpi_base.specs.Codes.{code_number, stage_of}
use Rattle.acpi_base.specs.Entries.{PlacedEntry, StandsWith, AreUnused, entries_of, cut_of, entries_read_by}
use Rattle.acpi_base.specs.Policy.{PolicyValue}
use Rattle.acpi_base.specs.declared.code.Code.{Code}
use Rattle.acpi_base.specs.declared.stage.Stage.{Stage}
use Rattle.acpi_read.specs.declared.entry_codes.EntryCodes.{EntryCodes}
use Rattle.acpi_read.specs.declared.entry_codes.Subject.{Subject}
use Rattle.acpi_read.specs.declared.entry_codes.Subject.TheVariants.{Short, Cut, Second, Own}

-- ---- what a fault is about

-- whether this is the code
abbrev pub is_code : Option Code → Code → Bool
is_code None c = false
is_code (Some one) c = code_number one == code_number c

-- what a fault with a code is about
abbrev pub subject_of : EntryCodes → Code → Subject
subject_of codes c =
    if is_code codes.short c then Short
    else if is_code (Some codes.cut) c then Cut
    else if is_code codes.second c then Second
    else Own

-- ---- the faults

-- a table of entries: the offset of the first entry, what an entry's bytes say, the faults that an entry has by itself, by
-- their code, and the entries of which a table has at most one
pub record EntryTable (E : Type 0) : Type 1 where
  pub first : ℕ
  pub read : List ℕ → E
  pub IsOwn : Code → E → Type 0
  pub IsSingle : E → Type 0

abbrev pub entry_table : {E : Type 0} → ℕ → (List ℕ → E) → (Code → E → Type 0) → (E → Type 0) → EntryTable E
entry_table first read IsOwn IsSingle = record { first = first; read = read; IsOwn = IsOwn; IsSingle = IsSingle }

-- the entries of a table with these bytes
abbrev pub entries_in : {E : Type 0} → EntryTable E → List ℕ → List (PlacedEntry E)
entries_in t whole = entries_read_by t.read (entries_of t.first whole)

-- a fault with this code, about this
abbrev pub IsAbout : {E : Type 0} → EntryTable E → List ℕ → Subject → Code → ℕ → ℕ → ℕ → Type 0
IsAbout t whole Short c at other point = (length whole < t.first) × (at ≡ 0) × AreUnused other point
IsAbout t whole Cut c at other point = (cut_of t.first whole ≡ Some at) × AreUnused other point
IsAbout t whole Second c at other point = StandsWith (entries_in t whole) at t.IsSingle × StandsWith (entries_in t whole) other t.IsSingle × (other < at) × (point ≡ 0)
IsAbout t whole Own c at other point = StandsWith (entries_in t whole) at (t.IsOwn c) × AreUnused other point

-- these are the faults of a stage, of a table with these bytes under a policy; without one it holds. An entry of which a table
-- has at most one has none by itself.
pub record AreFaults {E : Type 0} (s : Stage) (codes : EntryCodes) (table : PolicyValue → EntryTable E) (IsFault : PolicyValue → List ℕ → Code → ℕ → ℕ → ℕ → Type 0) (IsValid : PolicyValue → List ℕ → Type 0) : Type 0 where
  pub cut : subject_of codes codes.cut ≡ Cut
  pub own : (q : PolicyValue) (c : Code) (e : E) → (table q).IsOwn c e → subject_of codes c ≡ Own
  pub single : (q : PolicyValue) (c : Code) (e : E) → (table q).IsSingle e → ¬ (table q).IsOwn c e
  pub about : (q : PolicyValue) (whole : List ℕ) (c : Code) (at other point : ℕ) → IsFault q whole c at other point → (stage_of c ≡ s) × IsAbout (table q) whole (subject_of codes c) c at other point
  pub fault : (q : PolicyValue) (whole : List ℕ) (c : Code) (at other point : ℕ) → IsAbout (table q) whole (subject_of codes c) c at other point → IsFault q whole c at other point
  pub valid : (q : PolicyValue) (whole : List ℕ) → ((c : Code) (at other point : ℕ) → ¬ IsFault q whole c at other point) → IsValid q whole
