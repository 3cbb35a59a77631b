-- What a pass over the entries of a table returns.
use Rattle.std.specs.Prelude.{◌≡◌, Option, ℕ, ◌≤◌, ◌⊎◌, Some, None, Result, Ok, Err}
use Rattle.acpi_base.specs.Entries.{AreUnused}
use Rattle.acpi_base.specs.Codes.{code_number}
use Rattle.acpi_base.specs.declared.code.Code.{Code}
use Rattle.acpi_base.specs.declared.stage.Stage.{Stage}
use Rattle.acpi_base.specs.declared.witness.Witness.{Witness}
use Rattle.acpi_read.specs.EntryTables.{EntryTable, subject_of}
use Rattle.acpi_read.specs.declared.entry_codes.EntryCodes.{EntryCodes}
use Rattle.acpi_read.specs.declared.entry_codes.Subject.TheVariants as subject
use Rattle.acpi_check.specs.TableResults.{IsFirstOfTable}

-- the tables are valid, or this is their first fault
abbrev pub FindsFault : Stage → Type 0 → (Code → ℕ → ℕ → ℕ → Type 0) → Option Witness → Type 0
FindsFault s Valid IsFault None = Valid
FindsFault s Valid IsFault (Some w) = IsFirstOfTable s IsFault w

-- of the codes of which `Has` holds this is the lowest
abbrev pub IsLowest : (Code → Type 0) → Code → Type 0
IsLowest Has c = Has c × ((other : Code) → Has other → code_number c ≤ code_number other)

-- w is the lowest fault that an entry has by itself
pub record IsOwnFault (IsOwn : Code → Type 0) (w : Witness) : Type 0 where
  pub lowest : IsLowest IsOwn w.code
  pub unused : AreUnused w.other w.point

-- w is the fault of a second entry of a kind of which a table has at most one; `earlier` is the offset of the first
pub record IsSecondFault (Single : Type 0) (codes : EntryCodes) (earlier : Option ℕ) (w : Witness) : Type 0 where
  pub code : subject_of codes w.code ≡ subject.Second
  pub single : Single
  pub first : earlier ≡ Some w.other
  pub unused : w.point ≡ 0

-- the offset of the first of these, after the entry at o
abbrev pub IsFirstAfter : Type 0 → ℕ → Option ℕ → Option ℕ → Type 0
IsFirstAfter Single o earlier now = (Single × (earlier ≡ None) × (now ≡ Some o)) ⊎ ((¬ Single) × (now ≡ earlier))

-- the entry at o has no fault by itself, and this is the offset of the first of those of which a table has at most one, with
-- this one counted; or this is its lowest fault
abbrev pub PassesEntry : {E : Type 0} → EntryTable E → EntryCodes → ℕ → E → Option ℕ → Result (Option ℕ) Witness → Type 0
PassesEntry t codes o e earlier (Ok now) = ((c : Code) → ¬ t.IsOwn c e) × IsFirstAfter (t.IsSingle e) o earlier now
PassesEntry t codes o e earlier (Err w) = (w.at ≡ o) × (IsOwnFault (λ c. t.IsOwn c e) w ⊎ IsSecondFault (t.IsSingle e) codes earlier w)
