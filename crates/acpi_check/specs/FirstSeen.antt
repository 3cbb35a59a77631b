-- The first value that the entries of a table give each key: how it is kept, and what a later value means.
use Rattle.std.specs.Prelude.{◌≡◌, ◌≢◌, ℕ, ◌<◌, ◌≤◌, ◌⊎◌, List, Option, Some, None, slice_set}
use Rattle.std.specs.List.{slice_get}
use Rattle.acpi_base.specs.Entries.{PlacedEntry, StandsWith}
use Rattle.acpi_check.specs.declared.first_seen.FirstSeen.{FirstSeen}
use Rattle.acpi_check.specs.declared.first_seen.Given.{Given}
use Rattle.acpi_check.specs.declared.first_seen.OtherValue.{OtherValue}

-- what is read from an entry, which gives the key k the value d if `Gives k d`
abbrev pub IsGiven : {E : Type 0} → (ℕ → ℕ → E → Type 0) → E → Option Given → Type 0
IsGiven Gives e None = (k d : ℕ) → ¬ Gives k d e
IsGiven Gives e (Some given) = Gives given.key given.value e

-- ---- an entry

-- the first value of the key is recorded
abbrev pub HasFirst : List (Option FirstSeen) → ℕ → FirstSeen → Type 0
HasFirst firsts key first = slice_get firsts key ≡ Some (Some first)

-- no value of the key is recorded
abbrev pub HasNone : List (Option FirstSeen) → ℕ → Type 0
HasNone firsts key = slice_get firsts key ≡ Some None

-- the value is the first of its key, and is recorded now
pub record IsNewFirst (old new : List (Option FirstSeen)) (o : ℕ) (given : Given) : Type 0 where
  pub none : HasNone old given.key
  pub kept : new ≡ slice_set old given.key (Some (record { offset = o; value = given.value }))

-- the first value of its key is the same
pub record IsLikeFirst (old new : List (Option FirstSeen)) (given : Given) : Type 0 where
  pub first : FirstSeen
  pub listed : HasFirst old given.key first
  pub same : first.value ≡ given.value
  pub kept : new ≡ old

-- the first value of its key differs
pub record IsUnlikeFirst (old : List (Option FirstSeen)) (o : ℕ) (given : Given) (other : OtherValue) : Type 0 where
  pub first : FirstSeen
  pub listed : HasFirst old given.key first
  pub differ : first.value ≢ given.value
  pub is : other ≡ record { at = o; other = first.offset; key = given.key }

-- the entry at o gives nothing, or agrees with the first value of its key, which is recorded; or it gives another
-- value
abbrev pub PassesGiven : List (Option FirstSeen) → List (Option FirstSeen) → ℕ → Option Given → Option OtherValue → Type 0
PassesGiven old new o None None = new ≡ old
PassesGiven old new o None (Some other) = ⊥
PassesGiven old new o (Some given) None = IsNewFirst old new o given ⊎ IsLikeFirst old new given
PassesGiven old new o (Some given) (Some other) = IsUnlikeFirst old o given other

-- ---- all entries

-- the entries at `at` and, before it, at `other` give the key two values
abbrev pub IsOther : {E : Type 0} → (ℕ → ℕ → E → Type 0) → List (PlacedEntry E) → ℕ → ℕ → ℕ → Type 0
IsOther Gives entries at other key = (d h : ℕ) × StandsWith entries at (Gives key d) × StandsWith entries other (Gives key h) × (other < at) × (d ≢ h)

-- there are no two such entries before these
pub record IsFirstOther {E : Type 0} (Gives : ℕ → ℕ → E → Type 0) (entries : List (PlacedEntry E)) (found : OtherValue) : Type 0 where
  pub other : IsOther Gives entries found.at found.other found.key
  pub first : (at other key : ℕ) → IsOther Gives entries at other key → (found.at < at) ⊎ ((found.at ≡ at) × (found.other ≤ other) × (found.key ≡ key))

-- each key has at most one value, or this is the first entry that gives a key another value
abbrev pub FindsOther : {E : Type 0} → (ℕ → ℕ → E → Type 0) → List (PlacedEntry E) → Option OtherValue → Type 0
FindsOther Gives entries None = (o p k d h : ℕ) → StandsWith entries o (Gives k d) → StandsWith entries p (Gives k h) → d ≡ h
FindsOther Gives entries (Some found) = IsFirstOther Gives entries found
