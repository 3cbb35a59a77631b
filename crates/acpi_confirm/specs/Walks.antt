-- A walk over the entries of a table, and notes of where they begin.
use Rattle.std.specs.Prelude.{◌≡◌, ℕ, ◌+◌, ◌≤◌, ◌↔◌, List, [], ◌∷◌, length, Option, Some, Bool, true, false, ◌⊎◌, ◌*◌, ◌<◌, slice_index}
use denote.Ref.{Bor}
use Rattle.acpi_base.specs.Entries.{IsEntry, PlacedEntry, Stands, entries_of, end_of_entries}

-- ---- a walk over the entries of a table: each begins where the one before it ends

-- what is at the offset o: this entry, or none
pub record IsThere {E : Type 0} (entries : List (PlacedEntry E)) (o : ℕ) (there : Option E) : Type 0 where
  pub is : (e : E) → Stands entries o e ↔ (there ≡ Some e)

-- P holds for exactly this, or for none
pub record IsOnly {X : Type 0} (P : X → Type 0) (only : Option X) : Type 0 where
  pub is : (x : X) → P x ↔ (only ≡ Some x)

-- there is no entry from the offset on
pub record IsEnd (start : ℕ) (whole : List ℕ) : Type 0 where
  pub none : entries_of start whole ≡ []
  pub end : end_of_entries start whole ≡ start

-- the entry is the first from the offset on, followed by the others
pub record IsNext (start : ℕ) (whole e : List ℕ) : Type 0 where
  pub entry : IsEntry e
  pub fits : start + length e ≤ length whole
  pub first : entries_of start whole ≡ record { offset = start; entry = e } ∷ entries_of (start + length e) whole
  pub end : end_of_entries start whole ≡ end_of_entries (start + length e) whole

-- from the start on there is the same entry at an offset as in the complete table
pub record IsOnWay (first start : ℕ) (whole : List ℕ) (at : ℕ) : Type 0 where
  pub same : (e : List ℕ) → Stands (entries_of first whole) at e ↔ Stands (entries_of start whole) at e

-- by its answer for an entry's bytes, a search has found one among these entries, or no entry is one
abbrev pub FindsOne : (Bor (List ℕ) → Bool → Type 0) → List (PlacedEntry (List ℕ)) → Bool → Type 0
FindsOne Answers entries true = (o : ℕ) × (entry : Bor (List ℕ)) × Stands entries o entry.now × Answers entry true
FindsOne Answers entries false = (o : ℕ) (e : List ℕ) → Stands entries o e → (entry : Bor (List ℕ)) × (entry.now ≡ e) × Answers entry false

pub record FindsAny (Answers : Bor (List ℕ) → Bool → Type 0) (entries : List (PlacedEntry (List ℕ))) (r : Bool) : Type 0 where
  pub one : FindsOne Answers entries r

-- ---- notes of where entries of a PPTT begin. The table's bytes are divided into blocks of one size. The note of a block
-- says how many bytes after the block's beginning an entry begins; 255 means that there is no note.

-- there is an entry at the offset
abbrev pub HasEntryAt : List ℕ → ℕ → Type 0
HasEntryAt whole o = (e : List ℕ) × Stands (entries_of 36 whole) o e

-- the note of a block says that an entry begins at the offset
pub record IsNoted (size : ℕ) (notes : List ℕ) (o : ℕ) : Type 0 where
  pub block : ℕ
  pub within : block < length notes
  pub some : slice_index notes block < 255
  pub place : block * size + slice_index notes block ≡ o

-- there is an entry at each noted offset
pub record AreStarts (size : ℕ) (notes whole : List ℕ) : Type 0 where
  pub some : 1 ≤ size
  pub stand : (o : ℕ) → IsNoted size notes o → HasEntryAt whole o

-- each offset that is noted now was noted before, except perhaps this one
pub record AreNotedWith (size start : ℕ) (old new : List ℕ) : Type 0 where
  pub either : (o : ℕ) → IsNoted size new o → IsNoted size old o ⊎ (o ≡ start)
