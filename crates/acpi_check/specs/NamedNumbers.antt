-- Numbers that the entries of a table name, and the first of them that is not known.
use Rattle.std.specs.Prelude.{◌≡◌, ℕ, List, Option, Some, None}
use Rattle.acpi_base.specs.Entries.{PlacedEntry, Stands, StandsWith}
use Rattle.acpi_base.specs.Faults.{NotAfter}
use Rattle.acpi_base.specs.declared.code.Code.{Code}
use Rattle.acpi_base.specs.declared.witness.Witness.{Witness}

-- ---- one entry

-- the number that an entry names, if any, is known
abbrev pub IsKnown : (ℕ → Type 0) → Option ℕ → Type 0
IsKnown Known number = (n : ℕ) → number ≡ Some n → Known n

-- w is the fault, under this code, that the number that the entry at o names is not known
pub record IsUnknown (Known : ℕ → Type 0) (fault : Code) (o : ℕ) (number : Option ℕ) (w : Witness) : Type 0 where
  pub code : w.code ≡ fault
  pub at : w.at ≡ o
  pub other : w.other ≡ 0
  pub names : number ≡ Some w.point
  pub unknown : ¬ Known w.point

-- ---- all entries

-- these entries are among those
pub record AreAmong {E : Type 0} (left all : List (PlacedEntry E)) : Type 0 where
  pub listed : (o : ℕ) (e : E) → Stands left o e → Stands all o e

-- an entry at o names the number n
abbrev pub NamesAt : {E : Type 0} → (E → Option ℕ) → List (PlacedEntry E) → ℕ → ℕ → Type 0
NamesAt read entries o n = StandsWith entries o (λ e. read e ≡ Some n)

-- w is the fault, under this code, of the first entry with such a number
pub record IsFirstUnknown {E : Type 0} (Known : ℕ → Type 0) (read : E → Option ℕ) (fault : Code) (entries : List (PlacedEntry E)) (w : Witness) : Type 0 where
  pub code : w.code ≡ fault
  pub other : w.other ≡ 0
  pub names : NamesAt read entries w.at w.point
  pub unknown : ¬ Known w.point
  pub first : (o n : ℕ) → NamesAt read entries o n → ¬ Known n → NotAfter w (record { code = fault; at = o; other = 0; point = n })

-- all numbers that entries name are known, or this is the fault of the first that is not
abbrev pub FindsUnknown : {E : Type 0} → (ℕ → Type 0) → (E → Option ℕ) → Code → List (PlacedEntry E) → Option Witness → Type 0
FindsUnknown Known read fault entries None = (o n : ℕ) → NamesAt read entries o n → Known n
FindsUnknown Known read fault entries (Some w) = IsFirstUnknown Known read fault entries w
