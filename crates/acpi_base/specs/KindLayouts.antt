-- The layouts of kinds of entries: type, length, and after them numbers and reserved bytes.
use Rattle.std.specs.Prelude.{◌≡◌, ℕ, ◌+◌, ◌<◌, Bool, true, false, List, [], ◌∷◌, length, slice_index}
use Rattle.acpi_base.specs.Layouts.{Part, NumberOf, Fixed, Reserved, PartValue, Number, layout_size, values_at, layout_bytes, IsOfLayout, HasValues}
use Rattle.acpi_base.specs.Entries.{EntryType, IsEntryOf}

-- each number of the list is a byte
abbrev pub AreByteValues : List ℕ → Type 0
AreByteValues bytes = (k : ℕ) → slice_index bytes k < 256

-- the parts are numbers and reserved bytes
abbrev pub are_numbers : List Part → Bool
are_numbers [] = true
are_numbers (NumberOf n ∷ parts) = are_numbers parts
are_numbers (Reserved n ∷ parts) = are_numbers parts
are_numbers _ = false

-- there is a value for each number
abbrev pub HaveNumbers : List Part → List PartValue → Type 0
HaveNumbers [] [] = Unit {0}
HaveNumbers (NumberOf n ∷ parts) (Number x ∷ values) = HaveNumbers parts values
HaveNumbers (Reserved n ∷ parts) values = HaveNumbers parts values
HaveNumbers _ _ = ⊥

-- The layout of a kind: its parts after the type and the length, and their values for what an entry says.
pub record KindLayout (V : Type 0) : Type 0 where
  pub kind : EntryType V
  pub rest : List Part
  pub values : V → List PartValue

-- all its parts
abbrev pub parts_of : {V : Type 0} → KindLayout V → List Part
parts_of l = Fixed l.kind.type ∷ Fixed l.kind.size ∷ l.rest

-- the bytes that are written for what an entry says
abbrev pub bytes_of : {V : Type 0} → KindLayout V → V → List ℕ
bytes_of l v = layout_bytes (parts_of l) (l.values v)

-- the parts have the kind's length, and are where the kind reads the fields of an entry
pub record IsLaidOut {V : Type 0} (l : KindLayout V) : Type 0 where
  pub counted : 2 + layout_size l.rest ≡ l.kind.size
  pub numbers : are_numbers l.rest ≡ true
  pub typed : l.kind.type < 256
  pub sized : l.kind.size < 256
  pub shaped : (e : List ℕ) → length e ≡ l.kind.size → HaveNumbers l.rest (l.values (l.kind.read e))
  pub reads : (e : List ℕ) (v : V) → length e ≡ l.kind.size → values_at 2 l.rest e ≡ l.values v → l.kind.read e ≡ v
  pub agrees : (e : List ℕ) → length e ≡ l.kind.size → AreByteValues e → l.values (l.kind.read e) ≡ values_at 2 l.rest e

-- ---- of values of the program

-- The structures of this layout are the entries of the kind: v has the values of an entry e, a list of bytes, exactly if
-- `say v` is what the kind reads of e. All bytes with the kind's type and length are structures of the layout.
pub record LaysOut {S V : Type 0} (k : EntryType V) (parts : List Part) (values : S → List PartValue) (Allows : List ℕ → Type 0) (say : S → V) : Type 0 where
  pub reads : (e : List ℕ) (v : S) → HasValues parts e (values v) → IsEntryOf k e (say v)
  pub writes : (e : List ℕ) (v : S) → AreByteValues e → IsEntryOf k e (say v) → HasValues parts e (values v)
  pub formed : (e : List ℕ) → length e ≡ k.size → slice_index e 0 ≡ k.type → slice_index e 1 ≡ k.size → IsOfLayout parts e × Allows e

-- ---- of the kinds of a table

-- the bytes that are written for what an entry of the kind says are an entry of the kind that says the same
pub record KeepsKind {E : Type 0} (write : E → List ℕ) (k : EntryType E) : Type 0 where
  pub count : (e : List ℕ) → length e ≡ k.size → length (write (k.read e)) ≡ k.size
  pub again : (e : List ℕ) → length e ≡ k.size → AreByteValues e → IsEntryOf k (write (k.read e)) (k.read e)

-- the same for each of the kinds
abbrev pub KeepKinds : {E : Type 0} → (E → List ℕ) → List (EntryType E) → Type 0
KeepKinds write [] = Unit {0}
KeepKinds write (k ∷ kinds) = KeepsKind write k × KeepKinds write kinds
