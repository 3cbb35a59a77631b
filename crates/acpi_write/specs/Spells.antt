-- Which bytes encode which value.
use Rattle.std.specs.Prelude.{◌≡◌, ℕ, ◌≤◌, List, length, true}
use Rattle.std.specs.List.{All}
use Rattle.acpi_base.specs.Number.{byte_sum}
use Rattle.acpi_base.specs.Header.{HeadValue, head_of}
use Rattle.acpi_base.specs.Signature.{has_signature}
use Rattle.acpi_base.specs.Tables.{length_of}
use Rattle.acpi_base.specs.TableKinds.{signature_of}
use Rattle.acpi_base.specs.Entries.{IsEntry}
use Rattle.acpi_write.specs.Bodies.{SpellsBody}
use Rattle.acpi_write.specs.Values.{TableValue, Known, Other, kind_of}

-- all bytes of a table: there are at least the 36 of a header, whose Length is their number, and they sum to 0 (5.2.6)
pub record IsCompleteTable (bytes : List ℕ) : Type 0 where
  pub least : 36 ≤ length bytes
  pub size : length_of bytes ≡ length bytes
  pub zero_sum : byte_sum bytes ≡ 0

-- the same, and the header has this signature and these other contents
pub record IsTableOf (signature : List ℕ) (head : HeadValue) (bytes : List ℕ) : Type 0 where
  pub least : 36 ≤ length bytes
  pub signed : has_signature bytes signature ≡ true
  pub head_is : head_of bytes ≡ head
  pub size : length_of bytes ≡ length bytes
  pub zero_sum : byte_sum bytes ≡ 0

-- the bytes are an entry with this value
abbrev pub SaysEntry : {E : Type 0} → (List ℕ → E) → List ℕ → E → Type 0
SaysEntry read e v = IsEntry e × (read e ≡ v)

-- the bytes that are written for each of these are an entry with its value
abbrev pub DoEntriesSay : {X E : Type 0} → (List ℕ → E) → (E → List ℕ) → (X → E) → List X → Type 0
DoEntriesSay read bytes_of value xs = All (λ x. SaysEntry read (bytes_of (value x)) (value x)) xs

-- the bytes encode the value: for a table of a kind by its header and the bytes after it, for another table by all
-- bytes
abbrev pub Spells : TableValue → List ℕ → Type 0
Spells (Known head v) bytes = IsTableOf (signature_of (kind_of v)) head bytes × SpellsBody v bytes
Spells (Other all) bytes = IsCompleteTable bytes × (bytes ≡ all)

-- two values of one kind
abbrev pub AreOneKind : TableValue → TableValue → Type 0
AreOneKind (Known _ v) (Known _ w) = kind_of v ≡ kind_of w
AreOneKind (Other _) (Other _) = Unit {0}
AreOneKind _ _ = ⊥

-- bytes encode at most one value of a kind
abbrev pub OneValueSpelled : Type 0
OneValueSpelled = (bytes : List ℕ) (v w : TableValue) → AreOneKind v w → Spells v bytes → Spells w bytes → v ≡ w
