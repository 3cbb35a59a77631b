-- The facts that are proved about each kind of table.
use Rattle.std.proofs.Common.{◌≡◌, ℕ, ◌+◌, ◌≤◌, List, length, drop, Some}
use Rattle.acpi_base.specs.Header.{head_of}
use Rattle.acpi_base.specs.Listed.{IsListedTable}
use Rattle.acpi_base.specs.Memory.{Memory}
use Rattle.acpi_base.specs.Policy.{PolicyValue}
use Rattle.acpi_base.specs.Statements.{IsClean}
use Rattle.acpi_base.specs.TableKinds.{signature_of}
use Rattle.acpi_base.specs.declared.table_kind.TableKind.{TableKind}
use Rattle.acpi_write.specs.Bodies.{contents_of, value_in, whole_value_in, IsFilledAs, IsReadableAs, body_bytes, body_with, SpellsBody}
use Rattle.acpi_write.specs.Laws.{AreByteValues}
use Rattle.acpi_write.specs.Values.{kind_of}

-- a table has the head, the length and the body that are written for another one, if the FACS is at this address
pub record IsWrittenFor (kind : TableKind) (facs : ℕ) (whole new : List ℕ) : Type 0 where
  pub low : AreByteValues whole
  pub filled : IsFilledAs kind whole
  pub head : head_of new ≡ head_of whole
  pub count : length new ≡ length whole
  pub body : drop 36 new ≡ body_with facs (value_in kind whole)

pub record KindFacts (kind : TableKind) : Type 0 where
  -- a value that is read as one of the kind is one of the kind
  pub kind_is : (whole : List ℕ) → (kind_of (value_in kind whole) ≡ kind) × (kind_of (whole_value_in kind whole) ≡ kind)
  -- it is written in as many bytes
  pub count : (facs : ℕ) (whole : List ℕ) → 36 ≤ length whole → IsFilledAs kind whole
      → 36 + length (body_with facs (value_in kind whole)) ≡ length whole
  -- its bytes are those for no FACS
  pub plain : (whole : List ℕ) → IsFilledAs kind whole
      → body_with 0 (value_in kind whole) ≡ body_bytes (value_in kind whole)
  -- they have the same contents
  pub kept : (facs : ℕ) (whole new : List ℕ) → IsWrittenFor kind facs whole new
      → contents_of kind new ≡ contents_of kind whole
  -- the table's bytes encode it, with the FACS addresses
  pub spelled : (whole : List ℕ) → 36 ≤ length whole → IsReadableAs (Some kind) whole
      → SpellsBody (whole_value_in kind whole) whole
  -- entries fill what can be read
  pub filled : (whole : List ℕ) → IsReadableAs (Some kind) whole → IsFilledAs kind whole
  -- a table of a clean set can be read
  pub readable : (m : Memory) (q : PolicyValue) (whole : List ℕ) → IsClean m q
      → IsListedTable m q.rsdp (signature_of kind) whole → IsReadableAs (Some kind) whole
