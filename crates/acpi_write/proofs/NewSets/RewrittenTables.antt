-- The table that is written for what a table of a clean set says: it has the same contents, and says the same.
use Rattle.std.proofs.Common.{◌≡◌, ℕ, true, List, drop, Option, Some, None, sym, ap, ◌∙◌, subst, arith, length-drop}
use Rattle.acpi_base.specs.Header.{head_of}
use Rattle.acpi_base.specs.Fadt.{IsValidFadtTable}
use Rattle.acpi_base.specs.Listed.{fadt_signature}
use Rattle.acpi_base.specs.TableKinds.{signature_of}
use Rattle.acpi_base.specs.declared.table_kind.TableKind.{TableKind}
use Rattle.acpi_base.specs.declared.table_kind.TableKind.TheVariants as kind
use Rattle.acpi_write.specs.Bodies.{value_of, IsReadableAs}
use Rattle.acpi_write.specs.Encoded.{encoded_bytes_with, table_bytes}
use Rattle.acpi_write.specs.FadtBody.{with_facs}
use Rattle.acpi_write.specs.Kinds.{IsKindBehind}
use Rattle.acpi_write.specs.Laws.{KeepsContents}
use Rattle.acpi_write.specs.SetValues.{is_first, table_value_as, table_value_behind}
use Rattle.acpi_write.specs.Values.{Known}
use Rattle.acpi_write.proofs.OldSets.LaterValues.{says, kind_found, IsRewritten, as_first, as_it_was}
use Rattle.acpi_write.proofs.Tables.Kinds.{facts}
use Rattle.acpi_write.proofs.TablesWritten.FadtBodies.{with_facs-with_facs}
use Rattle.acpi_write.proofs.TablesWritten.KeptContents.{IsCleanTable, kept}

-- what is required of a table, after others, for this
pub record IsCleanBehind (before : List (List ℕ)) (whole : List ℕ) : Type 0 where
  pub clean : IsCleanTable whole
  pub readable : (kind : TableKind) → is_first before whole (signature_of kind) ≡ true → IsReadableAs (Some kind) whole
  pub valid : is_first before whole fadt_signature ≡ true → IsValidFadtTable whole

-- the table that is written for what one says
abbrev pub new_of : ℕ → List (List ℕ) → List ℕ → List ℕ
new_of facs before old = encoded_bytes_with facs (table_value_behind before old)

pub new_kept : (facs : ℕ) (before : List (List ℕ)) (old : List ℕ) (kind : TableKind) → IsCleanBehind before old
    → is_first before old (signature_of kind) ≡ true → KeepsContents kind old (new_of facs before old)
new_kept facs before old kind is first =
    subst (λ v. KeepsContents kind old (encoded_bytes_with facs v)) (sym (says before old (Some kind) first))
    (kept kind facs old is.clean ((facts kind).filled old (is.readable kind first)))

pub new_fadt : (facs : ℕ) (before : List (List ℕ)) (old : List ℕ) → IsCleanBehind before old
    → is_first before old fadt_signature ≡ true
    → new_of facs before old ≡ table_bytes fadt_signature (head_of old) (with_facs (drop 36 old) facs)
new_fadt facs before old is first =
    let long = (is.valid first).long in
    ap (encoded_bytes_with facs) (says before old (Some kind.Fadt) first)
    ∙ ap (table_bytes fadt_signature (head_of old))
    (with_facs-with_facs (drop 36 old) 0 facs (omega (arith, length-drop 36 old, long)))

rewritten_as : (facs : ℕ) (before : List (List ℕ)) (old : List ℕ) → IsCleanBehind before old → (kind : Option TableKind)
    → IsKindBehind before old kind → IsRewritten before old (new_of facs before old)
rewritten_as facs before old is (Some kind) first =
    let again = new_kept facs before old kind is first in
    let new = new_of facs before old in
    let same : table_value_as (Some kind) new ≡ table_value_as (Some kind) old =
    λ i. Known (again.table.head_is i) (value_of kind (again.contents i)) in
    as_first kind before old new first again.table same
rewritten_as facs before old is None none =
    subst (λ v. IsRewritten before old (encoded_bytes_with facs v)) (sym (says before old None none))
    (as_it_was before old none is.clean.table)

pub rewritten : (facs : ℕ) (before : List (List ℕ)) (old : List ℕ) → IsCleanBehind before old
    → IsRewritten before old (new_of facs before old)
rewritten facs before old is =
    let found = kind_found before old in
    rewritten_as facs before old is found.0 found.1
