-- The first of a list of tables with a signature, and the requirements on the tables that are written again.
use Rattle.std.proofs.Common.{◌≡◌, ℕ, Bool, true, false, List, [], ◌∷◌, ◌++◌, map, Option, Some, None, refl, ◌∙◌, subst, inl, inr}
use Rattle.std.specs.Prelude.{not, ◌&&◌, ◌||◌, if◌then◌else◌}
use Rattle.std.specs.List.{AllByRecursion}
use Rattle.std.proofs.lemmas.Bool.{cases_Bool}
use Rattle.std.proofs.Math.Bool.{and-true}
use Rattle.std.proofs.lemmas.List.Folds.{list_any-append}
use Rattle.acpi_base.specs.Signature.{has_signature}
use Rattle.acpi_base.specs.Fadt.{IsValidFadtTable}
use Rattle.acpi_base.specs.Listed.{fadt_signature}
use Rattle.acpi_base.specs.TableKinds.{signature_of}
use Rattle.acpi_base.specs.declared.table_kind.TableKind.{TableKind}
use Rattle.acpi_write.specs.Bodies.{IsReadableAs}
use Rattle.acpi_write.specs.Kinds.{is_among}
use Rattle.acpi_write.specs.SetValues.{is_first, values_of}
use Rattle.acpi_write.proofs.TablesWritten.KeptContents.{IsCleanTable}
use Rattle.acpi_write.specs.Encoded.{encoded_bytes_with}

-- ---- definitions

-- the first of the tables with this signature
unfoldable pub first_table_with : List ℕ → List (List ℕ) → Option (List ℕ)
first_table_with signature [] = None
first_table_with signature (t ∷ ts) = if has_signature t signature then Some t else first_table_with signature ts

-- tables are complete, the first of each kind can be read by its contents, and the first FADT is valid
pub record AreCleanTables (ts : List (List ℕ)) : Type 0 where
  pub each : AllByRecursion IsCleanTable ts
  pub readable : (kind : TableKind) (t : List ℕ) → first_table_with (signature_of kind) ts ≡ Some t
      → IsReadableAs (Some kind) t
  pub valid : (t : List ℕ) → first_table_with fadt_signature ts ≡ Some t → IsValidFadtTable t

-- the tables that are written for what these say, if the FACS is at this address
abbrev pub new_tables : ℕ → List (List ℕ) → List (List ℕ)
new_tables facs ts = map (encoded_bytes_with facs) (values_of ts)

-- ---- the first one

pub first_parts : (a b : Bool) → (a && not b) ≡ true → (a ≡ true) × (b ≡ false)
first_parts true false e = (refl, refl)
first_parts true true e = absurd (cc)
first_parts false b e = absurd (cc)

or_parts : (a b : Bool) → (a || b) ≡ false → (a ≡ false) × (b ≡ false)
or_parts false false e = (refl, refl)
or_parts false true e = absurd (cc)
or_parts true b e = absurd (cc)

pub first_is : (before : List (List ℕ)) (t : List ℕ) (rest : List (List ℕ)) (signature : List ℕ)
    → is_first before t signature ≡ true → first_table_with signature (before ++ t ∷ rest) ≡ Some t
unfolding first_table_with
first_is [] t rest signature is = rw ((first_parts (has_signature t signature) false is).0) refl
first_is (b ∷ before) t rest signature is =
    let parts = first_parts (has_signature t signature) (is_among (b ∷ before) signature) is in
    let others = or_parts (has_signature b signature) (is_among before signature) parts.1 in
    rw others.0 (first_is before t rest signature (rw (parts.0, others.1) refl))

pub is_behind : (before : List (List ℕ)) (t signature : List ℕ) → is_among before signature ≡ false
    → is_first before t signature ≡ has_signature t signature
is_behind before t signature none = rw none (and-true (has_signature t signature))

pub none_more : (before : List (List ℕ)) (t signature : List ℕ) → is_among before signature ≡ false
    → has_signature t signature ≡ false → is_among (before ++ t ∷ []) signature ≡ false
none_more before t signature none other =
    list_any-append (λ x. has_signature x signature) before (t ∷ []) ∙ both none other
  where
    both : is_among before signature ≡ false → has_signature t signature ≡ false
        → (is_among before signature || is_among (t ∷ []) signature) ≡ false
    both none other = rw (none, other) refl

pub holds_of_first : (P : List ℕ → Type 0) (signature : List ℕ) (ts : List (List ℕ)) (t : List ℕ) → AllByRecursion P ts
    → first_table_with signature ts ≡ Some t → P t
unfolding first_table_with
holds_of_first P signature [] t each is = absurd (cc)
holds_of_first P signature (u ∷ ts) t each is =
    elim (cases_Bool (has_signature u signature)) [
      | inl has ↦ subst P (cc) each.0
      | inr other ↦ holds_of_first P signature ts t each.1 (cc)
    ]

pub clean_first : (signature : List ℕ) (ts : List (List ℕ)) (t : List ℕ) → AreCleanTables ts
    → first_table_with signature ts ≡ Some t → IsCleanTable t
clean_first signature ts t clean is = holds_of_first IsCleanTable signature ts t clean.each is
