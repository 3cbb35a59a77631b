-- The tables that are written for what the tables of a clean set say: they say the same, and the first of each kind is
-- written for the first.
use Rattle.std.proofs.Common.{◌≡◌, ℕ, ◌<◌, ◌≤◌, true, false, List, [], ◌∷◌, ◌++◌, length, map, drop, Option, Some, None, refl, sym, ap, ◌∙◌, subst, inl, inr, arith, append_assoc, length-drop}
use Rattle.std.specs.Prelude.{if◌then◌else◌}
use Rattle.std.specs.List.{AllByRecursion, list_any}
use Rattle.std.proofs.lemmas.Bool.{cases_Bool, lt-ltb}
use Rattle.std.proofs.Math.Bool.{or-true}
use Rattle.std.proofs.lemmas.List.Folds.{list_any-append}
use Rattle.acpi_base.specs.Header.{head_of}
use Rattle.acpi_base.specs.Signature.{has_signature}
use Rattle.acpi_base.specs.Listed.{fadt_signature}
use Rattle.acpi_base.specs.TableKinds.{signature_of}
use Rattle.acpi_base.specs.declared.table_kind.TableKind.{TableKind}
use Rattle.acpi_base.specs.declared.table_kind.TableKind.TheVariants as kind
use Rattle.acpi_base.proofs.Options.{same_value}
use Rattle.acpi_base.proofs.Tables.Kinds.{length-signature_of}
use Rattle.acpi_write.specs.Bodies.{contents_of}
use Rattle.acpi_write.specs.Encoded.{table_bytes, encoded_bytes_with}
use Rattle.acpi_write.specs.FadtBody.{with_facs}
use Rattle.acpi_write.specs.Placed.{is_narrow}
use Rattle.acpi_write.specs.Kinds.{is_among}
use Rattle.acpi_write.specs.SetValues.{is_first, table_value_behind, values_behind, values_of}
use Rattle.acpi_write.specs.Views.{IsCompleteTable}
use Rattle.acpi_write.proofs.TablesWritten.FadtBodies.{length-with_facs}
use Rattle.acpi_write.proofs.TablesWritten.KeptContents.{IsCleanTable}
use Rattle.acpi_write.proofs.OldSets.FirstTables.{first_table_with, AreCleanTables, new_tables, first_is, is_behind, none_more}
use Rattle.acpi_write.proofs.NewSets.RewrittenTables.{IsCleanBehind, new_of, new_kept, rewritten, new_fadt}
use Rattle.acpi_write.proofs.OldSets.LaterValues.{AmongAlike, says}

-- ---- of each, after those before it

abbrev AreCleanBehind : List (List ℕ) → List (List ℕ) → Type 0
AreCleanBehind before [] = Unit {0}
AreCleanBehind before (t ∷ ts) = IsCleanBehind before t × AreCleanBehind (before ++ t ∷ []) ts

clean_behind : (all before ts : List (List ℕ)) → AreCleanTables all → all ≡ before ++ ts
    → AllByRecursion IsCleanTable ts → AreCleanBehind before ts
clean_behind all before [] clean is each = tt
clean_behind all before (t ∷ ts) clean is each =
    let first = λ (s : List ℕ) (here : is_first before t s ≡ true). ap (first_table_with s) is
    ∙ first_is before t ts s here in (
      record {
        clean = each.0;
        readable = λ kind here. clean.readable kind t (first (signature_of kind) here);
        valid = λ here. clean.valid t (first fadt_signature here);
      },
      clean_behind all (before ++ t ∷ []) ts clean (is ∙ sym (append_assoc before (t ∷ []) ts)) each.1,
    )

of_clean : (ts : List (List ℕ)) → AreCleanTables ts → AreCleanBehind [] ts
of_clean ts clean = clean_behind ts [] ts clean refl clean.each

-- ---- what they say

abbrev new_behind : ℕ → List (List ℕ) → List (List ℕ) → List (List ℕ)
new_behind facs before ts = map (encoded_bytes_with facs) (values_behind before ts)

alike_more : (others before : List (List ℕ)) (new old : List ℕ) → AmongAlike others before
    → ((s : List ℕ) → length s ≡ 4 → has_signature new s ≡ has_signature old s)
    → AmongAlike (others ++ new ∷ []) (before ++ old ∷ [])
alike_more others before new old alike same s four =
    let here = alike s four in
    let last = same s four in
    list_any-append (λ x. has_signature x s) others (new ∷ [])
    ∙ rw (here, last) (sym (list_any-append (λ x. has_signature x s) before (old ∷ [])))

says_again : (facs : ℕ) (others before ts : List (List ℕ)) → AmongAlike others before → AreCleanBehind before ts
    → values_behind others (new_behind facs before ts) ≡ values_behind before ts
unfolding values_behind
says_again facs others before [] alike clean = refl
says_again facs others before (t ∷ ts) alike clean =
    let new = new_of facs before t in
    let here = rewritten facs before t clean.0 in
    let said = here.said others alike in
    let rest = says_again facs (others ++ new ∷ []) (before ++ t ∷ []) ts
    (alike_more others before new t alike here.signature) clean.1 in
    λ i. said i ∷ rest i

pub values_again : (facs : ℕ) (ts : List (List ℕ)) → AreCleanTables ts → values_of (new_tables facs ts) ≡ values_of ts
values_again facs ts clean = says_again facs [] [] ts (λ s four. refl) (of_clean ts clean)

-- ---- each is complete

whole_behind : (facs : ℕ) (before ts : List (List ℕ)) → AreCleanBehind before ts
    → AllByRecursion IsCompleteTable (new_behind facs before ts)
unfolding values_behind
whole_behind facs before [] clean = tt
whole_behind facs before (t ∷ ts) clean =
    ((rewritten facs before t clean.0).table, whole_behind facs (before ++ t ∷ []) ts clean.1)

pub new_whole : (facs : ℕ) (ts : List (List ℕ)) → AreCleanTables ts
    → AllByRecursion IsCompleteTable (new_tables facs ts)
new_whole facs ts clean = whole_behind facs [] ts (of_clean ts clean)

-- ---- the first with a signature

-- the new table is written for the old one, which is the first with the signature after others; or there is neither
AreFirsts : ℕ → List ℕ → Option (List ℕ) → Option (List ℕ) → Type 0
AreFirsts facs signature (Some old) (Some new) =
    (passed : List (List ℕ)) × IsCleanBehind passed old × (is_first passed old signature ≡ true)
    × (new ≡ new_of facs passed old)
AreFirsts facs signature None None = Unit {0}
AreFirsts facs signature _ _ = ⊥

firsts_behind : (facs : ℕ) (before ts : List (List ℕ)) (signature : List ℕ) → length signature ≡ 4
    → is_among before signature ≡ false → AreCleanBehind before ts
    → AreFirsts facs signature (first_table_with signature ts) (first_table_with signature (new_behind facs before ts))
unfolding first_table_with values_behind AreFirsts
firsts_behind facs before [] signature four none clean = tt
firsts_behind facs before (t ∷ ts) signature four none clean =
    let same = (rewritten facs before t clean.0).signature signature four in
    elim (cases_Bool (has_signature t signature)) [
      | inl has ↦ rw (same, has) (before, clean.0, is_behind before t signature none ∙ has, refl)
      | inr other ↦ rw (same, other)
          (firsts_behind facs (before ++ t ∷ []) ts signature four (none_more before t signature none other) clean.1)
    ]

firsts : (facs : ℕ) (ts : List (List ℕ)) (signature : List ℕ) → length signature ≡ 4 → AreCleanTables ts
    → AreFirsts facs signature (first_table_with signature ts) (first_table_with signature (new_tables facs ts))
firsts facs ts signature four clean = firsts_behind facs [] ts signature four refl (of_clean ts clean)

-- the first table of a kind has the contents of the old one
pub contents_again : (facs : ℕ) (ts : List (List ℕ)) (kind : TableKind) (new : List ℕ) → AreCleanTables ts
    → first_table_with (signature_of kind) (new_tables facs ts) ≡ Some new
    → (old : List ℕ) × (first_table_with (signature_of kind) ts ≡ Some old)
    × (contents_of kind new ≡ contents_of kind old)
unfolding AreFirsts
contents_again facs ts kind new clean is =
    from (first_table_with signature ts) refl
    (subst (AreFirsts facs signature (first_table_with signature ts)) is
    (firsts facs ts signature (length-signature_of kind) clean))
  where
    signature : List ℕ
    signature = signature_of kind

    from : (o : Option (List ℕ)) → first_table_with signature ts ≡ o → AreFirsts facs signature o (Some new)
        → (old : List ℕ) × (first_table_with signature ts ≡ Some old) × (contents_of kind new ≡ contents_of kind old)
    from (Some old) named (passed, behind, first, written) =
        (old, named, ap (contents_of kind) written ∙ (new_kept facs passed old kind behind first).contents)
    from None named neither = absurd neither

-- the first FADT names the FACS at this address
pub fadt_again : (facs : ℕ) (ts : List (List ℕ)) (old : List ℕ) → AreCleanTables ts
    → first_table_with fadt_signature ts ≡ Some old
    → first_table_with fadt_signature (new_tables facs ts) ≡ Some
    (table_bytes fadt_signature (head_of old) (with_facs (drop 36 old) facs))
unfolding AreFirsts
fadt_again facs ts old clean is =
    to (first_table_with fadt_signature (new_tables facs ts))
    (subst (λ (o : Option (List ℕ)). AreFirsts facs fadt_signature o
    (first_table_with fadt_signature (new_tables facs ts))) is (firsts facs ts fadt_signature refl clean))
  where
    to : (o : Option (List ℕ)) → AreFirsts facs fadt_signature (Some old) o
        → o ≡ Some (table_bytes fadt_signature (head_of old) (with_facs (drop 36 old) facs))
    to (Some new) (passed, behind, first, written) = ap Some (written ∙ new_fadt facs passed old behind first)
    to None neither = absurd neither

-- ---- a FADT of fewer than 140 bytes

narrow_behind : (before ts : List (List ℕ)) (t : List ℕ) → is_among before fadt_signature ≡ false
    → first_table_with fadt_signature ts ≡ Some t → 40 ≤ length t → length t < 140
    → list_any is_narrow (values_behind before ts) ≡ true
unfolding first_table_with values_behind
narrow_behind before [] t none is least short = absurd (cc)
narrow_behind before (u ∷ ts) t none is least short =
    elim (cases_Bool (has_signature u fadt_signature)) [
      | inl has ↦
          let same : u ≡ t = same_value u t refl (sym (rw has refl) ∙ is) in
          let said = says before u (Some kind.Fadt) (is_behind before u fadt_signature none ∙ has) in
          let size = ap length same in
          let n = length-with_facs (drop 36 u) 0 (omega (arith, length-drop 36 u, size, least)) in
          let narrow = lt-ltb (length (with_facs (drop 36 u) 0)) 104
          (omega (arith, n, length-drop 36 u, size, least, short)) in
          rw (said, narrow) refl
      | inr other ↦
          let rest = narrow_behind (before ++ u ∷ []) ts t (none_more before u fadt_signature none other)
          (subst (λ b. (if b then Some u else first_table_with fadt_signature ts) ≡ Some t) other is) least short in
          rw rest (or-true (is_narrow (table_value_behind before u)))
    ]

pub narrow_first : (ts : List (List ℕ)) (t : List ℕ) → first_table_with fadt_signature ts ≡ Some t → 40 ≤ length t
    → length t < 140 → list_any is_narrow (values_of ts) ≡ true
narrow_first ts t is least short = narrow_behind [] ts t refl is least short
