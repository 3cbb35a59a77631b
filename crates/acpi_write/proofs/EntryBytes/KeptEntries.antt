-- The bytes that are written for what an entry says say the same.
use Rattle.std.proofs.Common.{◌≡◌, ℕ, ◌+◌, ◌*◌, ◌<◌, ◌≤◌, true, false, List, length, get_or, drop, map, refl, sym, subst, inl, inr, arith, length-drop}
use Rattle.std.specs.Prelude.{◌⊎◌, ◌==◌, Some, None}
use Rattle.std.specs.List.{range_with_len}
use Rattle.std.proofs.lemmas.Bool.{cases_Bool, eq-eqb, ne_eqb}
use Rattle.std.proofs.lemmas.List.{drop-drop, get_or-drop}
use Rattle.acpi_base.specs.Number.{field}
use Rattle.acpi_base.specs.Layouts.{FitLayout}
use Rattle.acpi_base.specs.Entries.{IsEntry}
use Rattle.acpi_base.specs.Madt.{madt_kinds, madt_entry}
use Rattle.acpi_base.specs.Madt as madt
use Rattle.acpi_base.specs.Srat.{srat_kinds, srat_entry}
use Rattle.acpi_base.specs.Srat as srat
use Rattle.acpi_base.specs.Pptt.{pptt_entry}
use Rattle.acpi_base.specs.Pptt as pptt
use Rattle.acpi_base.specs.KindLayouts.{bytes_of}
use Rattle.acpi_base.proofs.Images.PresentBytes.{field_below}
use Rattle.acpi_base.proofs.Layouts.RoundTrip.{HasValues-layout_bytes}
use Rattle.acpi_base.proofs.Layouts.Kinds.{written_again}
use Rattle.acpi_read.specs.Madts.{madt_bytes}
use Rattle.acpi_read.specs.Srats.{srat_bytes}
use Rattle.acpi_read.proofs.MadtKinds.{madt_kept}
use Rattle.acpi_read.proofs.SratKinds.{srat_kept}
use Rattle.acpi_read.specs.contracts.pptt.kinds.Cache24FixedKind.TheImpl.Laws.{laid-law as cache24_laid}
use Rattle.acpi_read.specs.contracts.pptt.kinds.Cache28FixedKind.TheImpl.Laws.{laid-law as cache28_laid}
use Rattle.acpi_read.specs.Pptts.{pptt_bytes, cache_bytes, node_head_parts, node_head_values, node_value, cache24_layout, cache28_layout}
use Rattle.acpi_read.specs.declared.pptt.node_head.NodeHead.{NodeHead}
use Rattle.acpi_read.proofs.PpttKinds.{references_of}
use Rattle.acpi_write.specs.Spells.{SaysEntry}
use Rattle.acpi_write.specs.Laws.{AreByteValues, EntriesAreKept}
use Rattle.acpi_write.proofs.EntryBytes.EntryForms.{again_by, madt_length, srat_length, pptt_length, node_size, cache_sizes}
use Rattle.acpi_write.proofs.EntryBytes.NodeBytes.{cache24_says, cache28_says, node_says}

madt_again : (e : List ℕ) → AreByteValues e → IsEntry e
    → SaysEntry madt_entry (madt_bytes (madt_entry e)) (madt_entry e)
unfolding madt_entry
madt_again e low is =
    (let again = again_by madt_bytes madt_kinds madt.Opaque madt_kept (λ e. refl) e low is in (again.entry, again.same))

srat_again : (e : List ℕ) → AreByteValues e → IsEntry e
    → SaysEntry srat_entry (srat_bytes (srat_entry e)) (srat_entry e)
unfolding srat_entry
srat_again e low is =
    (let again = again_by srat_bytes srat_kinds srat.Opaque srat_kept (λ e. refl) e low is in (again.entry, again.same))

-- ---- the PPTT

abbrev PpttAgain : pptt.PpttEntry → Type 0
PpttAgain v = SaysEntry pptt_entry (pptt_bytes v) v

node_again : (e : List ℕ) → AreByteValues e → IsEntry e → length e ≡ 20 + 4 * pptt.resource_count e
    → PpttAgain (pptt.Node (pptt.node_of e))
node_again e low is size =
    let count = field e 16 4 in
    let said = is.said in
    let byte = low 1 in
    let few : count ≤ 58 = omega (arith, size, said, byte) in
    let h : NodeHead = record {
      flags = field e 4 4;
      parent = field e 8 4;
      id = field e 12 4;
      count = count;
      fits = few;
    } in
    let references = drop 20 e in
    let below : (k : ℕ) → get_or references k 0 < 256 = λ k. subst (λ (x : ℕ). x < 256) (sym (get_or-drop 20 e k 0))
    (low (20 + k)) in
    let counted : length references ≡ 4 * count = omega (arith, size, length-drop 20 e) in
    let fit : FitLayout node_head_parts (node_head_values h) = (
      omega arith,
      (
        omega (arith, few),
        (field_below e low 4 4, (field_below e low 8 4, (field_below e low 12 4, (field_below e low 16 4, tt)))),
      ),
    ) in
    let says = node_says h references below counted (HasValues-layout_bytes node_head_parts (node_head_values h) fit) in
    let same : node_value h references ≡ pptt.node_of e =
    λ i. record {
      flags = field e 4 4;
      parent = field e 8 4;
      id = field e 12 4;
      resources = map (λ j. references_of e j i) (range_with_len 0 count);
    } in
    subst (λ (v : pptt.NodeValue). PpttAgain (pptt.Node v)) same says

cache_again : (e : List ℕ) → AreByteValues e → (length e ≡ 24) ⊎ (length e ≡ 28)
    → PpttAgain (pptt.Cache (pptt.cache_of e))
cache_again e low (inl short) =
    let v = pptt.cache_of e in
    let other : (length e == 28) ≡ false = ne_eqb (length e) 28 (λ long. absurd (omega (arith, short, long))) in
    let says = cache24_says (bytes_of cache24_layout v) v (written_again cache24_layout cache24_laid.2 e short low) in
    let none : v.id ≡ None = rw other refl in
    subst (λ id. SaysEntry pptt_entry (cache_bytes v id) (pptt.Cache v)) (sym none) says
cache_again e low (inr long) =
    let v = pptt.cache_of e in
    let same : (length e == 28) ≡ true = eq-eqb (length e) 28 long in
    let says = cache28_says (bytes_of cache28_layout v) v (written_again cache28_layout cache28_laid.2 e long low) in
    let some : v.id ≡ Some (field e 24 4) = rw same refl in
    subst (λ id. SaysEntry pptt_entry (cache_bytes v id) (pptt.Cache v)) (sym some) says

pptt_is_0 : (e : List ℕ) → pptt.has_node_form e ≡ true → pptt_entry e ≡ pptt.Node (pptt.node_of e)
unfolding pptt_entry
pptt_is_0 e typed = rw typed refl

pptt_is_1 : (e : List ℕ) → pptt.has_node_form e ≡ false → pptt.has_cache_form e ≡ true
    → pptt_entry e ≡ pptt.Cache (pptt.cache_of e)
unfolding pptt_entry
pptt_is_1 e no_0 typed = rw (no_0, typed) refl

pptt_is_none : (e : List ℕ) → pptt.has_node_form e ≡ false → pptt.has_cache_form e ≡ false
    → pptt_entry e ≡ pptt.Opaque e
unfolding pptt_entry
pptt_is_none e no_0 no_1 = rw (no_0, no_1) refl

pptt_again : (e : List ℕ) → AreByteValues e → IsEntry e → PpttAgain (pptt_entry e)
pptt_again e low is =
    elim (cases_Bool (pptt.has_node_form e)) [
      | inl typed ↦ subst PpttAgain (sym (pptt_is_0 e typed)) (node_again e low is (node_size e typed))
      | inr no_0 ↦ elim (cases_Bool (pptt.has_cache_form e)) [
        | inl typed ↦ subst PpttAgain (sym (pptt_is_1 e no_0 typed)) (cache_again e low (cache_sizes e typed))
        | inr no_1 ↦ let none = pptt_is_none e no_0 no_1 in subst PpttAgain (sym none) (is, none)
      ]
    ]

pub entries_are_kept : EntriesAreKept
entries_are_kept e low is = record {
  madt = record { says = madt_again e low is; count = madt_length e };
  srat = record { says = srat_again e low is; count = srat_length e };
  pptt = record { says = pptt_again e low is; count = pptt_length e };
}
