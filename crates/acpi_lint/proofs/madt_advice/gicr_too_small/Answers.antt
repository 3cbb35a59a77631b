use Rattle.std.proofs.Common.{[], ◌≡◌, ◌∙◌, Some, None, ap, arith, length, refl, rules, sym, true}
use Rattle.std.specs.List.{list_all, slice_get}
use Rattle.std.specs.Prelude.{map}
use Rattle.std.proofs.lemmas.Option.{same_Some}
use Rattle.acpi_rules.specs.Rows.{guard_holds, guard_said}
use Rattle.acpi_rules.specs.declared.numbered.Numbered.{Numbered}
use Rattle.acpi_rules.proofs.LeastPlaces.{not_after_itself}
use Rattle.acpi_lint.specs.Rules.Entries.{alone, entries_give}
use Rattle.acpi_lint.specs.Rules.GicAdvice.{interface_count, redistributor_count}
use Rattle.acpi_lint.specs.declared.rows.madt.TheConstants.{GICR_LENGTHS, GICRS_ARE_KNOWN, USABLE_GICCS}
use Rattle.acpi_lint.specs.declared.rows.madt_fields.TheConstants.{MADT_ENTRIES}
use Rattle.acpi_lint.proofs.madt_advice.gicr_too_small.Goals as goal

pub returns-in_default : goal.returns-in_default
returns-in_default c = λ at other point small.
    let (g, is, place) = small.first in
    let lengths : c.in_ok-lengths.lengths.items ≡ entries_give MADT_ENTRIES GICR_LENGTHS c.args.madt.now =
    search rules in
    let none : None ≡ slice_get c.in_ok-lengths.lengths.items 0 = search rules in
    let no : None ≡ Some g = none ∙ ap (λ items. slice_get items 0) lengths ∙ is in
    absurd cc

pub returns-then-count-due : goal.returns-then-count-due
unfolding guard_holds
returns-then-count-due c = λ at other point small. search rules

pub returns : goal.returns
unfolding guard_holds
returns c =
    let madt = c.args.madt.now in
    let g = c.in-Some.first.now in
    let table : c.new.result.bytes.now ≡ madt = search rules in
    let other : c.new-2.result.bytes.now ≡ [] = search rules in
    let lengths : c.in_ok-lengths.lengths.items ≡ entries_give MADT_ENTRIES GICR_LENGTHS madt =
    rw (table, other) at c.in_ok-lengths.ensures in
    let interfaces : c.in_ok-interfaces.interfaces.items ≡ entries_give MADT_ENTRIES USABLE_GICCS madt =
    rw (table, other) at c.in_ok-interfaces.ensures in
    let known : list_all (guard_holds (alone madt)) (map guard_said GICRS_ARE_KNOWN.now) ≡ true = search rules in
    let here : Some g ≡ slice_get c.in_ok-lengths.lengths.items 0 = search rules in
    let first : slice_get (entries_give MADT_ENTRIES GICR_LENGTHS madt) 0 ≡ Some g =
    sym (here ∙ ap (λ items. slice_get items 0) lengths) in
    let count : c.redistributors-count.result ≡ redistributor_count madt =
    rw (c.deref-2.ensures.value, lengths) at c.redistributors-count.ensures in
    let due : c.len-due.result ≡ interface_count madt =
    omega (arith, c.len-due.ensures, ap length interfaces) in
    record {
      here = record {
        known = known;
        first = (g, first, refl);
        count = count;
        due = due;
        fewer = omega (arith, c.if-count-due.false);
      };
      least = λ at other point small.
          let (also, is, place) = small.first in
          let same : also ≡ g = same_Some also g (sym is ∙ first) in
          not_after_itself
          (record { at = g.at; other = c.redistributors-count.result; point = c.len-due.result }) at other point
          (sym place ∙ ap (λ (n : Numbered). n.at) same, small.count ∙ sym count, small.due ∙ sym due);
    }
