use Rattle.std.proofs.Common.{◌≡◌, ◌<◌, length, arith}
use Rattle.std.proofs.lemmas.Bool.Decides.{nat_tests}
use Rattle.acpi_base.specs.Madt.{madt_contents}
use Rattle.acpi_graph.proofs.SortedSpans.{in_order, names_permuted}
use Rattle.acpi_check.proofs.EntryPasses.Passes.{refused}
use Rattle.acpi_check.proofs.Spans.ServedFaults.{starts_rise, no_io_apic, has_io_apic, rising_served, unserved_found}
use Rattle.acpi_check.proofs.served.check_served.Goals as goal

pub returns-then-is_empty : goal.returns-then-is_empty
returns-then-is_empty c =
    let spans = c.in_ok-spans.spans in
    let none : length spans.items ≡ 0 =
    grind (arith, nat_tests, c.is_empty.ensures, c.if-is_empty.true, spans.ok.0) in
    λ io. absurd (no_io_apic c.args.policy.now c.rsdp.ensures.policy (madt_contents c.args.madt.now) spans.items
    c.in_ok-spans.ensures.spans none io)

pub merged_spans-requires : goal.merged_spans-requires
merged_spans-requires c =
    let sorted = c.sort_unless_sorted.new.items.items in
    rw c.deref.ensures.value (starts_rise sorted (in_order sorted
    (names_permuted c.in_ok-spans.spans.items sorted c.sort_unless_sorted.ensures.permutation
    c.in_ok-spans.ensures.spans.names) c.in_ok-sort_unless_sorted.ensures.sorted))

pub returns : goal.returns
returns c =
    let q = c.args.policy.now in
    let madt = madt_contents c.args.madt.now in
    let spans = c.in_ok-spans.spans in
    let some : 0 < length spans.items = grind (arith, nat_tests, c.is_empty.ensures, c.if-is_empty.false, spans.ok.0) in
    refused _ _ _ c.first_unserved.result c.refuse.result c.refuse.ensures
    (unserved_found q madt c.deref-2.result.now
    (has_io_apic q madt spans.items c.in_ok-spans.ensures.spans some)
    (rising_served q madt spans.items c.sort_unless_sorted.new.items.items c.deref-2.result.now
    c.in_ok-spans.ensures.spans c.sort_unless_sorted.ensures.permutation
    (rw (c.deref.ensures.value, ← c.deref-2.ensures.value) at c.in_ok-merged.ensures.same))
    c.first_unserved.result c.first_unserved.ensures)
