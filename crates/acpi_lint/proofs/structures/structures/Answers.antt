use Rattle.std.proofs.Common.{rules, ◌≡◌, None, Some}
use Rattle.acpi_read.specs.Roots.{RootValue, IsCompleteRoot}
use Rattle.acpi_lint.proofs.StructureRanges.{AreFirstBelow, all_below, all_passed, are_further, dsdt_found, facs_found, next_kind, no_table, no_tables_yet, none_below, none_named, root_found, rootless, rsdp_range, table_passed}
use Rattle.acpi_lint.proofs.structures.structures.Goals as goal
use Rattle.acpi_lint.proofs.structures.structures.Goals.{in-Some-fadt+in_ok-push_first-3+in_ok-push_first-4, in-Some-table_range+in_ok-push, in_default-fadt, in_default-table_range}

pub returns-in_default : goal.returns-in_default
returns-in_default c =
    let m = c.args.image.now in
    let p = c.args.rsdp in
    let none : c.args.tables.now.root ≡ None = search rules in
    let rootless_set : (root : RootValue) → ¬ IsCompleteRoot m p root = rw none at c.requires.root in
    all_below c.push_first.new.given.items
    (next_kind c.new-given.result.items c.rsdp_range.result c.in_ok-push_first.ensures
    (rw c.new-given.ensures.items (none_below m p))
    (rsdp_range m p c.rsdp_range.result c.rsdp_range.ensures))
    (rootless rootless_set)

pub loop-address-init : goal.loop-address-init
loop-address-init c =
    let m = c.args.image.now in
    let p = c.args.rsdp in
    let is = rw c.in-Some.is at c.requires.root in
    let first : AreFirstBelow m p 1 c.push_first.new.given.items =
    next_kind c.new-given.result.items c.rsdp_range.result c.in_ok-push_first.ensures
    (rw c.new-given.ensures.items (none_below m p))
    (rsdp_range m p c.rsdp_range.result c.rsdp_range.ensures) in
    let two : AreFirstBelow m p 2 c.push_first-2.new.given.items =
    next_kind _ (Some c.structure.result) c.in_ok-push_first-2.ensures first
    (root_found _ _ c.structure.result is c.address.ensures (search rules) c.structure.ensures) in
    let all : AreFirstBelow m p 4 c.match-fadt.given.items =
    elim c.match-fadt.branch [
      | in-Some-fadt+in_ok-push_first-3+in_ok-push_first-4 w ↦ rw w.given-is
          (next_kind _ w.dsdt_range.result w.in_ok-push_first-4.ensures
          (next_kind _ w.facs_range.result w.in_ok-push_first-3.ensures two
          (facs_found w.facs_range.result c.requires c.fadt.ensures w.in-Some-fadt.is w.facs_range.ensures))
          (dsdt_found w.dsdt_range.result c.requires c.fadt.ensures w.in-Some-fadt.is w.dsdt_range.ensures))
      | in_default-fadt w ↦
          let none : c.fadt.result ≡ None = search rules in
          rw w.given-is (none_named c.requires c.fadt.ensures none _ two)
    ] in
    let same = c.in_ok-further_addresses.ensures.same in
    no_tables_yet c.deref-address-items.result.now c.match-fadt.given.items all
    (are_further c.args.tables.now.slots.items c.match-fadt.given.items c.deref-address-items.result.now
    c.requires.slots all
    (rw (c.deref.ensures.value, c.deref-2.ensures.value, ← c.deref-address-items.ensures.value) at same))

pub loop-address-preserved : goal.loop-address-preserved
loop-address-preserved c =
    let addresses = c.deref-address-items.result.now in
    let i = c.loop-address.address-index in
    elim c.match-table_range.branch [
      | in-Some-table_range+in_ok-push w ↦
          rw (w.given-is, w.in_ok-push.ensures.items)
          (table_passed addresses i w.in-Some-table_range.table c.loop-address-test.true c.loop-address.invariant
          (rw w.in-Some-table_range.is at c.table_range.ensures))
      | in_default-table_range w ↦
          rw w.given-is
          (no_table addresses i c.loop-address-test.true c.loop-address.invariant
          (rw w.in_default-table_range.is at c.table_range.ensures))
    ]

pub returns : goal.returns
returns c =
    all_passed c.deref-address-items.result.now c.loop-address.address-index c.loop-address.given.items
    c.loop-address-test.false c.loop-address.invariant
