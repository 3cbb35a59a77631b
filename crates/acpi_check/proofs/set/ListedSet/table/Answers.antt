use Rattle.std.proofs.Common.{◌≤◌, ◌+◌, ◌*◌, length, sym, rules}
use Rattle.acpi_base.proofs.Root.Slots.{root_slot}
use Rattle.acpi_check.proofs.set.ListedSet.table.Goals as goal

pub valid-table-requires : goal.valid-table-requires
valid-table-requires c =
    let set = c.requires.set in
    let root = c.args.self.now.root in
    let inside : 36 + root.width * (c.args.slot + 1) ≤ length root.bytes = search rules in
    set.valid c.args.slot c.slot-address.result (root_slot set.root.named set.root.valid.table
    (record { inside = inside; address = sym c.slot-address.ensures; listed = c.if-address-eq0.false }))

pub returns-clause-some : goal.returns-clause-some
returns-clause-some c =
    let root = c.args.self.now.root in
    let inside : 36 + root.width * (c.args.slot + 1) ≤ length root.bytes = search rules in
    record {
      slot = record { inside = inside; address = sym c.slot-address.ensures; listed = c.if-address-eq0.false };
      header = c.valid-table.ensures.0;
      table = c.valid-table.ensures.1;
    }
