use Rattle.std.proofs.Common.{◌<◌, length, sym, rules}
use Rattle.acpi_lint.proofs.listed_slots.table_at.Goals as goal

pub returns-in-Some-clause-noted : goal.returns-in-Some-clause-noted
returns-in-Some-clause-noted c =
    let within : c.args.index < length c.args.slots.now = search rules in
    c.requires c.in-Some.slot.now (c.args.index, within, sym c.in-Some.ensures.lookup.1)
