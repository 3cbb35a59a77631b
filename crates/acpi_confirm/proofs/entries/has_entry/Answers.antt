use Rattle.std.proofs.Common.{refl}
use Rattle.acpi_base.proofs.Elements.{first_element}
use Rattle.acpi_confirm.proofs.Walks.{over_next, over_all}
use Rattle.acpi_confirm.proofs.entries.has_entry.Goals as goal

pub returns-then-is_sought : goal.returns-then-is_sought
returns-then-is_sought g c =
    let start = c.loop-entry.start in
    let entry = c.in-Some.entry in
    let stands = c.loop-entry.invariant.listed start entry.now (rw c.in-Some.ensures.first (first_element _ _)) in
    record { one = (start, entry, stands, c.if-is_sought.ensures) }

pub loop-entry-preserved : goal.loop-entry-preserved
loop-entry-preserved g c =
    over_next _ c.args.first c.loop-entry.start c.args.whole.now c.in-Some.entry.now c.loop-entry.invariant
    c.in-Some.ensures (c.in-Some.entry, refl, c.if-is_sought.ensures)

pub returns : goal.returns
returns g c =
    record {
      one = over_all _ c.args.first c.loop-entry.start c.args.whole.now c.loop-entry.invariant
          c.in_default.ensures;
    }
