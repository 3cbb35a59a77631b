use Rattle.std.proofs.Common.{[], ◌≡◌, rules}
use Rattle.acpi_lint.proofs.timers.timer_overlap.Goals as goal

pub returns : goal.returns
returns c =
    let table : c.new.result.bytes.now ≡ c.args.gtdt.now = search rules in
    let other : c.new-2.result.bytes.now ≡ [] = search rules in
    rw (table, other) at c.first_overlap_of.ensures
