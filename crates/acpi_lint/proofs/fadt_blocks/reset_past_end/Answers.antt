use Rattle.std.proofs.Common.{rules}
use Rattle.acpi_lint.specs.Rules.FadtBlocks.{IsResetPort}
use Rattle.acpi_rules.proofs.LeastPlaces.{least_as}
use Rattle.acpi_lint.proofs.fadt_blocks.reset_past_end.Goals as goal

pub returns : goal.returns
returns c =
    let port : IsResetPort c.args.fadt.now = search rules in
    least_as c.past_end.result (λ at other point past. (port, past)) (λ at other point it. it.1)
    (rw (c.u64_at-first.ensures, c.bytes.ensures.bytes) at c.past_end.ensures)
