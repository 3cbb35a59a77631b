use Rattle.acpi_lint.proofs.RowFindings.{kept_lowest, last_lowest, next_lowest}
use Rattle.acpi_lint.proofs.row_findings.lowest_of.Goals as goal
use Rattle.acpi_lint.proofs.row_findings.lowest_of.Goals.{then-finding-number, else-finding-number}

pub loop-finding-preserved : goal.loop-finding-preserved
loop-finding-preserved c =
    elim c.if-finding-number.branch [
      | then-finding-number w ↦
          let ensures = w.lesser.ensures in
          rw w.lowest-is
          (next_lowest c.args.one c.args.found.now c.args.number c.loop-finding.finding-index _ c.loop-finding.lowest
          w.lesser.result c.loop-finding-test.true w.if-finding-number.true ensures.one ensures.after ensures.before
          c.loop-finding.invariant)
      | else-finding-number w ↦
          rw w.lowest-is
          (kept_lowest c.args.one c.args.found.now c.args.number c.loop-finding.finding-index _ c.loop-finding.lowest
          c.loop-finding-test.true w.if-finding-number.false c.loop-finding.invariant)
    ]

pub returns : goal.returns
returns c =
    last_lowest c.args.one c.args.found.now c.args.number c.loop-finding.finding-index c.loop-finding.lowest
    c.loop-finding-test.false c.loop-finding.invariant
