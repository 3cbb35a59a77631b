use Rattle.acpi_base.specs.Srat.{srat_contents}
use Rattle.acpi_check.proofs.Spans.CoveredSpans.{apart, earlier_low}
use Rattle.acpi_check.proofs.ranges.first_overlap.Goals as goal

pub returns-in_ok-hot-in-Apart : goal.returns-in_ok-hot-in-Apart
returns-in_ok-hot-in-Apart c =
    let other = c.in_ok-other-in-Apart.other in
    let hot = c.in_ok-hot-in-Apart.hot in
    rw (c.in-Apart.is, c.earlier.ensures)
    (record {
      found = apart (srat_contents c.args.srat.now) other hot c.in_ok-other-in-Apart.ensures.found
          c.in_ok-hot-in-Apart.ensures.found;
      low = earlier_low other hot c.in_ok-other-in-Apart.ensures.low c.in_ok-hot-in-Apart.ensures.low;
    })
