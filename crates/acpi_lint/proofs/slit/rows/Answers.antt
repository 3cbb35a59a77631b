use Rattle.acpi_lint.proofs.SlitFaults.{short_sizes, other_sizes, has_rows}
use Rattle.acpi_lint.proofs.slit.rows.Goals as goal

pub returns-then-bytes-lt-CELLS : goal.returns-then-bytes-lt-CELLS
returns-then-bytes-lt-CELLS c = short_sizes c.args.bytes.now c.if-bytes-lt-CELLS.true

pub returns-then-from-bytes : goal.returns-then-from-bytes
returns-then-from-bytes c =
    other_sizes c.args.bytes.now
    (rw (c.from.ensures, c.from-2.ensures, c.u64_at-count.ensures) at c.if-from-bytes.true)

pub returns : goal.returns
returns c =
    rw c.u64_at-count.ensures
    (has_rows c.args.bytes.now
    (rw (c.from.ensures, c.from-2.ensures, c.u64_at-count.ensures) at c.if-from-bytes.false))
