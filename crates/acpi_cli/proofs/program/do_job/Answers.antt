use Rattle.acpi_cli.proofs.program.do_job.Goals as goal

pub returns-in-Check : goal.returns-in-Check
returns-in-Check g c = rw (c.in-Check.is) (c.run_check.ensures)

pub returns-in-Lint : goal.returns-in-Lint
returns-in-Lint g c = rw (c.in-Lint.is) (rw c.as_slice.ensures.value at c.run_lint.ensures)

pub returns-in-Confirm : goal.returns-in-Confirm
returns-in-Confirm g c = rw (c.in-Confirm.is) (c.run_confirm.ensures)

pub returns-in-Rebuild : goal.returns-in-Rebuild
returns-in-Rebuild g c = rw (c.in-Rebuild.is) (c.run_rebuild.ensures)

pub returns-then-is_anyway : goal.returns-then-is_anyway
returns-then-is_anyway g c = rw (c.in-Show.is, c.if-is_anyway.true) (c.run_show_anyway.ensures)

pub returns-else-is_anyway : goal.returns-else-is_anyway
returns-else-is_anyway g c = rw (c.in-Show.is, c.if-is_anyway.false) (c.run_show.ensures)

pub returns-in-Find : goal.returns-in-Find
returns-in-Find g c = rw (c.in-Find.is) (c.run_find.ensures)
