use Rattle.std.proofs.Common.{rules}
use Rattle.acpi_base.specs.declared.table_kind.TableKind.TheVariants as kind
use Rattle.acpi_lint.proofs.FadtSets.{lists_none, no_root_lists}
use Rattle.acpi_lint.proofs.fadt.lists_no_fadt.Goals as goal

pub returns-in-Some : goal.returns-in-Some
returns-in-Some c = λ m p whole.
    lists_none c.args.tables.now.firsts.fadt c.is_none.result (search rules) (rw c.in-Some.is at whole.root)
    (whole.firsts.kinds kind.Fadt)

pub returns-in-None : goal.returns-in-None
returns-in-None c = λ m p whole.
    (λ yes. absurd cc, λ lists. absurd (no_root_lists (rw c.in-None.is at whole.root) lists))
