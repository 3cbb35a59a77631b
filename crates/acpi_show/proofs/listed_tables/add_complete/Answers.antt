use Rattle.std.proofs.Common.{refl}
use Rattle.acpi_show.proofs.ListedTables.{added, not_added}
use Rattle.acpi_show.proofs.listed_tables.add_complete.Goals as goal

pub returns-clause-same_kind : goal.returns-clause-same_kind
returns-clause-same_kind c = λ kind. added _ _ kind _ _ _ c.in-Some.ensures refl (c.add.ensures.tables kind)

pub returns-clause-others : goal.returns-clause-others
returns-clause-others c = λ kind. not_added _ _ kind _ _ _ c.in-Some.ensures (c.add.ensures.tables kind)
