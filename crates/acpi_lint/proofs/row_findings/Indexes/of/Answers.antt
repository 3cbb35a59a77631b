use Rattle.acpi_base.specs.declared.table_kind.TableKind.TheVariants as kind
use Rattle.acpi_lint.specs.declared.further_table.FurtherTable.TheVariants as further
use Rattle.acpi_lint.specs.declared.further_table.RowTable.TheVariants.{Further, Kind}
use Rattle.acpi_lint.proofs.RowFindings.{on_err}
use Rattle.acpi_lint.proofs.row_findings.Indexes.of.Goals as goal

pub returns-in_err-index_of-clause-memory : goal.returns-in_err-index_of-clause-memory
returns-in_err-index_of-clause-memory c =
    on_err c.from_residual.result (Kind kind.Madt, c.in_err-index_of.ensures.memory)

pub returns-in_err-index_of-2-clause-memory : goal.returns-in_err-index_of-2-clause-memory
returns-in_err-index_of-2-clause-memory c =
    on_err c.from_residual-in_err-index_of-2.result (Kind kind.Srat, c.in_err-index_of-2.ensures.memory)

pub returns-in_err-index_of-3-clause-memory : goal.returns-in_err-index_of-3-clause-memory
returns-in_err-index_of-3-clause-memory c =
    on_err c.from_residual-in_err-index_of-3.result (Kind kind.Pptt, c.in_err-index_of-3.ensures.memory)

pub returns-in_err-index_of-4-clause-memory : goal.returns-in_err-index_of-4-clause-memory
returns-in_err-index_of-4-clause-memory c =
    on_err c.from_residual-in_err-index_of-4.result (Further further.Hmat, c.in_err-index_of-4.ensures.memory)

pub returns-in_err-index_of-5-clause-memory : goal.returns-in_err-index_of-5-clause-memory
returns-in_err-index_of-5-clause-memory c =
    on_err c.from_residual-in_err-index_of-5.result (Further further.Dmar, c.in_err-index_of-5.ensures.memory)

pub returns-in_err-index_of-6-clause-memory : goal.returns-in_err-index_of-6-clause-memory
returns-in_err-index_of-6-clause-memory c =
    on_err c.from_residual-in_err-index_of-6.result (Further further.Ivrs, c.in_err-index_of-6.ensures.memory)
