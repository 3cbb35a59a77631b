use Rattle.acpi_lint.specs.CompleteTables.{row_table_of}
use Rattle.acpi_lint.specs.FurtherTables.{row_length}
use Rattle.acpi_lint.proofs.RowFindings.{index_found}
use Rattle.acpi_lint.proofs.row_findings.index_of.Goals as goal

pub returns-in-Some-clause-index : goal.returns-in-Some-clause-index
returns-in-Some-clause-index c =
    index_found c.of.result (row_length c.args.table) (row_table_of c.args.tables.now c.args.table) c.table_of.result
    c.in-Some.table c.bytes.result.now c.bytes.ensures.bytes c.in-Some.is c.table_of.ensures c.of.ensures.index
