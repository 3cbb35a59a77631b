use Rattle.acpi_lint.proofs.RowFindings.{indexed_right}
use Rattle.acpi_lint.proofs.row_findings.indexed.Goals as goal

pub with-requires : goal.with-requires
with-requires c =
    indexed_right c.args.tables.now c.args.indexes.now c.args.of c.of_table.result c.in-Some.index _ _
    c.bytes.result.now c.requires c.of_table.ensures c.in-Some.is c.bytes.ensures.bytes c.in_ok-table.was
    c.table_of.ensures
