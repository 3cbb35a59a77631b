use Rattle.std.proofs.Common.{Option, Some, None, ap, subst}
use Rattle.std.proofs.lemmas.Result.{IfOk-weaker}
use Rattle.acpi_base.specs.declared.table_kind.TableKind.{TableKind}
use Rattle.acpi_write.specs.Bodies.{IsReadableAs}
use Rattle.acpi_write.specs.Values as value
use Rattle.acpi_write.specs.Views.{table_value}
use Rattle.acpi_write.proofs.TablesWritten.KeptContents.{said_short}
use Rattle.acpi_write.proofs.table_reading.value_as.Goals as goal

pub returns-in-None-clause-short : goal.returns-in-None-clause-short
returns-in-None-clause-short c =
    said_short _ None c.args.table.now (ap value.Other c.bytes-bytes.ensures.bytes) c.bytes-bytes.ensures.count
    c.requires.zero_sum

pub returns-in-Some-clause-short : goal.returns-in-Some-clause-short
returns-in-Some-clause-short c =
    let readable = subst (λ (o : Option TableKind). IsReadableAs o c.args.table.now) c.in-Some.is c.requires.readable in
    IfOk-weaker c.known_value.result _ _
    (λ v is. said_short (table_value v) (Some c.in-Some.kind) c.args.table.now is c.bytes-bytes.ensures.count
    readable) c.known_value.ensures.value
