use Rattle.acpi_base.specs.TableKinds.{signature_of}
use Rattle.acpi_base.specs.declared.table_kind.TableKind.{TableKind}
use Rattle.acpi_read.specs.FirstTables.{first_listed}
use Rattle.acpi_show.specs.SlotPass.{IsFirstBefore, is_met}
use Rattle.acpi_show.proofs.listed_tables.complete_tables.Given as goal

-- what the slots before k list is known
abbrev pub invariant-loop-k : goal.invariant-loop-k
invariant-loop-k l =
    (kind : TableKind)
    → IsFirstBefore l.image l.root l.k (signature_of kind) (is_met l.met kind) (first_listed l.tables kind)
