use Rattle.std.proofs.Common.{arith}
use Rattle.acpi_write.proofs.EntryBytes.EntryLists.{on_ok}
use Rattle.acpi_write.proofs.EntryBytes.NodeBytes.{node_says}
use Rattle.acpi_write.proofs.entry_bytes.append_node.Goals as goal

pub returns-clause-says : goal.returns-clause-says
returns-clause-says c =
    on_ok c.extend_from_slice.result _
    (node_says c.args.head.now c.args.references.now (λ k. omega (arith, c.type_inv.references k)) c.requires
    c.in_ok-append_layout.ensures.says)
