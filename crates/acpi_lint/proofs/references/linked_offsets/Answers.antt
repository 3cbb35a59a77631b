use Rattle.std.proofs.Common.{Ok, rules}
use Rattle.std.specs.Prelude.{⊤}
use Rattle.acpi_read.specs.Pptts.{pptt_value}
use Rattle.acpi_check.proofs.EntryPasses.Collecting.{gathered_same}
use Rattle.acpi_lint.specs.References.{offset_where, is_linked}
use Rattle.acpi_lint.proofs.NamedPlaces.{linked_there, same_places}
use Rattle.acpi_lint.proofs.references.linked_offsets.Goals as goal

pub returns : goal.returns
returns c =
    same_places c.in_ok-offsets.offsets.items c.of.result
    (linked_there c.args.chain c.args.pptt.now c.in_ok-offsets.offsets.items
    (gathered_same {X = ⊤} pptt_value (offset_where (is_linked c.args.chain)) _ (Ok c.in_ok-offsets.offsets)
    c.in_ok-offsets.ensures c.entries.ensures.entries (λ at picked answers. search rules) (λ found is. is)))
    (rw c.deref.ensures.value at c.of.ensures)
