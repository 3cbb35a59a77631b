use Rattle.std.proofs.Common.{rules, Ok}
use Rattle.std.specs.Prelude.{⊤}
use Rattle.acpi_base.specs.Madt.{madt_contents}
use Rattle.acpi_read.specs.Madts.{madt_value}
use Rattle.acpi_check.specs.Processors.{number_of}
use Rattle.acpi_check.proofs.EntryPasses.Collecting.{gathered_same}
use Rattle.acpi_check.proofs.ProcessorNumbers.EntryNumbers.{are_numbers}
use Rattle.acpi_check.proofs.processors.numbers_of.Goals as goal

pub returns : goal.returns
returns c =
    are_numbers c.args.key (madt_contents c.args.madt.now) c.in_ok-numbers.numbers.items c.sorted_unique.result
    (gathered_same {X = ⊤} madt_value (λ s. number_of c.args.key s.entry) _ (Ok c.in_ok-numbers.numbers)
    c.in_ok-numbers.ensures c.entries.ensures.entries (λ at picked answers. search rules) (λ found is. is))
    c.sorted_unique.ensures.rise c.sorted_unique.ensures.same
