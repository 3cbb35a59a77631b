use Rattle.std.proofs.Common.{rules}
use Rattle.acpi_base.specs.Pptt.{pptt_contents}
use Rattle.acpi_read.specs.Pptts.{pptt_value}
use Rattle.acpi_check.proofs.EntryPasses.Kept.{pptt_rising}
use Rattle.acpi_rules.specs.Places.{FindsLeast}
use Rattle.acpi_lint.specs.References.{NamesNoResource}
use Rattle.acpi_lint.proofs.FirstEntries.{IsFaultAt, least_of_entries}
use Rattle.acpi_lint.proofs.NamedPlaces.{resources_dangle}
use Rattle.acpi_lint.proofs.references.dangling_resource.Goals as goal

pub returns : goal.returns
returns c =
    let offsets = c.in_ok-offsets.offsets in
    let said = pptt_contents c.args.pptt.now in
    let found : FindsLeast (IsFaultAt (NamesNoResource offsets) said.entries) c.first_picked.result =
    least_of_entries pptt_value (NamesNoResource offsets) 36 c.first_picked.result c.first_picked.ensures
    c.entries.ensures.entries (pptt_rising c.args.pptt.now) (λ at picked here answers. search rules) in
    resources_dangle said offsets c.first_picked.result c.in_ok-offsets.ensures found
