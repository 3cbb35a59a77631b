use Rattle.std.proofs.lemmas.List.Sorted.{searched}
use Rattle.acpi_check.proofs.ProcessorNumbers.Searches.{never_falls, found}
use Rattle.acpi_check.proofs.search.binary_search.Goals as goal

pub returns : goal.returns
returns c =
    let offsets = c.args.offsets.now in
    rw (c.ok.ensures.value) (found offsets c.args.offset c.binary_search.result
    (searched offsets c.args.offset c.binary_search.result c.binary_search.ensures.position
    (never_falls offsets c.requires)))
