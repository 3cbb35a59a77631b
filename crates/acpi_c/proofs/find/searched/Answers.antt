use Rattle.acpi_c.specs.Sources.{pieces_source}
use Rattle.acpi_c.proofs.Answers.{finds}
use Rattle.acpi_c.proofs.find.searched.Goals as goal

pub returns : goal.returns
returns c =
    finds (pieces_source c.args.pieces.now) c.in_ok-image.image c.find_rsdp.result c.in_ok-image.ensures
    c.find_rsdp.ensures.found c.find_rsdp.ensures.none
