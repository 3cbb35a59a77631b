use Rattle.std.proofs.Common.{rules}
use Rattle.acpi_base.specs.Frames.{IsFrame}
use Rattle.acpi_base.proofs.Frames.{says_length}
use Rattle.acpi_read.proofs.frame.bytes_of.Goals as goal

pub returns-2-clause-said : goal.returns-2-clause-said
returns-2-clause-said c =
    let is : IsFrame c.args.frame c.args.image.now c.args.address c.in-Some.header.now c.in-Some-get.bytes.now =
    search rules in
    says_length is c.requires.least c.requires.header
