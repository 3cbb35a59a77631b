use Rattle.acpi_base.proofs.Texts.ByteSearch.{before_byte}
use Rattle.acpi_base.proofs.text.image_text.line.cut_comment.Goals as goal

pub returns : goal.returns
returns c =
    before_byte 35 c.first_index.result c.args.line.now c.first_index.ensures.within c.first_index.ensures.before
    c.first_index.ensures.found
