use Rattle.std.proofs.Common.{arith}
use Rattle.std.proofs.lemmas.Bool.Decides.{nat_tests}
use Rattle.acpi_base.specs.Text.ImageText.{line_of, form_of}
use Rattle.std.proofs.lemmas.Slice.{between_to_end}
use Rattle.acpi_base.proofs.text.image_text.line.parse_line.Goals as goal

pub returns-then-rest-eq64 : goal.returns-then-rest-eq64
unfolding line_of form_of
returns-then-rest-eq64 c =
    grind (
      arith,
      nat_tests,
      between_to_end c.cut_blanks-rest.result.now 1,
      c.parse_address.ensures c.args.bytes.now.items,
    )
