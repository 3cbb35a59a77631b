use Rattle.acpi_base.proofs.Texts.DigitTable.{is_digit, is_no_digit}
use Rattle.acpi_base.proofs.text.image_text.digit.digit_value.Goals as goal

pub returns-then-value-lt16-clause-value : goal.returns-then-value-lt16-clause-value
returns-then-value-lt16-clause-value c = is_digit c.args.byte c.ranges.byte.fits c.if-value-lt16.true

pub returns-else-value-lt16-clause-value : goal.returns-else-value-lt16-clause-value
returns-else-value-lt16-clause-value c = is_no_digit c.args.byte c.ranges.byte.fits c.if-value-lt16.false
