use Rattle.std.proofs.Common.{◌∙◌, sym, ap, length, arith}
use borrow.Author.Tests.{eqb-true}
use Rattle.acpi_base.proofs.Texts.HexTexts.{some_digit, spells_one, spells_more, spells_other}
use Rattle.acpi_base.proofs.text.fault_parsing.+spells.Goals as goal

pub returns-then-is_empty : goal.returns-then-is_empty
returns-then-is_empty t c =
    spells_one c.args.text.now c.in-Some.front.now c.in-Some.last.now c.hex_digit.result c.args.number
    c.in-Some.ensures.cases.0 (eqb-true (length c.in-Some.front.now) 0
    (sym c.is_empty.ensures ∙ c.if-is_empty.true)) c.if-number-lt16.true c.hex_digit.ensures

pub returns-then-last-hex_digit : goal.returns-then-last-hex_digit
returns-then-last-hex_digit t c =
    spells_more c.args.text.now c.in-Some.front.now c.in-Some.last.now c.hex_digit-in-Some-2.result c.args.number
    c.spells.result c.in-Some.ensures.cases.0 c.if-number-lt16.false (omega arith) c.hex_digit-in-Some-2.ensures
    c.if-last-hex_digit.true c.spells.ensures

pub returns-else-last-hex_digit : goal.returns-else-last-hex_digit
returns-else-last-hex_digit t c =
    spells_other c.args.text.now c.in-Some.front.now c.in-Some.last.now c.hex_digit-in-Some-2.result c.args.number
    c.in-Some.ensures.cases.0 c.if-number-lt16.false (omega arith) c.hex_digit-in-Some-2.ensures
    c.if-last-hex_digit.false

pub returns-in-None : goal.returns-in-None
returns-in-None t c = (
  λ yes. absurd cc,
  λ is. absurd
      (omega (arith, some_digit c.args.number (omega arith), ap length is, c.in-None.ensures.cases)),
)
