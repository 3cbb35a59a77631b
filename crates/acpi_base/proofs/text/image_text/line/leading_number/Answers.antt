use Rattle.std.proofs.Common.{sym, ◌∙◌, arith}
use Rattle.std.proofs.lemmas.Grind.{common_steps}
use Rattle.acpi_base.proofs.Texts.LineParsing.{next_digit}
use Rattle.acpi_base.proofs.text.image_text.line.leading_number.Goals as goal

pub loop-i-preserved : goal.loop-i-preserved
loop-i-preserved c =
    let end = c.loop-i.auto.i-end in
    let test = c.loop-i-test.true in
    let small = c.in-Some.ensures.small in
    let other = c.if-i-eq16.false in
    let few = c.loop-i.invariant.few in
    let fits = c.loop-i.invariant.fits in
    let digits = c.loop-i.invariant.digits in
    let next = next_digit c.args.text.now c.loop-i.i c.loop-i.value c.in-Some.digit (omega arith)
    (sym c.in-Some.ensures.value) in
    let one = next.0 in
    record {
      digits = omega arith;
      number = sym next.1 ∙ c.loop-i.invariant.number;
      few = omega arith;
      fits = grind (arith, common_steps);
    }
