use Rattle.std.proofs.Common.{◌≡◌, ◌<◌, length, arith}
use Rattle.std.proofs.lemmas.Bool.Decides.{nat_tests}
use Rattle.acpi_base.specs.Image.Segments.{runs_of}
use Rattle.acpi_base.proofs.Images.Lent.{lent_rest, own_rest}
use Rattle.acpi_base.proofs.Images.LentRuns.{rest_none}
use Rattle.acpi_base.proofs.image.parts.Parts.rest_from.Goals as goal

pub returns-then-is_empty : goal.returns-then-is_empty
returns-then-is_empty c =
    let p = c.args.self.now in
    let none : length c.rest_from-own.result.now ≡ 0 =
    grind (arith, nat_tests, c.is_empty.ensures, c.if-is_empty.true) in
    lent_rest p c.args.address c.rest_from.result.now c.requires
    (rest_none (runs_of p.own) c.args.address c.rest_from-own.result.now c.rest_from-own.ensures none)
    (rw c.deref.ensures.value at c.rest_from.ensures)

pub returns : goal.returns
returns c =
    let some : 0 < length c.rest_from-own.result.now =
    grind (arith, nat_tests, c.is_empty.ensures, c.if-is_empty.false) in
    own_rest c.args.self.now c.args.address c.rest_from-own.result.now c.requires c.rest_from-own.ensures some
