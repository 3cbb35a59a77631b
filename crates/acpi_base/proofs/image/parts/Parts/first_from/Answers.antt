use Rattle.std.proofs.Common.{sym, subst}
use Rattle.acpi_base.specs.Image.Lent.{runs_of_parts}
use Rattle.acpi_base.specs.Image.Runs.{lookup}
use Rattle.acpi_base.proofs.Images.Lent.{IsFirstOrNone, first_in_parts}
use Rattle.acpi_base.proofs.image.parts.Parts.first_from.Goals as goal

pub returns-clause-none : goal.returns-clause-none
returns-clause-none c =
    let p = c.args.self.now in
    let lent_none = rw c.deref.ensures.value at c.first_from-2.ensures.none in
    let lent_some = rw c.deref.ensures.value at c.first_from-2.ensures.some in
    let both = subst (IsFirstOrNone (lookup (runs_of_parts p)) c.args.address) (sym c.lower_of.ensures)
    (first_in_parts p c.args.address c.first_from.result c.first_from-2.result
    (c.first_from.ensures.none, c.first_from.ensures.some) (lent_none, lent_some)) in
    both.0

pub returns-clause-some : goal.returns-clause-some
returns-clause-some c =
    let p = c.args.self.now in
    let lent_none = rw c.deref.ensures.value at c.first_from-2.ensures.none in
    let lent_some = rw c.deref.ensures.value at c.first_from-2.ensures.some in
    let both = subst (IsFirstOrNone (lookup (runs_of_parts p)) c.args.address) (sym c.lower_of.ensures)
    (first_in_parts p c.args.address c.first_from.result c.first_from-2.result
    (c.first_from.ensures.none, c.first_from.ensures.some) (lent_none, lent_some)) in
    both.1
