use Rattle.std.proofs.Common.{ap, subst, ◌∙◌, arith}
use Rattle.std.proofs.lemmas.Bool.Decides.{nat_tests}
use Rattle.acpi_base.specs.Image.Adding.{added}
use Rattle.acpi_base.specs.Image.Draft.{EndsAt}
use Rattle.acpi_base.specs.Text.ImageText.{on_ok}
use Rattle.acpi_base.proofs.Images.Drafts.{added_nothing}
use Rattle.acpi_base.proofs.image.draft.DraftImage.add.Goals as goal

pub returns-then-is_empty-clause-ok : goal.returns-then-is_empty-clause-ok
returns-then-is_empty-clause-ok c = added_nothing c.args.self.now c.args.base c.args.bytes.now
    (grind (arith, nat_tests, c.is_empty.ensures, c.if-is_empty.true))

pub extend-requires-clause-end : goal.extend-requires-clause-end
extend-requires-clause-end c =
    let ends = subst (λ ps. EndsAt ps c.args.base) c.deref.ensures.value (c.follows.ensures c.if-follows.true) in
    (c.args.base, ends, omega arith)

pub returns-in_ok-extend-clause-ok : goal.returns-in_ok-extend-clause-ok
returns-in_ok-extend-clause-ok c =
    let ends = subst (λ ps. EndsAt ps c.args.base) c.deref.ensures.value (c.follows.ensures c.if-follows.true) in
    c.in_ok-extend.ensures.ok c.args.base ends
    ∙ ap (λ x. on_ok x (λ m. added m c.args.base c.args.bytes.now)) c.self.view_is
