use Rattle.std.proofs.Common.{sym, subst, ◌∙◌}
use Rattle.acpi_base.specs.Image.Segments.{AreSegmentsApart}
use Rattle.acpi_base.proofs.Images.Adopted.{apart_joined}
use Rattle.acpi_base.proofs.Images.FirstTwice.{found_in_copy}
use Rattle.acpi_base.proofs.image.draft.DraftImage.first_twice_so_far.Goals as goal

pub returns-then-are_apart : goal.returns-then-are_apart
returns-then-are_apart c = (
  _,
  sym c.self.view_is ∙ apart_joined c.self.inside.store.items c.self.inside.pieces.items c.self.invariant
      (subst AreSegmentsApart c.deref.ensures.value (c.are_apart.ensures c.if-are_apart.true)),
)

pub returns : goal.returns
returns c =
    found_in_copy c.args.self.now c.self.inside.store.items c.self.inside.pieces.items _ _ c.judge.result c.self.view_is
    c.self.invariant c.deref-3.ensures.value (c.in_ok-pieces.ensures.items ∙ c.deref-2.ensures.value)
    c.judge.ensures.judged
