use Rattle.std.proofs.Common.{refl, inl, sym, subst, ◌∙◌}
use Rattle.acpi_base.specs.declared.image.ImageFault.TheVariants as fault
use Rattle.acpi_base.specs.Image.Segments.{AreSegmentsApart}
use Rattle.acpi_base.proofs.Images.Adopted.{apart_joined}
use Rattle.acpi_base.proofs.Images.FirstTwice.{told_on}
use Rattle.acpi_base.proofs.image.draft.DraftImage.finish.Goals as goal

pub returns-in_err-segments-clause-same : goal.returns-in_err-segments-clause-same
returns-in_err-segments-clause-same c =
    told_on _ c.from_residual.result fault.Memory c.args.self c.from_residual.ensures.1
    (inl (
      _,
      refl,
      sym c.self.view_is ∙ apart_joined c.self.inside.store.items c.self.inside.pieces.items
          c.self.invariant (subst AreSegmentsApart c.deref.ensures.value (c.are_apart.ensures c.if-are_apart.true)),
    ))
