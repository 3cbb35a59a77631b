use Rattle.std.proofs.Common.{refl}
use Rattle.acpi_base.proofs.Images.FirstTwice.{found_in_copy}
use Rattle.acpi_base.proofs.image.draft.DraftImage.first_twice.Goals as goal

pub returns : goal.returns
returns c =
    found_in_copy c.args.self c.self.inside.store.items c.self.inside.pieces.items _ _ c.judge.result c.self.view_is
    c.self.invariant c.deref.ensures.value refl c.judge.ensures.judged
