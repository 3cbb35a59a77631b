use Rattle.std.proofs.Common.{◌≡◌, inr, sym, ap, ◌∙◌}
use Rattle.acpi_base.specs.Text.LineBuffers.{reader_state}
use Rattle.acpi_base.specs.Text.TextMachine.{Stopped, run}
use Rattle.acpi_base.proofs.Texts.ByteMachine.{run_stopped}
use Rattle.acpi_base.proofs.text.image_text.ImageText.feed.Goals as goal

pub returns-in-Some-clause-err : goal.returns-in-Some-clause-err
returns-in-Some-clause-err c =
    let fault = c.in-Some.fault in
    let stopped : c.args.self.now ≡ Stopped fault = sym c.self.view_is
    ∙ ap (λ s. reader_state s c.self.inside.buffer) c.in-Some.is in
    (stopped, inr (ap (λ s. run s c.args.piece.now) stopped ∙ run_stopped fault c.args.piece.now))
