use Rattle.std.proofs.Common.{◌≡◌, Option, ℕ, refl, sym, ap, ◌∙◌}
use Rattle.std.specs.Option.{option_map, option_or}
use Rattle.acpi_base.specs.Memory.{run_of}
use Rattle.acpi_base.specs.Number.{byte_sum}
use Rattle.acpi_base.specs.Image.Runs.{lookup}
use Rattle.acpi_base.proofs.Images.Lent.{sum_in_parts}
use Rattle.acpi_base.proofs.image.parts.Parts.window_sum.Goals as goal

pub returns-in-Some : goal.returns-in-Some
returns-in-Some c =
    let p = c.args.self.now in
    let lent = option_map byte_sum (run_of (lookup p.lent.items) c.args.address c.args.count) in
    ap (λ o. option_or o lent) (sym c.in-Some.is)
    ∙ sum_in_parts p c.args.address c.args.count c.window_sum.result lent c.requires c.window_sum.ensures refl

pub returns-in-None : goal.returns-in-None
returns-in-None c =
    let p = c.args.self.now in
    ap (λ o. option_or o c.window_sum-in-None.result) (sym c.in-None.is)
    ∙ sum_in_parts p c.args.address c.args.count c.window_sum.result c.window_sum-in-None.result c.requires
    c.window_sum.ensures (rw c.deref.ensures.value at c.window_sum-in-None.ensures)
