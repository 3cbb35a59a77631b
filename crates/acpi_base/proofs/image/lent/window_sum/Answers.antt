use Rattle.std.proofs.Common.{◌≡◌, ◌+◌, ◌-◌, ◌<◌, ◌≤◌, Some, length, refl, sym, subst, ap, ◌∙◌, arith}
use Rattle.std.specs.Option.{option_map}
use Rattle.acpi_base.specs.Memory.{run_of}
use Rattle.acpi_base.specs.Number.{byte_sum}
use Rattle.acpi_base.specs.Image.Runs.{lookup}
use Rattle.acpi_base.proofs.Images.LentRuns.{no_sum, sum_past, sum_within}
use Rattle.acpi_base.proofs.image.lent.window_sum.Goals as goal

pub returns-then-count-eq0 : goal.returns-then-count-eq0
unfolding run_of byte_sum
returns-then-count-eq0 c = rw c.if-count-eq0.true refl

pub returns-in_err-run : goal.returns-in_err-run
returns-in_err-run c =
    let some = c.if-count-eq0.false in
    c.from_residual.ensures ∙ no_sum c.args.runs.now c.args.address c.args.count (omega arith) c.in_err-run.ensures

pub returns-then-from-bytes : goal.returns-then-from-bytes
returns-then-from-bytes c =
    let some = c.if-count-eq0.false in
    let start = c.args.address - c.base.result in
    let past : length c.bytes.result.now < start + c.args.count =
    omega (arith, c.if-from-bytes.true, c.from.ensures, c.from-2.ensures) in
    sum_past c.args.runs.now c.args.address c.args.count start c.in_ok-run.run'.now c.in_ok-run.ensures (omega arith)
    (rw c.base.ensures refl) (rw c.bytes.ensures at past)

pub returns : goal.returns
returns c =
    let start = c.args.address - c.base.result in
    let within : start + c.args.count ≤ length c.bytes.result.now =
    omega (arith, c.if-from-bytes.false, c.from.ensures, c.from-2.ensures) in
    ap (λ sum. Some sum) c.sum.ensures
    ∙ sum_within c.args.runs.now c.args.address c.args.count start c.in_ok-run.run'.now c.in_ok-run.ensures
    (rw c.base.ensures refl) (rw c.bytes.ensures at within)
