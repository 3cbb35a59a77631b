use Rattle.std.proofs.Common.{◌≡◌, ◌+◌, ◌-◌, ◌<◌, length, sym, subst, arith}
use Rattle.std.proofs.lemmas.Bool.Decides.{nat_tests}
use Rattle.acpi_base.specs.Image.Runs.{Run, end_of}
use Rattle.acpi_base.proofs.Images.LentRuns.{all_end_before}
use Rattle.acpi_base.proofs.image.lent.end_before.Goals as goal

pub returns-then-base-address : goal.returns-then-base-address
returns-then-base-address c = λ ends.
    let rs = c.args.runs.now in
    let last = c.index-runs-count.result in
    let some = c.if-count-eq0.false in
    let index : length rs - 1 + 1 ≡ length rs = omega arith in
    let low : length c.bytes.result.now < c.args.address - c.base-base.result = grind (arith, nat_tests, ends) in
    let short = rw (c.bytes.ensures, c.base-base.ensures) at low in
    let begins = rw c.base-base.ensures at c.if-base-address.true in
    let here : end_of last < c.args.address = omega arith in
    all_end_before rs (length rs - 1) c.args.address last c.requires.apart index
    (subst (λ (r : Run). end_of r < c.args.address) c.index-runs-count.is here)
