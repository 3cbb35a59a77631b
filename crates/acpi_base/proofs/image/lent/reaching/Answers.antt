use Rattle.std.proofs.Common.{◌≡◌, ◌+◌, ◌-◌, subst, sym, arith}
use Rattle.acpi_base.specs.Image.Lent.{IsPlaceOf}
use Rattle.acpi_base.specs.Image.Segments.{IsRunAt}
use Rattle.acpi_base.proofs.Images.LentRuns.{none_reached, reached}
use Rattle.acpi_base.proofs.image.lent.reaching.Goals as goal

pub returns-then-place-eq0 : goal.returns-then-place-eq0
returns-then-place-eq0 c =
    none_reached c.args.runs.now c.args.address
    (subst (IsPlaceOf c.args.runs.now c.args.address) c.if-place-eq0.true c.place-place.ensures.place)

pub returns : goal.returns
returns c =
    let rs = c.args.runs.now in
    let within = c.place-place.ensures.within in
    let some = c.if-place-eq0.false in
    let next : c.place-place.result ≡ c.place-place.result - 1 + 1 = omega arith in
    subst (IsRunAt rs c.args.address) (sym c.index-runs-place.is)
    (reached rs c.args.address (c.place-place.result - 1) c.index-runs-place.result c.requires (omega arith)
    (subst (IsPlaceOf rs c.args.address) next c.place-place.ensures.place))
