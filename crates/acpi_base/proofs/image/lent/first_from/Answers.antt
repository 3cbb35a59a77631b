use Rattle.std.proofs.Common.{◌≡◌, ◌<◌, ◌≤◌, length, IsSome, sym, subst, arith}
use Rattle.std.proofs.lemmas.Bool.Decides.{nat_tests}
use Rattle.acpi_base.specs.Image.Lent.{IsPlaceOf}
use Rattle.acpi_base.specs.Image.Runs.{Run, lookup}
use Rattle.acpi_base.specs.Image.Segments.{IsGap}
use Rattle.acpi_base.proofs.Images.LentRuns.{next_run, no_next, rest_none, rest_some}
use Rattle.acpi_base.proofs.image.lent.first_from.Goals as goal

pub returns-then-not-is_empty-clause-some : goal.returns-then-not-is_empty-clause-some
returns-then-not-is_empty-clause-some c =
    let bytes = c.rest_from.result.now in
    let some : 0 < length bytes = grind (arith, nat_tests, c.is_empty.ensures, c.if-not-is_empty.true) in (
      omega arith,
      rest_some c.args.runs.now c.args.address bytes c.rest_from.ensures some,
      λ x l m. absurd (omega arith),
    )

pub returns-in_err-next-clause-none : goal.returns-in_err-next-clause-none
returns-in_err-next-clause-none c = λ _.
    let rs = c.args.runs.now in
    let bytes = c.rest_from.result.now in
    let none : length bytes ≡ 0 = grind (arith, nat_tests, c.is_empty.ensures, c.if-not-is_empty.false) in
    let within = c.place.ensures.within in
    let all : c.place.result ≡ length rs = grind (arith, nat_tests, within, c.in_err-next.ensures.lookup.0) in
    no_next rs c.args.address (rest_none rs c.args.address bytes c.rest_from.ensures none)
    (subst (IsPlaceOf rs c.args.address) all c.place.ensures.place)

pub returns-clause-some : goal.returns-clause-some
returns-clause-some c =
    let rs = c.args.runs.now in
    let a = c.args.address in
    let bytes = c.rest_from.result.now in
    let next = c.in_ok-next.next.now in
    let none : length bytes ≡ 0 = grind (arith, nat_tests, c.is_empty.ensures, c.if-not-is_empty.false) in
    let low : c.place.result < length rs = grind (arith, nat_tests, c.in_ok-next.ensures.lookup.0) in
    rw c.base.ensures
    (subst (λ (r : Run). (a ≤ r.base) × IsSome (lookup rs r.base) × IsGap rs a r.base)
    (sym c.in_ok-next.ensures.lookup.1)
    (next_run rs a c.place.result next c.requires (rest_none rs a bytes c.rest_from.ensures none)
    c.place.ensures.place low))
