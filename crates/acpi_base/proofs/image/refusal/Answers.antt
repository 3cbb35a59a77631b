use Rattle.std.proofs.Common.{◌≡◌, ◌+◌, ◌^◌, ◌≤◌, refl, sym, arith}
use Rattle.std.proofs.lemmas.Bool.{le-ltb}
use Rattle.acpi_base.specs.Image.Lent.{runs_of_parts}
use Rattle.acpi_base.specs.Image.Runs.{lookup}
use Rattle.acpi_base.proofs.Images.Lent.{none_behind}
use Rattle.acpi_base.proofs.Images.Searches.{first_never}
use Rattle.acpi_base.proofs.image.refusal.Goals as goal

pub returns-then-end_before : goal.returns-then-end_before
returns-then-end_before c =
    let p = c.args.parts.now in
    let is_behind = c.if-end_before.true in
    let own = c.end_before.ensures.own is_behind in
    let some = c.if-count-eq0.false in
    let short = c.if-count-base.false in
    let fits : c.args.base + c.args.count ≤ 2 ^ 64 = omega arith in
    rw (
      le-ltb (2 ^ 64) (c.args.base + c.args.count) fits,
      sym (first_never (lookup (runs_of_parts p)) c.args.base c.args.count (λ x from to.
          none_behind p c.args.base x (c.end_before.ensures.lent is_behind) (own x) from)),
    ) refl
