use Rattle.std.proofs.Common.{subst, sym}
use Rattle.acpi_base.specs.Policy.{with_rsdp}
use Rattle.acpi_base.specs.Statements.{IsClean}
use Rattle.acpi_write.specs.Views.{set_value}
use Rattle.acpi_write.proofs.rebuilding.rebuild.Goals as goal

pub returns-clause-clean : goal.returns-clause-clean
returns-clause-clean c =
    let of = c.in_ok-set.ensures.placed in
    let kept =
    c.rebuilt_sets_are_kept.ensures c.args.image.now c.args.policy.now (set_value c.in_ok-set.set.value) c.args.base
    c.numbers_fit.ensures.fit of.clean of.value of.placed in
    subst (λ new. IsClean new (with_rsdp c.args.policy.now c.args.base)) (sym c.in_ok-new.ensures) kept.clean
