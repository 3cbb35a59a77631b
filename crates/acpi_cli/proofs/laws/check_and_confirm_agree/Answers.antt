use Rattle.std.proofs.Common.{◌≤◌, subst, arith}
use Rattle.std.proofs.lemmas.Bool.{false_from_ne_true}
use Rattle.acpi_base.specs.Codes.{stage_number}
use Rattle.acpi_base.specs.Faults.{IsFirstFault}
use Rattle.acpi_base.specs.declared.stage.Stage.{Stage}
use Rattle.acpi_base.specs.declared.stage.Stage.TheVariants as stage
use Rattle.acpi_base.proofs.FirstOfCode.{up_to_last}
use Rattle.acpi_check.specs.Headline.{IfNo}
use Rattle.acpi_cli.proofs.laws.check_and_confirm_agree.Goals as goal

pub returns-clause-first : goal.returns-clause-first
returns-clause-first c = λ reported.
    let first = subst (IfNo (IsFirstFault c.args.image.now c.args.policy.now)) reported c.in_ok-verdict.ensures.no in
    c.confirm-is_confirmed.ensures.fault.1 first.fault

pub returns-clause-none : goal.returns-clause-none
returns-clause-none c = λ yes.
    let clean = c.in_ok-verdict.ensures.yes.0 yes in
    false_from_ne_true c.confirm-is_confirmed.result
    (λ confirmed.
    let fault = c.confirm-is_confirmed.ensures.fault.0 confirmed in
    c.fault_excludes_clean.ensures.excluded c.args.image.now c.args.policy.now c.args.witness.now stage.Leaves fault
    (up_to_last _) (λ s below. clean s))
