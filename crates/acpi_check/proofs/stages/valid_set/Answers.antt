use Rattle.std.proofs.Common.{refl, sym, arith}
use Rattle.acpi_base.specs.Fadt.{IsFadt}
use Rattle.acpi_base.specs.declared.stage.Stage.TheVariants as stage
use Rattle.acpi_check.specs.StageSets.{IsFacsNamed, IsListedSetOf}
use Rattle.acpi_check.specs.Set.{IsSetOf}
use Rattle.acpi_check.proofs.SetFaults.StageByStage.{before_next, clean_to, clean_before, fault_of, passed_on}
use Rattle.acpi_check.proofs.stages.valid_set.Goals as goal

pub returns-in_err-listed : goal.returns-in_err-listed
returns-in_err-listed c =
    let m = c.args.image.now in
    let q = c.args.policy.now in
    let refused = c.from_residual.ensures in
    passed_on stage.Tables stage.Facs (IsListedSetOf m q.rsdp) (IsSetOf m q) _ _ refused.0 refused.1 (omega arith)
    (c.in_err-listed.ensures q (sym c.rsdp.ensures.value))

pub returns-in_err-fadt : goal.returns-in_err-fadt
returns-in_err-fadt c =
    let m = c.args.image.now in
    let q = c.args.policy.now in
    let listed = c.in_ok-listed.ensures q (sym c.rsdp.ensures.value) in
    let clean = before_next stage.Tables stage.Fadt refl listed.0 in
    let refused = c.from_residual-in_err-fadt.ensures in
    fault_of stage.Fadt stage.Facs (IsFadt m q.rsdp) (IsSetOf m q) _ _ refused.0 refused.1 (omega arith) clean
    (c.in_err-fadt.ensures m q clean listed.1.tables)

pub returns-in_err-facs : goal.returns-in_err-facs
returns-in_err-facs c =
    let m = c.args.image.now in
    let q = c.args.policy.now in
    let listed = c.in_ok-listed.ensures q (sym c.rsdp.ensures.value) in
    let before_fadt = before_next stage.Tables stage.Fadt refl listed.0 in
    let fadt = c.in_ok-fadt.ensures m q before_fadt listed.1.tables in
    let clean = clean_before stage.Fadt stage.Facs refl before_fadt fadt.0 in
    let refused = c.from_residual-in_err-facs.ensures in
    fault_of stage.Facs stage.Facs (IsFacsNamed m c.in_ok-fadt.fadt) (IsSetOf m q) _ _ refused.0 refused.1 (omega arith)
    clean (c.in_err-facs.ensures q clean fadt.1)

pub returns : goal.returns
returns c =
    let m = c.args.image.now in
    let q = c.args.policy.now in
    let listed = c.in_ok-listed.ensures q (sym c.rsdp.ensures.value) in
    let before_fadt = before_next stage.Tables stage.Fadt refl listed.0 in
    let fadt = c.in_ok-fadt.ensures m q before_fadt listed.1.tables in
    let clean = clean_before stage.Fadt stage.Facs refl before_fadt fadt.0 in
    let facs = c.in_ok-facs.ensures q clean fadt.1 in
    let all = clean_to stage.Facs clean facs.0 in
    (all, record { listed = listed.1; policy = refl; clean = all; fadt = fadt.1; facs = facs.1 })
