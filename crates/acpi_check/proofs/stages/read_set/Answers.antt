use Rattle.std.proofs.Common.{refl, arith}
use Rattle.acpi_base.specs.Rsdp.{IsRsdp}
use Rattle.acpi_base.specs.declared.stage.Stage.TheVariants as stage
use Rattle.acpi_check.specs.StageSets.{IsListedSetOf}
use Rattle.acpi_check.specs.TableResults.{AreFirstTables, IsRootOf}
use Rattle.acpi_check.proofs.SetFaults.StageByStage.{before_first, clean_to, clean_before, fault_of}
use Rattle.acpi_check.proofs.stages.read_set.Goals as goal

pub returns-in_err-rsdp : goal.returns-in_err-rsdp
returns-in_err-rsdp c = λ q same.
    let m = c.args.image.now in
    fault_of stage.Rsdp stage.Tables (IsRsdp m q.rsdp) (IsListedSetOf m q.rsdp) _ _ c.from_residual.ensures.0
    c.from_residual.ensures.1 (omega arith) (before_first m q) (c.in_err-rsdp.ensures q same)

pub returns-in_err-root : goal.returns-in_err-root
returns-in_err-root c = λ q same.
    let m = c.args.image.now in
    let rsdp = c.in_ok-rsdp.ensures q same in
    let clean = clean_before stage.Rsdp stage.Root refl (before_first m q) rsdp.0 in
    let passed_on = c.from_residual-in_err-root.ensures in
    fault_of stage.Root stage.Tables (IsRootOf m q.rsdp) (IsListedSetOf m q.rsdp) _ _ passed_on.0 passed_on.1
    (omega arith) clean (c.in_err-root.ensures q clean rsdp.1)

pub returns-in_err-tables : goal.returns-in_err-tables
returns-in_err-tables c = λ q same.
    let m = c.args.image.now in
    let rsdp = c.in_ok-rsdp.ensures q same in
    let before_root = clean_before stage.Rsdp stage.Root refl (before_first m q) rsdp.0 in
    let root = c.in_ok-root.ensures q before_root rsdp.1 in
    let clean = clean_before stage.Root stage.Tables refl before_root root.0 in
    let passed_on = c.from_residual-in_err-tables.ensures in
    fault_of stage.Tables stage.Tables (AreFirstTables m q.rsdp) (IsListedSetOf m q.rsdp) _ _ passed_on.0 passed_on.1
    (omega arith) clean (c.in_err-tables.ensures q clean root.1)

pub returns : goal.returns
returns c = λ q same.
    let m = c.args.image.now in
    let rsdp = c.in_ok-rsdp.ensures q same in
    let before_root = clean_before stage.Rsdp stage.Root refl (before_first m q) rsdp.0 in
    let root = c.in_ok-root.ensures q before_root rsdp.1 in
    let clean = clean_before stage.Root stage.Tables refl before_root root.0 in
    let tables = c.in_ok-tables.ensures q clean root.1 in (
      clean_to stage.Tables clean tables.0,
      record { image = refl; rsdp = rsdp.1; root = root.1; valid = tables.0; tables = tables.1 },
    )
