use Rattle.std.proofs.Common.{Ok, refl, ap, arith}
use Rattle.acpi_base.specs.declared.stage.Stage.TheVariants as stage
use Rattle.acpi_base.specs.Listed.{fadt_signature}
use Rattle.acpi_base.specs.Fadt.{IsValidFadt}
use Rattle.acpi_base.proofs.Tables.Listed.{one_listed}
use Rattle.acpi_check.proofs.SetFaults.FirstFaults.{facs_first, facs_named, facs_valid}
use Rattle.acpi_check.proofs.facs.check_facs.Goals as goal

pub returns-in-Ok : goal.returns-in-Ok
returns-in-Ok c = λ q clean is.
    let read = c.in-Ok.ensures in (
      facs_valid c.args.image.now q.rsdp c.args.fadt.now is (read.ok.0 refl),
      facs_named c.args.image.now c.args.fadt.now c.in-Ok.facs (λ none. (read.none.0 (ap Ok none)).1) read.some,
    )

pub returns-in-Err : goal.returns-in-Err
returns-in-Err c = λ q clean is.
    let m = c.args.image.now in
    let whole = c.args.fadt.now in
    let valid = clean stage.Fadt (omega arith) in
    let one = one_listed m q.rsdp fadt_signature whole valid.whole is valid.fadt in
    let fadt : IsValidFadt m q.rsdp = record { whole = whole; fadt = is; valid = rw one valid.valid } in
    let read = c.in-Err.ensures in
    let first = facs_first m q fadt c.in-Err.code clean read.stage read.fault read.least in
    rw (c.at.ensures, c.facs_address.ensures) (first, read.stage)
