use Rattle.std.proofs.Common.{rules, ◌≡◌, ◌≢◌}
use Rattle.acpi_base.specs.Facs.{IsFacs}
use Rattle.acpi_base.specs.Fadt.{facs_address}
use Rattle.acpi_rules.specs.Places.{FindsLeast}
use Rattle.acpi_lint.specs.Rules.NamedAdvice.{IsOtherS4Bios}
use Rattle.acpi_lint.proofs.OddFields.{of_s4bios_facs}
use Rattle.acpi_lint.proofs.fadt_memory.s4bios_differs.Goals as goal

pub returns : goal.returns
returns c =
    let m = c.args.image.now in
    let fadt = c.args.fadt.now in
    let facs = c.in_ok-facs.facs in
    let (place, some, is) : (facs.address ≡ facs_address fadt) × (facs.address ≢ 0) × IsFacs m facs.address facs.bytes =
    search rules in
    let least : FindsLeast (IsOtherS4Bios fadt facs.bytes) c.then_some.result = search rules in
    of_s4bios_facs m fadt facs.bytes c.then_some.result (search rules) (rw (← place) some) (rw (← place) is) least
