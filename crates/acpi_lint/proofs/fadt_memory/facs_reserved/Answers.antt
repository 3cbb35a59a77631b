use Rattle.std.proofs.Common.{rules, ◌≡◌, ◌≢◌}
use Rattle.acpi_base.specs.Facs.{IsFacs}
use Rattle.acpi_base.specs.Fadt.{facs_address}
use Rattle.acpi_rules.specs.Places.{FindsLeast}
use Rattle.acpi_lint.specs.Rules.NamedAdvice.{IsOddFacs}
use Rattle.acpi_lint.proofs.OddFields.{of_named_facs}
use Rattle.acpi_lint.proofs.fadt_memory.facs_reserved.Goals as goal

pub returns : goal.returns
returns c =
    let m = c.args.image.now in
    let fadt = c.args.fadt.now in
    let facs = c.in_ok-facs.facs in
    let (place, some, is) : (facs.address ≡ facs_address fadt) × (facs.address ≢ 0) × IsFacs m facs.address facs.bytes =
    search rules in
    let least : FindsLeast (IsOddFacs facs.bytes) c.odd_facs.result = rw c.bytes.ensures.bytes at c.odd_facs.ensures in
    of_named_facs m fadt facs.bytes c.odd_facs.result (rw (← place) some) (rw (← place) is) least
