use Rattle.std.proofs.Common.{[], ◌≡◌, rules}
use Rattle.acpi_rules.specs.declared.overlap.Range.TheVariants as range
use Rattle.acpi_rules.proofs.FormFindings.{each_ok}
use Rattle.acpi_rules.proofs.OverlappingNumbers.{overlap_as}
use Rattle.acpi_lint.specs.Rules.Entries.{entries_give}
use Rattle.acpi_lint.specs.declared.rows.mcfg.TheConstants.{ECAMS}
use Rattle.acpi_lint.specs.declared.rows.mcfg_fields.TheConstants.{MCFG_ENTRIES}
use Rattle.acpi_lint.proofs.Ecams.{ecams_are}
use Rattle.acpi_lint.proofs.ecam.ecam_overlap.Goals as goal

pub returns : goal.returns
returns c =
    let table : c.new.result.bytes.now ≡ c.args.mcfg.now = search rules in
    let other : c.new-2.result.bytes.now ≡ [] = search rules in
    let given : c.in_ok-entries.entries.items ≡ entries_give MCFG_ENTRIES ECAMS c.args.mcfg.now =
    rw (table, other) at c.in_ok-entries.ensures in
    each_ok c.first_overlap.result
    (λ found least. overlap_as range.Last found
    (ecams_are c.args.mcfg.now c.in_ok-entries.entries.items c.in_ok-ecams.ecams.items given
    (rw c.deref.ensures.value at c.in_ok-ecams.ensures))
    least)
    c.first_overlap.ensures.found
