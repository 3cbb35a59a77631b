use Rattle.std.proofs.Common.{ℕ, List, None}
use Rattle.acpi_base.specs.Across.{HaveOneDomain, DomainFault}
use Rattle.acpi_base.specs.Listed.{madt_signature, srat_signature, HasListed}
use Rattle.acpi_base.specs.Madt.{madt_contents}
use Rattle.acpi_base.specs.Memory.{Memory}
use Rattle.acpi_base.specs.Policy.{PolicyValue}
use Rattle.acpi_base.specs.Srat.{srat_contents}
use Rattle.acpi_base.specs.declared.code.Code.TheVariants as code
use Rattle.acpi_base.specs.declared.stage.Stage.TheVariants as stage
use Rattle.acpi_base.specs.declared.table_kind.TableKind.TheVariants as kind
use Rattle.acpi_base.proofs.Across.Domains.{excludes}
use Rattle.acpi_lint.proofs.ShortTables.{no_madt_entry, no_srat_entry}
use Rattle.acpi_lint.proofs.OfTables.{of_found, some_long, none_long}
use Rattle.acpi_lint.proofs.OneCodes.{one_two_domains}
use Rattle.acpi_lint.proofs.StageVerdicts.{verdict_found}
use Rattle.acpi_lint.proofs.one_code.two_domains.Goals as goal

-- the faults of a MADT and an SRAT
abbrev OfTables : PolicyValue → List ℕ → List ℕ → ℕ → ℕ → ℕ → Type 0
OfTables q madt srat = DomainFault q.processors (madt_contents madt) (srat_contents srat) code.TwoDomains

-- those of a MADT and the set's SRAT
abbrev OfMadt : Memory → PolicyValue → List ℕ → ℕ → ℕ → ℕ → Type 0
OfMadt m q madt at other point = HasListed m q.rsdp srat_signature (λ srat. OfTables q madt srat at other point)

pub returns-in_default-clause-found : goal.returns-in_default-clause-found
returns-in_default-clause-found c = λ m are.
    let q = c.args.policy.now in
    none_long m q.rsdp madt_signature 44 (OfMadt m q) c.args.tables.now.madt (are.listed kind.Madt)
    c.in_default.ensures
    (λ whole less at other point (srat, listed, fault).
    (let (o, (e, stands, enabled)) = fault.0 in no_madt_entry whole less o e stands))

pub returns-in_default-srat-clause-found : goal.returns-in_default-srat-clause-found
returns-in_default-srat-clause-found c = λ m are.
    let q = c.args.policy.now in
    let madt = c.in-Some.madt in
    of_found m q.rsdp madt_signature (OfMadt m q) None (are.listed kind.Madt) c.in-Some.ensures.0
    (none_long m q.rsdp srat_signature 48 (OfTables q madt) c.args.tables.now.srat (are.listed kind.Srat)
    c.in_default-srat.ensures
    (λ whole less at other point (enabled, d, f, (e, stands, puts), _, _, _). no_srat_entry whole less at e stands))

pub returns-clause-found : goal.returns-clause-found
returns-clause-found c = λ m are.
    let q = c.args.policy.now in
    let madt = c.in-Some.madt in
    let srat = c.in-Some-srat.srat in
    let found = verdict_found stage.Domains code.TwoDomains
    (HaveOneDomain q.processors (madt_contents madt) (srat_contents srat))
    (DomainFault q.processors (madt_contents madt) (srat_contents srat))
    (excludes q.processors (madt_contents madt) (srat_contents srat) code.TwoDomains)
    (one_two_domains q.processors (madt_contents madt) (srat_contents srat)) c.check_domains.result c.place_of.result
    (rw c.processors.ensures.value at c.check_domains.ensures) c.place_of.ensures.place in
    some_long m q.rsdp madt_signature (OfMadt m q) c.place_of.result (are.listed kind.Madt) c.in-Some.ensures.0
    (some_long m q.rsdp srat_signature (OfTables q madt) c.place_of.result (are.listed kind.Srat)
    c.in-Some-srat.ensures.0 found)
