use Rattle.std.proofs.Common.{ℕ, List, None, sym, ◌∙◌}
use Rattle.acpi_base.specs.Across.{AreLeavesKnown, LeafFault}
use Rattle.acpi_base.specs.Listed.{madt_signature, pptt_signature, HasListed}
use Rattle.acpi_base.specs.Madt.{madt_contents}
use Rattle.acpi_base.specs.Memory.{Memory}
use Rattle.acpi_base.specs.Policy.{PolicyValue}
use Rattle.acpi_base.specs.Pptt.{pptt_contents}
use Rattle.acpi_base.specs.declared.code.Code.TheVariants as code
use Rattle.acpi_base.specs.declared.stage.Stage.TheVariants as stage
use Rattle.acpi_base.specs.declared.table_kind.TableKind.TheVariants as kind
use Rattle.acpi_base.proofs.Across.Leaves.{excludes}
use Rattle.acpi_lint.proofs.OfTables.{of_found, of_not_found, some_long}
use Rattle.acpi_lint.proofs.OneCodes.{one_leaf_unknown}
use Rattle.acpi_lint.proofs.StageVerdicts.{verdict_found}
use Rattle.acpi_lint.proofs.one_code.leaf_unknown.Goals as goal

-- the faults of a MADT and a PPTT
abbrev OfTables : List ℕ → List ℕ → ℕ → ℕ → ℕ → Type 0
OfTables madt pptt = LeafFault (madt_contents madt) (pptt_contents pptt) code.LeafUnknown

-- those of a MADT and the set's PPTT
abbrev OfMadt : Memory → PolicyValue → List ℕ → ℕ → ℕ → ℕ → Type 0
OfMadt m q madt at other point = HasListed m q.rsdp pptt_signature (λ pptt. OfTables madt pptt at other point)

pub returns-in_default-clause-found : goal.returns-in_default-clause-found
returns-in_default-clause-found c = λ m are.
    let q = c.args.policy.now in
    of_not_found m q.rsdp madt_signature (OfMadt m q) (are.listed kind.Madt) (sym c.table.ensures ∙ c.in_default.is)

pub returns-in_default-pptt-clause-found : goal.returns-in_default-pptt-clause-found
returns-in_default-pptt-clause-found c = λ m are.
    let q = c.args.policy.now in
    of_found m q.rsdp madt_signature (OfMadt m q) None (are.listed kind.Madt) (sym c.table.ensures ∙ c.in-Some.is)
    (of_not_found m q.rsdp pptt_signature (OfTables c.in-Some.madt) (are.listed kind.Pptt)
    (sym c.pptt.ensures ∙ c.in_default-pptt.is))

pub returns-clause-found : goal.returns-clause-found
returns-clause-found c = λ m are.
    let q = c.args.policy.now in
    let madt = c.in-Some.madt in
    let pptt = c.in-Some-pptt.pptt in
    let found = verdict_found stage.Leaves code.LeafUnknown (AreLeavesKnown (madt_contents madt) (pptt_contents pptt))
    (LeafFault (madt_contents madt) (pptt_contents pptt))
    (excludes (madt_contents madt) (pptt_contents pptt) code.LeafUnknown)
    (one_leaf_unknown (madt_contents madt) (pptt_contents pptt)) c.check_leaves.result c.place_of.result
    c.check_leaves.ensures c.place_of.ensures.place in
    some_long m q.rsdp madt_signature (OfMadt m q) c.place_of.result (are.listed kind.Madt)
    (sym c.table.ensures ∙ c.in-Some.is)
    (some_long m q.rsdp pptt_signature (OfTables madt) c.place_of.result (are.listed kind.Pptt)
    (sym c.pptt.ensures ∙ c.in-Some-pptt.is) found)
