use Rattle.std.proofs.Common.{◌≡◌, Ok, refl, ap, sym, ◌∙◌, rules, arith}
use Rattle.std.specs.Prelude.{⊤}
use Rattle.acpi_base.specs.Codes.{stage_of}
use Rattle.acpi_base.specs.Contents.{HasPptt}
use Rattle.acpi_base.specs.Listed.{slit_signature, HasListed}
use Rattle.acpi_base.specs.Pptt.{pptt_contents, ReferenceFault, ParentFault, CacheFault}
use Rattle.acpi_base.specs.Slit.{slit_contents, SlitFault}
use Rattle.acpi_base.specs.declared.code.Code.TheVariants as code
use Rattle.acpi_base.specs.declared.stage.Stage.TheVariants as stage
use Rattle.acpi_base.specs.declared.table_kind.TableKind.TheVariants as kind
use Rattle.acpi_lint.proofs.FirstOfCodes.{first_of_stage, first_of_result, alone}
use Rattle.acpi_lint.proofs.OfTables.{listed_lifts, pptt_lifts, of_one}
use Rattle.acpi_lint.proofs.faults.first_place.Goals as goal

pub returns-in-Rsdp : goal.returns-in-Rsdp
returns-in-Rsdp c =
    first_of_stage c.args.image.now c.args.policy.now stage.Rsdp c.args.code (sym c.stage.ensures ∙ c.in-Rsdp.is)
    (λ e. omega (arith, e), λ e. omega (arith, e)) c.rsdp_fault.result c.rsdp_fault.ensures

pub returns-in-Root : goal.returns-in-Root
returns-in-Root c =
    first_of_stage c.args.image.now c.args.policy.now stage.Root c.args.code (sym c.stage.ensures ∙ c.in-Root.is)
    (λ e. omega (arith, e), λ e. omega (arith, e)) c.root_fault.result c.root_fault.ensures

pub returns-in-Tables : goal.returns-in-Tables
returns-in-Tables c =
    first_of_stage c.args.image.now c.args.policy.now stage.Tables c.args.code (sym c.stage.ensures ∙ c.in-Tables.is)
    (λ e. omega (arith, e), λ e. omega (arith, e)) c.slot_fault.result
    (c.slot_fault.ensures c.args.image.now c.args.policy.now c.requires)

pub returns-in-Fadt : goal.returns-in-Fadt
returns-in-Fadt c =
    first_of_stage c.args.image.now c.args.policy.now stage.Fadt c.args.code (sym c.stage.ensures ∙ c.in-Fadt.is)
    (λ e. omega (arith, e), λ e. omega (arith, e)) c.fadt_fault.result
    (c.fadt_fault.ensures c.args.image.now c.args.policy.now c.requires)

pub returns-in-Facs : goal.returns-in-Facs
returns-in-Facs c =
    first_of_stage c.args.image.now c.args.policy.now stage.Facs c.args.code (sym c.stage.ensures ∙ c.in-Facs.is)
    (λ e. omega (arith, e), λ e. omega (arith, e)) c.facs_fault.result
    (c.facs_fault.ensures c.args.policy.now c.requires)

pub returns-in-Madt : goal.returns-in-Madt
returns-in-Madt c =
    first_of_stage c.args.image.now c.args.policy.now stage.Madt c.args.code (sym c.stage.ensures ∙ c.in-Madt.is)
    (λ e. omega (arith, e), λ e. omega (arith, e)) c.listed_fault.result (c.listed_fault.ensures c.args.image.now
    c.requires)

pub returns-in-Srat : goal.returns-in-Srat
returns-in-Srat c =
    first_of_stage c.args.image.now c.args.policy.now stage.Srat c.args.code (sym c.stage.ensures ∙ c.in-Srat.is)
    (λ e. omega (arith, e), λ e. omega (arith, e)) c.listed_fault-in-Srat.result (c.listed_fault-in-Srat.ensures
    c.args.image.now c.requires)

pub returns-in-Slit : goal.returns-in-Slit
returns-in-Slit c =
    let m = c.args.image.now in
    let q = c.args.policy.now in
    first_of_stage m q stage.Slit c.args.code (sym c.stage.ensures ∙ c.in-Slit.is)
    (λ e. omega (arith, e), λ e. omega (arith, e)) c.and_then.result
    (of_one (HasListed m q.rsdp slit_signature) (λ whole. whole)
    (λ whole. SlitFault (slit_contents whole) c.args.code) {X = ⊤} (Ok c.and_then.result) c.table-slit.result
    (rw c.table-slit.ensures (listed_lifts m q.rsdp slit_signature c.args.tables.now.slit
    (c.requires.listed kind.Slit)))
    c.and_then.ensures (λ none. ap Ok none) (λ whole found. search rules))

pub returns-in-Pptt : goal.returns-in-Pptt
returns-in-Pptt c =
    first_of_stage c.args.image.now c.args.policy.now stage.Pptt c.args.code (sym c.stage.ensures ∙ c.in-Pptt.is)
    (λ e. omega (arith, e), λ e. omega (arith, e)) c.listed_fault-in-Pptt.result (c.listed_fault-in-Pptt.ensures
    c.args.image.now c.requires)

pub returns-in-References : goal.returns-in-References
returns-in-References c =
    let m = c.args.image.now in
    let q = c.args.policy.now in
    first_of_result m q stage.References c.args.code (sym c.stage.ensures ∙ c.in-References.is)
    (λ e. omega (arith, e), λ e. omega (arith, e)) c.map_or.result
    (of_one (HasPptt m q) pptt_contents (λ said. ReferenceFault said c.args.code) c.map_or.result c.pptt-pptt.result
    (pptt_lifts m q c.pptt-pptt.result c.requires c.pptt-pptt.ensures) c.map_or.ensures (λ none. none)
    (λ whole found. search rules))

pub returns-in-Overrides : goal.returns-in-Overrides
returns-in-Overrides c =
    let own : stage_of c.args.code ≡ stage.Overrides = sym c.stage.ensures ∙ c.in-Overrides.is in
    first_of_result c.args.image.now c.args.policy.now stage.Overrides c.args.code own
    (λ e. omega (arith, e), λ e. omega (arith, e)) c.override_clash.result
    (rw (alone stage.Overrides code.OverrideClash c.args.code refl own)
    (c.override_clash.ensures.found c.args.image.now c.requires))

pub returns-in-Parents : goal.returns-in-Parents
returns-in-Parents c =
    let m = c.args.image.now in
    let q = c.args.policy.now in
    let own : stage_of c.args.code ≡ stage.Parents = sym c.stage.ensures ∙ c.in-Parents.is in
    first_of_result m q stage.Parents c.args.code own (λ e. omega (arith, e), λ e. omega (arith, e))
    c.map_or-in-Parents.result
    (rw (alone stage.Parents code.ParentCycle c.args.code refl own)
    (of_one (HasPptt m q) pptt_contents (λ said. ParentFault said code.ParentCycle) c.map_or-in-Parents.result
    c.pptt-pptt.result
    (pptt_lifts m q c.pptt-pptt.result c.requires c.pptt-pptt.ensures) c.map_or-in-Parents.ensures (λ none. none)
    (λ whole found. search rules)))

pub returns-in-Caches : goal.returns-in-Caches
returns-in-Caches c =
    let m = c.args.image.now in
    let q = c.args.policy.now in
    let own : stage_of c.args.code ≡ stage.Caches = sym c.stage.ensures ∙ c.in-Caches.is in
    first_of_result m q stage.Caches c.args.code own (λ e. omega (arith, e), λ e. omega (arith, e))
    c.map_or-in-Caches.result
    (rw (alone stage.Caches code.CacheCycle c.args.code refl own)
    (of_one (HasPptt m q) pptt_contents (λ said. CacheFault said code.CacheCycle) c.map_or-in-Caches.result
    c.pptt-pptt.result
    (pptt_lifts m q c.pptt-pptt.result c.requires c.pptt-pptt.ensures) c.map_or-in-Caches.ensures (λ none. none)
    (λ whole found. search rules)))

pub returns-in-Domains : goal.returns-in-Domains
returns-in-Domains c =
    let own : stage_of c.args.code ≡ stage.Domains = sym c.stage.ensures ∙ c.in-Domains.is in
    first_of_result c.args.image.now c.args.policy.now stage.Domains c.args.code own
    (λ e. omega (arith, e), λ e. omega (arith, e)) c.two_domains.result
    (rw (alone stage.Domains code.TwoDomains c.args.code refl own)
    (c.two_domains.ensures.found c.args.image.now c.requires))

pub returns-in-Served : goal.returns-in-Served
returns-in-Served c =
    let own : stage_of c.args.code ≡ stage.Served = sym c.stage.ensures ∙ c.in-Served.is in
    first_of_result c.args.image.now c.args.policy.now stage.Served c.args.code own
    (λ e. omega (arith, e), λ e. omega (arith, e)) c.gsi_nowhere.result
    (rw (alone stage.Served code.GsiNowhere c.args.code refl own)
    (c.gsi_nowhere.ensures.found c.args.image.now c.requires))

pub returns-in-Leaves : goal.returns-in-Leaves
returns-in-Leaves c =
    let own : stage_of c.args.code ≡ stage.Leaves = sym c.stage.ensures ∙ c.in-Leaves.is in
    first_of_result c.args.image.now c.args.policy.now stage.Leaves c.args.code own
    (λ e. omega (arith, e), λ e. omega (arith, e)) c.leaf_unknown.result
    (rw (alone stage.Leaves code.LeafUnknown c.args.code refl own)
    (c.leaf_unknown.ensures.found c.args.image.now c.requires))

pub returns-in-Interrupts : goal.returns-in-Interrupts
returns-in-Interrupts c =
    rw
    (alone stage.Interrupts code.GsiClash c.args.code refl (sym c.stage.ensures ∙ c.in-Interrupts.is))
    (c.gsi_clash.ensures.found c.args.image.now c.requires)

pub returns-in-Ranges : goal.returns-in-Ranges
returns-in-Ranges c =
    rw
    (alone stage.Ranges code.Overlap c.args.code refl (sym c.stage.ensures ∙ c.in-Ranges.is))
    (c.overlap.ensures.found c.args.image.now c.requires)
