use Rattle.std.proofs.Common.{refl, sym, ◌∙◌}
use Rattle.acpi_read.specs.EntryTables.{entry_table, subject_of}
use Rattle.acpi_check.proofs.EntryPasses.Passes.{reported}
use Rattle.acpi_check.proofs.EntryPasses.TablePass.{first_of_stage, at_first, at_next, stops, ends_valid, ends_cut, short_first}
use Rattle.acpi_check.proofs.entries.check_entries.Goals as goal

pub returns-in-Err-clause-settled : goal.returns-in-Err-clause-settled
returns-in-Err-clause-settled g c =
    let E = g.E.TableEntry in
    let q = c.args.policy.now in
    let whole = c.args.table in
    rw c.at.ensures
    (first_of_stage q whole _ c.raw_entries.ensures.faults
    (short_first (entry_table E.first E.said_by (E.IsOwn q) E.IsSingle) E.codes whole c.in-Err.code
    c.in-Err.ensures.err.0 c.in-Err.ensures.err.1))

pub loop-entry-init : goal.loop-entry-init
loop-entry-init g c =
    let E = g.E.TableEntry in
    let t = entry_table E.first E.said_by (E.IsOwn c.args.policy.now) E.IsSingle in
    rw c.in-Ok.ensures.ok.1 (at_first t c.args.table c.in-Ok.ensures.ok.0, refl)

pub loop-entry-preserved : goal.loop-entry-preserved
loop-entry-preserved g c =
    let E = g.E.TableEntry in
    let t = entry_table E.first E.said_by (E.IsOwn c.args.policy.now) E.IsSingle in
    let steps = c.in-Some.ensures.steps in (
      at_next t E.codes c.args.table _ c.next.new.self.entries c.loop-entry.earlier c.in_ok-earlier.earlier
          (rw steps.0 at c.loop-entry.invariant.0) c.in_ok-earlier.ensures,
      steps.1 ∙ c.loop-entry.invariant.1,
    )

pub returns-in_err-earlier-clause-settled : goal.returns-in_err-earlier-clause-settled
returns-in_err-earlier-clause-settled g c =
    let E = g.E.TableEntry in
    let q = c.args.policy.now in
    let whole = c.args.table in
    let are = c.raw_entries.ensures.faults in
    let w = c.in_err-earlier.field-0.0 in
    let first = stops (entry_table E.first E.said_by (E.IsOwn q) E.IsSingle) E.codes (are.single q)
    (are.own q) whole _ c.next.new.self.entries c.loop-entry.earlier w
    (rw c.in-Some.ensures.steps.0 at c.loop-entry.invariant.0) c.in_err-earlier.ensures in
    reported E.stage (E.IsValid q whole) (E.IsFault q whole) w c.from_residual.result c.from_residual.ensures.0
    c.from_residual.ensures.1 (first_of_stage q whole w are first)

pub returns-in-Some-cut-clause-settled : goal.returns-in-Some-cut-clause-settled
returns-in-Some-cut-clause-settled g c =
    let E = g.E.TableEntry in
    let q = c.args.policy.now in
    let whole = c.args.table in
    let are = c.raw_entries.ensures.faults in
    let steps = c.in_default.ensures.steps in
    let cut = rw steps.0.1 at c.in-Some-cut.ensures in
    rw (c.at-in-Some-cut.ensures, c.codes.ensures)
    (first_of_stage q whole _ are
    (ends_cut (entry_table E.first E.said_by (E.IsOwn q) E.IsSingle) E.codes are.cut whole c.loop-entry.earlier
    c.in-Some-cut.offset (rw steps.0.0 at c.loop-entry.invariant.0)
    (sym c.loop-entry.invariant.1 ∙ sym steps.1 ∙ sym cut)))

pub returns-in-None-clause-settled : goal.returns-in-None-clause-settled
returns-in-None-clause-settled g c =
    let E = g.E.TableEntry in
    let q = c.args.policy.now in
    let whole = c.args.table in
    let are = c.raw_entries.ensures.faults in
    let steps = c.in_default.ensures.steps in
    let cut = rw steps.0.1 at c.in-None.ensures in
    are.valid q whole (λ code at other point wrong.
    ends_valid (entry_table E.first E.said_by (E.IsOwn q) E.IsSingle) whole c.loop-entry.earlier
    (rw steps.0.0 at c.loop-entry.invariant.0) (sym c.loop-entry.invariant.1 ∙ sym steps.1 ∙ sym cut)
    (subject_of E.codes code) code at other point (are.about q whole code at other point wrong).1)
