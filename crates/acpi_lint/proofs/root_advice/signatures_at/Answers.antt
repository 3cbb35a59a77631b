use Rattle.std.proofs.Common.{ℕ, Option, sym, ◌∙◌}
use Rattle.acpi_lint.specs.Rules.RootAdvice.{listed_signature}
use Rattle.acpi_lint.proofs.RootTables.{one_more, no_more}
use Rattle.acpi_lint.proofs.root_advice.signatures_at.Goals as goal
use Rattle.acpi_lint.proofs.root_advice.signatures_at.Goals.{in-Some+in_ok-push, in_default}

pub loop-address-preserved : goal.loop-address-preserved
loop-address-preserved c =
    let h : ℕ → Option ℕ = listed_signature c.args.image.now in
    let xs = c.args.addresses.now in
    let i = c.loop-address.address-index in
    let found = c.loop-address.found.items in
    elim c.match-listed_signature.branch [
      | in-Some+in_ok-push w ↦
          rw (w.found-is, w.in_ok-push.ensures.items)
          (one_more h xs i _ found c.loop-address-test.true c.loop-address.invariant
          (sym c.listed_signature.ensures ∙ w.in-Some.is))
      | in_default w ↦
          rw w.found-is
          (no_more h xs i found c.loop-address-test.true c.loop-address.invariant
          (sym c.listed_signature.ensures ∙ w.in_default.is))
    ]
