use Rattle.std.proofs.Common.{◌≡◌, ◌-◌, suc, get_or, arith, refl, sym, subst}
use Rattle.acpi_graph.proofs.FirstOverlap.{is_clear, is_first_clash}
use Rattle.acpi_graph.proofs.clash.first_overlap.Goals as goal

pub returns-then-overlaps-clause-first : goal.returns-then-overlaps-clause-first
returns-then-overlaps-clause-first c =
    let step : suc (c.loop-next.next - 1) ≡ c.loop-next.next = omega arith in
    let before = c.index-spans-next.result in
    let after = c.index-spans-next-in-loop-next.result in
    is_first_clash c.args.spans.now c.requires.names c.requires.order (c.loop-next.next - 1) before after (record {
      at_a = record { within = omega arith; is = sym c.index-spans-next.is };
      at_b = record {
        within = omega arith;
        is = subst (λ k. get_or c.args.spans.now k after ≡ after) (sym step) (sym c.index-spans-next-in-loop-next.is);
      };
      before = λ k d below. c.loop-next.invariant.2 k d (omega arith);
      into = c.if-overlaps.ensures.overlap.0 refl;
    })

pub returns-clause-none : goal.returns-clause-none
returns-clause-none c = λ _. is_clear c.args.spans.now (λ k d below. c.loop-next.invariant.2 k d (omega arith))
