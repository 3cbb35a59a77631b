use Rattle.std.proofs.Common.{◌≡◌, ◌-◌, ◌<◌, get_or, inl, inr, arith, ap, subst}
use Rattle.std.proofs.lemmas.List.{get_or_default}
use Rattle.std.proofs.lemmas.Bool.{cases_lt}
use Rattle.std.proofs.Math.Nat.{eq-or-lt_of_le}
use Rattle.acpi_tests.proofs.graph.clash.names_rise.Goals as goal

pub loop-later-preserved : goal.loop-later-preserved
loop-later-preserved c i j d before below =
    let later = c.loop-later.later in
    let spans = c.args.spans.now in
    let one = c.index-spans-later.result in
    let previous = c.index-spans-later-in-loop-later.result in
    let later_name : (get_or spans later d).name ≡ (get_or spans later one).name =
    ap (λ s. s.name) (get_or_default spans later d one (omega arith)) in
    let previous_name : (get_or spans (later - 1) d).name ≡ (get_or spans (later - 1) previous).name =
    ap (λ s. s.name) (get_or_default spans (later - 1) d previous (omega arith)) in
    let rises : (get_or spans (later - 1) previous).name < (get_or spans later one).name = c.if-spans-later.false in
    elim (cases_lt j later) [
      | inl lower ↦ c.loop-later.invariant i j d before lower
      | inr top ↦
          let j_is : later ≡ j = omega arith in
          subst (λ k. (get_or c.args.spans.now i d).name < (get_or c.args.spans.now k d).name) j_is
          (elim (eq-or-lt_of_le {n = i} {m = later - 1} (omega arith)) [
            | inl same ↦
                let same_name : (get_or c.args.spans.now i d).name ≡ (get_or c.args.spans.now (later - 1) d).name =
                ap (λ k. (get_or c.args.spans.now k d).name) same in
                omega arith
            | inr earlier ↦
                let below_previous : (get_or c.args.spans.now i d).name < (get_or c.args.spans.now (later - 1) d).name =
                c.loop-later.invariant i (later - 1) d earlier (omega arith) in
                omega arith
          ])
    ]
