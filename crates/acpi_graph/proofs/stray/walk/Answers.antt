use Rattle.std.proofs.Common.{◌≡◌, ◌+◌, ◌-◌, ◌<◌, ◌≤◌, set, length, get_or, arith, refl, sym}
use Rattle.std.proofs.lemmas.List.{length-set}
use Rattle.acpi_graph.proofs.Walks.{leaves, room_left, steps_within, stands_on, root_ends, settled_ends, settle, round_found}
use Rattle.acpi_graph.proofs.stray.walk.Goals as goal

-- a root was reached

pub returns-in-None-clause-end : goal.returns-in-None-clause-end
returns-in-None-clause-end c =
    λ _. root_ends c.args.parents.now c.args.start c.args.steps.now c.loop-marks.steps c.loop-marks.node
    c.loop-marks.invariant.1 (sym (c.in-None.ensures.parent))

pub returns-in-None-clause-settled : goal.returns-in-None-clause-settled
returns-in-None-clause-settled c = λ _.
    settle c.args.parents.now (set c.loop-marks.marks c.loop-marks.node (c.loop-marks.steps + 1)) c.args.start
    c.args.steps.now c.step.new.steps
    (leaves c.args.parents.now c.loop-marks.marks c.args.start c.args.steps.now c.loop-marks.steps c.loop-marks.node
    c.step.new.steps
    c.loop-marks.invariant.0 c.loop-marks.invariant.1 c.loop-marks-test.true c.step.ensures.counted)
    (returns-in-None-clause-end c refl)

pub returns-in-None-clause-steps : goal.returns-in-None-clause-steps
returns-in-None-clause-steps c =
    let room : c.loop-marks.steps < length c.args.parents.now =
    room_left c.args.parents.now c.loop-marks.marks c.args.start c.args.steps.now c.loop-marks.steps
    c.loop-marks.node
    c.loop-marks.invariant.0 c.loop-marks.invariant.1 c.loop-marks-test.true in
    let counted : c.step.new.steps ≡ c.loop-marks.steps + 1 = c.step.ensures.counted in
    omega arith

-- the walk goes on

pub loop-marks-smaller : goal.loop-marks-smaller
loop-marks-smaller c =
    let room : c.loop-marks.steps < length c.args.parents.now =
    room_left c.args.parents.now c.loop-marks.marks c.args.start c.args.steps.now c.loop-marks.steps
    c.loop-marks.node
    c.loop-marks.invariant.0 c.loop-marks.invariant.1 c.loop-marks-test.true in
    let same : length c.loop-marks.marks ≡ length c.args.parents.now = c.loop-marks.invariant.0.same_length in
    let counted : c.step.new.steps ≡ c.loop-marks.steps + 1 = c.step.ensures.counted in
    omega (arith, length-set c.loop-marks.marks c.loop-marks.node (c.loop-marks.steps + 1))

pub loop-marks-preserved : goal.loop-marks-preserved
loop-marks-preserved c = (
  leaves c.args.parents.now c.loop-marks.marks c.args.start c.args.steps.now c.loop-marks.steps c.loop-marks.node
      c.step.new.steps
      c.loop-marks.invariant.0 c.loop-marks.invariant.1 c.loop-marks-test.true c.step.ensures.counted,
  stands_on c.args.parents.now c.args.start c.args.steps.now c.loop-marks.steps c.loop-marks.node c.step.new.steps
      c.in-Some.parent
      c.requires.nodes c.loop-marks.invariant.0.from_base c.loop-marks.invariant.1 c.step.ensures.counted
      (sym c.in-Some.ensures.parent),
)

-- a node was reached that a walk had left

pub returns-then-mark-before-clause-end : goal.returns-then-mark-before-clause-end
returns-then-mark-before-clause-end c =
    λ _. settled_ends c.args.parents.now c.loop-marks.marks c.args.start c.args.steps.now c.loop-marks.steps
    c.loop-marks.node
    c.loop-marks.invariant.0 c.loop-marks.invariant.1 (let marked = c.loop-marks-test.false in omega arith)
    c.if-mark-before.true

pub returns-then-mark-before-clause-settled : goal.returns-then-mark-before-clause-settled
returns-then-mark-before-clause-settled c =
    λ _. settle c.args.parents.now c.loop-marks.marks c.args.start c.args.steps.now c.loop-marks.steps
    c.loop-marks.invariant.0 (returns-then-mark-before-clause-end c refl)

pub returns-else-mark-before-clause-round : goal.returns-else-mark-before-clause-round
returns-else-mark-before-clause-round c =
    let low : c.args.steps.now ≤ c.loop-marks.steps = c.loop-marks.invariant.0.from_base in
    let upto : get_or c.loop-marks.marks c.loop-marks.node 0 ≤ c.loop-marks.steps =
    c.loop-marks.invariant.0.numbered c.loop-marks.node in
    let within : c.loop-marks.steps ≤ length c.args.parents.now =
    steps_within c.args.parents.now c.loop-marks.marks c.args.start c.args.steps.now c.loop-marks.steps
    c.loop-marks.invariant.0 in
    let own : c.args.steps.now < get_or c.loop-marks.marks c.loop-marks.node 0 = c.if-mark-before.false in (
      refl,
      round_found c.args.parents.now c.loop-marks.marks c.args.start c.args.steps.now c.loop-marks.steps
          c.loop-marks.node
          (get_or c.loop-marks.marks c.loop-marks.node 0 - c.args.steps.now - 1)
          (c.loop-marks.steps + 1 - get_or c.loop-marks.marks c.loop-marks.node 0)
          c.loop-marks.invariant.0 c.loop-marks.invariant.1 (omega arith) (omega arith),
      omega arith,
    )
