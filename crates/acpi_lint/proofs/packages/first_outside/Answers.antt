use Rattle.std.proofs.Common.{get_or}
use borrow.Author.Count.{below_more}
use Rattle.acpi_base.specs.Chains.{Ends}
use Rattle.acpi_lint.specs.Hierarchy.{none}
use Rattle.acpi_lint.specs.Rules.Hierarchy.{HasParent}
use Rattle.acpi_lint.proofs.OuterNodes.{none_outside, outside_here}
use Rattle.acpi_lint.proofs.packages.first_outside.Goals as goal

pub returns-then-ends_outside : goal.returns-then-ends_outside
returns-then-ends_outside c =
    outside_here c.args.nodes.now c.args.leaves.now c.loop-leaf.leaf-index c.requires.leaves c.requires.placed
    c.loop-leaf-test.true (λ j below. c.loop-leaf.invariant.1 j below)
    (c.ends_outside.ensures.found c.if-ends_outside.true)

pub loop-leaf-preserved : goal.loop-leaf-preserved
loop-leaf-preserved c = (
  c.ends_outside.ensures.visited c.if-ends_outside.false,
  below_more (λ j. ¬ Ends (HasParent c.args.nodes.now) (get_or c.args.leaves.now j none).number) c.loop-leaf.leaf-index
      c.loop-leaf.invariant.1 (c.ends_outside.ensures.not c.if-ends_outside.false),
)

pub returns : goal.returns
returns c =
    none_outside c.args.nodes.now c.args.leaves.now c.loop-leaf.leaf-index c.loop-leaf-test.false
    (λ j below. c.loop-leaf.invariant.1 j below)
