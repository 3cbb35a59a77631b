use Rattle.std.proofs.Common.{◌∙◌, get_or, subst, arith}
use Rattle.acpi_lint.specs.Hierarchy.{none}
use Rattle.acpi_lint.specs.Rules.Hierarchy.{HasParent}
use Rattle.acpi_lint.proofs.OuterChains.{walk_on, walk_ends, walk_stops, walked_before}
use Rattle.acpi_lint.proofs.OuterNodes.{are_none, count_of, names_one, names_there, not_named, offset_of, offsets, starts}
use Rattle.acpi_lint.proofs.packages.ends_outside.Goals as goal

pub loop-index-init : goal.loop-index-init
loop-index-init c = starts c.args.nodes.now c.args.visited.now c.args.start c.requires.visited

-- it was there before

pub returns-then-visited-index-clause-not : goal.returns-then-visited-index-clause-not
returns-then-visited-index-clause-not c = λ _.
    let nodes = c.args.nodes.now in
    let (inside, first, here) = c.in-Some.ensures in
    (walk_stops (HasParent nodes) (offsets nodes) c.loop-index.visited c.args.start c.loop-index.offset
    c.loop-index.invariant
    (walked_before (HasParent nodes) (offsets nodes) c.loop-index.visited c.args.start c.loop-index.offset
    c.in-Some.index c.loop-index.invariant (omega (arith, inside, count_of nodes))
    (offset_of nodes c.in-Some.index inside ∙ here) c.if-visited-index.true)).0

pub returns-then-visited-index-clause-visited : goal.returns-then-visited-index-clause-visited
returns-then-visited-index-clause-visited c = λ _.
    let nodes = c.args.nodes.now in
    let (inside, first, here) = c.in-Some.ensures in
    are_none nodes c.loop-index.visited c.loop-index.invariant.count
    (walk_stops (HasParent nodes) (offsets nodes) c.loop-index.visited c.args.start c.loop-index.offset
    c.loop-index.invariant
    (walked_before (HasParent nodes) (offsets nodes) c.loop-index.visited c.args.start c.loop-index.offset
    c.in-Some.index c.loop-index.invariant (omega (arith, inside, count_of nodes))
    (offset_of nodes c.in-Some.index inside ∙ here) c.if-visited-index.true)).1

-- the walk goes on

pub returns-then-offset-eq0-clause-found : goal.returns-then-offset-eq0-clause-found
returns-then-offset-eq0-clause-found c = λ _.
    let nodes = c.args.nodes.now in
    let (inside, first, here) = c.in-Some.ensures in
    walk_ends (HasParent nodes) (offsets nodes) c.loop-index.visited c.args.start c.loop-index.offset
    c.loop-index.invariant
    (subst (HasParent nodes c.loop-index.offset) c.if-offset-eq0.true
    (names_there nodes c.in-Some.index c.loop-index.offset first here))

pub loop-index-preserved : goal.loop-index-preserved
loop-index-preserved c =
    let nodes = c.args.nodes.now in
    let (inside, first, here) = c.in-Some.ensures in
    walk_on (HasParent nodes) (offsets nodes) c.loop-index.visited c.args.start c.loop-index.offset
    (get_or nodes c.in-Some.index none).value c.in-Some.index (names_one nodes) c.loop-index.invariant
    (omega (arith, inside, count_of nodes)) (offset_of nodes c.in-Some.index inside ∙ here)
    (names_there nodes c.in-Some.index c.loop-index.offset first here) c.if-offset-eq0.false

-- there is no node

pub returns-clause-not : goal.returns-clause-not
returns-clause-not c = λ _.
    let nodes = c.args.nodes.now in
    (walk_stops (HasParent nodes) (offsets nodes) c.loop-index.visited c.args.start c.loop-index.offset
    c.loop-index.invariant (not_named nodes c.loop-index.offset c.in_default.ensures)).0

pub returns-clause-visited : goal.returns-clause-visited
returns-clause-visited c = λ _.
    let nodes = c.args.nodes.now in
    are_none nodes c.loop-index.visited c.loop-index.invariant.count
    (walk_stops (HasParent nodes) (offsets nodes) c.loop-index.visited c.args.start c.loop-index.offset
    c.loop-index.invariant (not_named nodes c.loop-index.offset c.in_default.ensures)).1
