use Rattle.std.proofs.Common.{◌≡◌, ◌<◌, ◌≤◌, length, get_or, sym, ap, ◌∙◌, Some, arith}
use Rattle.acpi_lint.proofs.Differences.{other_here, same_here, ours_more, theirs_more, none_more}
use Rattle.acpi_lint.proofs.root_advice.first_difference.Goals as goal

pub returns-then-ours-i : goal.returns-then-ours-i
returns-then-ours-i c =
    let ours = c.args.ours.now in
    let theirs = c.args.theirs.now in
    let i = c.loop-i.i in
    let within : i < length ours = omega (arith, c.loop-i-test.true, c.min-i-end.ensures) in
    let inside : i < length theirs = omega (arith, c.loop-i-test.true, c.min-i-end.ensures) in
    ap Some c.min.ensures ∙ sym (other_here ours theirs i within inside c.if-ours-i.true) ∙ c.loop-i.invariant

pub loop-i-preserved : goal.loop-i-preserved
loop-i-preserved c =
    let ours = c.args.ours.now in
    let theirs = c.args.theirs.now in
    let i = c.loop-i.i in
    let within : i < length ours = omega (arith, c.loop-i-test.true, c.min-i-end.ensures) in
    let inside : i < length theirs = omega (arith, c.loop-i-test.true, c.min-i-end.ensures) in
    same_here ours theirs i within inside c.if-ours-i.false ∙ c.loop-i.invariant

pub returns-then-ours-theirs : goal.returns-then-ours-theirs
returns-then-ours-theirs c =
    let ours = c.args.ours.now in
    let theirs = c.args.theirs.now in
    let i = c.loop-i.i in
    let at : i ≡ length theirs =
    omega (arith, c.loop-i-test.false, c.loop-i.auto.i-end, c.min-i-end.ensures, c.if-ours-theirs.true) in
    let within : i < length ours = omega (arith, at, c.if-ours-theirs.true) in
    let end : length theirs ≤ i = omega (arith, at) in
    ap (λ k. Some (get_or ours k 0)) (sym at) ∙ sym (ours_more ours theirs i within end) ∙ c.loop-i.invariant

pub returns-then-theirs-ours : goal.returns-then-theirs-ours
returns-then-theirs-ours c =
    let ours = c.args.ours.now in
    let theirs = c.args.theirs.now in
    let i = c.loop-i.i in
    let at : i ≡ length ours =
    omega (arith, c.loop-i-test.false, c.loop-i.auto.i-end, c.min-i-end.ensures, c.if-theirs-ours.true) in
    let within : i < length theirs = omega (arith, at, c.if-theirs-ours.true) in
    let end : length ours ≤ i = omega (arith, at) in
    ap (λ k. Some (get_or theirs k 0)) (sym at) ∙ sym (theirs_more ours theirs i end within) ∙ c.loop-i.invariant

pub returns-else-theirs-ours : goal.returns-else-theirs-ours
returns-else-theirs-ours c =
    let ours = c.args.ours.now in
    let theirs = c.args.theirs.now in
    let i = c.loop-i.i in
    let end : length ours ≤ i =
    omega (arith, c.loop-i-test.false, c.min-i-end.ensures, c.if-ours-theirs.false, c.if-theirs-ours.false) in
    let also : length theirs ≤ i =
    omega (arith, c.loop-i-test.false, c.min-i-end.ensures, c.if-ours-theirs.false, c.if-theirs-ours.false) in
    sym (none_more ours theirs i end also) ∙ c.loop-i.invariant
