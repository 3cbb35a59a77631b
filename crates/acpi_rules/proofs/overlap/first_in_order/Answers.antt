use Rattle.std.proofs.Common.{◌≡◌, get_or, sym, arith}
use Rattle.std.proofs.lemmas.List.{get_or_default}
use Rattle.acpi_rules.specs.declared.numbered.Numbered.{Numbered}
use Rattle.acpi_rules.proofs.OverlappingNumbers.{IsMet, found_overlap, highest_first, next_highest, none_overlaps, same_highest}
use Rattle.acpi_rules.proofs.overlap.first_in_order.Goals as goal
use Rattle.acpi_rules.proofs.overlap.first_in_order.Goals.{else-here-highest-via-then-here-highest+then-start-end+else-start-end-2, else-here-highest-via-then-here-highest+else-start-end, else-here-highest-via-else-here-highest, then-end, else-end}

pub loop-here-init : goal.loop-here-init
loop-here-init c =
    let item = c.in_ok-highest.ensures.item in
    λ rise. highest_first c.args.range c.args.sorted.now c.in_ok-highest.field-0.now (item.3.0) (sym item.1)

pub loop-here-preserved : goal.loop-here-preserved
loop-here-preserved c =
    let r = c.args.range in
    let sorted = c.args.sorted.now in
    let i = c.loop-here.here-index in
    let none : Numbered = record { number = 0; at = 0; value = 0 } in
    let h : Numbered = get_or sorted i none in
    let here : get_or sorted i h ≡ h = get_or_default sorted i h none c.loop-here-test.true in
    let high = c.loop-here.highest in
    let clear : ¬ IsMet r high h = λ met. elim c.else-here-highest.branch [
      | else-here-highest-via-then-here-highest+then-start-end+else-start-end-2 w ↦
          omega (arith, w.if-start-end-2.false, w.end.ensures, c.from-start.ensures, met.within)
      | else-here-highest-via-then-here-highest+else-start-end w ↦
          omega (arith, w.if-start-end.false, c.end-end.ensures, c.from-start.ensures, met.some)
      | else-here-highest-via-else-here-highest w ↦ met.two w.if-here-highest.false
    ] in
    λ rise.
    let highest = c.loop-here.invariant rise in
    elim c.if-end.branch [
      | then-end w ↦ rw w.highest-is
          (next_highest r sorted i high h rise c.loop-here-test.true here highest clear
          (omega (arith, w.if-end.true, c.end-end.ensures, c.end-in-loop-here.ensures)))
      | else-end w ↦ rw w.highest-is
          (same_highest r sorted i high h rise c.loop-here-test.true here highest clear
          (omega (arith, w.if-end.false, c.end-end.ensures, c.end-in-loop-here.ensures)))
    ]

pub returns-then-start-end-2 : goal.returns-then-start-end-2
returns-then-start-end-2 c =
    let sorted = c.args.sorted.now in
    let i = c.loop-here.here-index in
    let none : Numbered = record { number = 0; at = 0; value = 0 } in
    let h : Numbered = get_or sorted i none in
    let here : get_or sorted i h ≡ h = get_or_default sorted i h none c.loop-here-test.true in
    λ rise.
    found_overlap c.args.range sorted i c.loop-here.highest h rise c.loop-here-test.true here
    (c.loop-here.invariant rise) (record {
      two = c.if-here-highest.true;
      some = omega (arith, c.if-start-end.true, c.end-end.ensures, c.from-start.ensures);
      within = omega (arith, c.if-start-end-2.true, c.end.ensures, c.from-start.ensures);
    })

pub returns : goal.returns
returns c = λ rise.
    none_overlaps c.args.range c.args.sorted.now c.loop-here.here-index c.loop-here.highest c.loop-here-test.false
    (c.loop-here.invariant rise)
