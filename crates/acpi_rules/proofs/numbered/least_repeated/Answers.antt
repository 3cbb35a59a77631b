use Rattle.std.proofs.Common.{◌≡◌, get_or, sym}
use Rattle.std.proofs.lemmas.List.{get_or_default}
use Rattle.acpi_rules.specs.declared.numbered.Numbered.{Numbered}
use Rattle.acpi_rules.proofs.RepeatedNumbers.{standing_first, none_so_far, IsCurrent, same_number, next_number, stands_next, found_kept, found_told, all_passed}
use Rattle.acpi_rules.proofs.numbered.least_repeated.Goals as goal
use Rattle.acpi_rules.proofs.numbered.least_repeated.Goals.{then-here-first, else-here-first, then-is_told, else-is_told}

pub loop-here-init : goal.loop-here-init
loop-here-init c =
    let item = c.in_ok-first.ensures.item in
    λ rise. record {
      standing = standing_first c.args.sorted.now c.in_ok-first.field-0.now rise (item.3.0) (sym item.1);
      found = none_so_far c.args.repeat c.args.sorted.now;
    }

pub loop-here-preserved : goal.loop-here-preserved
loop-here-preserved c =
    let sorted = c.args.sorted.now in
    let i = c.loop-here.here-index in
    let none : Numbered = record { number = 0; at = 0; value = 0 } in
    let h : Numbered = get_or sorted i none in
    let here : get_or sorted i h ≡ h = get_or_default sorted i h none c.loop-here-test.true in
    λ rise.
    let before = c.loop-here.invariant rise in
    let standing = before.standing in
    let found = before.found in
    let first = c.if-here-first.first in
    let now : IsCurrent sorted i h first =
    elim c.if-here-first.branch [
      | then-here-first w ↦ rw w.first-is
          (next_number sorted i h c.loop-here.first rise c.loop-here-test.true here standing w.if-here-first.true)
      | else-here-first w ↦ rw w.first-is
          (same_number sorted i h c.loop-here.first c.loop-here-test.true here standing w.if-here-first.false)
    ] in
    record {
      standing = stands_next sorted i h first rise now;
      found =
          elim c.if-is_told.branch [
            | then-is_told w ↦
                let ensures = rw w.place.ensures at w.lesser.ensures in
                rw w.least-is
                (found_told c.args.repeat sorted i h first c.loop-here.least w.lesser.result now
                (c.is_told.ensures.0 w.if-is_told.true) found ensures.one ensures.after ensures.before)
            | else-is_told w ↦ rw w.least-is
                (found_kept c.args.repeat sorted i h first c.loop-here.least now
                (λ told. let yes = c.is_told.ensures.1 told in cc) found)
          ];
    }

pub returns : goal.returns
returns c = λ rise. all_passed c.args.repeat c.args.sorted.now c.loop-here.here-index c.loop-here.least
    c.loop-here-test.false (c.loop-here.invariant rise).found
