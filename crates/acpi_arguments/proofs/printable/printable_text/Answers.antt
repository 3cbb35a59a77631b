use Rattle.std.proofs.Common.{◌≡◌, ◌++◌, codes, rules}
use Rattle.std.specs.String.{string_bytes}
use Rattle.acpi_arguments.proofs.PrintableTexts.{cut_is_printed, long_is_cut, nothing_begun, one_more, whole_is_printed}
use Rattle.acpi_arguments.proofs.printable.printable_text.Goals as goal

pub loop-character-init : goal.loop-character-init
loop-character-init c =
    let first = c.into_iter-character-iterator.ensures.into_iter_gives in
    rw (c.new-printed.ensures.bytes, first, c.chars-character-items.ensures.rest)
    (nothing_begun c.args.text.now c.utf8.text)

pub loop-character-preserved : goal.loop-character-preserved
loop-character-preserved c =
    let parts = c.in-Some.ensures.steps.0 in
    let size = c.len_utf8-room.ensures.value in
    rw (c.in_ok-push_visible.ensures)
    (one_more _ _ _ _ _ c.in-Some.character _ c.loop-character.invariant parts size (search rules))

pub returns-then-len_utf8-room : goal.returns-then-len_utf8-room
returns-then-len_utf8-room c =
    let cut : string_bytes c.push_str.new.self ≡ string_bytes c.loop-character.printed ++ codes "..." = search rules in
    let parts = c.in-Some.ensures.steps.0 in
    let over = c.if-len_utf8-room.true in
    let size = c.len_utf8.ensures.value in
    rw cut
    (cut_is_printed _ _ _ _ c.loop-character.invariant
    (λ printable short.
    long_is_cut _ _ _ _ _ c.in-Some.character _ c.loop-character.invariant parts size over printable short))

pub returns : goal.returns
returns c = whole_is_printed _ _ _ _ c.loop-character.invariant c.in-None.ensures.steps.0.0
