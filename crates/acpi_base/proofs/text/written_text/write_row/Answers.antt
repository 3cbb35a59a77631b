use Rattle.std.proofs.Common.{◌≡◌, ◌+◌, ◌-◌, ◌++◌, ◌∙◌, List, ℕ, take, sym, ap, arith}
use Rattle.std.proofs.lemmas.List.{append-nil}
use Rattle.acpi_base.specs.Text.WrittenText.{spaced_pairs}
use Rattle.acpi_base.proofs.Texts.Written.Rows.{made_line, spaced_all}
use Rattle.acpi_base.proofs.text.written_text.write_row.Goals as goal

pub returns : goal.returns
returns c =
    let i = c.loop-byte.invariant in
    let short = c.requires.short in
    let all = c.loop-byte.auto.byte-index-end in
    let made : take c.loop-byte.end c.loop-byte.line ≡ spaced_pairs c.args.bytes.now =
    sym (append-nil (take c.loop-byte.end c.loop-byte.line))
    ∙ ap (λ (rest : List ℕ). take c.loop-byte.end c.loop-byte.line ++ rest)
    (sym (spaced_all c.args.bytes.now c.loop-byte.byte-index c.loop-byte-test.false))
    ∙ i.text in
    let line = made_line c.args.bytes.now c.loop-byte.line c.loop-byte.end (c.loop-byte.end + 1 - 1) c.requires.some
    (omega (arith, i.size, i.place)) made (omega arith) in
    grind (arith, line, c.extend_from_slice.ensures.items)
