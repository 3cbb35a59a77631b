use Rattle.std.proofs.Common.{◌∙◌, ap, arith, List, ℕ, length, drop, length-drop}
use Rattle.std.proofs.lemmas.List.{take_rest}
use Rattle.acpi_write.specs.FadtBody.{with_facs}
use Rattle.acpi_write.specs.Values.{Known, Fadt}
use Rattle.acpi_write.proofs.TablesWritten.FadtBodies.{length-with_facs}
use Rattle.acpi_write.proofs.table_reading.read_fadt.Goals as goal

pub returns-clause-value : goal.returns-clause-value
returns-clause-value c =
    let head = c.head_in-head.ensures c.args.table.now c.header.ensures.fields in
    let behind = take_rest c.bytes-bytes.result.now 36 ∙ ap (drop 36) c.bytes-bytes.ensures.bytes in
    let body = c.in_ok-body.ensures ∙ ap (λ (b : List ℕ). with_facs b 0) behind in
    λ i. Known (head i) (Fadt (body i))

pub returns-clause-shaped : goal.returns-clause-shaped
returns-clause-shaped c =
    let behind = take_rest c.bytes-bytes.result.now 36 ∙ ap (drop 36) c.bytes-bytes.ensures.bytes in
    let body = ap length (c.in_ok-body.ensures ∙ ap (λ (b : List ℕ). with_facs b 0) behind) in
    let long = length-drop 36 c.args.table.now in
    let least = c.requires in
    let same = length-with_facs (drop 36 c.args.table.now) 0 (omega (arith, long, least)) in
    omega (arith, body, same, long, least)
