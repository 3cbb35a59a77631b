use Rattle.std.proofs.Common.{◌≡◌, ◌+◌, ◌*◌, ◌∙◌, ap, sym, arith, List, ℕ, length, drop, length-drop}
use Rattle.std.proofs.lemmas.List.{take_rest}
use Rattle.acpi_base.specs.Number.{field}
use Rattle.acpi_base.specs.Slit.{slit_contents}
use Rattle.acpi_write.specs.Values.{Known, Slit}
use Rattle.acpi_write.proofs.table_reading.known_value.Goals as goal

pub returns-in-Fadt-clause-value : goal.returns-in-Fadt-clause-value
returns-in-Fadt-clause-value c = rw c.in-Fadt.is c.read_fadt.ensures.value

pub returns-in-Madt-clause-value : goal.returns-in-Madt-clause-value
returns-in-Madt-clause-value c = rw c.in-Madt.is c.read_madt.ensures.value

pub returns-in-Srat-clause-value : goal.returns-in-Srat-clause-value
returns-in-Srat-clause-value c = rw c.in-Srat.is c.read_srat.ensures.value

pub returns-in-Slit-clause-value : goal.returns-in-Slit-clause-value
unfolding slit_contents
returns-in-Slit-clause-value c =
    let head = c.head_in-head.ensures c.args.table.now c.header.ensures.fields in
    let count = c.u64_at-count.ensures ∙ ap (λ (b : List ℕ). field b 36 8) c.bytes-bytes.ensures.bytes in
    let cells = take_rest c.bytes-bytes.result.now 44 ∙ ap (drop 44) c.bytes-bytes.ensures.bytes in
    rw c.in-Slit.is (λ i. Known (head i) (Slit (count i) (cells i)))

pub returns-in-Slit-clause-shaped : goal.returns-in-Slit-clause-shaped
unfolding slit_contents
returns-in-Slit-clause-shaped c =
    let t = c.args.table.now in
    let readable = rw c.in-Slit.is at c.requires in
    let size : length t ≡ 44 + field t 36 8 * field t 36 8 = readable.size in
    let count : c.u64_at-count.result ≡ field t 36 8 = c.u64_at-count.ensures
    ∙ ap (λ (b : List ℕ). field b 36 8) c.bytes-bytes.ensures.bytes in
    let cells = ap length (take_rest c.bytes-bytes.result.now 44 ∙ ap (drop 44) c.bytes-bytes.ensures.bytes) in
    let behind : length (drop 44 t) ≡ field t 36 8 * field t 36 8 = omega (arith, length-drop 44 t, size) in
    cells ∙ behind ∙ sym (λ i. count i * count i)

pub returns-in-Pptt-clause-value : goal.returns-in-Pptt-clause-value
returns-in-Pptt-clause-value c = rw c.in-Pptt.is c.read_pptt.ensures.value
