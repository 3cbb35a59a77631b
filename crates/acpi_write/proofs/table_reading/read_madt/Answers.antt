use Rattle.std.proofs.Common.{◌∙◌, ap, get_or, List, ℕ}
use Rattle.acpi_base.specs.Madt.{madt_contents}
use Rattle.acpi_base.specs.Number.{field}
use Rattle.acpi_read.specs.Madts.{madt_value, IsOfOwnLength}
use Rattle.acpi_write.specs.Bodies.{entries_in}
use Rattle.acpi_write.specs.Values.{Known, Madt}
use Rattle.acpi_write.proofs.EntryBytes.EntryReading.{all_found, madt_shaped}
use Rattle.acpi_write.proofs.table_reading.read_madt.Goals as goal

pub returns-clause-value : goal.returns-clause-value
unfolding madt_contents
returns-clause-value c =
    let head = c.head_in-head.ensures c.args.madt.now c.header.ensures.fields in
    let entries = c.in_ok-entries.ensures.entries ∙ ap entries_in c.entries.ensures.entries in
    let address = c.u32_at-address.ensures ∙ ap (λ (b : List ℕ). field b 36 4) c.bytes-bytes.ensures.bytes in
    let flags = c.u32_at-flags.ensures ∙ ap (λ (b : List ℕ). field b 40 4) c.bytes-bytes.ensures.bytes in
    λ i. Known (head i) (Madt (address i) (flags i) (entries i))

pub returns-clause-shaped : goal.returns-clause-shaped
returns-clause-shaped c = λ k d below.
    let found = c.in_ok-entries.entries.items in
    let entries = c.in_ok-entries.ensures.entries ∙ ap entries_in c.entries.ensures.entries in
    let own = all_found madt_value IsOfOwnLength found (madt_contents c.args.madt.now).entries entries
    c.requires.lengths in
    madt_shaped (get_or found k d) (c.in_ok-entries.ensures.read k d below) (own k d below)
