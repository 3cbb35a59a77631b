use Rattle.std.proofs.Common.{◌∙◌, ap, get_or}
use Rattle.acpi_base.specs.Pptt.{pptt_contents, HasOtherPpttLength}
use Rattle.acpi_read.specs.Pptts.{pptt_value}
use Rattle.acpi_write.specs.Bodies.{entries_in}
use Rattle.acpi_write.specs.Values.{Known, Pptt}
use Rattle.acpi_write.proofs.EntryBytes.EntryReading.{all_found, pptt_shaped}
use Rattle.acpi_write.proofs.table_reading.read_pptt.Goals as goal

pub returns-clause-value : goal.returns-clause-value
returns-clause-value c =
    let head = c.head_in-head.ensures c.args.pptt.now c.header.ensures.fields in
    let entries = c.in_ok-entries.ensures.entries ∙ ap entries_in c.entries.ensures.entries in
    λ i. Known (head i) (Pptt (entries i))

pub returns-clause-shaped : goal.returns-clause-shaped
returns-clause-shaped c = λ k d below.
    let found = c.in_ok-entries.entries.items in
    let entries = c.in_ok-entries.ensures.entries ∙ ap entries_in c.entries.ensures.entries in
    let own = all_found pptt_value (λ e. ¬ HasOtherPpttLength e) found (pptt_contents c.args.pptt.now).entries entries
    c.requires.lengths in
    pptt_shaped (get_or found k d) (c.in_ok-entries.ensures.read k d below) (own k d below)
