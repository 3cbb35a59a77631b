use Rattle.std.proofs.Common.{◌++◌, ℕ, List, ap, ◌∙◌}
use Rattle.acpi_base.specs.Number.{number_bytes}
use Rattle.acpi_write.proofs.TablesWritten.RsdpBytes.{tail_appended}
use Rattle.acpi_write.proofs.rsdp_writing.with_tail.Goals as goal

pub returns : goal.returns
unfolding number_bytes
returns c =
    let first = c.in_ok-extend_from_slice.ensures.items ∙ ap (λ (xs : List ℕ). xs ++ c.to_le_bytes.result)
    c.in_ok-bytes.ensures.items in
    c.in_ok-extend_from_slice-3.ensures.items
    ∙ tail_appended c.args.xsdt c.args.checksum c.args.head.now c.extend_from_slice.new.self.items
    c.extend_from_slice-2.new.self.items c.to_le_bytes.result c.to_le_bytes-2.result
    first c.to_le_bytes.ensures c.in_ok-extend_from_slice-2.ensures.items c.to_le_bytes-2.ensures
