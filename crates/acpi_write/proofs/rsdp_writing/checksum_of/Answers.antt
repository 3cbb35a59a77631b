use Rattle.std.proofs.Common.{◌+◌, ◌-◌, ◌%◌, ℕ, ap, ◌∙◌}
use Rattle.acpi_write.proofs.TablesWritten.Sums.{closing_alone}
use Rattle.acpi_write.proofs.rsdp_writing.checksum_of.Goals as goal

pub returns : goal.returns
returns c = ap (λ (n : ℕ). (0 + (256 - n)) % 256) c.sum.ensures ∙ closing_alone c.args.bytes.now
