use Rattle.std.proofs.Common.{ap, length, ◌∙◌}
use Rattle.std.proofs.lemmas.Result.{IfOk-weaker}
use Rattle.acpi_base.specs.Signature.{xsdt_signature}
use Rattle.acpi_write.specs.Encoded.{table_bytes}
use Rattle.acpi_write.specs.Views.{head_value}
use Rattle.acpi_write.proofs.SetParts.PartsInOrder.{xsdt_count}
use Rattle.acpi_write.proofs.xsdt_writing.xsdt_bytes.Goals as goal

pub returns-clause-count : goal.returns-clause-count
returns-clause-count c =
    let head = head_value c.args.head.now in
    let count = xsdt_count head c.args.addresses.now c.with_header.ensures.fits c.requires in
    IfOk-weaker c.with_header.result _ _
    (λ bytes is. ap length (is ∙ ap (table_bytes xsdt_signature head)
    (c.deref.ensures.value ∙ c.in_ok-slots.ensures)) ∙ count) c.with_header.ensures.bytes
