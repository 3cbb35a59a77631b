use Rattle.std.proofs.Common.{◌∙◌, ap, length}
use Rattle.std.proofs.lemmas.Result.{IfOk-weaker}
use Rattle.acpi_write.proofs.SetParts.PartsInOrder.{rsdp_count}
use Rattle.acpi_write.proofs.rsdp_writing.rsdp_bytes.Goals as goal

pub returns-clause-count : goal.returns-clause-count
returns-clause-count c =
    IfOk-weaker c.with_tail-2.result _ _ (λ bytes is.
    ap length is ∙ rsdp_count c.deref-3.result.now c.args.xsdt c.checksum_of-2.result
    (ap length c.deref-3.ensures.value ∙ c.in_ok-head.ensures.count)) c.with_tail-2.ensures
