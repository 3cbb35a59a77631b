use Rattle.std.proofs.Common.{◌≡◌, ℕ, List, length, sym, ap, ◌∙◌, arith}
use Rattle.std.proofs.lemmas.Result.{IfOk-weaker}
use Rattle.acpi_base.specs.Listed.{fadt_signature}
use Rattle.acpi_write.specs.Encoded.{table_bytes}
use Rattle.acpi_write.specs.FadtBody.{with_facs}
use Rattle.acpi_write.specs.Views.{head_value}
use Rattle.acpi_write.proofs.TablesWritten.FadtBodies.{length-with_facs}
use Rattle.acpi_write.proofs.SetParts.PartsInOrder.{IfOk-both, fadt_count, encoded_without}
use Rattle.acpi_write.proofs.Tables.Kinds.{is_written}
use Rattle.acpi_write.proofs.set_writing.bytes_with.Goals as goal

pub with_header-requires : goal.with_header-requires
with_header-requires c =
    let body = c.in-Fadt.body.items in
    let facs = c.args.facs in
    let long = rw c.in-Fadt.is at c.requires.shaped in
    let short = rw c.in-Fadt.is at c.requires.short in
    let same : c.deref-in-Fadt.result.now ≡ with_facs body facs =
    c.deref-in-Fadt.ensures.value ∙ c.in_ok-body-in-Fadt.ensures
    ∙ ap (λ (b : List ℕ). with_facs b facs) c.deref.ensures.value in
    let count = ap length same ∙ length-with_facs body facs (omega (arith, long)) in
    omega (arith, count, short)

pub returns-in_ok-body-in-Fadt-clause-count : goal.returns-in_ok-body-in-Fadt-clause-count
returns-in_ok-body-in-Fadt-clause-count c =
    let head = head_value c.in-Fadt.head in
    let body = c.in-Fadt.body.items in
    let facs = c.args.facs in
    let long = rw c.in-Fadt.is at c.requires.shaped in
    let short = rw c.in-Fadt.is at c.requires.short in
    let same : c.deref-in-Fadt.result.now ≡ with_facs body facs =
    c.deref-in-Fadt.ensures.value ∙ c.in_ok-body-in-Fadt.ensures
    ∙ ap (λ (b : List ℕ). with_facs b facs) c.deref.ensures.value in
    let count = ap length same ∙ length-with_facs body facs (omega (arith, long)) in
    rw c.in-Fadt.is (IfOk-weaker c.with_header.result _ _
    (λ bytes is. ap length (is ∙ ap (table_bytes fadt_signature head) same)
    ∙ fadt_count head body facs long short c.with_header.ensures.fits) c.with_header.ensures.bytes)

pub returns-in_default : goal.returns-in_default
returns-in_default c = record {
  bytes = IfOk-weaker c.bytes_of.result _ _
      (λ bytes is. is ∙ sym (encoded_without c.args.facs c.args.table.now c.in_default.not-Fadt))
      c.bytes_of.ensures.bytes;
  count = IfOk-weaker c.bytes_of.result _ _
      (λ bytes is. ap length is.0 ∙ (is_written c.args.table.now c.requires.shaped c.requires.short is.1).1)
      (IfOk-both c.bytes_of.result _ _ c.bytes_of.ensures.bytes c.bytes_of.ensures.says);
}
