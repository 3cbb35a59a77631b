use Rattle.std.proofs.Common.{refl}
use Rattle.acpi_base.specs.Number.{number_bytes}
use Rattle.acpi_write.proofs.TablesWritten.FadtBodies.{wide_appended, narrow_appended}
use Rattle.acpi_write.proofs.fadt_body.with_facs.Goals as goal

pub returns-then-body-lt-X_FIRMWARE_CTRL_END : goal.returns-then-body-lt-X_FIRMWARE_CTRL_END
unfolding number_bytes
returns-then-body-lt-X_FIRMWARE_CTRL_END c =
    narrow_appended c.args.body.now c.args.facs _ _ _ _ c.if-body-lt-X_FIRMWARE_CTRL_END.true c.to_le_bytes.ensures
    c.new-bytes.ensures.items
    c.in_ok-extend_from_slice.ensures.items c.in_ok-extend_from_slice-2.ensures.items

pub returns : goal.returns
unfolding number_bytes
returns c =
    wide_appended c.args.body.now c.args.facs _ _ _ _ _ _ _ c.if-body-lt-X_FIRMWARE_CTRL_END.false refl
    c.to_le_bytes-2.ensures c.new-bytes.ensures.items
    c.in_ok-extend_from_slice-3.ensures.items c.in_ok-extend_from_slice-4.ensures.items
    c.in_ok-extend_from_slice-5.ensures.items c.in_ok-extend_from_slice-6.ensures.items
