use Rattle.std.proofs.Common.{None, refl}
use Rattle.acpi_confirm.proofs.ListedTables.{so_far_all, so_far_next}
use Rattle.acpi_confirm.proofs.listed_tables.first_with.Goals as goal

pub loop-slot-preserved : goal.loop-slot-preserved
loop-slot-preserved c =
    so_far_next _ _ _ _ _ None None None refl c.loop-slot.invariant (c.in_default.ensures _ _ _ _ c.header_in.ensures)

pub returns : goal.returns
returns c =
    so_far_all _ _ _ _ _ _ None (λ j b slot. (c.slots-slot-end.ensures j).1 slot.inside) c.loop-slot-test.false
    c.loop-slot.invariant
