use Rattle.acpi_confirm.proofs.ListedTables.{so_far_all, so_far_next}
use Rattle.acpi_confirm.proofs.listed_tables.first_with_each.Goals as goal

pub loop-k-preserved : goal.loop-k-preserved
loop-k-preserved c =
    let so_far = c.loop-k.invariant in
    record {
      one = so_far_next _ _ _ _ _ _ _ _ c.or-first.ensures so_far.one
          (c.signed.ensures _ _ _ _ c.header_in-here.ensures);
      other = so_far_next _ _ _ _ _ _ _ _ c.or-second.ensures so_far.other
          (c.signed-in-loop-k.ensures _ _ _ _ c.header_in-here.ensures);
    }

pub returns-after-loop-k-clause-one : goal.returns-after-loop-k-clause-one
returns-after-loop-k-clause-one c =
    so_far_all _ _ _ _ _ _ _ (λ j b slot. (c.slots-k-end.ensures j).1 slot.inside) c.loop-k-test.false
    c.loop-k.invariant.one

pub returns-after-loop-k-clause-other : goal.returns-after-loop-k-clause-other
returns-after-loop-k-clause-other c =
    so_far_all _ _ _ _ _ _ _ (λ j b slot. (c.slots-k-end.ensures j).1 slot.inside) c.loop-k-test.false
    c.loop-k.invariant.other
