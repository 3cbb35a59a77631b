use Rattle.std.proofs.Common.{refl}
use Rattle.acpi_write.specs.Rebuilt.{rebuilt_image}
use Rattle.acpi_write.specs.Views.{set_value}
use Rattle.acpi_write.proofs.OldSets.OldTables.{facs_some}
use Rattle.acpi_write.proofs.rebuilding.rebuild_bytes.Goals as goal

pub set_bytes-requires-clause-facs : goal.set_bytes-requires-clause-facs
set_bytes-requires-clause-facs c =
    let of = c.in_ok-set.ensures.placed in
    facs_some c.args.image.now c.args.policy.now (set_value c.in_ok-set.set.value) of.clean of.value

pub returns-clause-rebuilt : goal.returns-clause-rebuilt
returns-clause-rebuilt c =
    let of = c.in_ok-set.ensures.placed in
    let v = set_value c.in_ok-set.set.value in
    let kept =
    c.rebuilt_sets_are_kept.ensures c.args.image.now c.args.policy.now v c.args.base c.numbers_fit.ensures.fit
    of.clean of.value of.placed in
    record {
      image = rebuilt_image v c.args.base;
      rebuilt = record { clean = of.clean; value = v; said = of.value; placed = of.placed; image = refl };
      clean = kept.clean;
      bytes = c.in_ok-bytes.ensures;
    }
