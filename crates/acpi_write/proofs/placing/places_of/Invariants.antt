use Rattle.std.proofs.Common.{◌≡◌, ◌++◌, ◌<◌, ◌^◌, drop}
use Rattle.acpi_write.specs.Placed.{block_ends, DoEndInside}
use Rattle.acpi_write.specs.Rebuilt.{block_places}
use Rattle.acpi_write.proofs.placing.places_of.Given as goal

abbrev pub invariant-loop-length : goal.invariant-loop-length
invariant-loop-length l = record {
  low : l.next < 2 ^ 65;
  found : l.found.items ++ block_places l.next (drop l.length-index l.lengths) ≡ block_places l.fn.base l.lengths;
  inside : DoEndInside (block_ends l.next (drop l.length-index l.lengths))
      → DoEndInside (block_ends l.fn.base l.lengths);
  past : DoEndInside (block_ends l.fn.base l.lengths) → DoEndInside (block_ends l.next (drop l.length-index l.lengths));
}
