use Rattle.std.proofs.Common.{◌≡◌, ◌+◌, ◌*◌, ◌≤◌, take, drop, length, flat_map}
use Rattle.std.specs.List.{All}
use Rattle.acpi_write.proofs.entry_bytes.sizes.Given as goal

-- the sizes of the entries before the index, and of those still to come
abbrev pub invariant-loop-entry : goal.invariant-loop-entry
invariant-loop-entry g l = record {
  total : l.total + length (flat_map g.E.EntryBytes.spelled (drop l.entry-index l.entries)) ≡ length
      (flat_map g.E.EntryBytes.spelled l.entries);
  bound : l.total ≤ 255 * l.entry-index;
  shaped : All g.E.EntryBytes.shaped (take l.entry-index l.entries);
}
