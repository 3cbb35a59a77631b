use Rattle.std.proofs.Common.{◌≡◌, ◌++◌, take, drop, vec_items, flat_map}
use Rattle.std.specs.List.{All}
use Rattle.acpi_write.proofs.entry_bytes.append_all.Given as goal

-- the bytes of the entries before the index, and of those still to come
abbrev pub invariant-loop-entry : goal.invariant-loop-entry
invariant-loop-entry g l = record {
  bytes : vec_items l.bytes ++ flat_map g.E.EntryBytes.spelled (drop l.entry-index l.entries) ≡ vec_items
      l.initial.bytes ++ flat_map g.E.EntryBytes.spelled l.entries;
  says : All (λ entry. g.E.EntryBytes.said_by entry (g.E.EntryBytes.spelled entry)) (take l.entry-index l.entries);
}
