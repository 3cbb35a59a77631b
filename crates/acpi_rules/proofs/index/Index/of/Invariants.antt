use Rattle.std.proofs.Common.{◌≡◌, map}
use Rattle.std.specs.Prelude.{Contains}
use Rattle.acpi_rules.specs.Sites.{entry_sites, site_in, whole_table}
use Rattle.acpi_rules.specs.Walks.{Placed, walk_of}
use Rattle.acpi_rules.proofs.TypedSites.{AreAll}
use Rattle.acpi_rules.proofs.index.Index.of.Given as goal

-- the structures so far and those that are left are all, and the walk is the same
abbrev pub invariant-loop-own : goal.invariant-loop-own
invariant-loop-own l = record {
  sites : AreAll (whole_table l.table) l.types.items
      (map (site_in l.series.shape (whole_table l.table) (whole_table l.table)) l.structures.structures)
      (entry_sites l.series l.table);
  listed : (w : Placed) → Contains l.structures.structures w
      → Contains (walk_of l.series (whole_table l.table)).structures w;
  cut : l.structures.cut ≡ (walk_of l.series (whole_table l.table)).cut;
}
