-- The structures of a series of a table by their types, found once.
use Rattle.std.specs.Prelude.{◌≡◌, ℕ, ◌↔◌, List, map, drop, take, Contains}
use Rattle.std.specs.Option.{is_none}
use Rattle.acpi_rules.specs.Sites.{SiteValue, entry_sites, whole_table}
use Rattle.acpi_rules.specs.Walks.{Placed, walk_of}
use Rattle.acpi_rules.specs.declared.index.Index.{Index}
use Rattle.acpi_rules.specs.declared.index.Listed.{Listed}
use Rattle.acpi_rules.specs.declared.index.OfType.{OfType}

-- a structure of a table, by where it is
abbrev pub listed_window : List ℕ → Listed → Placed
listed_window table l = record { offset = l.at; entry = take l.size (drop l.at table) }

-- the same as a structure that a rule is about, of a type
abbrev pub typed_site : Placed → ℕ → Listed → SiteValue
typed_site whole kind l = record { own = listed_window whole.entry l; around = whole; outer = whole; kind = kind }

-- those of a type
abbrev pub typed_sites : Placed → OfType → List SiteValue
typed_sites whole o = map (typed_site whole o.kind) o.listed.items

-- a structure is among those of one of the types
abbrev pub IsAmong : Placed → List OfType → SiteValue → Type 0
IsAmong whole types s = (o : OfType) × Contains types o × Contains (typed_sites whole o) s

-- the index has the structures of its series in the table, and says whether the walk over them is not cut
pub record IsIndexOf (i : Index) (table : List ℕ) : Type 0 where
  pub sites : (s : SiteValue) → IsAmong (whole_table table) i.types.items s ↔ Contains (entry_sites i.series table) s
  pub whole : i.is_whole ≡ is_none (walk_of i.series (whole_table table)).cut
