-- The numbers that are left to be given, by an index or by a walk.
use Rattle.std.specs.Prelude.{ℕ, List, [], map, Option}
use Rattle.std.specs.List.{filter_map, flat_map}
use Rattle.std.specs.Option.{option_map_or}
use Rattle.acpi_rules.specs.Cases.{Case, gives}
use Rattle.acpi_rules.specs.Indexes.{typed_site, typed_sites}
use Rattle.acpi_rules.specs.Sites.{SiteValue, whole_table}
use Rattle.acpi_rules.specs.Terms.{TwoTables}
use Rattle.acpi_rules.specs.declared.index.OfType.{OfType}
use Rattle.acpi_rules.specs.declared.numbered.Numbered.{Numbered}
use Rattle.acpi_rules.specs.declared.index.Listed.{Listed}

-- what some structures give
abbrev pub all_given : TwoTables → List Case → List SiteValue → List Numbered
all_given t cases sites = filter_map (gives t cases) sites

-- what structures of a type give
abbrev pub given_by_type : TwoTables → List Case → ℕ → List Listed → List Numbered
given_by_type t cases kind listed = all_given t cases (map (typed_site (whole_table t.table) kind) listed)

-- what those of all these types give
abbrev pub given_in_types : TwoTables → List Case → List OfType → List Numbered
given_in_types t cases types = flat_map (λ o. all_given t cases (typed_sites (whole_table t.table) o)) types

-- what those that are walked give
abbrev pub given_walked : TwoTables → List Case → Option (List SiteValue) → List Numbered
given_walked t cases walked = option_map_or (all_given t cases) walked []
