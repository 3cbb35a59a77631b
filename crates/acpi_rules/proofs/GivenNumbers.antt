-- The numbers that the structures of a path give.
use Rattle.std.specs.Prelude.{◌↔◌, List, Contains}
use Rattle.acpi_rules.specs.Cases.{Case, gives}
use Rattle.acpi_rules.specs.Given.{all_given}
use Rattle.acpi_rules.specs.Numbers.{GivenIn}
use Rattle.acpi_rules.specs.Sites.{sites_of}
use Rattle.acpi_rules.specs.Terms.{TwoTables}
use Rattle.acpi_rules.specs.declared.numbered.Numbered.{Numbered}
use Rattle.acpi_rules.specs.declared.series.Path.{Path}
use Rattle.acpi_rules.proofs.Elements.{kept_from, kept_has}

pub given_listed : (t : TwoTables) (path : Path) (cases : List Case) (g : Numbered)
    → Contains (all_given t cases (sites_of path t.table)) g ↔ GivenIn t path cases g
given_listed t path cases g = (
  λ listed. kept_from (gives t cases) (sites_of path t.table) g listed,
  λ (s, listed, is). kept_has (gives t cases) (sites_of path t.table) s g listed is,
)
