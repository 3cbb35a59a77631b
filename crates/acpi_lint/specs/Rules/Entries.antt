-- What the entries of a table give by cases of rows, for rules that are no rows.
use Rattle.std.specs.Prelude.{ℕ, List, [], map}
use Rattle.acpi_rules.specs.Cases.{SaidCase, Said, case_said}
use Rattle.acpi_rules.specs.Given.{all_given}
use Rattle.acpi_rules.specs.Sites.{sites_of}
use Rattle.acpi_rules.specs.Terms.{TwoTables}
use Rattle.acpi_rules.specs.declared.numbered.Numbered.{Numbered}
use Rattle.acpi_rules.specs.declared.series.Path.{Path}

-- a table without another one
abbrev pub alone : List ℕ → TwoTables
alone table = record { table = table; other = [] }

-- what its structures along a path give in these cases, in their order
abbrev pub entries_give : Path → Said SaidCase → List ℕ → List Numbered
entries_give path cases table = all_given (alone table) (map case_said cases.now) (sites_of path table)
