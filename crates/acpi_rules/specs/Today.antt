-- The entries of the MADT, the SRAT and the PPTT as a series.
use Rattle.std.specs.Prelude.{◌≡◌, ℕ, List}
use Rattle.std.specs.Option.{option_map}
use Rattle.acpi_base.specs.Entries.{entries_of, cut_of}
use Rattle.acpi_rules.specs.Sites.{whole_table}
use Rattle.acpi_rules.specs.Walks.{walk_of}
use Rattle.acpi_rules.specs.declared.series.Series.{Series}
use Rattle.acpi_rules.specs.declared.series.Start.TheVariants.{At}
use Rattle.acpi_rules.specs.declared.series.Extent.TheVariants.{ToEnd}
use Rattle.acpi_rules.specs.declared.series.Head.{Head}
use Rattle.acpi_rules.specs.declared.series.Shape.TheVariants.{Headed}

-- an entry begins with its type and its length, a byte each, at 0 and at 1
abbrev pub entry_head : Head
entry_head = record { kind = record { place = 1 }; length = record { place = 17 }; least = 2 }

-- the entries from an offset on
abbrev pub entries_at : ℕ → Series
entries_at first = record { start = At first; extent = ToEnd; shape = Headed entry_head }

-- the entries of a table, and its cut, are those of the series
abbrev pub EntriesAreSeries : Type 0
EntriesAreSeries =
    (first : ℕ) (whole : List ℕ) →
    let walk = walk_of (entries_at first) (whole_table whole) in
    (walk.structures ≡ entries_of first whole) × (option_map (λ c. c.at) walk.cut ≡ cut_of first whole)
