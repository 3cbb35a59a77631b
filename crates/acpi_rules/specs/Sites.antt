-- The structures that a rule is about, along a path.
use Rattle.std.specs.Prelude.{ℕ, Bool, List, [], ◌∷◌, ◌++◌, nat_le, ◌&&◌, if◌then◌else◌, map, Option, None}
use Rattle.std.specs.List.{flat_map}
use Rattle.std.specs.Option.{option_map_or, option_or}
use Rattle.acpi_rules.specs.Series.{kind_in}
use Rattle.acpi_rules.specs.Walks.{Placed, placed, walk_of}
use Rattle.acpi_rules.specs.declared.series.Shape.{Shape}
use Rattle.acpi_rules.specs.declared.series.Series.{Series}
use Rattle.acpi_rules.specs.declared.series.Inner.{Inner}
use Rattle.acpi_rules.specs.declared.series.Path.{Path}
use Rattle.acpi_rules.specs.declared.series.Path.TheVariants.{Table, Entries, Inside, Innermost}
use Rattle.acpi_rules.specs.declared.sites.Site.{Site}
use Rattle.acpi_rules.specs.declared.structures.Cut.{Cut}
use Rattle.acpi_rules.specs.declared.window.Window.{Window}

-- a structure, the one that it is in, the one that this is in (the table where there is none), and the structure's type
-- (0 if it has none)
pub record SiteValue : Type 0 where
  pub own : Placed
  pub around : Placed
  pub outer : Placed
  pub kind : ℕ

-- what a site of the code says
abbrev pub site_value : Site → SiteValue
site_value s = record { own = placed s.own; around = placed s.around; outer = placed s.outer; kind = s.kind }

-- a structure of this shape
abbrev pub site_in : Shape → Placed → Placed → Placed → SiteValue
site_in s outer around own = record { own = own; around = around; outer = outer; kind = kind_in s own.entry }

-- the structures of a series inside one
abbrev pub sites_in : Series → Placed → Placed → List SiteValue
sites_in s outer around = map (site_in s.shape outer around) (walk_of s around).structures

-- whether structures of this type have the series inside
abbrev pub has_inner : Inner → ℕ → Bool
has_inner row kind = nat_le row.first kind && nat_le kind row.last

-- those inside one
unfoldable pub sites_inside : Inner → SiteValue → List SiteValue
sites_inside row site = if has_inner row site.kind then sites_in row.series site.around site.own else []

-- those inside each of some, in order
unfoldable pub sites_inside_all : Inner → List SiteValue → List SiteValue
sites_inside_all row sites = flat_map (sites_inside row) sites

-- the bytes of a table as a structure
abbrev pub whole_table : List ℕ → Placed
whole_table table = record { offset = 0; entry = table }

-- the table itself
abbrev pub whole_site : Placed → SiteValue
whole_site table = record { own = table; around = table; outer = table; kind = 0 }

-- the structures of a series of a table
abbrev pub entry_sites : Series → List ℕ → List SiteValue
entry_sites s table = sites_in s (whole_table table) (whole_table table)

-- what a path leads to: the table itself, the structures of a series of it, those inside these, or those inside the
-- latter
abbrev pub sites_of : Path → List ℕ → List SiteValue
sites_of Table table = whole_site (whole_table table) ∷ []
sites_of (Entries s) table = entry_sites s table
sites_of (Inside s row) table = sites_inside_all row (entry_sites s table)
sites_of (Innermost s row inner) table = sites_inside_all inner (sites_inside_all row (entry_sites s table))

-- what is left of a path: the table, if it is, and those inside some
abbrev pub sites_left : Option Window → Inner → Option (List SiteValue) → List SiteValue
sites_left table row outers =
    option_map_or (λ w. whole_site (placed w) ∷ []) table [] ++ option_map_or (sites_inside_all row) outers []

-- ---- cuts

-- where the walk inside one is cut
unfoldable pub cut_inside : Inner → SiteValue → Option Cut
cut_inside row site = if has_inner row site.kind then (walk_of row.series site.own).cut else None

-- the first cut among the walks inside these
abbrev pub first_cut_inside : Inner → List SiteValue → Option Cut
first_cut_inside row [] = None
first_cut_inside row (site ∷ sites) = option_or (cut_inside row site) (first_cut_inside row sites)

-- the first cut among the walks that the last step of a path makes
abbrev pub first_cut : Path → List ℕ → Option Cut
first_cut Table table = None
first_cut (Entries s) table = (walk_of s (whole_table table)).cut
first_cut (Inside s row) table = first_cut_inside row (sites_of (Entries s) table)
first_cut (Innermost s row inner) table = first_cut_inside inner (sites_of (Inside s row) table)
