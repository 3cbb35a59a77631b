use Rattle.std.proofs.Common.{◌≡◌, map, slice_get, get_or, Bool, true, nat_le, ◌&&◌, refl, sym, ap, ◌∙◌, arith}
use Rattle.std.specs.List.{list_all}
use Rattle.std.specs.Option.{option_map}
use Rattle.std.proofs.lemmas.Bool.Decides.{nat_tests}
use Rattle.std.proofs.lemmas.List.Sums.{AllPass-from_list_all}
use Rattle.std.proofs.lemmas.Option.{slice_get-map, slice_get-get_or}
use Rattle.acpi_base.specs.Fadt.{fadt_places}
use Rattle.acpi_read.specs.Places.{place_value}
use Rattle.acpi_read.specs.declared.fadt.FieldPlace.{FieldPlace}
use Rattle.acpi_read.specs.declared.fadt.TheConstants.{PLACES}
use Rattle.acpi_read.proofs.fadt.field_place.Goals as goal

-- a place outside the list
abbrev nowhere : FieldPlace
nowhere = record { 0 = 0; 1 = 0 }

rows : map place_value PLACES ≡ fadt_places
rows = refl

-- whether a field has a byte at least and a number's 8 at most
abbrev has_width : FieldPlace → Bool
has_width p = nat_le 1 p.1 && nat_le p.1 8

widths : list_all has_width PLACES ≡ true
widths = refl

pub returns-clause-place : goal.returns-clause-place
returns-clause-place c =
    ap (λ l. slice_get l c.args.index) (sym rows) ∙ slice_get-map place_value PLACES c.args.index
    ∙ ap (option_map place_value) (slice_get-get_or PLACES c.args.index nowhere c.requires)

pub returns-clause-width : goal.returns-clause-width
returns-clause-width c =
    let here : has_width (get_or PLACES c.args.index nowhere) ≡ true =
    AllPass-from_list_all has_width PLACES widths c.args.index nowhere c.requires in
    grind (arith, nat_tests)
