-- Numbers that are looked up among others.
use Rattle.std.specs.Prelude.{ℕ, Bool, true, List, Option, Some, None, nat_lt, ◌==◌, if◌then◌else◌}
use Rattle.std.specs.List.{find}
use Rattle.std.specs.Option.{is_some}
use Rattle.acpi_rules.specs.declared.known.LookUp.{LookUp}
use Rattle.acpi_rules.specs.declared.known.LookUp.TheVariants as lookup
use Rattle.acpi_rules.specs.declared.known.FoundAs.{FoundAs}
use Rattle.acpi_rules.specs.declared.known.FoundAs.TheVariants as found
use Rattle.acpi_rules.specs.declared.numbered.Numbered.{Numbered}
use Rattle.acpi_rules.specs.declared.place.Place.{Place}

-- the first of these that has the number n
unfoldable pub first_of : List Numbered → ℕ → Option Numbered
first_of known n = find (λ g. g.number == n) known

-- whether something is told of the number g, by the first one that is the same, f
unfoldable pub is_reported : FoundAs → Numbered → Numbered → Bool
is_reported found.First g f = true
is_reported found.Behind g f = nat_lt f.at g.at
is_reported (found.Field offset) g f = true
is_reported (found.FieldBelow offset) g f = nat_lt g.value f.value

-- what is told of it beside its place and its value: the place of f, or the offset of a field
unfoldable pub other_told : FoundAs → Numbered → ℕ
other_told found.First f = f.at
other_told found.Behind f = f.at
other_told (found.Field offset) f = offset
other_told (found.FieldBelow offset) f = offset

abbrev pub found_place : FoundAs → Numbered → Numbered → Place
found_place w g f = record { at = g.at; other = other_told w f; point = g.value }

-- what is told of the number g, by the first of the others that is the same, if there is one
abbrev pub place_by : LookUp → Numbered → Option Numbered → Option Place
place_by lookup.Nowhere g None = Some (record { at = g.at; other = g.value; point = g.number })
place_by (lookup.Found w) g (Some f) = if is_reported w g f then Some (found_place w g f) else None
place_by _ _ _ = None

-- what is told of the number g, unless its place is one of those that do not count
unfoldable pub told : LookUp → List Numbered → List Numbered → Numbered → Option Place
told l except known g = if is_some (first_of except g.at) then None else place_by l g (first_of known g.number)
