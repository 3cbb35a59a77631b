-- Caches that the nodes of a PPTT name, in lists.
use Rattle.std.specs.Prelude.{◌≡◌, ℕ, ◌⊎◌, Bool, false, not, ◌==◌, ◌&&◌, List, Option, Some, None, option_map, if◌then◌else◌, IfSome}
use Rattle.std.specs.List.{list_any}
use Rattle.acpi_rules.specs.Known.{first_of}
use Rattle.acpi_rules.specs.Places.{IsNotAfter}
use Rattle.acpi_rules.specs.declared.numbered.Numbered.{Numbered}
use Rattle.acpi_rules.specs.declared.place.Place.{Place}

-- the node of a resource, and as its place the Next Level of the cache that the resource names, if it names one
unfoldable pub next_level : List Numbered → Numbered → Option Numbered
next_level caches r =
    option_map (λ c. record { number = r.value; at = c.value; value = 0 }) (first_of caches r.number)

-- whether a node and an offset are a pair
unfoldable pub has_pair : List Numbered → ℕ → ℕ → Bool
has_pair pairs n o = list_any (λ g. g.number == n && g.at == o) pairs

-- whether what is found has this type
abbrev pub has_type : Option Numbered → ℕ → Bool
has_type None type = false
has_type (Some c) type = c.value == type

-- the node of a resource, with what it names as its value, if that is a cache of the type and not a pair with the node
unfoldable pub nearest : List Numbered → ℕ → List Numbered → Numbered → Option Numbered
nearest types type pairs r =
    if has_type (first_of types r.number) type && not (has_pair pairs r.value r.number)
    then Some (record { number = r.value; at = r.at; value = r.number })
    else None

-- of two places, of which either may be missing, this is the lower one
abbrev pub IsLower : Option Place → Option Place → Option Place → Type 0
IsLower one None found = found ≡ one
IsLower one (Some p) found =
    (r : Place) × (found ≡ Some r) × ((r ≡ p) ⊎ (one ≡ Some r)) × IsNotAfter r p.at p.other p.point
    × IfSome one (λ l. IsNotAfter r l.at l.other l.point)
