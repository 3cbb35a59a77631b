-- The structures of a series, one after another, up to the first that does not fit.
use Rattle.std.specs.Prelude.{◌≡◌, ℕ, zero, suc, ◌+◌, ◌-◌, ◌≤◌, Bool, true, false, List, [], ◌∷◌, length, drop, nat_lt, ◌==◌, if◌then◌else◌, Option, Some, None}
use Rattle.std.specs.Option.{option_map_or}
use Rattle.acpi_base.specs.Entries.{PlacedEntry}
use Rattle.acpi_rules.specs.Series.{start_of, most_of, is_counted, said_in, first_structure}
use Rattle.acpi_rules.specs.declared.series.Shape.{Shape}
use Rattle.acpi_rules.specs.declared.series.Series.{Series}
use Rattle.acpi_rules.specs.declared.structures.Cut.{Cut}
use Rattle.acpi_rules.specs.declared.window.Window.{Window}

-- a structure: its offset from the table's start, and its bytes
abbrev pub Placed : Type 0
Placed = PlacedEntry (List ℕ)

-- a window as a structure
abbrev pub placed : Window → Placed
placed w = record { offset = w.at; entry = w.bytes.now }

-- the structures, at most n, that follow one another in the remaining bytes, which begin at the offset `at`
unfoldable pub structures_from : Shape → ℕ → ℕ → List ℕ → List Placed
structures_from s zero at left = []
structures_from s (suc n) at left =
    option_map_or
    (λ e. record { offset = at; entry = e } ∷ structures_from s n (at + length e) (drop (length e) left))
    (first_structure s left)
    []

-- whether a walk that ends at the offset `at` is cut: a number was said, of which n are missing, or else it does not
-- end with what encloses it, at `end`
abbrev pub is_cut : Bool → ℕ → ℕ → ℕ → Bool
is_cut true n end at = nat_lt 0 n
is_cut false n end at = if at == end then false else true

-- the cut of a walk that ends here, if it is cut
abbrev pub cut_here : Shape → Bool → ℕ → ℕ → ℕ → List ℕ → Option Cut
cut_here s counted n end at left =
    if is_cut counted n end at then Some (record { at = at; said = said_in s left; end = end }) else None

-- the cut of the walk over these, where no further one fits
unfoldable pub cut_from : Shape → Bool → ℕ → ℕ → ℕ → List ℕ → Option Cut
cut_from s counted zero end at left = cut_here s counted zero end at left
cut_from s counted (suc n) end at left =
    option_map_or
    (λ e. cut_from s counted n end (at + length e) (drop (length e) left))
    (first_structure s left)
    (cut_here s counted (suc n) end at left)

-- a walk: the structures, and where it is cut
pub record Walk : Type 0 where
  pub structures : List Placed
  pub cut : Option Cut

abbrev pub walk_from : Shape → Bool → ℕ → ℕ → ℕ → List ℕ → Walk
walk_from s counted n end at left =
    record { structures = structures_from s n at left; cut = cut_from s counted n end at left }

-- the offset behind a structure
abbrev pub end_of_placed : Placed → ℕ
end_of_placed w = w.offset + length w.entry

-- the walk over a series inside a structure, from an offset in it on
abbrev pub walk_at : Series → Placed → ℕ → Walk
walk_at s w start =
    walk_from s.shape (is_counted s.extent) (most_of s.extent w.entry) (end_of_placed w)
    (w.offset + start) (drop start w.entry)

-- a walk over nothing
abbrev pub no_walk : Walk
no_walk = record { structures = []; cut = None }

-- the walk over a series inside a structure
abbrev pub walk_of : Series → Placed → Walk
walk_of s w = option_map_or (walk_at s w) (start_of s.start w.entry) no_walk

-- the cut, once no structure is left
abbrev pub cut_behind : Walk → Option Cut
cut_behind walk = elim walk.structures [ [] ↦ walk.cut | structure ∷ structures ↦ None ]

-- ---- steps

-- no structure is left
pub record IsLast (s : Shape) (counted : Bool) (n end at : ℕ) (left : List ℕ) : Type 0 where
  pub none : structures_from s n at left ≡ []
  pub cut : cut_from s counted n end at left ≡ cut_here s counted n end at left

-- this structure is the first, and the others come behind it
pub record IsNext (s : Shape) (counted : Bool) (n end at : ℕ) (left e : List ℕ) : Type 0 where
  pub some : 1 ≤ n
  pub long : 1 ≤ length e
  pub fits : length e ≤ length left
  pub first :
      structures_from s n at left
      ≡ record { offset = at; entry = e } ∷ structures_from s (n - 1) (at + length e) (drop (length e) left)
  pub cut : cut_from s counted (n - 1) end (at + length e) (drop (length e) left) ≡ cut_from s counted n end at left
