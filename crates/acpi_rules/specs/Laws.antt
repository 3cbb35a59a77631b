-- What holds for the structures of a walk: where they are, and where it stops.
use Rattle.std.specs.Prelude.{◌≡◌, ◌≢◌, ℕ, ◌+◌, ◌-◌, ◌≤◌, ◌<◌, Bool, true, false, List, [], ◌∷◌, length, drop, slice_range, sum_by, Some, None, MatchOption, Contains, ◌↔◌}
use Rattle.acpi_rules.specs.Series.{first_structure, is_counted, most_of, said_in, start_of}
use Rattle.acpi_rules.specs.Walks.{Placed, end_of_placed, walk_of}
use Rattle.acpi_rules.specs.declared.series.Series.{Series}
use Rattle.acpi_rules.specs.declared.series.Shape.{Shape}
use Rattle.acpi_rules.specs.declared.structures.Cut.{Cut}

-- ---- the structures follow one another

-- a structure at `at` is a run of the bytes of the one that it is in, and has at least one byte
pub record IsPart (inside : Placed) (at : ℕ) (w : Placed) : Type 0 where
  pub here : w.offset ≡ at
  pub long : 1 ≤ length w.entry
  pub from : inside.offset ≤ at
  pub within : at + length w.entry ≤ end_of_placed inside
  pub run : slice_range inside.entry (at - inside.offset) (at - inside.offset + length w.entry) ≡ w.entry

-- the first of these is at `at`, and each of the others where the one before it ends
abbrev pub Follow : Placed → ℕ → List Placed → Type 0
Follow inside at [] = Unit {0}
Follow inside at (w ∷ ws) = IsPart inside at w × Follow inside (at + length w.entry) ws

-- the structures of a walk follow one another inside the one that is walked, from the start on; without a start there
-- are none
abbrev pub StructuresFollow : Type 0
StructuresFollow =
    (s : Series) (inside : Placed) →
    MatchOption (start_of s.start inside.entry)
    ((walk_of s inside).structures ≡ [])
    (λ start. Follow inside (inside.offset + start) (walk_of s inside).structures)

-- a walk takes no more steps than there are bytes, however many structures a field says
abbrev pub StructuresFew : Type 0
StructuresFew = (s : Series) (inside : Placed) → length (walk_of s inside).structures ≤ length inside.entry

-- ---- where a walk stops

-- the offset behind structures that follow one another from `at` on
abbrev pub end_from : ℕ → List Placed → ℕ
end_from at ws = at + sum_by (λ w. length w.entry) ws

-- the walk over these bytes stops at this cut, behind its structures: a field said that there are more, or it is not at
-- the end of what encloses it, and none fits there
pub record IsStop (s : Shape) (counted : Bool) (n end at : ℕ) (left : List ℕ) (ws : List Placed) (c : Cut)
    : Type 0 where
  pub behind : c.at ≡ end_from at ws
  pub fewer : counted ≡ true → length ws < n
  pub unfilled : counted ≡ false → c.at ≢ end
  pub none : first_structure s (drop (c.at - at) left) ≡ None
  pub said : c.said ≡ said_in s (drop (c.at - at) left)
  pub enclosed : c.end ≡ end

-- the walk is complete: all that a field said are there, or it ends with what encloses it
abbrev pub IsComplete : Bool → ℕ → ℕ → ℕ → List Placed → Type 0
IsComplete true n end at ws = length ws ≡ n
IsComplete false n end at ws = end_from at ws ≡ end

-- a walk is complete, or stops at its cut; without a start it has no cut
abbrev pub CutStops : Type 0
CutStops =
    (s : Series) (inside : Placed) →
    let walk = walk_of s inside in
    let counted = is_counted s.extent in
    let n = most_of s.extent inside.entry in
    MatchOption (start_of s.start inside.entry)
    (walk.cut ≡ None)
    (λ start. MatchOption walk.cut
    (IsComplete counted n (end_of_placed inside) (inside.offset + start) walk.structures)
    (IsStop s.shape counted n (end_of_placed inside) (inside.offset + start) (drop start inside.entry) walk.structures))

-- ---- the same as a relation

-- these structures follow one another, from the first of these bytes to the rest
abbrev pub Lead : Shape → List (List ℕ) → List ℕ → List ℕ → Type 0
Lead s [] left rest = left ≡ rest
Lead s (e ∷ es) left rest = (first_structure s left ≡ Some e) × Lead s es (drop (length e) left) rest

-- fewer than n structures lead from a start to this one, which fits there
pub record IsReached (s : Shape) (n at : ℕ) (left : List ℕ) (w : Placed) : Type 0 where
  pub es : List (List ℕ)
  pub rest : List ℕ
  pub lead : Lead s es left rest
  pub fewer : length es < n
  pub here : w.offset ≡ at + sum_by (λ e. length e) es
  pub fits : first_structure s rest ≡ Some w.entry

-- the structures of a walk are exactly those that are reached from its start
abbrev pub StructuresReached : Type 0
StructuresReached =
    (s : Series) (inside w : Placed) →
    Contains (walk_of s inside).structures w
    ↔ ((start : ℕ) × (start_of s.start inside.entry ≡ Some start)
    × IsReached s.shape (most_of s.extent inside.entry) (inside.offset + start) (drop start inside.entry) w)
