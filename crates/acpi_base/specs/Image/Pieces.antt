-- Pieces of an image, whose bytes are in one store.
use Rattle.std.specs.Prelude.{ℕ, ◌+◌, ◌^◌, ◌<◌, ◌≤◌, List, [], ◌∷◌, take, drop}
use Rattle.std.specs.List.{AllByRecursion}
use Rattle.acpi_base.specs.declared.image.span.Span.{Span}
use Rattle.acpi_base.specs.Memory.{Memory}
use Rattle.acpi_base.specs.Image.Runs.{Run, run_at, memory_of}

-- the first address of a piece, and where its bytes are
abbrev pub Piece : Type 0
Piece = ℕ × Span

-- the address after the last one
abbrev pub end_at : Piece → ℕ
end_at p = p.0 + p.1.len

-- each piece ends before all later ones, or where the next begins
abbrev pub AreSortedDisjoint : List Piece → Type 0
AreSortedDisjoint [] = Unit {0}
AreSortedDisjoint (p ∷ ps) = (0 < p.1.len) × AllByRecursion (λ q. end_at p ≤ q.0) ps × AreSortedDisjoint ps

-- the piece's bytes are among the first n of the store, and its addresses below 2^64
abbrev pub LiesBefore : ℕ → Piece → Type 0
LiesBefore n p = (p.1.start + p.1.len ≤ n) × (end_at p ≤ 2 ^ 64)

abbrev pub run_in : List ℕ → Piece → Run
run_in store p = run_at p.0 (take p.1.len (drop p.1.start store))

abbrev pub runs_in : List ℕ → List Piece → List Run
runs_in store [] = []
runs_in store (p ∷ ps) = run_in store p ∷ runs_in store ps

-- the runs of an open piece, which has the store's bytes from `begin` on, and of pieces that have ended
abbrev pub all_runs : List ℕ → List Piece → ℕ → ℕ → List Run
all_runs store ps base begin = run_at base (drop begin store) ∷ runs_in store ps

abbrev pub memory_in_store : List ℕ → List Piece → ℕ → ℕ → Memory
memory_in_store store ps base begin = memory_of (all_runs store ps base begin)
