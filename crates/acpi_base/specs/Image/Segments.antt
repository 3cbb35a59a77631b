-- Segments: the pieces of an image in the order of their addresses.
use Rattle.std.specs.Prelude.{◌≡◌, ℕ, ◌+◌, ◌-◌, ◌^◌, ◌<◌, ◌≤◌, List, [], ◌∷◌, length, Some, None}
use Rattle.std.specs.List.{AllByRecursion, AllWithin}
use Rattle.acpi_base.specs.declared.image.segments.Segments.{Segments}
use Rattle.acpi_base.specs.Memory.{Memory, IsImage, run_of}
use Rattle.acpi_base.specs.Image.Runs.{Run, byte_in, lookup, end_of}
use Rattle.acpi_base.specs.Image.Pieces.{Piece, end_at, LiesBefore, all_runs, memory_in_store}

-- an address that is not present lies between each segment and all later ones
abbrev pub AreSegmentsApart : List Piece → Type 0
AreSegmentsApart [] = Unit {0}
AreSegmentsApart (p ∷ ps) = (0 < p.1.len) × AllByRecursion (λ q. end_at p < q.0) ps × AreSegmentsApart ps

-- segments in their order, and after them the open one
pub record AreSegments (store : List ℕ) (ps : List Piece) (base begin : ℕ) : Type 0 where
  pub apart : AreSegmentsApart ps
  pub below : AllByRecursion (λ p. end_at p < base) ps
  pub lies : AllByRecursion (LiesBefore begin) ps
  pub within : begin ≤ length store
  pub fits : base + (length store - begin) ≤ 2 ^ 64
  pub image : IsImage (memory_in_store store ps base begin)

abbrev pub runs_of : Segments → List Run
runs_of s = all_runs s.store s.ended.items s.base s.start

abbrev pub memory_in : Segments → Memory
memory_in s = memory_in_store s.store s.ended.items s.base s.start

abbrev pub IsValid : Segments → Type 0
IsValid s = AreSegments s.store s.ended.items s.base s.start

-- the address after the open segment
abbrev pub end_in : Segments → ℕ
end_in s = s.base + (length s.store - s.start)

-- the pieces before the index begin at the address or before it, the others after it
abbrev pub IsPartitionPoint : List Piece → ℕ → ℕ → Type 0
IsPartitionPoint ps a i = AllWithin (λ p. p.0 ≤ a) ps 0 i × AllWithin (λ p. a < p.0) ps i (length ps)

-- what the runs have at an address, and from there on to the end of the run r, is what r has
pub record IsRunAt (rs : List Run) (a : ℕ) (r : Run) : Type 0 where
  pub begins : r.base ≤ a
  pub here : lookup rs a ≡ byte_in r a
  pub further : (x : ℕ) → a ≤ x → x ≤ end_of r → lookup rs x ≡ byte_in r x

-- the runs have nothing at these addresses
abbrev pub IsGap : List Run → ℕ → ℕ → Type 0
IsGap rs a b = (x : ℕ) → a ≤ x → x < b → lookup rs x ≡ None

-- these are the bytes from a on, up to the first address that is not present
pub record IsRest (rs : List Run) (a : ℕ) (bytes : List ℕ) : Type 0 where
  pub present : run_of (lookup rs) a (length bytes) ≡ Some bytes
  pub none_behind : lookup rs (a + length bytes) ≡ None
