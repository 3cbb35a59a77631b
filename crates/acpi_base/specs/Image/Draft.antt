-- Pieces of an image in the order in which they came; repeated addresses are looked for at the end.
use Rattle.std.specs.Prelude.{◌≡◌, ℕ, ◌+◌, ◌-◌, ◌<◌, ◌≤◌, min, List, [], ◌∷◌, length, slice_index_or, nat_lt, if◌then◌else◌, Result, Ok}
use Rattle.std.specs.List.{AllByRecursion}
use Rattle.acpi_base.specs.Memory.{Memory}
use Rattle.acpi_base.specs.Image.Adding.{added}
use Rattle.acpi_base.specs.Image.Pieces.{Piece, LiesBefore, end_at}
use Rattle.acpi_base.specs.Image.Runs.{Run}
use Rattle.acpi_base.specs.Text.ImageText.{on_ok}

-- 1 if the piece has the address, otherwise 0
abbrev pub holds_at : ℕ → Piece → ℕ
holds_at x p = if nat_lt x p.0 then 0 else (if nat_lt x (end_at p) then 1 else 0)

-- how many pieces have the address
abbrev pub holder_count : List Piece → ℕ → ℕ
holder_count [] x = 0
holder_count (p ∷ ps) x = holds_at x p + holder_count ps x

-- pieces that do not overlap, whose bytes are among the first n of a store
pub record AreDisjoint (n : ℕ) (ps : List Piece) : Type 0 where
  pub once : (x : ℕ) → holder_count ps x ≤ 1
  pub filled : AllByRecursion (λ p. 0 < p.1.len) ps
  pub lies : AllByRecursion (LiesBefore n) ps

-- runs come one after the other, up to the first address that comes twice
unfoldable pub all_added : Memory → List Run → Result Memory ℕ
all_added m [] = Ok m
all_added m (r ∷ rs) = on_ok (added m r.base r.bytes) (λ n. all_added n rs)

-- the pieces' bytes follow one another in the store, from one index to another
unfoldable pub AreContiguous : List Piece → ℕ → ℕ → Type 0
AreContiguous [] from to = from ≡ to
AreContiguous (p ∷ ps) from to = (p.1.start ≡ from) × AreContiguous ps (from + p.1.len) to

-- pieces that are not empty, whose bytes are the store's in the order in which they came
pub record AreDrafted (store : List ℕ) (ps : List Piece) : Type 0 where
  pub filled : AllByRecursion (λ p. 0 < p.1.len) ps
  pub lies : AllByRecursion (LiesBefore (length store)) ps
  pub contiguous : AreContiguous ps 0 (length store)

-- the piece that came last ends at this address
abbrev pub EndsAt : List Piece → ℕ → Type 0
EndsAt ps a = (0 < length ps) × ((d : Piece) → end_at (slice_index_or ps (length ps - 1) d) ≡ a)

-- the part of a piece that lies in the first s bytes of the store
abbrev pub cut : ℕ → Piece → Piece
cut s p = (p.0, record { start = p.1.start; len = min p.1.len (s - p.1.start) })

abbrev pub cut_all : ℕ → List Piece → List Piece
cut_all s [] = []
cut_all s (p ∷ ps) = cut s p ∷ cut_all s ps

-- no two of the first s bytes of the store have one address
abbrev pub IsOnceBefore : List Piece → ℕ → Type 0
IsOnceBefore ps s = (x : ℕ) → holder_count (cut_all s ps) x < 2

-- two of the first s bytes of the store have the address
abbrev pub ComesTwice : List Piece → ℕ → ℕ → Type 0
ComesTwice ps s x = 1 < holder_count (cut_all s ps) x

-- the first repeated address: that of the first byte whose address an earlier byte has
abbrev pub IsFirstTwice : List Piece → ℕ → Type 0
IsFirstTwice ps x = (s : ℕ) × IsOnceBefore ps s × ComesTwice ps (s + 1) x
