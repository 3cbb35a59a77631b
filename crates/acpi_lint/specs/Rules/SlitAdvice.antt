-- Advice on the SLIT (ACPI 6.5, 5.2.17). `at` is a cell's offset from the table's start.
use Rattle.std.specs.Prelude.{◌≡◌, ◌≢◌, ℕ, ◌<◌}
use Rattle.acpi_base.specs.Slit.{SlitContents, IsCell, distance}

-- the distance from i to j, whose cell is at `at`, differs from that from j to i, whose cell is at `other`
pub record IsSlitDiffers (c : SlitContents) (at other point : ℕ) : Type 0 where
  pub i : ℕ
  pub j : ℕ
  pub upper : i < j
  pub here : IsCell c i j at
  pub there : IsCell c j i other
  pub differ : distance c i j ≢ distance c j i
  pub unused : point ≡ 0

-- the distance between two localities, from `other` to `point`, is 10, that of a locality from itself
pub record IsRemoteAsLocal (c : SlitContents) (at other point : ℕ) : Type 0 where
  pub cell : IsCell c other point at
  pub remote : other ≢ point
  pub local : distance c other point ≡ 10
