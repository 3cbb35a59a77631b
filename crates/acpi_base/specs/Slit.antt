-- The SLIT (ACPI 6.5, 5.2.17): its fields, and when it is valid. Offsets are from its start.
use Rattle.std.specs.Prelude.{◌≡◌, ◌≢◌, ℕ, ◌+◌, ◌*◌, ◌<◌, ◌≤◌, List, length, drop, slice_index}
use Rattle.acpi_base.specs.Number.{field}
use Rattle.acpi_base.specs.declared.code.Code.{Code}
use Rattle.acpi_base.specs.declared.code.Code.TheVariants as code

-- what a SLIT says: its length in bytes, its number of system localities, and its bytes from 44 on
pub record SlitContents : Type 0 where
  pub size : ℕ
  pub count : ℕ
  pub cells : List ℕ

unfoldable pub slit_contents : List ℕ → SlitContents
slit_contents whole = record { size = length whole; count = field whole 36 8; cells = drop 44 whole }

-- a cell's index: row after row
abbrev pub cell_place : SlitContents → ℕ → ℕ → ℕ
cell_place c i j = c.count * i + j

-- the relative distance from locality i to locality j
abbrev pub distance : SlitContents → ℕ → ℕ → ℕ
distance c i j = slice_index c.cells (cell_place c i j)

-- after its first 44 bytes the table has a cell for each pair of a row and a column, and nothing else
abbrev pub HasSlitSize : SlitContents → Type 0
HasSlitSize c = c.size ≡ 44 + c.count * c.count

-- the cell of row i and column j is at this offset
pub record IsCell (c : SlitContents) (i j at : ℕ) : Type 0 where
  pub row : i < c.count
  pub column : j < c.count
  pub place : at ≡ 44 + cell_place c i j

-- P holds of the row and the column of the cell at this offset
abbrev pub SomeCell : SlitContents → ℕ → (ℕ → ℕ → Type 0) → Type 0
SomeCell c at P = (i j : ℕ) × IsCell c i j at × P i j

-- Stage 11: the table has its cells; no distance is below 10, as 0 to 9 have no meaning, and the diagonal's are 10.
pub record IsValidSlit (c : SlitContents) : Type 0 where
  pub size : HasSlitSize c
  pub least : (i j : ℕ) → i < c.count → j < c.count → 10 ≤ distance c i j
  pub diagonal : (i : ℕ) → i < c.count → distance c i i ≡ 10

-- The faults of a SLIT, by their code and the offset that each is reported at.
abbrev pub SlitFaultAt : SlitContents → Code → ℕ → Type 0
SlitFaultAt c code.SlitShort at = (c.size < 44) × (at ≡ 0)
SlitFaultAt c code.SlitSize at = (44 ≤ c.size) × (¬ HasSlitSize c) × (at ≡ 36)
SlitFaultAt c code.SlitDiagonal at = HasSlitSize c × SomeCell c at (λ i j. (i ≡ j) × (distance c i j ≢ 10))
SlitFaultAt c code.SlitLow at = HasSlitSize c × SomeCell c at (λ i j. distance c i j < 10)
SlitFaultAt c _ at = ⊥

-- The faults of stage 11. They use one number.
abbrev pub SlitFault : SlitContents → Code → ℕ → ℕ → ℕ → Type 0
SlitFault c fault at other point = SlitFaultAt c fault at × (other ≡ 0) × (point ≡ 0)
