-- Examples of the SLIT: bytes of small tables, what they say, and their faults, worked out by hand from the rules.
use Rattle.std.specs.Prelude.{◌≡◌, ℕ, ◌^◌, List, [], ◌∷◌, All}
use Rattle.acpi_base.specs.Listed.{slit_signature}
use Rattle.acpi_base.specs.Slit.{SlitContents, slit_contents, distance, SlitFault}
use Rattle.acpi_examples.specs.Tables.{table, IsValidExample}
use Rattle.acpi_base.specs.declared.code.Code.{Code}
use Rattle.acpi_base.specs.declared.code.Code.TheVariants as code

-- a SLIT; its body is the number of its localities, in 8 bytes, and its cells
abbrev pub slit_table : ℕ → ℕ → List ℕ → List ℕ
slit_table size checksum body = table slit_signature size 1 checksum body

-- what a SLIT says
abbrev pub said_slit : ℕ → ℕ → List ℕ → SlitContents
said_slit size count cells = record { size = size; count = count; cells = cells }

-- ---- the tables

-- a SLIT of no localities
abbrev pub empty_bytes : List ℕ
empty_bytes = slit_table 44 3 (0 ∷ 0 ∷ 0 ∷ 0 ∷ 0 ∷ 0 ∷ 0 ∷ 0 ∷ [])

-- one of one locality
abbrev pub one_locality_bytes : List ℕ
one_locality_bytes = slit_table 45 247 (1 ∷ 0 ∷ 0 ∷ 0 ∷ 0 ∷ 0 ∷ 0 ∷ 0 ∷ 10 ∷ [])

-- one of two localities
abbrev pub two_localities_bytes : List ℕ
two_localities_bytes = slit_table 48 192 (2 ∷ 0 ∷ 0 ∷ 0 ∷ 0 ∷ 0 ∷ 0 ∷ 0 ∷ 10 ∷ 21 ∷ 20 ∷ 10 ∷ [])

abbrev pub two_localities : SlitContents
two_localities = said_slit 48 2 (10 ∷ 21 ∷ 20 ∷ 10 ∷ [])

-- one that has no cells for its 2^32 localities
abbrev pub no_cells_bytes : List ℕ
no_cells_bytes = slit_table 44 2 (0 ∷ 0 ∷ 0 ∷ 0 ∷ 1 ∷ 0 ∷ 0 ∷ 0 ∷ [])

-- one whose first diagonal cell is above 10
abbrev pub high_diagonal_bytes : List ℕ
high_diagonal_bytes = slit_table 48 192 (2 ∷ 0 ∷ 0 ∷ 0 ∷ 0 ∷ 0 ∷ 0 ∷ 0 ∷ 11 ∷ 20 ∷ 20 ∷ 10 ∷ [])

abbrev pub high_diagonal : SlitContents
high_diagonal = said_slit 48 2 (11 ∷ 20 ∷ 20 ∷ 10 ∷ [])

-- one with a cell below 10 off the diagonal
abbrev pub low_cell_bytes : List ℕ
low_cell_bytes = slit_table 48 204 (2 ∷ 0 ∷ 0 ∷ 0 ∷ 0 ∷ 0 ∷ 0 ∷ 0 ∷ 10 ∷ 9 ∷ 20 ∷ 10 ∷ [])

abbrev pub low_cell : SlitContents
low_cell = said_slit 48 2 (10 ∷ 9 ∷ 20 ∷ 10 ∷ [])

-- one whose last diagonal cell is below 10
abbrev pub low_diagonal_bytes : List ℕ
low_diagonal_bytes = slit_table 48 194 (2 ∷ 0 ∷ 0 ∷ 0 ∷ 0 ∷ 0 ∷ 0 ∷ 0 ∷ 10 ∷ 20 ∷ 20 ∷ 9 ∷ [])

abbrev pub low_diagonal : SlitContents
low_diagonal = said_slit 48 2 (10 ∷ 20 ∷ 20 ∷ 9 ∷ [])

-- ---- what they state

-- these SLITs
abbrev pub example_slits : List (List ℕ)
example_slits =
    empty_bytes ∷ one_locality_bytes ∷ two_localities_bytes ∷ no_cells_bytes ∷ high_diagonal_bytes ∷ low_cell_bytes
    ∷ low_diagonal_bytes
    ∷ []

-- what the SLITs say; the cells are row after row
pub record AreSlitContents : Type 0 where
  pub valid : All IsValidExample example_slits
  pub empty_says : slit_contents empty_bytes ≡ said_slit 44 0 []
  pub one_says : slit_contents one_locality_bytes ≡ said_slit 45 1 (10 ∷ [])
  pub two_say : slit_contents two_localities_bytes ≡ two_localities
  pub there : distance (slit_contents two_localities_bytes) 0 1 ≡ 21
  pub back : distance (slit_contents two_localities_bytes) 1 0 ≡ 20
  pub no_cells_say : slit_contents no_cells_bytes ≡ said_slit 44 (2 ^ 32) []
  pub high_diagonal_says : slit_contents high_diagonal_bytes ≡ high_diagonal
  pub low_cell_says : slit_contents low_cell_bytes ≡ low_cell
  pub low_diagonal_says : slit_contents low_diagonal_bytes ≡ low_diagonal

-- the faults of the SLITs; a SLIT of 40 bytes is too short
pub record AreSlitFaults : Type 0 where
  pub short : SlitFault (slit_contents (slit_table 40 6 (1 ∷ 0 ∷ 0 ∷ 0 ∷ []))) code.SlitShort 0 0 0
  pub size : SlitFault (slit_contents no_cells_bytes) code.SlitSize 0x24 0 0
  pub diagonal : SlitFault (slit_contents high_diagonal_bytes) code.SlitDiagonal 0x2c 0 0
  pub not_low : ¬ SlitFault (slit_contents high_diagonal_bytes) code.SlitLow 0x2c 0 0
  pub low : SlitFault (slit_contents low_cell_bytes) code.SlitLow 0x2d 0 0
  pub not_diagonal : ¬ SlitFault (slit_contents low_cell_bytes) code.SlitDiagonal 0x2d 0 0
  pub both : SlitFault (slit_contents low_diagonal_bytes) code.SlitDiagonal 0x2f 0 0 × SlitFault (slit_contents low_diagonal_bytes) code.SlitLow 0x2f 0 0

-- a SLIT has no fault of stage 11
abbrev pub HasNoSlitFault : List ℕ → Type 0
HasNoSlitFault bytes = (fault : Code) (at other point : ℕ) → ¬ SlitFault (slit_contents bytes) fault at other point

-- the SLITs of no locality, of one and of two have none
abbrev pub AreValidSlits : Type 0
AreValidSlits = All HasNoSlitFault (empty_bytes ∷ one_locality_bytes ∷ two_localities_bytes ∷ [])
