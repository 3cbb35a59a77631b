-- The cells of a SLIT, row by row (ACPI 6.5, 5.2.17).
use Rattle.std.specs.Prelude.{◌≡◌, ℕ, ◌+◌, ◌*◌, ◌<◌, ◌≤◌, ◌⊎◌, List, length}
use Rattle.acpi_base.specs.Codes.{code_number, stage_of}
use Rattle.acpi_base.specs.Slit.{SlitContents, slit_contents, distance, SlitFault}
use Rattle.acpi_base.specs.declared.code.Code.{Code}
use Rattle.acpi_base.specs.declared.stage.Stage.TheVariants as stage
use Rattle.acpi_base.specs.declared.witness.Witness.{Witness}

-- the bytes are those of a SLIT with n rows and n columns
pub record HasRows (whole : List ℕ) (n : ℕ) : Type 0 where
  pub count : (slit_contents whole).count ≡ n
  pub size : length whole ≡ 44 + n * n

-- the distance d in the cell of row i and column j has no fault
pub record IsValidCell (i j d : ℕ) : Type 0 where
  pub least : 10 ≤ d
  pub diagonal : i ≡ j → d ≡ 10

-- the cells before that of row i and column j have no fault
pub record AreValidTo (c : SlitContents) (i j : ℕ) : Type 0 where
  pub above : (a b : ℕ) → a < i → b < c.count → IsValidCell a b (distance c a b)
  pub left : (b : ℕ) → b < j → IsValidCell i b (distance c i b)

-- w is the first fault of a SLIT
pub record IsFirstSlitFault (c : SlitContents) (w : Witness) : Type 0 where
  pub stage : stage_of w.code ≡ stage.Slit
  pub fault : SlitFault c w.code w.at w.other w.point
  pub least : (other : Code) (at second third : ℕ) → SlitFault c other at second third → (w.at < at) ⊎ ((w.at ≡ at) × (code_number w.code ≤ code_number other))
