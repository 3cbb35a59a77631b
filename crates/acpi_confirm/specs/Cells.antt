-- The cell of a SLIT at an offset (ACPI 6.5, 5.2.17).
use Rattle.std.specs.Prelude.{◌≡◌, ℕ}
use Rattle.acpi_base.specs.Slit.{SlitContents, HasSlitSize, IsCell, distance}
use Rattle.acpi_confirm.specs.declared.slit.Cell.{Cell}

-- the table has its cells, and this one is at the offset
pub record HasCell (c : SlitContents) (at : ℕ) (cell : Cell) : Type 0 where
  pub size : HasSlitSize c
  pub place : IsCell c cell.row cell.column at
  pub says : distance c cell.row cell.column ≡ cell.distance

-- the table does not have its cells, or none is at the offset
abbrev pub HasNoCell : SlitContents → ℕ → Type 0
HasNoCell c at = HasSlitSize c → (i j : ℕ) → ¬ IsCell c i j at
