-- The faults of the SLIT: each can be decided, and there is none exactly if it is valid.
use Rattle.std.proofs.Common.{◌≡◌, ◌<◌, ◌≤◌, ◌+◌, ◌*◌, ℕ, List, length, refl, subst, inr, arith}
use Rattle.std.proofs.lemmas.Nat.{mul-add-lt}
use Rattle.std.proofs.lemmas.List.{get_or-drop}
use Rattle.std.specs.Prelude.{slice_index}
use Rattle.acpi_base.specs.Slit.{SlitContents, slit_contents, cell_place, distance, HasSlitSize, IsCell, SomeCell, IsValidSlit, SlitFaultAt, SlitFault}
use Rattle.acpi_base.specs.Codes.{stage_of}
use Rattle.acpi_base.specs.declared.code.Code.{Code}
use Rattle.acpi_base.specs.declared.code.Code.TheVariants as code
use Rattle.acpi_base.specs.declared.stage.Stage.TheVariants as stage
use Rattle.acpi_base.specs.Number.{field}
use Rattle.acpi_base.proofs.Faults.Deciding.{Decided, decided_as, both, all3, same, below, at_most, differs, negated, not_below, not_other}
use Rattle.acpi_base.proofs.Faults.Least.{some_below}

size_decided : (c : SlitContents) → Decided (HasSlitSize c)
size_decided c = same c.size (44 + c.count * c.count)

cell_decided : (c : SlitContents) (at : ℕ) (P : ℕ → ℕ → Type 0) → ((i j : ℕ) → Decided (P i j))
    → Decided (SomeCell c at P)
cell_decided c at P decide =
    decided_as (λ h. (h.0, h.2.0, record { row = h.1; column = h.2.1; place = h.2.2.0 }, h.2.2.1))
    (λ h. (h.0, h.2.row, (h.1, h.2.column, (h.2.place, h.3))))
    (some_below c.count _ (λ i. some_below c.count _ (λ j. both (same at (44 + cell_place c i j)) (decide i j))))

decided_at : (c : SlitContents) (fault : Code) (at : ℕ) → Decided (SlitFaultAt c fault at)
decided_at c code.SlitShort at = both (below c.size 44) (same at 0)
decided_at c code.SlitSize at = all3 (at_most 44 c.size) (negated (size_decided c)) (same at 36)
decided_at c code.SlitDiagonal at =
    both (size_decided c) (cell_decided c at _ (λ i j. both (same i j) (differs (distance c i j) 10)))
decided_at c code.SlitLow at = both (size_decided c) (cell_decided c at _ (λ i j. below (distance c i j) 10))
decided_at c _ at = inr (λ fault. fault)

pub decided : (c : SlitContents) (fault : Code) (at other point : ℕ) → Decided (SlitFault c fault at other point)
decided c fault at other point = all3 (decided_at c fault at) (same other 0) (same point 0)

pub valid_without_fault : (c : SlitContents)
    → ((fault : Code) (at other point : ℕ) → stage_of fault ≡ stage.Slit → ¬ SlitFault c fault at other point)
    → IsValidSlit c
valid_without_fault c none =
    record {
      size = size;
      least = λ i j row column. not_below (distance c i j) 10
          (λ low. none code.SlitLow _ 0 0 refl
          ((size, (i, j, record { row = row; column = column; place = refl }, low)), refl, refl));
      diagonal = λ i row. not_other (distance c i i) 10
          (λ other. none code.SlitDiagonal _ 0 0 refl
          ((size, (i, i, record { row = row; column = row; place = refl }, (refl, other))), refl, refl));
    }
  where
    long : 44 ≤ c.size
    long = not_below c.size 44 (λ short. none code.SlitShort 0 0 0 refl ((short, refl), refl, refl))

    size : HasSlitSize c
    size = not_other c.size (44 + c.count * c.count)
        (λ other. none code.SlitSize 36 0 0 refl ((long, other, refl), refl, refl))

pub excludes : (c : SlitContents) (fault : Code) (at other point : ℕ) → SlitFault c fault at other point
    → ¬ IsValidSlit c
excludes c code.SlitShort at other point ((short, is), _, _) valid = omega (arith, valid.size)
excludes c code.SlitSize at other point ((long, wrong, is), _, _) valid = wrong valid.size
excludes c code.SlitDiagonal at other point ((size, (i, j, cell, wrong)), _, _) valid =
    wrong.1 (subst (λ (k : ℕ). distance c i k ≡ 10) wrong.0 (valid.diagonal i cell.row))
excludes c code.SlitLow at other point ((size, (i, j, cell, low)), _, _) valid =
    omega (arith, valid.least i j cell.row cell.column)
excludes c _ at other point fault valid = fault.0

cell_within : (c : SlitContents) (i j at : ℕ) → HasSlitSize c → IsCell c i j at → at < c.size
cell_within c i j at size cell = omega (arith, cell.place, mul-add-lt i c.count j c.count cell.row cell.column)

place_at : (c : SlitContents) (fault : Code) (at : ℕ) → SlitFaultAt c fault at → at ≤ c.size
place_at c code.SlitShort at (short, is) = omega arith
place_at c code.SlitSize at (long, wrong, is) = omega arith
place_at c code.SlitDiagonal at (size, (i, j, cell, wrong)) = omega (arith, cell_within c i j at size cell)
place_at c code.SlitLow at (size, (i, j, cell, low)) = omega (arith, cell_within c i j at size cell)
place_at c _ at fault = absurd fault

pub place : (c : SlitContents) (fault : Code) (at other point : ℕ) → SlitFault c fault at other point
    → (at ≤ c.size) × (other ≤ c.size) × (point ≤ c.size)
place c fault at other point (wrong, no_other, no_point) = (place_at c fault at wrong, omega arith, omega arith)

pub slit_size : (whole : List ℕ) → (slit_contents whole).size ≡ length whole
unfolding slit_contents
slit_size whole = refl

pub slit_count : (whole : List ℕ) → (slit_contents whole).count ≡ field whole 36 8
unfolding slit_contents
slit_count whole = refl

pub slit_distance : (whole : List ℕ) (i j : ℕ)
    → distance (slit_contents whole) i j ≡ slice_index whole (44 + (slit_contents whole).count * i + j)
unfolding slit_contents
slit_distance whole i j = grind (arith, get_or-drop 44 whole (field whole 36 8 * i + j) 0)
