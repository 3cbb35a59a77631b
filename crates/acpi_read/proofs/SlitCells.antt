-- The cells of a SLIT, one by one: which are valid, and which has the first fault.
use Rattle.std.proofs.Common.{◌≡◌, ◌≢◌, ◌<◌, ◌≤◌, ◌+◌, ◌*◌, ℕ, List, length, refl, subst, sym, ap, ◌∙◌, inl, inr, arith}
use Rattle.std.specs.Prelude.{◌⊎◌, slice_index}
use Rattle.std.proofs.lemmas.Bool.{cases_lt, cases_eq}
use Rattle.std.proofs.lemmas.List.{get_or-drop}
use Rattle.std.proofs.Math.Nat.{mul-le-mul_left}
use Rattle.acpi_base.specs.Number.{field}
use Rattle.acpi_base.specs.Codes.{code_number}
use Rattle.acpi_base.specs.Slit.{SlitContents, slit_contents, cell_place, distance, HasSlitSize, IsCell, IsValidSlit, SlitFault}
use Rattle.acpi_base.specs.declared.code.Code.{Code}
use Rattle.acpi_base.specs.declared.code.Code.TheVariants as code
use Rattle.acpi_base.specs.declared.witness.Witness.{Witness}
use Rattle.acpi_base.proofs.Slit.{excludes, slit_size, slit_count, slit_distance}
use Rattle.acpi_base.proofs.Faults.Deciding.{not_other}
use Rattle.acpi_read.specs.Slits.{HasRows, IsValidCell, AreValidTo, IsFirstSlitFault}

-- ---- valid cells

pub right_size : (whole : List ℕ) (n : ℕ) → HasRows whole n → HasSlitSize (slit_contents whole)
right_size whole n rows = grind (arith, slit_size whole, rows.count, rows.size)

pub distance_at : (whole : List ℕ) (n i j : ℕ) → HasRows whole n
    → slice_index whole (44 + n * i + j) ≡ distance (slit_contents whole) i j
distance_at whole n i j rows = grind (arith, slit_distance whole i j, rows.count)

next_cell : (c : SlitContents) (i j : ℕ) → AreValidTo c i j → IsValidCell i j (distance c i j) → AreValidTo c i (j + 1)
next_cell c i j before here =
    record {
      above = before.above;
      left = λ b less. elim (cases_eq b j) [
        | inl is ↦ subst (λ (k : ℕ). IsValidCell i k (distance c i k)) (sym is) here
        | inr other ↦ before.left b (omega arith)
      ];
    }

pub valid_cell : (whole : List ℕ) (n i j : ℕ) → HasRows whole n → AreValidTo (slit_contents whole) i j
    → 10 ≤ slice_index whole (44 + n * i + j) → ((i ≡ j) × (slice_index whole (44 + n * i + j) ≢ 10) → ⊥)
    → AreValidTo (slit_contents whole) i (j + 1)
valid_cell whole n i j rows before high ten =
    let here : IsValidCell i j (slice_index whole (44 + n * i + j)) =
    record { least = high; diagonal = λ same. not_other _ 10 (λ other. ten (same, other)) } in
    next_cell (slit_contents whole) i j before (rw (distance_at whole n i j rows) at here)

pub valid_row : (whole : List ℕ) (n i j : ℕ) → HasRows whole n → AreValidTo (slit_contents whole) i j → n ≤ j
    → AreValidTo (slit_contents whole) (i + 1) 0
valid_row whole n i j rows before all =
    let c = slit_contents whole in
    record {
      above = λ a b less column.
          elim (cases_eq a i) [
            | inl is ↦ subst (λ (k : ℕ). IsValidCell k b (distance c k b)) (sym is)
                (before.left b (omega (arith, rows.count)))
            | inr other ↦ before.above a b (omega arith) column
          ];
      left = λ b less. absurd (omega arith);
    }

pub valid_rows : (whole : List ℕ) (n i : ℕ) → HasRows whole n → AreValidTo (slit_contents whole) i 0 → n ≤ i
    → IsValidSlit (slit_contents whole)
valid_rows whole n i rows all last =
    record {
      size = right_size whole n rows;
      least = λ a b row column. (all.above a b (omega (arith, rows.count)) column).least;
      diagonal = λ a row. (all.above a a (omega (arith, rows.count)) row).diagonal refl;
    }

-- ---- the first fault

later_cell : (c : SlitContents) (i j a b : ℕ) → AreValidTo c i j → j < c.count → b < c.count
    → ¬ IsValidCell a b (distance c a b)
    → (cell_place c i j < cell_place c a b) ⊎ ((a ≡ i) × (b ≡ j))
later_cell c i j a b before inside column not =
    elim (cases_lt a i) [
      | inl above ↦ absurd (not (before.above a b above column))
      | inr below ↦
          elim (cases_eq a i) [
            | inr other ↦ (let next : i + 1 ≤ a = omega arith in inl (omega (arith, mul-le-mul_left c.count next)))
            | inl is ↦
                let row : c.count * a ≡ c.count * i = ap (λ (k : ℕ). c.count * k) is in
                elim (cases_lt b j) [
                  | inl left ↦ absurd
                      (not (subst (λ (k : ℕ). IsValidCell k b (distance c k b)) (sym is) (before.left b left)))
                  | inr right ↦ elim (cases_eq b j) [ inl same ↦ inr (is, same) | inr other ↦ inl (omega arith) ]
                ]
          ]
    ]

-- a fault of a table of the right size is that of a cell that is not valid; off the diagonal its code is at least 49
record IsOfCell (c : SlitContents) (fault : Code) (at : ℕ) : Type 0 where
  a : ℕ
  b : ℕ
  cell : IsCell c a b at
  unsound : ¬ IsValidCell a b (distance c a b)
  least : 48 ≤ code_number fault
  low : a ≢ b → 49 ≤ code_number fault

cell_of : (c : SlitContents) (fault : Code) (at other point : ℕ) → HasSlitSize c → SlitFault c fault at other point
    → IsOfCell c fault at
cell_of c code.SlitShort at other point size ((short, is), _, _) = absurd (omega arith)
cell_of c code.SlitSize at other point size ((long, wrong, is), _, _) = absurd (wrong size)
cell_of c code.SlitDiagonal at other point size ((_, (a, b, cell, wrong)), _, _) =
    record {
      a = a;
      b = b;
      cell = cell;
      unsound = λ valid. wrong.1 (valid.diagonal wrong.0);
      least = omega arith;
      low = λ apart. absurd (apart wrong.0);
    }
cell_of c code.SlitLow at other point size ((_, (a, b, cell, low)), _, _) =
    record {
      a = a;
      b = b;
      cell = cell;
      unsound = λ valid. omega (arith, valid.least);
      least = omega arith;
      low = λ apart. omega arith;
    }
cell_of c _ at other point size fault = absurd fault.0

-- no fault comes before that of a cell
least_of : (c : SlitContents) (i j number : ℕ) → HasSlitSize c → j < c.count → AreValidTo c i j
    → (number ≤ 48) ⊎ ((number ≤ 49) × (i ≢ j))
    → (other : Code) (at second third : ℕ) → SlitFault c other at second third
    → (44 + cell_place c i j < at) ⊎ ((44 + cell_place c i j ≡ at) × (number ≤ code_number other))
least_of c i j number size column before small other at second third fault =
    let found = cell_of c other at second third size fault in
    elim (later_cell c i j found.a found.b before column found.cell.column found.unsound) [
      | inl behind ↦ inl (omega (arith, found.cell.place))
      | inr (row, same) ↦
          let place : cell_place c found.a found.b ≡ cell_place c i j = grind arith in
          let code : number ≤ code_number other =
          elim small [
            | inl least ↦ omega (arith, found.least)
            | inr (low, apart) ↦
                omega (arith, found.low (λ is. apart (sym row ∙ is ∙ same)))
          ] in
          inr (omega (arith, found.cell.place), code)
    ]

pub cell_at : (whole : List ℕ) (n i j : ℕ) → HasRows whole n → i < n → j < n
    → IsCell (slit_contents whole) i j (44 + n * i + j)
cell_at whole n i j rows row column =
    record { row = omega (arith, rows.count); column = omega (arith, rows.count); place = grind (arith, rows.count) }

pub first_diagonal : (whole : List ℕ) (n i j : ℕ) → HasRows whole n → i < n → j < n
    → AreValidTo (slit_contents whole) i j → i ≡ j → slice_index whole (44 + n * i + j) ≢ 10
    → IsFirstSlitFault (slit_contents whole)
    (record { code = code.SlitDiagonal; at = 44 + n * i + j; other = 0; point = 0 })
first_diagonal whole n i j rows row column before same other =
    let c = slit_contents whole in
    let size = right_size whole n rows in
    let cell = cell_at whole n i j rows row column in
    record {
      stage = refl;
      fault = ((size, (i, j, cell, (same, rw (distance_at whole n i j rows) at other))), refl, refl);
      least = rw (← cell.place) at (least_of (slit_contents whole) i j 48 size cell.column before (inl (omega arith)));
    }

pub first_low : (whole : List ℕ) (n i j : ℕ) → HasRows whole n → i < n → j < n → AreValidTo (slit_contents whole) i j
    → ((i ≡ j) × (slice_index whole (44 + n * i + j) ≢ 10) → ⊥) → slice_index whole (44 + n * i + j) < 10
    → IsFirstSlitFault (slit_contents whole) (record { code = code.SlitLow; at = 44 + n * i + j; other = 0; point = 0 })
first_low whole n i j rows row column before ten low =
    let size = right_size whole n rows in
    let cell = cell_at whole n i j rows row column in
    let apart : i ≢ j = λ same. ten (same, λ is. omega arith) in
    record {
      stage = refl;
      fault = ((size, (i, j, cell, rw (distance_at whole n i j rows) at low)), refl, refl);
      least = rw (← cell.place) at (least_of (slit_contents whole) i j 49 size cell.column before
          (inr (omega arith, apart)));
    }

least_short : (c : SlitContents) → c.size < 44 → (other : Code) (at second third : ℕ)
    → SlitFault c other at second third → (0 < at) ⊎ ((0 ≡ at) × (46 ≤ code_number other))
least_short c short code.SlitShort at second third fault = inr (sym fault.0.1, omega arith)
least_short c short code.SlitSize at second third fault = absurd (omega (arith, fault.0.0))
least_short c short code.SlitDiagonal at second third fault = absurd (omega (arith, fault.0.0))
least_short c short code.SlitLow at second third fault = absurd (omega (arith, fault.0.0))
least_short c short _ at second third fault = absurd fault.0

pub first_short : (whole : List ℕ) → length whole < 44
    → IsFirstSlitFault (slit_contents whole) (record { code = code.SlitShort; at = 0; other = 0; point = 0 })
first_short whole less =
    let short : (slit_contents whole).size < 44 = omega (arith, slit_size whole) in
    record { stage = refl; fault = ((short, refl), refl, refl); least = least_short (slit_contents whole) short }

least_size : (c : SlitContents) → 44 ≤ c.size → ¬ HasSlitSize c → (other : Code) (at second third : ℕ)
    → SlitFault c other at second third → (36 < at) ⊎ ((36 ≡ at) × (47 ≤ code_number other))
least_size c long not code.SlitShort at second third fault = absurd (omega (arith, fault.0.0))
least_size c long not code.SlitSize at second third fault = inr (sym fault.0.2, omega arith)
least_size c long not code.SlitDiagonal at second third fault = absurd (not fault.0.0)
least_size c long not code.SlitLow at second third fault = absurd (not fault.0.0)
least_size c long not _ at second third fault = absurd fault.0

pub first_size : (whole : List ℕ) → 44 ≤ length whole → 44 + field whole 36 8 * field whole 36 8 ≢ length whole
    → IsFirstSlitFault (slit_contents whole) (record { code = code.SlitSize; at = 36; other = 0; point = 0 })
first_size whole least other =
    let c = slit_contents whole in
    let long : 44 ≤ (slit_contents whole).size = omega (arith, slit_size whole) in
    let not : ¬ HasSlitSize (slit_contents whole) = λ is. other (grind (arith, slit_size whole, slit_count whole)) in
    record { stage = refl; fault = ((long, not, refl), refl, refl); least = least_size (slit_contents whole) long not }

pub not_valid : (c : SlitContents) (w : Witness) → IsFirstSlitFault c w → ¬ IsValidSlit c
not_valid c w first = excludes c w.code w.at w.other w.point first.fault

pub ruleset cells = (valid_cell, first_diagonal, first_low)

pub ruleset rows = (valid_row, valid_rows)

pub ruleset slit_says = (slit_size, slit_count, slit_distance)

pub ruleset slit_faults = (slit_size, slit_count, first_short, first_size, not_valid)
