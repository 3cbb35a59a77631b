-- The cells of a SLIT: each offset has at most one row and column.
use Rattle.std.proofs.Common.{◌≡◌, ◌<◌, ◌≤◌, ◌+◌, ◌*◌, ◌-◌, ◌/◌, ◌%◌, ℕ, List, length, refl, inl, inr, subst, sym, ap, ◌∙◌, arith}
use Rattle.std.specs.Prelude.{◌↔◌, Option, Some, None, MatchOption, IsTrue, Bool, false, slice_index}
use Rattle.std.proofs.lemmas.Bool.{cases_lt}
use Rattle.std.proofs.lemmas.List.{get_or-drop}
use Rattle.std.proofs.Math.Nat.{mul-le-mul_left}
use Rattle.acpi_base.specs.Number.{field}
use Rattle.acpi_base.specs.Slit.{SlitContents, slit_contents, distance, HasSlitSize, IsCell, SomeCell}
use Rattle.acpi_base.proofs.Slit.{slit_size, slit_count, slit_distance}
use Rattle.acpi_confirm.specs.Cells.{HasCell, HasNoCell}
use Rattle.acpi_confirm.specs.declared.slit.Cell.{Cell}

one_row : (n i j a b : ℕ) → j < n → b < n → n * i + j ≡ n * a + b → i ≡ a
one_row n i j a b column other same =
    elim (cases_lt i a) [
      | inl less ↦ let next : i + 1 ≤ a = omega arith in absurd (omega (arith, mul-le-mul_left n next))
      | inr most ↦
          elim (cases_lt a i) [
            | inl less ↦ let next : a + 1 ≤ i = omega arith in absurd (omega (arith, mul-le-mul_left n next))
            | inr least ↦ omega arith
          ]
    ]

-- two cells have the same row and the same column
record IsOne (i j a b : ℕ) : Type 0 where
  row : i ≡ a
  column : j ≡ b

one_cell : (c : SlitContents) (at i j a b : ℕ) → IsCell c i j at → IsCell c a b at → IsOne i j a b
one_cell c at i j a b here there =
    let row : i ≡ a = one_row c.count i j a b here.column there.column (omega (arith, here.place, there.place)) in
    record { row = row; column = grind (arith, here.place, there.place) }

some_cell : (c : SlitContents) (at : ℕ) (cell : Cell) (P : ℕ → ℕ → Type 0) (b : Bool) → HasCell c at cell
    → (IsTrue b ↔ P cell.row cell.column) → IsTrue b ↔ (HasSlitSize c × SomeCell c at P)
some_cell c at cell P b here is = (
  λ true. (here.size, (cell.row, cell.column, here.place, is.0 true)),
  λ (_, (i, j, there, holds)).
      let one = one_cell c at i j cell.row cell.column there here.place in
      is.1 (subst (λ (k : ℕ). P k cell.column) one.row (subst (P i) one.column holds)),
)

-- what is tested of the cell at an offset; false if there is none
pub test_of_cell : (c : SlitContents) (at : ℕ) (P : ℕ → ℕ → Type 0) (Says : Cell → Type 0) (found : Option Cell)
    (test : Bool) → MatchOption found (HasNoCell c at) (HasCell c at) → MatchOption found (test ≡ false) Says
    → ((cell : Cell) → Says cell → HasCell c at cell → (IsTrue test ↔ P cell.row cell.column))
    → IsTrue test ↔ (HasSlitSize c × SomeCell c at P)
test_of_cell c at P Says None test none is decides =
    rw is (λ true. absurd (cc), λ (size, (i, j, here, _)). absurd (none size i j here))
test_of_cell c at P Says (Some cell) test here says decides = some_cell c at cell P test here (decides cell says here)

cell_inside : (c : SlitContents) (at i j : ℕ) → HasSlitSize c → IsCell c i j at → (44 ≤ at) × (at < c.size)
cell_inside c at i j size here =
    let row : i + 1 ≤ c.count = omega (arith, here.row) in
    let below : c.count * i + j < c.count * c.count = omega (arith, here.column, mul-le-mul_left c.count row) in
    (omega (arith, here.place), omega (arith, here.place, size, below))

pub none_before : (slit : List ℕ) (at : ℕ) → at < 44 → HasNoCell (slit_contents slit) at
none_before slit at before size i j here = omega (arith, cell_inside (slit_contents slit) at i j size here)

pub none_behind : (slit : List ℕ) (at : ℕ) → length slit ≤ at → HasNoCell (slit_contents slit) at
none_behind slit at behind size i j here =
    omega (arith, cell_inside (slit_contents slit) at i j size here, slit_size slit)

pub some_rows : (slit : List ℕ) (at : ℕ) → HasSlitSize (slit_contents slit) → 44 ≤ at → at < length slit
    → 0 < field slit 36 8
some_rows slit at size from below =
    elim (cases_lt 0 (field slit 36 8)) [
      | inl some ↦ some
      | inr none ↦
          let zero : (slit_contents slit).count ≡ 0 = omega (arith, slit_count slit) in
          let square : (slit_contents slit).count * (slit_contents slit).count ≡ 0 = grind (arith, zero) in
          absurd (omega (arith, size, slit_size slit, square))
    ]

pub cell_there : (slit : List ℕ) (at n : ℕ) → HasSlitSize (slit_contents slit) → 44 ≤ at → at < length slit
    → n ≡ field slit 36 8
    → HasCell (slit_contents slit) at
    (record { row = (at - 44) / n; column = (at - 44) % n; distance = slice_index slit at })
cell_there slit at n size from below is =
    let c = slit_contents slit in
    let place = at - 44 in
    let some : 0 < n = omega (arith, some_rows slit at size from below) in
    let count : (slit_contents slit).count ≡ n = omega (arith, slit_count slit) in
    let parts : n * (place / n) + place % n ≡ place = omega arith in
    let column : place % n < n = omega arith in
    let square : n * n ≡ (slit_contents slit).count * (slit_contents slit).count = grind (arith, count) in
    let row : place / n < n =
    elim (cases_lt (place / n) n) [
      | inl less ↦ less
      | inr most ↦ absurd (omega (arith, mul-le-mul_left n most, size, slit_size slit))
    ]
    in
    let where_is : at ≡ 44 + ((slit_contents slit).count * (place / n) + place % n) = rw count (omega arith) in
    record {
      size = size;
      place = record { row = omega arith; column = omega arith; place = where_is };
      says = slit_distance slit (place / n) (place % n) ∙ ap (slice_index slit) (omega (arith, where_is));
    }

pub ruleset cells = (none_before, none_behind, some_rows, cell_there)
