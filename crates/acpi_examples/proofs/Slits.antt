-- The examples of the SLIT, by computing.
use Rattle.std.proofs.Common.{◌≡◌, ℕ, zero, suc, ◌+◌, ◌<◌, ◌≤◌, List, [], ◌∷◌, refl, arith}
use Rattle.std.proofs.lemmas.List.Elements.{All-from_recursion}
use Rattle.acpi_base.specs.Number.{field, byte_sum}
use Rattle.acpi_base.specs.Slit.{SlitContents, slit_contents, cell_place, distance, IsCell, IsValidSlit, SlitFault}
use Rattle.acpi_examples.specs.Slits.{said_slit, empty_bytes, one_locality_bytes, two_localities_bytes, two_localities, high_diagonal, low_cell, low_diagonal, example_slits, AreSlitContents, AreSlitFaults, HasNoSlitFault, AreValidSlits}
use Rattle.acpi_base.specs.declared.code.Code.TheVariants as code
use Rattle.acpi_base.proofs.Slit.{excludes}
use Rattle.acpi_examples.proofs.NamedEntries.{all_valid}

pub slit_said : AreSlitContents
unfolding slit_contents field byte_sum
slit_said = record {
  valid = all_valid example_slits refl;
  empty_says = refl;
  one_says = refl;
  two_say = refl;
  there = refl;
  back = refl;
  no_cells_say = refl;
  high_diagonal_says = refl;
  low_cell_says = refl;
  low_diagonal_says = refl;
}

-- ---- faults

first_cell : (i j : ℕ) → IsCell high_diagonal i j 0x2c → ¬ (distance high_diagonal i j < 10)
first_cell zero zero cell low = omega arith
first_cell zero (suc j) cell low = omega (arith, cell.place)
first_cell (suc i) j cell low = omega (arith, cell.place)

not_low : ¬ SlitFault high_diagonal code.SlitLow 0x2c 0 0
not_low ((size, (i, j, cell, low)), _, _) = first_cell i j cell low

not_diagonal : ¬ SlitFault low_cell code.SlitDiagonal 0x2d 0 0
not_diagonal ((size, (i, j, cell, (same, other))), _, _) = omega (arith, cell.place)

-- the cell of a row and a column is at its place
abbrev cell : (c : SlitContents) (i j : ℕ) → i < c.count → j < c.count → IsCell c i j (44 + cell_place c i j)
cell c i j row column = record { row = row; column = column; place = refl }

pub slit_faults : AreSlitFaults
unfolding slit_contents field
slit_faults = record {
  short = ((omega arith, refl), refl, refl);
  size = ((omega arith, (λ same. omega arith), refl), refl, refl);
  diagonal = (
    (refl, (0, 0, cell high_diagonal 0 0 (omega arith) (omega arith), (refl, λ same. omega arith))),
    refl,
    refl,
  );
  not_low = not_low;
  low = ((refl, (0, 1, cell low_cell 0 1 (omega arith) (omega arith), omega arith)), refl, refl);
  not_diagonal = not_diagonal;
  both = (
    ((refl, (1, 1, cell low_diagonal 1 1 (omega arith) (omega arith), (refl, λ same. omega arith))), refl, refl),
    ((refl, (1, 1, cell low_diagonal 1 1 (omega arith) (omega arith), omega arith)), refl, refl),
  );
}

-- ---- SLITs without a fault

without_fault : (bytes : List ℕ) (c : SlitContents) → slit_contents bytes ≡ c → IsValidSlit c → HasNoSlitFault bytes
without_fault bytes c says valid fault at other point wrong = excludes c fault at other point (rw says at wrong) valid

empty : IsValidSlit (said_slit 44 0 [])
empty = record { size = refl; least = λ i j row column. omega arith; diagonal = λ i row. omega arith }

pub one : IsValidSlit (said_slit 45 1 (10 ∷ []))
one = record { size = refl; least = least; diagonal = diagonal }
  where
    least : (i j : ℕ) → i < 1 → j < 1 → 10 ≤ distance (said_slit 45 1 (10 ∷ [])) i j
    least zero zero row column = omega arith
    least zero (suc j) row column = omega arith
    least (suc i) j row column = omega arith

    diagonal : (i : ℕ) → i < 1 → distance (said_slit 45 1 (10 ∷ [])) i i ≡ 10
    diagonal zero row = refl
    diagonal (suc i) row = omega arith

two : IsValidSlit two_localities
two = record { size = refl; least = least; diagonal = diagonal }
  where
    least : (i j : ℕ) → i < 2 → j < 2 → 10 ≤ distance two_localities i j
    least zero zero row column = omega arith
    least zero (suc zero) row column = omega arith
    least (suc zero) zero row column = omega arith
    least (suc zero) (suc zero) row column = omega arith
    least _ _ row column = omega arith

    diagonal : (i : ℕ) → i < 2 → distance two_localities i i ≡ 10
    diagonal zero row = refl
    diagonal (suc zero) row = refl
    diagonal (suc (suc i)) row = omega arith

pub valid_slits : AreValidSlits
valid_slits =
    All-from_recursion HasNoSlitFault (empty_bytes ∷ one_locality_bytes ∷ two_localities_bytes ∷ []) (
      without_fault empty_bytes _ slit_said.empty_says empty,
      (
        without_fault one_locality_bytes _ slit_said.one_says one,
        (without_fault two_localities_bytes _ slit_said.two_say two, tt),
      ),
    )
