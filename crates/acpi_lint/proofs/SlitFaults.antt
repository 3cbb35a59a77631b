-- The faults of a SLIT, by their codes, and distances that differ from those in the other direction.
use Rattle.std.proofs.Common.{◌≡◌, ◌≢◌, ◌<◌, ◌≤◌, ◌+◌, ◌-◌, ◌*◌, ◌/◌, ◌%◌, ℕ, zero, suc, List, length, Option, None, refl, subst, sym, ap, ◌∙◌, inl, inr, arith}
use Rattle.std.specs.Prelude.{◌⊎◌, slice_index}
use Rattle.std.proofs.lemmas.Bool.{cases_order}
use Rattle.std.proofs.Math.Nat.{mul-le-mul_left, div-add-mod, div-lt_iff_lt-mul, mod-lt}
use Rattle.acpi_base.specs.Number.{field}
use Rattle.acpi_base.specs.Slit.{SlitContents, slit_contents, distance, HasSlitSize, IsCell, SlitFault}
use Rattle.acpi_lint.specs.Rules.SlitAdvice.{IsSlitDiffers}
use Rattle.acpi_base.specs.declared.code.Code.TheVariants as code
use Rattle.acpi_base.proofs.Slit.{slit_size, slit_count}
use Rattle.acpi_read.specs.Slits.{HasRows}
use Rattle.acpi_read.proofs.SlitCells.{cell_at, distance_at, right_size}
use Rattle.acpi_rules.specs.Places.{IsLeast, FindsLeast}
use Rattle.acpi_lint.specs.Places.{IsRowDiffers}
use Rattle.acpi_rules.specs.declared.place.Place.{Place}
use Rattle.acpi_rules.proofs.LeastPlaces.{least_as}

-- ---- its size

pub short_sizes : (whole : List ℕ) → length whole < 44 → ¬ HasSlitSize (slit_contents whole)
short_sizes whole less is = omega (arith, less, slit_size whole, is)

pub other_sizes : (whole : List ℕ) → 44 + field whole 36 8 * field whole 36 8 ≢ length whole
    → ¬ HasSlitSize (slit_contents whole)
other_sizes whole other is = other (grind (arith, slit_size whole, slit_count whole, is))

pub has_rows : (whole : List ℕ) → 44 + field whole 36 8 * field whole 36 8 ≡ length whole
    → HasRows whole (field whole 36 8)
has_rows whole is = record { count = slit_count whole; size = sym is }

pub no_size_fault : (c : SlitContents) → (c.size < 44) ⊎ HasSlitSize c → FindsLeast (SlitFault c code.SlitSize) None
no_size_fault c sized = λ at other point ((long, wrong, is), _, _).
    elim sized [ inl short ↦ omega (arith, short, long) | inr has ↦ wrong has ]

pub size_fault : (c : SlitContents) → 44 ≤ c.size → ¬ HasSlitSize c
    → IsLeast (SlitFault c code.SlitSize) (record { at = 36; other = 0; point = 0 })
size_fault c long wrong =
    record {
      here = ((long, wrong, refl), refl, refl);
      least = λ at other point ((_, _, is), none, unused). inr (sym is, inr (sym none, omega (arith, unused)));
    }

-- ---- cells

-- a cell is one of the rows'
pub record IsPlaced (n a b at : ℕ) : Type 0 where
  pub row : a < n
  pub column : b < n
  pub place : at ≡ 44 + n * a + b

pub placed : (whole : List ℕ) (n a b at : ℕ) → HasRows whole n → IsCell (slit_contents whole) a b at → IsPlaced n a b at
placed whole n a b at rows cell =
    record {
      row = omega (arith, rows.count, cell.row);
      column = omega (arith, rows.count, cell.column);
      place = omega (arith, rw rows.count at cell.place);
    }

pub row_before : (n i j a b : ℕ) → j < n → i < a → 44 + n * i + j < 44 + n * a + b
row_before n i j a b column above = (let next : i + 1 ≤ a = omega arith in omega (arith, mul-le-mul_left n next))

-- ---- the diagonal

-- the distances of localities before i to themselves are 10
abbrev pub AreTens : List ℕ → ℕ → ℕ → Type 0
AreTens whole n i = (k : ℕ) → k < i → slice_index whole (44 + n * k + k) ≡ 10

pub first_diagonal : (whole : List ℕ) (n i : ℕ) → HasRows whole n → i < n → AreTens whole n i
    → slice_index whole (44 + n * i + i) ≢ 10
    → IsLeast (SlitFault (slit_contents whole) code.SlitDiagonal)
    (record { at = 44 + n * i + i; other = 0; point = 0 })
first_diagonal whole n i rows row tens wrong =
    record {
      here = (
        (
          right_size whole n rows,
          (i, i, cell_at whole n i i rows row row, (refl, rw (distance_at whole n i i rows) at wrong)),
        ),
        refl,
        refl,
      );
      least = λ at other point ((_, (a, b, cell, (same, unlike))), none, unused).
          let here = placed whole n a b at rows cell in
          elim (cases_order a i) [
            | inl is ↦ inr
                (omega (arith, here.place, same, is, ap (λ (k : ℕ). n * k) is), inr (sym none, omega (arith, unused)))
            | inr (inl less) ↦ absurd (unlike (rw (← same) (sym (distance_at whole n a a rows) ∙ tens a less)))
            | inr (inr more) ↦ inl (omega (arith, here.place, row_before n i i a b row more))
          ];
    }

pub no_diagonal : (whole : List ℕ) (n i : ℕ) → HasRows whole n → n ≤ i → AreTens whole n i
    → FindsLeast (SlitFault (slit_contents whole) code.SlitDiagonal) None
no_diagonal whole n i rows all tens = λ at other point ((_, (a, b, cell, (same, unlike))), _, _).
    let here = placed whole n a b at rows cell in
    unlike (rw (← same) (sym (distance_at whole n a a rows) ∙ tens a (omega (arith, here.row))))

-- ---- low distances

-- the cells before this offset are at least 10
abbrev pub AreHigh : List ℕ → ℕ → Type 0
AreHigh whole at = (o : ℕ) → 44 ≤ o → o < at → 10 ≤ slice_index whole o

low_at : (whole : List ℕ) (n a b at : ℕ) → HasRows whole n → IsCell (slit_contents whole) a b at
    → distance (slit_contents whole) a b < 10 → slice_index whole at < 10
low_at whole n a b at rows cell low =
    let here = placed whole n a b at rows cell in
    rw here.place (rw (distance_at whole n a b rows) low)

some_row : (n k : ℕ) → k < n * n → 0 < n
some_row zero k below = absurd (omega (arith, below))
some_row (suc n) k below = omega arith

cell_there : (whole : List ℕ) (n o : ℕ) → HasRows whole n → 44 ≤ o → o < length whole
    → (i j : ℕ) × IsPlaced n i j o
cell_there whole n o rows from below =
    let inside : o - 44 < n * n = omega (arith, rows.size) in
    let some = some_row n (o - 44) inside in (
      (o - 44) / n,
      (o - 44) % n,
      record {
        row = (div-lt_iff_lt-mul some).1 inside;
        column = mod-lt (o - 44) some;
        place = omega (arith, div-add-mod (o - 44) n);
      },
    )

pub first_low : (whole : List ℕ) (n o : ℕ) → HasRows whole n → 44 ≤ o → o < length whole → AreHigh whole o
    → slice_index whole o < 10
    → IsLeast (SlitFault (slit_contents whole) code.SlitLow) (record { at = o; other = 0; point = 0 })
first_low whole n o rows from below high low =
    let (i, j, cell) = cell_there whole n o rows from below in
    record {
      here = (
        (
          right_size whole n rows,
          (
            i,
            j,
            subst (IsCell (slit_contents whole) i j) (sym cell.place) (cell_at whole n i j rows cell.row cell.column),
            rw (distance_at whole n i j rows) at (rw cell.place at low),
          ),
        ),
        refl,
        refl,
      );
      least = λ at other point ((_, (a, b, cell, less)), none, unused).
          elim (cases_order at o) [
            | inl is ↦ inr (sym is, inr (sym none, omega (arith, unused)))
            | inr (inl before) ↦
                let here = placed whole n a b at rows cell in
                absurd (omega (arith, high at (omega (arith, here.place)) before, low_at whole n a b at rows cell less))
            | inr (inr behind) ↦ inl behind
          ];
    }

pub no_low : (whole : List ℕ) (n o : ℕ) → HasRows whole n → length whole ≤ o → AreHigh whole o
    → FindsLeast (SlitFault (slit_contents whole) code.SlitLow) None
no_low whole n o rows all high = λ at other point ((_, (a, b, cell, less)), none, unused).
    let here = placed whole n a b at rows cell in
    omega (
      arith,
      high at (omega (arith, here.place))
          (omega (arith, here.place, rows.size, row_before n a b n 0 here.column here.row)),
      low_at whole n a b at rows cell less,
    )

-- ---- distances that differ

-- those from i to localities between i and j are the same both ways
abbrev pub AreSame : List ℕ → ℕ → ℕ → ℕ → Type 0
AreSame whole n i j =
    (k : ℕ) → i < k → k < j → slice_index whole (44 + n * i + k) ≡ slice_index whole (44 + n * k + i)

same_ways : (whole : List ℕ) (n i k : ℕ) → HasRows whole n
    → slice_index whole (44 + n * i + k) ≡ slice_index whole (44 + n * k + i)
    → distance (slit_contents whole) i k ≡ distance (slit_contents whole) k i
same_ways whole n i k rows same = sym (distance_at whole n i k rows) ∙ same ∙ distance_at whole n k i rows

-- a distance of row i that differs, by the bytes
record DiffersAt (whole : List ℕ) (n i at other : ℕ) : Type 0 where
  j : ℕ
  upper : i < j
  column : j < n
  here : at ≡ 44 + n * i + j
  there : other ≡ 44 + n * j + i
  differ : slice_index whole (44 + n * i + j) ≢ slice_index whole (44 + n * j + i)

by_bytes : (whole : List ℕ) (n i at other point : ℕ) → HasRows whole n
    → IsRowDiffers (slit_contents whole) i at other point → DiffersAt whole n i at other
by_bytes whole n i at other point rows (found, is) =
    let here = placed whole n found.i found.j at rows found.here in
    let there = placed whole n found.j found.i other rows found.there in
    subst (λ (k : ℕ). DiffersAt whole n k at other) is
    (record {
      j = found.j;
      upper = found.upper;
      column = here.column;
      here = here.place;
      there = there.place;
      differ = λ same. found.differ (same_ways whole n found.i found.j rows same);
    })

pub first_in_row : (whole : List ℕ) (n i j : ℕ) → HasRows whole n → i < j → j < n → AreSame whole n i j
    → slice_index whole (44 + n * i + j) ≢ slice_index whole (44 + n * j + i)
    → IsLeast (IsRowDiffers (slit_contents whole) i)
    (record { at = 44 + n * i + j; other = 44 + n * j + i; point = 0 })
first_in_row whole n i j rows upper column same unlike =
    let row : i < n = omega (arith, upper, column) in
    let differs : IsSlitDiffers (slit_contents whole) (44 + n * i + j) (44 + n * j + i) 0 =
    record {
      i = i;
      j = j;
      upper = upper;
      here = cell_at whole n i j rows row column;
      there = cell_at whole n j i rows column row;
      differ = rw (distance_at whole n i j rows, distance_at whole n j i rows) at unlike;
      unused = refl;
    } in
    record {
      here = (differs, refl);
      least = λ at other point found.
          let d = by_bytes whole n i at other point rows found in
          elim (cases_order d.j j) [
            | inl is ↦ inr (
              omega (arith, d.here, is),
              inr (omega (arith, d.there, is, ap (λ (k : ℕ). n * k) is), omega arith),
            )
            | inr (inl less) ↦ absurd (d.differ (same d.j d.upper less))
            | inr (inr more) ↦ inl (omega (arith, d.here, more))
          ];
    }

pub none_in_row : (whole : List ℕ) (n i j : ℕ) → HasRows whole n → n ≤ j → AreSame whole n i j
    → FindsLeast (IsRowDiffers (slit_contents whole) i) None
none_in_row whole n i j rows all same = λ at other point found.
    let d = by_bytes whole n i at other point rows found in
    d.differ (same d.j d.upper (omega (arith, d.column, all)))

-- no distance of the rows before i differs
abbrev pub NoneBefore : SlitContents → ℕ → Type 0
NoneBefore c i = (k : ℕ) → k < i → FindsLeast (IsRowDiffers c k) None

pub first_row : (c : SlitContents) (i : ℕ) (p : Place) → NoneBefore c i → IsLeast (IsRowDiffers c i) p
    → IsLeast (IsSlitDiffers c) p
first_row c i p none first =
    record {
      here = first.here.0;
      least = λ at other point found.
          elim (cases_order found.i i) [
            | inl is ↦ first.least at other point (found, is)
            | inr (inl less) ↦ absurd (none found.i less at other point (found, refl))
            | inr (inr more) ↦
                let mine = first.here.0 in
                inl (omega (
                  arith,
                  mine.here.place,
                  found.here.place,
                  row_before c.count mine.i mine.j found.i found.j mine.here.column
                      (omega (arith, more, first.here.1)),
                ))
          ];
    }

pub no_row : (c : SlitContents) (i : ℕ) → NoneBefore c i → c.count ≤ i → FindsLeast (IsSlitDiffers c) None
no_row c i none all = λ at other point found. none found.i (omega (arith, found.here.row)) at other point (found, refl)

pub sized : (P : SlitContents → ℕ → ℕ → ℕ → Type 0) (whole : List ℕ) (n : ℕ) (found : Option Place) → HasRows whole n
    → FindsLeast (P (slit_contents whole)) found
    → FindsLeast (λ at other point. HasSlitSize (slit_contents whole) × P (slit_contents whole) at other point) found
unfolding slit_contents
sized P whole n found rows least =
    least_as found (λ at other point holds. (rw rows.count rows.size, holds)) (λ at other point (_, holds). holds) least
