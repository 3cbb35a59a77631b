-- Distances of a SLIT between two localities that are 10.
use Rattle.std.proofs.Common.{◌≡◌, ◌≢◌, ◌<◌, ◌≤◌, ◌+◌, ◌*◌, ℕ, List, None, refl, sym, ◌∙◌, subst, inl, inr, arith}
use Rattle.std.specs.Prelude.{slice_index, ◌⊎◌}
use Rattle.std.proofs.lemmas.Bool.{cases_order}
use Rattle.acpi_base.specs.Slit.{SlitContents, slit_contents, IsCell}
use Rattle.acpi_read.specs.Slits.{HasRows}
use Rattle.acpi_read.proofs.SlitCells.{cell_at, distance_at}
use Rattle.acpi_rules.specs.Places.{IsLeast, FindsLeast}
use Rattle.acpi_lint.specs.Places.{IsRowLocal}
use Rattle.acpi_lint.specs.Rules.SlitAdvice.{IsRemoteAsLocal}
use Rattle.acpi_rules.specs.declared.place.Place.{Place}
use Rattle.acpi_lint.proofs.SlitFaults.{IsPlaced, placed, row_before}

-- the distances from i to other localities before j are not 10
abbrev pub AreRemote : List ℕ → ℕ → ℕ → ℕ → Type 0
AreRemote whole n i j = (k : ℕ) → k < j → k ≢ i → slice_index whole (44 + n * i + k) ≢ 10

-- by the bytes
local_byte : (whole : List ℕ) (n at i j : ℕ) → HasRows whole n → IsRemoteAsLocal (slit_contents whole) at i j
    → slice_index whole (44 + n * i + j) ≡ 10
local_byte whole n at i j rows found = distance_at whole n i j rows ∙ found.local

pub first_local : (whole : List ℕ) (n i j : ℕ) → HasRows whole n → i < n → j < n → j ≢ i → AreRemote whole n i j
    → slice_index whole (44 + n * i + j) ≡ 10
    → IsLeast (IsRowLocal (slit_contents whole) i) (record { at = 44 + n * i + j; other = i; point = j })
first_local whole n i j rows row column differ remote is =
    record {
      here = (
        record {
          cell = cell_at whole n i j rows row column;
          remote = λ same. differ (sym same);
          local = sym (distance_at whole n i j rows) ∙ is;
        },
        refl,
      );
      least = after;
    }
  where
    after : (at other point : ℕ) → IsRowLocal (slit_contents whole) i at other point
        → (44 + n * i + j < at) ⊎ ((44 + n * i + j ≡ at) × ((i < other) ⊎ ((i ≡ other) × (j ≤ point))))
    after at other point (found, same) =
        let here : IsPlaced n i point at =
        placed whole n i point at rows
        (subst (λ (k : ℕ). IsCell (slit_contents whole) k point at) same found.cell) in
        elim (cases_order point j) [
          | inl is ↦ inr (omega (arith, here.place, is), inr (sym same, omega (arith, is)))
          | inr (inl less) ↦
              let ten : slice_index whole (44 + n * i + point) ≡ 10 =
              subst (λ (k : ℕ). slice_index whole (44 + n * k + point) ≡ 10) same
              (local_byte whole n at other point rows found) in
              absurd (remote point less (λ here. found.remote (same ∙ sym here)) ten)
          | inr (inr more) ↦ inl (omega (arith, here.place, more))
        ]

pub none_local : (whole : List ℕ) (n i j : ℕ) → HasRows whole n → n ≤ j → AreRemote whole n i j
    → FindsLeast (IsRowLocal (slit_contents whole) i) None
none_local whole n i j rows all remote = λ at other point (found, same).
    let here = placed whole n other point at rows found.cell in
    let ten : slice_index whole (44 + n * i + point) ≡ 10 =
    subst (λ (k : ℕ). slice_index whole (44 + n * k + point) ≡ 10) same
    (local_byte whole n at other point rows found) in
    remote point (omega (arith, here.column, all)) (λ here. found.remote (same ∙ sym here)) ten

-- no distance from the localities before i is 10, but of those from themselves
abbrev pub NoneLocal : SlitContents → ℕ → Type 0
NoneLocal c i = (k : ℕ) → k < i → FindsLeast (IsRowLocal c k) None

pub first_local_row : (c : SlitContents) (i : ℕ) (p : Place) → NoneLocal c i → IsLeast (IsRowLocal c i) p
    → IsLeast (IsRemoteAsLocal c) p
first_local_row c i p none first =
    record {
      here = first.here.0;
      least = λ at other point found.
          elim (cases_order other i) [
            | inl is ↦ first.least at other point (found, is)
            | inr (inl less) ↦ absurd (none other less at other point (found, refl))
            | inr (inr more) ↦
                let mine = first.here.0.cell in
                inl (omega (
                  arith,
                  mine.place,
                  found.cell.place,
                  row_before c.count p.other p.point other point mine.column (omega (arith, more, first.here.1)),
                ))
          ];
    }

pub no_local_row : (c : SlitContents) (i : ℕ) → NoneLocal c i → c.count ≤ i → FindsLeast (IsRemoteAsLocal c) None
no_local_row c i none all = λ at other point found.
    none other (omega (arith, found.cell.row, all)) at other point (found, refl)
