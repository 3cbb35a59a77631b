-- The numbers that rows are about, one row after another.
use Rattle.std.proofs.Common.{◌≡◌, ℕ, ◌≤◌, ◌<◌, ◌+◌, ◌++◌, List, [], ◌∷◌, length, map, drop, get_or, inl, inr, subst, sym}
use Rattle.std.specs.Prelude.{◌⊎◌, ◌↔◌, Contains}
use Rattle.std.proofs.lemmas.List.Elements.{Contains-append_left, Contains-append_right, Contains-append_cases}
use Rattle.std.proofs.Math.ListN.{drop_of_length-le}
use Rattle.std.proofs.Math.Numerals.{suc-eq-add-one}
use Rattle.std.proofs.Math.Seq.{drop-cons}
use Rattle.acpi_base.proofs.Elements.{first_element, first_or_later, later_element, no_element}
use Rattle.acpi_rules.specs.Rows.{BorRow, IsGivenByAny, IsGivenByRow, Row, row_value}
use Rattle.acpi_rules.specs.Terms.{TwoTables}
use Rattle.acpi_rules.specs.declared.numbered.Numbered.{Numbered}

-- these are the numbers of all rows, but for those of the rows that are left
abbrev pub AreGivenBut : TwoTables → List BorRow → List BorRow → List Numbered → Type 0
AreGivenBut t rows left all =
    (g : Numbered)
    → (Contains all g ⊎ IsGivenByAny (map row_value left) t g) ↔ IsGivenByAny (map row_value rows) t g

pub none_yet : (t : TwoTables) (rows : List BorRow) → AreGivenBut t rows rows []
none_yet t rows g = (
  λ either. elim either [
    | inl listed ↦ absurd (no_element g listed)
    | inr given ↦ given
  ],
  λ given. inr given,
)

pub next_given : (t : TwoTables) (rows : List BorRow) (i : ℕ) (item : BorRow) (all more : List Numbered)
    → i < length rows → item ≡ get_or rows i item
    → ((g : Numbered) → Contains more g ↔ IsGivenByRow (row_value item) t g)
    → AreGivenBut t rows (drop i rows) all → AreGivenBut t rows (drop (i + 1) rows) (all ++ more)
next_given t rows i item all more within here own before g = (
  λ either. elim either [
    | inl listed ↦
        elim (Contains-append_cases all more g listed) [
          | inl old ↦ (earlier g).0 (inl old)
          | inr new ↦ (earlier g).0 (inr (row, first_element row (map row_value rest), (own g).0 new))
        ]
    | inr (later, there, given) ↦
        (earlier g).0 (inr (later, later_element row later (map row_value rest) there, given))
  ],
  λ given. elim ((earlier g).1 given) [
    | inl old ↦ inl (Contains-append_left all more g old)
    | inr (one, there, is) ↦
        elim (first_or_later row one (map row_value rest) there) [
          | inl same ↦
              inl
              (Contains-append_right all more g ((own g).1 (subst (λ (r : Row). IsGivenByRow r t g) (sym same) is)))
          | inr later ↦ inr (one, later, is)
        ]
  ],
)
  where
    row : Row
    row = row_value item

    rest : List BorRow
    rest = drop (i + 1) rows

    split : drop i rows ≡ item ∷ rest
    split =
        subst (λ (head : BorRow). drop i rows ≡ head ∷ rest) (sym here)
        (subst (λ (j : ℕ). drop i rows ≡ get_or rows i item ∷ drop j rows) (suc-eq-add-one i)
        (drop-cons rows i item within))

    earlier : AreGivenBut t rows (item ∷ rest) all
    earlier = subst (λ (left : List BorRow). AreGivenBut t rows left all) split before

pub all_given_by : (t : TwoTables) (rows : List BorRow) (i : ℕ) (all : List Numbered) → length rows ≤ i
    → AreGivenBut t rows (drop i rows) all
    → (g : Numbered) → Contains all g ↔ IsGivenByAny (map row_value rows) t g
all_given_by t rows i all past before g = (
  λ listed. (done g).0 (inl listed),
  λ given. elim ((done g).1 given) [
    | inl listed ↦ listed
    | inr (row, there, is) ↦ absurd (no_element row there)
  ],
)
  where
    done : AreGivenBut t rows [] all
    done = subst (λ (left : List BorRow). AreGivenBut t rows left all) (drop_of_length-le rows past) before
