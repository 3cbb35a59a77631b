-- A table is at most one further table.
use Rattle.std.proofs.Common.{◌≡◌, ℕ, List, length, take, true, cond, refl, sym, ap, ◌∙◌}
use Rattle.std.specs.Prelude.{nat_eq, codes}
use Rattle.std.specs.Cmp.Lexicographic.{same_text}
use Rattle.std.specs.List.{starts_with}
use Rattle.acpi_base.specs.Signature.{has_signature}
use Rattle.acpi_lint.specs.FurtherTables.{further_signature}
use Rattle.acpi_lint.specs.declared.further_table.FurtherTable.{FurtherTable}
use Rattle.acpi_lint.specs.declared.further_table.FurtherTable.TheVariants as further

table_signed : List ℕ → FurtherTable
table_signed signature =
    cond (starts_with nat_eq signature (codes "MCFG")) further.Mcfg
    (cond (starts_with nat_eq signature (codes "HPET")) further.Hpet
    (cond (starts_with nat_eq signature (codes "HMAT")) further.Hmat
    (cond (starts_with nat_eq signature (codes "GTDT")) further.Gtdt
    (cond (starts_with nat_eq signature (codes "DMAR")) further.Dmar
    (cond (starts_with nat_eq signature (codes "IVRS")) further.Ivrs further.Spcr)))))

signed_table : (table : FurtherTable) → table_signed (further_signature table) ≡ table
unfolding table_signed
signed_table further.Mcfg = refl
signed_table further.Hpet = refl
signed_table further.Hmat = refl
signed_table further.Gtdt = refl
signed_table further.Dmar = refl
signed_table further.Ivrs = refl
signed_table further.Spcr = refl

four_bytes : (table : FurtherTable) → length (further_signature table) ≡ 4
four_bytes further.Mcfg = refl
four_bytes further.Hpet = refl
four_bytes further.Hmat = refl
four_bytes further.Gtdt = refl
four_bytes further.Dmar = refl
four_bytes further.Ivrs = refl
four_bytes further.Spcr = refl

first_four : (bytes : List ℕ) (table : FurtherTable) → has_signature bytes (further_signature table) ≡ true
    → further_signature table ≡ take 4 bytes
unfolding has_signature
first_four bytes table is =
    same_text (further_signature table) (take (length (further_signature table)) bytes) (sym is)
    ∙ ap (λ n. take n bytes) (four_bytes table)

pub one_further : (bytes : List ℕ) (one other : FurtherTable) → has_signature bytes (further_signature one) ≡ true
    → has_signature bytes (further_signature other) ≡ true → one ≡ other
one_further bytes one other is also =
    sym (signed_table one) ∙ ap table_signed (first_four bytes one is ∙ sym (first_four bytes other also))
    ∙ signed_table other
