-- What is at an address that a slot lists.
use Rattle.std.proofs.Common.{◌≡◌, ℕ, List, Option, Some, None, true, false, refl, sym, ◌∙◌, ap, subst, inl, inr}
use Rattle.std.specs.Prelude.{◌↔◌, ◌⊎◌, IsTrue}
use Rattle.std.proofs.lemmas.Option.{none-some, same_Some}
use Rattle.acpi_base.specs.Facs.{facs_signature}
use Rattle.acpi_lint.specs.Rules.Slots.{dsdt_signature}
use Rattle.acpi_base.specs.Memory.{Memory, bytes_at}
use Rattle.acpi_base.specs.Signature.{has_signature}
use Rattle.acpi_base.specs.TableKinds.{signature_of, IsKindOf}
use Rattle.acpi_base.specs.Tables.{IsSigned, TableFault}
use Rattle.acpi_base.specs.declared.code.Code.{Code}
use Rattle.acpi_base.specs.declared.table_kind.TableKind.{TableKind}
use Rattle.acpi_base.proofs.Tables.Kinds.{one_kind}
use Rattle.acpi_lint.specs.FurtherTables.{IsFurtherOf, further_signature}
use Rattle.acpi_lint.specs.Headers.{IsFirstOdd}
use Rattle.acpi_lint.specs.Rules.HeaderAdvice.{IsOddField, signature_number}
use Rattle.acpi_lint.specs.Slots.{FindsOddAt, IsTableAt, HasSought, IsSought}
use Rattle.acpi_lint.specs.declared.further_table.FurtherTable.{FurtherTable}
use Rattle.acpi_lint.specs.declared.table_at.Sought.{Sought}
use Rattle.acpi_lint.specs.declared.table_at.TableAt.{TableAt}
use Rattle.acpi_lint.specs.declared.table_at.Sought.TheVariants as sought
use Rattle.acpi_lint.proofs.FurtherKinds.{one_further}

signed_there : {m : Memory} {a : ℕ} {signature : List ℕ} (header : List ℕ) → bytes_at m a 36 ≡ Some header
    → (has_signature header signature ≡ true) ↔ IsSigned m a signature
signed_there {m} {a} {signature} header present = (
  λ signed. record { header = header; header_present = present; signed = signed },
  λ is. subst (λ (bytes : List ℕ). has_signature bytes signature ≡ true)
      (same_Some _ _ (sym is.header_present ∙ present)) is.signed,
)

kind_there : (header : List ℕ) (found : Option TableKind) (kind : TableKind) → IsKindOf header found
    → (found ≡ Some kind) ↔ (has_signature header (signature_of kind) ≡ true)
kind_there header None kind is = (
  λ same. absurd (none-some _ same),
  λ signed. (let lacks : has_signature header (signature_of kind) ≡ false = is kind in absurd cc),
)
kind_there header (Some one) kind is = (
  λ same. subst (λ (k : TableKind). has_signature header (signature_of k) ≡ true) (same_Some _ _ same) is,
  λ signed. ap Some (one_kind header one kind is signed),
)

further_there : (header : List ℕ) (found : Option FurtherTable) (table : FurtherTable) → IsFurtherOf header found
    → (found ≡ Some table) ↔ (has_signature header (further_signature table) ≡ true)
further_there header None table is = (
  λ same. absurd (none-some _ same),
  λ signed. (let lacks : has_signature header (further_signature table) ≡ false = is table in absurd cc),
)
further_there header (Some one) table is = (
  λ same. subst (λ (t : FurtherTable). has_signature header (further_signature t) ≡ true) (same_Some _ _ same) is,
  λ signed. ap Some (one_further header one table is signed),
)

odd_there : (m : Memory) (a : ℕ) (header : List ℕ) (found : Option ℕ) → bytes_at m a 36 ≡ Some header
    → IsFirstOdd header found → FindsOddAt m a found
odd_there m a header None present none = λ offset (other, here, odd).
    none offset (subst (λ (h : List ℕ). IsOddField h offset) (same_Some _ _ (sym here ∙ present)) odd)
odd_there m a header (Some first) present (is, least) = (
  (header, present, is),
  λ offset (other, here, odd).
      least offset (subst (λ (h : List ℕ). IsOddField h offset) (same_Some _ _ (sym here ∙ present)) odd),
)

pub table_there : {m : Memory} (table : TableAt) (header : List ℕ)
    → bytes_at m table.address 36 ≡ Some header
    → table.signature ≡ signature_number header → IsFirstOdd header table.odd_text
    → ((c : Code) → (table.fault ≡ Some c) ↔ TableFault m table.address c) → IsKindOf header table.kind
    → IsFurtherOf header table.further
    → (IsTrue table.is_apart
    ↔ ((has_signature header dsdt_signature ≡ true) ⊎ (has_signature header facs_signature ≡ true)))
    → IsTableAt m table
table_there {m} table header present signature odd faults is further tells =
    record {
      signature = signature ∙ (rw present refl);
      text = odd_there m table.address header table.odd_text present odd;
      tells = sides;
    }
  where
    sides : (s : Sought) → HasSought s table ↔ IsSought m s table.address
    sides (sought.Fault code) = faults code
    sides (sought.Kind kind) = (
      λ same. (signed_there header present).0 ((kind_there header table.kind kind is).0 same),
      λ signed. (kind_there header table.kind kind is).1 ((signed_there header present).1 signed),
    )
    sides (sought.Further one) = (
      λ same. (signed_there header present).0 ((further_there header table.further one further).0 same),
      λ signed. (further_there header table.further one further).1 ((signed_there header present).1 signed),
    )
    sides sought.Apart = (
      λ sure. elim (tells.0 sure) [
        | inl dsdt ↦ inl ((signed_there header present).0 dsdt)
        | inr facs ↦ inr ((signed_there header present).0 facs)
      ],
      λ apart. tells.1
          (elim apart [
            | inl dsdt ↦ inl ((signed_there header present).1 dsdt)
            | inr facs ↦ inr ((signed_there header present).1 facs)
          ]),
    )
