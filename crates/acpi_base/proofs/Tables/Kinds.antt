-- A table is of at most one kind.
use Rattle.std.proofs.Common.{◌≡◌, ℕ, List, length, take, true, cond, refl, sym, ap, ◌∙◌}
use Rattle.std.specs.Prelude.{nat_eq}
use Rattle.std.specs.Cmp.Lexicographic.{same_text}
use Rattle.std.specs.List.{starts_with}
use Rattle.acpi_base.specs.Listed.{fadt_signature, madt_signature, srat_signature, slit_signature}
use Rattle.acpi_base.specs.Signature.{has_signature}
use Rattle.acpi_base.specs.TableKinds.{signature_of}
use Rattle.acpi_base.specs.declared.table_kind.TableKind.{TableKind}
use Rattle.acpi_base.specs.declared.table_kind.TableKind.TheVariants as kind

kind_signed : List ℕ → TableKind
kind_signed signature =
    cond (starts_with nat_eq signature fadt_signature) kind.Fadt
    (cond (starts_with nat_eq signature madt_signature) kind.Madt
    (cond (starts_with nat_eq signature srat_signature) kind.Srat
    (cond (starts_with nat_eq signature slit_signature) kind.Slit kind.Pptt)))

signed_kind : (kind : TableKind) → kind_signed (signature_of kind) ≡ kind
unfolding kind_signed
signed_kind kind.Fadt = refl
signed_kind kind.Madt = refl
signed_kind kind.Srat = refl
signed_kind kind.Slit = refl
signed_kind kind.Pptt = refl

pub length-signature_of : (kind : TableKind) → length (signature_of kind) ≡ 4
length-signature_of kind.Fadt = refl
length-signature_of kind.Madt = refl
length-signature_of kind.Srat = refl
length-signature_of kind.Slit = refl
length-signature_of kind.Pptt = refl

first_four : (bytes : List ℕ) (kind : TableKind) → has_signature bytes (signature_of kind) ≡ true
    → signature_of kind ≡ take 4 bytes
unfolding has_signature
first_four bytes kind is =
    same_text (signature_of kind) (take (length (signature_of kind)) bytes) (sym is)
    ∙ ap (λ n. take n bytes) (length-signature_of kind)

pub one_kind : (bytes : List ℕ) (one other : TableKind) → has_signature bytes (signature_of one) ≡ true
    → has_signature bytes (signature_of other) ≡ true → one ≡ other
one_kind bytes one other is also =
    sym (signed_kind one) ∙ ap kind_signed (first_four bytes one is ∙ sym (first_four bytes other also))
    ∙ signed_kind other
