-- The first table of each kind, once one more table is added.
use Rattle.std.proofs.Common.{◌≡◌, ℕ, List, Option, Some, None, true, false, refl, sym, subst, inl, inr}
use Rattle.std.specs.Prelude.{is_none, is_some, ◌&&◌, if◌then◌else◌}
use Rattle.std.proofs.lemmas.Bool.{cases_Bool, both_ways}
use Rattle.std.specs.Option.{option_map}
use Rattle.acpi_base.specs.Signature.{has_signature}
use Rattle.acpi_base.specs.TableKinds.{signature_of}
use Rattle.acpi_base.specs.declared.table_kind.TableKind.{TableKind}
use Rattle.acpi_base.proofs.Tables.Kinds.{one_kind}
use Rattle.acpi_read.specs.FirstTables.{first_signed, first_signed_table}
use Rattle.acpi_read.specs.declared.first_tables.Listed.{Listed}

pub some_of_map : {X Y : Type 0} (f : X → Y) (o : Option X) → is_some (option_map f o) ≡ is_some o
some_of_map f (Some x) = refl
some_of_map f None = refl

none_of_map : {X Y : Type 0} (f : X → Y) (o : Option X) → option_map f o ≡ None → o ≡ None
none_of_map f (Some x) none = absurd cc
none_of_map f None none = refl

pub is_none_of_map : {X Y : Type 0} (f : X → Y) (o : Option X) → is_none (option_map f o) ≡ is_none o
is_none_of_map f (Some x) = refl
is_none_of_map f None = refl

none_of_some : (found : Option (List ℕ)) → is_some found ≡ true → is_none found ≡ false
none_of_some (Some whole) some = refl
none_of_some None some = absurd cc

pub first_of_none : (whole : List ℕ) (one kind : TableKind) (firsts : TableKind → Option (List ℕ))
    → has_signature whole (signature_of one) ≡ true
    → is_some (firsts one) ≡ true → (has_signature whole (signature_of kind) && is_none (firsts kind)) ≡ false
first_of_none whole one kind firsts has some =
    elim (cases_Bool (has_signature whole (signature_of kind))) [
      | inl is ↦ rw is (subst (λ (k : TableKind). is_none (firsts k) ≡ false) (one_kind whole one kind has is)
          (none_of_some (firsts one) some))
      | inr other ↦ rw other refl
    ]

pub first_kept : (next : Listed) (one kind : TableKind) (old new : TableKind → Option Listed)
    → has_signature next.table (signature_of one) ≡ true
    → option_map (λ (first : Listed). first.table) (old one) ≡ None → new one ≡ Some next
    → ((other : TableKind) → ¬ (other ≡ one) → new other ≡ old other)
    → new kind ≡ first_signed (signature_of kind) (old kind) next
first_kept next one kind old new has none kept others =
    elim (cases_Bool (has_signature next.table (signature_of kind))) [
      | inl is ↦ rw is (subst (λ (k : TableKind). new k ≡ (if is_none (old k) then Some next else old k))
          (one_kind next.table one kind has is) (rw (none_of_map _ (old one) none) kept))
      | inr other ↦ rw other (others kind (λ same. both_ways (has_signature next.table (signature_of kind)) other
          (subst (λ (k : TableKind). has_signature next.table (signature_of k) ≡ true) (sym same) has)))
    ]

pub bytes_of_first : (signature : List ℕ) (old : Option Listed) (next : Listed) {new : Option Listed}
    → new ≡ first_signed signature old next
    → option_map (λ (first : Listed). first.table) new
    ≡ first_signed_table signature (option_map (λ (first : Listed). first.table) old) next.table
bytes_of_first signature (Some first) next is =
    elim (cases_Bool (has_signature next.table signature)) [
      | inl has ↦ rw is (rw has refl)
      | inr other ↦ rw is (rw other refl)
    ]
bytes_of_first signature None next is =
    elim (cases_Bool (has_signature next.table signature)) [
      | inl has ↦ rw is (rw has refl)
      | inr other ↦ rw is (rw other refl)
    ]
