-- From what a view reports to the first fault of a set.
use Rattle.std.proofs.Common.{◌≡◌, ◌<◌, ◌≤◌, ℕ, List, Option, Some, None, refl, sym, ◌∙◌, subst, inl, inr, arith}
use Rattle.std.specs.Prelude.{◌⊎◌, ◌≢◌, IfSome}
use Rattle.std.proofs.lemmas.Bool.{cases_order}
use Rattle.acpi_base.specs.Memory.{Memory}
use Rattle.acpi_base.specs.Policy.{PolicyValue}
use Rattle.acpi_base.specs.Codes.{code_number, stage_of}
use Rattle.acpi_base.specs.Rsdp.{Addresses, addresses_at, RsdpValue, RsdpFault, IsRsdp}
use Rattle.acpi_base.specs.Root.{HasSlot, IsSlot, RootFault, RootTableFault, NamedRootFault, chosen_root}
use Rattle.acpi_base.specs.Tables.{IsValidTable, TableFault}
use Rattle.acpi_base.specs.Listed.{fadt_signature, ListsNone}
use Rattle.acpi_base.specs.Fadt.{facs_address, IsFadt, IsValidFadt, FadtTableFault, FadtFault}
use Rattle.acpi_base.specs.Facs.{IsFacs, HasValidFacs, IsValidFacs, NamedFacsFault}
use Rattle.acpi_base.specs.Statements.{CleanBefore}
use Rattle.acpi_base.specs.Faults.{NotAfter, IsFirstFault}
use Rattle.acpi_base.specs.declared.code.Code.{Code}
use Rattle.acpi_base.specs.declared.code.Code.TheVariants as code
use Rattle.acpi_base.specs.declared.stage.Stage.TheVariants as stage
use Rattle.acpi_base.specs.declared.witness.Witness.{Witness}
use Rattle.acpi_base.proofs.Faults.Numbers.{stage_from_1}
use Rattle.acpi_base.proofs.Faults.Order.{not_after}
use Rattle.acpi_base.proofs.Faults.HoldsOrFault.{IsFirstOfStage, first_of_set}
use Rattle.acpi_base.proofs.Options.{same_value}
use Rattle.acpi_base.proofs.Root.Named.{no_root_and_root, one_root}
use Rattle.acpi_base.proofs.Root.Slots.{one_slot, root_slot, slot_of_root}
use Rattle.acpi_base.proofs.Tables.Faults.{excludes}
use Rattle.acpi_base.proofs.Tables.Listed.{none_and_listed, one_listed}
use Rattle.acpi_base.proofs.Facs.{place}
use Rattle.acpi_read.specs.Fadts.{FacsValue}
use Rattle.acpi_read.specs.Roots.{RootValue}
use Rattle.acpi_check.specs.StageSets.{IsFacsNamed}
use Rattle.acpi_check.specs.TableResults.{IsRootOf}

-- the first fault of the RSDP
pub rsdp_first : (m : Memory) (q : PolicyValue) (w : Witness) (p : ℕ) (c : Code) → p ≡ q.rsdp
    → w ≡ record { code = c; at = p; other = 0; point = 0 } → stage_of c ≡ stage.Rsdp → RsdpFault m p c
    → ((d : Code) → RsdpFault m p d → code_number c ≤ code_number d)
    → IsFirstFault m q w × (stage_of w.code ≡ stage.Rsdp)
rsdp_first m q w p c here is own fault least =
    rw (is, here) (first_of_set (λ s before. absurd (omega (arith, stage_from_1 s))) first, own)
  where
    first : IsFirstOfStage stage.Rsdp m q (record { code = c; at = q.rsdp; other = 0; point = 0 })
    first =
        record {
          holds = record { own = own; holds = (rw (← here) fault, refl, refl, refl) };
          least = λ v other. not_after (record { code = c; at = q.rsdp; other = 0; point = 0 }) v
              (inr (sym other.holds.1, least v.code (rw here other.holds.0))) (sym other.holds.2) (sym other.holds.3);
        }

one_place : (m : Memory) (p : ℕ) (c d : Code) (at place : ℕ) → RootFault m p c at → RootFault m p d place → at ≡ place
one_place m p c d at place (inl one) (inl other) = one.2 ∙ sym other.2
one_place m p c d at place (inl one) (inr other) = absurd (no_root_and_root one.0 other.1)
one_place m p c d at place (inr one) (inl other) = absurd (no_root_and_root other.0 one.1)
one_place m p c d at place (inr one) (inr other) = (one_root m p at one.0 place other.0 one.1 other.1).0

of_named : (m : Memory) (p : ℕ) (named : Addresses) (c : Code) (at : ℕ) → addresses_at m p ≡ Some named
    → RootFault m p c at → NamedRootFault m named c
of_named m p named c at read (inl (none, is, here)) =
    inl (is, rw (same_value none.named named none.read read) at none.none)
of_named m p named c at read (inr (d, root, wrong)) =
    inr (at, d, rw (same_value root.named named root.read read) at root.chosen, wrong)

-- the first fault of the root table, at the address at which its codes are reported
pub root_first : (m : Memory) (q : PolicyValue) (w : Witness) (rsdp : RsdpValue) (at : ℕ) (c : Code)
    → CleanBefore stage.Root m q → IsRsdp m q.rsdp rsdp → w ≡ record { code = c; at = at; other = 0; point = 0 }
    → (c ≡ code.NoRoot → at ≡ rsdp.address)
    → ((r d : ℕ) → c ≢ code.NoRoot → chosen_root rsdp.named ≡ Some (record { address = r; width = d }) → at ≡ r)
    → stage_of c ≡ stage.Root → NamedRootFault m rsdp.named c
    → ((d : Code) → NamedRootFault m rsdp.named d → code_number c ≤ code_number d)
    → IsFirstFault m q w × (stage_of w.code ≡ stage.Root)
root_first m q w rsdp at c clean read is none named own fault least = rw is (first_of_set clean first, own)
  where
    fault_there : RootFault m q.rsdp c at
    fault_there =
        elim fault [
          | inl (no_root, nothing) ↦ inl (
            record { named = rsdp.named; read = read.named; none = nothing },
            no_root,
            none no_root ∙ read.address,
          )
          | inr (r, d, chosen, wrong) ↦
              let is_at = named r d (λ no_root. subst (λ (x : Code). RootTableFault m r d x) no_root wrong) chosen in
              inr (d, record { named = rsdp.named; read = read.named; chosen = rw is_at chosen }, rw is_at wrong)
        ]

    first : IsFirstOfStage stage.Root m q (record { code = c; at = at; other = 0; point = 0 })
    first =
        record {
          holds = record { own = own; holds = (fault_there, refl, refl) };
          least = λ v other. not_after (record { code = c; at = at; other = 0; point = 0 }) v
              (inr (
                one_place m q.rsdp c v.code at v.at fault_there other.holds.0,
                least v.code (of_named m q.rsdp rsdp.named v.code v.at read.named other.holds.0),
              )) (sym other.holds.1)
              (sym other.holds.2);
        }

-- the first slot that lists a table with a fault, and that table's first fault
pub first_table_fault : (m : Memory) (q : PolicyValue) (root : RootValue) (c : Code) (k a : ℕ)
    → CleanBefore stage.Tables m q → IsRootOf m q.rsdp root → HasSlot root.bytes root.width k a
    → stage_of c ≡ stage.Tables
    → TableFault m a c → ((d : Code) → TableFault m a d → code_number c ≤ code_number d)
    → ((j b : ℕ) → j < k → HasSlot root.bytes root.width j b → IsValidTable m b)
    → IsFirstFault m q (record { code = c; at = k; other = a; point = 0 })
first_table_fault m q root c k a clean is slot own fault least before =
    first_of_set clean
    (record {
      holds = record { own = own; holds = (root_slot is.named is.valid.table slot, fault, refl) };
      least = λ v here. after v here.holds.0 here.holds.1 here.holds.2;
    })
  where
    w : Witness
    w = record { code = c; at = k; other = a; point = 0 }

    after : (v : Witness) → IsSlot m q.rsdp v.at v.other → TableFault m v.other v.code → v.point ≡ 0 → NotAfter w v
    after v listed stands zero =
        let there = slot_of_root m q.rsdp root.address root.width v.at v.other root.bytes is.named is.valid.table
        listed in
        elim (cases_order k v.at) [
          | inl same ↦
              let other = one_slot root.bytes root.width v.at a v.other
              (subst (λ (i : ℕ). HasSlot root.bytes root.width i a) same slot) there in
              not_after w v (inr (same, least v.code (subst (λ (x : ℕ). TableFault m x v.code) (sym other) stands)))
              other (sym zero)
          | inr (inl less) ↦ inl less
          | inr (inr more) ↦ absurd (excludes m v.other v.code stands (before v.at v.other more there))
        ]

pub no_fadt_first : (m : Memory) (q : PolicyValue) → CleanBefore stage.Fadt m q → ListsNone m q.rsdp fadt_signature
    → IsFirstFault m q (record { code = code.NoFadt; at = 0; other = 0; point = 0 })
no_fadt_first m q clean none =
    first_of_set clean (record {
      holds = record { own = refl; holds = (inl (none, refl, refl), refl, refl) };
      least = λ v here. not_after (record { code = code.NoFadt; at = 0; other = 0; point = 0 }) v
          (inr (alone v.code v.at here.holds.0)) (sym here.holds.1) (sym here.holds.2);
    })
  where
    alone : (d : Code) (at : ℕ) → FadtFault m q.rsdp d at → (0 ≡ at) × (code_number code.NoFadt ≤ code_number d)
    alone d at (inl (also, is, zero)) = (sym zero, rw is (omega arith))
    alone d at (inr (whole, is, stands)) = absurd (none_and_listed none is)

-- the first fault of the FADT's bytes
pub fadt_first : (m : Memory) (q : PolicyValue) (whole : List ℕ) (w : Witness) → CleanBefore stage.Fadt m q
    → IsFadt m q.rsdp whole → stage_of w.code ≡ stage.Fadt
    → FadtTableFault whole w.code w.at → w.other ≡ 0 → w.point ≡ 0
    → ((d : Code) (at : ℕ) → FadtTableFault whole d at → (w.at < at)
    ⊎ ((w.at ≡ at) × (code_number w.code ≤ code_number d))) → IsFirstFault m q w
fadt_first m q whole w clean fadt own fault other point least =
    first_of_set clean (record {
      holds = record { own = own; holds = (inr (whole, fadt, fault), other, point) };
      least = λ v here. not_after w v (after v here.holds.0) (rw other (sym here.holds.1))
          (rw point (sym here.holds.2));
    })
  where
    after : (v : Witness) → FadtFault m q.rsdp v.code v.at
        → (w.at < v.at) ⊎ ((w.at ≡ v.at) × (code_number w.code ≤ code_number v.code))
    after v (inl (none, is, zero)) = absurd (none_and_listed none fadt)
    after v (inr (bytes, is, stands)) =
        least v.code v.at (rw (one_listed m q.rsdp fadt_signature bytes whole is fadt) at stands)

-- the first fault of the FACS that the FADT names
pub facs_first : (m : Memory) (q : PolicyValue) (fadt : IsValidFadt m q.rsdp) (c : Code) → CleanBefore stage.Facs m q
    → stage_of c ≡ stage.Facs
    → NamedFacsFault m fadt.whole c (facs_address fadt.whole)
    → ((d : Code) (at : ℕ) → NamedFacsFault m fadt.whole d at → code_number c ≤ code_number d)
    → IsFirstFault m q (record { code = c; at = facs_address fadt.whole; other = 0; point = 0 })
facs_first m q fadt c clean own fault least =
    first_of_set clean (record {
      holds = record { own = own; holds = ((fadt.whole, fadt.fadt, fadt.valid.long, fault), refl, refl) };
      least = λ v here. let f =
          here.holds.0 in not_after w v
          (inr (
            sym (place m q.rsdp fadt v.code v.at f),
            least v.code v.at
                (rw (one_listed m q.rsdp fadt_signature f.0 fadt.whole f.1 fadt.fadt) at f.3),
          )) (sym here.holds.1)
          (sym here.holds.2);
    })
  where
    w : Witness
    w = record { code = c; at = facs_address fadt.whole; other = 0; point = 0 }

pub facs_valid : (m : Memory) (p : ℕ) (fadt : List ℕ) → IsFadt m p fadt → HasValidFacs m fadt → IsValidFacs m p
facs_valid m p fadt is valid = λ whole also. rw (one_listed m p fadt_signature whole fadt also is) valid

pub facs_named : (m : Memory) (fadt : List ℕ) (found : Option FacsValue) → (found ≡ None → facs_address fadt ≡ 0)
    → IfSome found (λ facs. (facs.address ≡ facs_address fadt) × (facs.address ≢ 0) × IsFacs m facs.address facs.bytes)
    → IsFacsNamed m fadt found
facs_named m fadt None none some = none refl
facs_named m fadt (Some facs) none some = some
