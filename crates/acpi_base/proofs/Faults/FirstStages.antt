-- Stages 1 to 5: the facts about each, if those before it hold.
use Rattle.std.proofs.Common.{ℕ, ◌+◌, ◌*◌, ◌<◌, List, length, refl, subst, inl, inr, arith}
use Rattle.acpi_base.specs.Memory.{Memory}
use Rattle.acpi_base.specs.Number.{field}
use Rattle.acpi_base.specs.Policy.{PolicyValue}
use Rattle.acpi_base.specs.Root.{HasSlot, IsSlot, IsValidRoot}
use Rattle.acpi_base.specs.Listed.{fadt_signature}
use Rattle.acpi_base.specs.Fadt.{facs_address}
use Rattle.acpi_base.specs.Statements.{CleanBefore}
use Rattle.acpi_base.specs.Faults.{FaultCondition}
use Rattle.acpi_base.specs.declared.code.Code.{Code}
use Rattle.acpi_base.specs.declared.stage.Stage.TheVariants as stage
use Rattle.acpi_base.proofs.Faults.Deciding.{Decided, decided_as, all3, all4, same}
use Rattle.acpi_base.proofs.Faults.Least.{bounded, witness}
use Rattle.acpi_base.proofs.Faults.HoldsOrFault.{IsJudged}
use Rattle.acpi_base.proofs.Rsdp.Faults as rsdp
use Rattle.acpi_base.proofs.Rsdp.Naming.{valid_read}
use Rattle.acpi_base.proofs.Root.Faults as root
use Rattle.acpi_base.proofs.Root.Named.{root_width}
use Rattle.acpi_base.proofs.Root.Slots.{one_slot, root_slot, slot_below, slot_of_root, slot_or_none}
use Rattle.acpi_base.proofs.Tables.Faults as table
use Rattle.acpi_base.proofs.Tables.Listed.{listed_or_none}
use Rattle.acpi_base.proofs.Fadt as fadt
use Rattle.acpi_base.proofs.Facs as facs

pub rsdp_judged : (m : Memory) (q : PolicyValue) → IsJudged stage.Rsdp m q
rsdp_judged m q =
    record {
      bound = q.rsdp + 1;
      fit = λ c at other point fault. (omega (arith, fault.1), omega (arith, fault.2), omega (arith, fault.3));
      decided = λ c at other point. all4 (rsdp.decided m q.rsdp c) (same at q.rsdp) (same other 0) (same point 0);
      holds = λ none. rsdp.valid_without_fault m q.rsdp
          (λ c own fault. none c q.rsdp 0 0 own (fault, refl, refl, refl));
    }

pub root_judged : (m : Memory) (q : PolicyValue) → CleanBefore stage.Root m q → IsJudged stage.Root m q
root_judged m q clean =
    let named = valid_read m q.rsdp (clean stage.Rsdp (omega arith)) in
    let place = root.bounded m q.rsdp named.0 named.1 in
    record {
      bound = place.0;
      fit = λ c at other point fault. (
        place.1 c at fault.0,
        omega (arith, place.1 c at fault.0, fault.1),
        omega (arith, place.1 c at fault.0, fault.2),
      );
      decided = λ c at other point. all3 (root.decided m q.rsdp named.0 named.1 c at) (same other 0) (same point 0);
      holds = λ none. root.valid_without_fault m q.rsdp named.0 named.1
          (λ c at own fault. none c at 0 0 own (fault, refl, refl));
    }

pub tables_judged : (m : Memory) (q : PolicyValue) → CleanBefore stage.Tables m q → IsJudged stage.Tables m q
tables_judged m q clean =
    record {
      bound = length whole + addresses.0 + 1;
      fit = fit;
      decided = λ c at other point. all3 (slot_decided at other) (table.decided m other c) (same point 0);
      holds = λ none k a slot. table.valid_without_fault m a (λ c own fault. none c k a 0 own (slot, fault, refl));
    }
  where
    valid : IsValidRoot m q.rsdp
    valid = clean stage.Root (omega arith)

    whole : List ℕ
    whole = valid.whole

    d : ℕ
    d = valid.d

    of_root : (k a : ℕ) → IsSlot m q.rsdp k a → HasSlot whole d k a
    of_root k a = slot_of_root m q.rsdp valid.r d k a whole valid.root valid.valid.table

    addresses : (most : ℕ) × ((k : ℕ) → k < length whole → field whole (36 + d * k) d < most)
    addresses = bounded (λ k. field whole (36 + d * k) d) (length whole)

    fit : (c : Code) (at other point : ℕ) → FaultCondition stage.Tables m q (witness c at other point)
        → (at < length whole + addresses.0 + 1) × (other < length whole + addresses.0 + 1)
        × (point < length whole + addresses.0 + 1)
    fit c at other point (is_slot, fault, none) =
        let slot = of_root at other is_slot in
        let below = slot_below whole d at other (root_width valid.root) slot in
        let address = addresses.1 at below in
        (omega arith, omega (arith, slot.address), omega arith)

    slot_decided : (k a : ℕ) → Decided (IsSlot m q.rsdp k a)
    slot_decided k a =
        elim (slot_or_none whole d k) [
          | inr none ↦ inr (λ slot. none a (of_root k a slot))
          | inl (b, slot) ↦
              decided_as (λ is. root_slot valid.root valid.valid.table (subst (λ (x : ℕ). HasSlot whole d k x) is slot))
              (λ here. one_slot whole d k b a slot (of_root k a here))
              (same b a)
        ]

pub fadt_judged : (m : Memory) (q : PolicyValue) → CleanBefore stage.Fadt m q → IsJudged stage.Fadt m q
fadt_judged m q clean =
    let listed = listed_or_none m q.rsdp fadt_signature (clean stage.Root (omega arith))
    (clean stage.Tables (omega arith)) in
    record {
      bound = 117;
      fit = λ c at other point fault. (
        omega (arith, fadt.place m q.rsdp c at fault.0),
        omega (arith, fault.1),
        omega (arith, fault.2),
      );
      decided = λ c at other point. all3 (fadt.decided m q.rsdp listed c at) (same other 0) (same point 0);
      holds = λ none. fadt.valid_without_fault m q.rsdp listed
          (λ c at own fault. none c at 0 0 own (fault, refl, refl));
    }

pub facs_judged : (m : Memory) (q : PolicyValue) → CleanBefore stage.Facs m q → IsJudged stage.Facs m q
facs_judged m q clean =
    let valid = clean stage.Fadt (omega arith) in
    record {
      bound = facs_address valid.whole + 1;
      fit = λ c at other point fault. (
        omega (arith, facs.place m q.rsdp valid c at fault.0),
        omega (arith, fault.1),
        omega (arith, fault.2),
      );
      decided = λ c at other point. all3 (facs.decided m q.rsdp valid c at) (same other 0) (same point 0);
      holds = λ none. facs.valid_without_fault m q.rsdp valid (λ c at own fault. none c at 0 0 own (fault, refl, refl));
    }
