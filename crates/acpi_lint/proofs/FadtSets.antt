-- Faults of the FADT of a set.
use Rattle.std.proofs.Common.{◌≢◌, ℕ, List, Option, Some, None, refl, inl, inr}
use Rattle.std.specs.Prelude.{◌↔◌, IsTrue, IsNone, Bool}
use Rattle.acpi_base.specs.Listed.{fadt_signature, ListsNone, IsListedTable, HasListed}
use Rattle.acpi_base.specs.Memory.{Memory}
use Rattle.acpi_base.specs.Policy.{PolicyValue}
use Rattle.acpi_base.specs.Tables.{IsSigned}
use Rattle.acpi_base.specs.declared.code.Code.{Code}
use Rattle.acpi_base.specs.declared.code.Code.TheVariants as code
use Rattle.acpi_base.specs.declared.stage.Stage.TheVariants as stage
use Rattle.acpi_base.proofs.Root.Slots.{slot_of_root, root_slot}
use Rattle.acpi_base.proofs.Tables.Listed.{none_in_root}
use Rattle.acpi_read.specs.Roots.{RootValue, IsCompleteRoot}
use Rattle.acpi_rules.specs.Places.{FindsLeast}
use Rattle.acpi_lint.specs.Places.{IsFadtFault}
use Rattle.acpi_lint.specs.Slots.{FindsSlot}
use Rattle.acpi_lint.specs.StageFaults.{IsFaultOfStage}
use Rattle.acpi_lint.specs.declared.listed_slots.Slot.{Slot}
use Rattle.acpi_rules.specs.declared.place.Place.{Place}
use Rattle.acpi_rules.proofs.LeastPlaces.{least_as}
use Rattle.acpi_lint.proofs.OfTables.{of_table, of_no_table}

-- ---- a set that lists none

pub lists_none : {m : Memory} {p : ℕ} {root : RootValue} {signature : List ℕ} (found : Option Slot) (b : Bool)
    → (IsTrue b ↔ IsNone found) → IsCompleteRoot m p root → FindsSlot m p (λ a. IsSigned m a signature) found
    → IsTrue b ↔ ListsNone m p signature
lists_none None b test is first = (
  λ yes. none_in_root is.named is.table (λ k a slot. first k a (root_slot is.named is.table slot)),
  λ lists. test.1 refl,
)
lists_none {m} {p} (Some s) b test is first = (
  λ yes. (let no_one : IsNone (Some s) = test.0 yes in absurd cc),
  λ lists. absurd (lists.none s.number s.table.address
      (slot_of_root m p lists.r lists.d s.number s.table.address lists.root_bytes lists.root lists.table first.slot)
      first.here),
)

pub no_root_lists : {m : Memory} {p : ℕ} {signature : List ℕ} → ((root : RootValue) → ¬ IsCompleteRoot m p root)
    → ¬ ListsNone m p signature
no_root_lists none lists =
    none (record { address = lists.r; width = lists.d; bytes = lists.root_bytes })
    (record { named = lists.root; table = lists.table })

-- ---- a set that lists one

-- unless the code is `NoFadt`, faults of the stage are those of the table
faults_as : (m : Memory) (q : PolicyValue) (fault : Code) (found : Option Place) → fault ≢ code.NoFadt
    → FindsLeast (λ at other point. HasListed m q.rsdp fadt_signature (λ bytes. IsFadtFault bytes fault at other point))
    found
    → FindsLeast (IsFaultOfStage stage.Fadt fault m q) found
faults_as m q fault found differs first =
    least_as found
    (λ at other point (whole, listed, (wrong, unused)). (inr (whole, listed, wrong), unused.0, unused.1))
    (λ at other point (holds, second, third).
    elim holds [
      | inl none ↦ absurd (differs none.1)
      | inr (whole, listed, wrong) ↦ (whole, listed, (wrong, (second, third)))
    ]) first

pub fault_in_fadt : {m : Memory} {whole : List ℕ} (q : PolicyValue) (fault : Code) (found : Option Place)
    → fault ≢ code.NoFadt → IsListedTable m q.rsdp fadt_signature whole → FindsLeast (IsFadtFault whole fault) found
    → FindsLeast (IsFaultOfStage stage.Fadt fault m q) found
fault_in_fadt {m} q fault found differs listed first =
    faults_as m q fault found differs (of_table (λ bytes. IsFadtFault bytes fault) found listed first)

pub no_fault_without_fadt : {m : Memory} (q : PolicyValue) (fault : Code) → fault ≢ code.NoFadt
    → ((whole : List ℕ) → ¬ IsListedTable m q.rsdp fadt_signature whole)
    → FindsLeast (IsFaultOfStage stage.Fadt fault m q) None
no_fault_without_fadt {m} q fault differs none =
    faults_as m q fault None differs (of_no_table (λ bytes. IsFadtFault bytes fault) none)
