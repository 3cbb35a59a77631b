-- Faults of the FACS that the FADT of a set names.
use Rattle.std.proofs.Common.{ℕ, List, Option, None}
use Rattle.acpi_base.specs.Listed.{fadt_signature, IsListedTable, HasListed}
use Rattle.acpi_base.specs.Memory.{Memory}
use Rattle.acpi_base.specs.Policy.{PolicyValue}
use Rattle.acpi_base.specs.declared.code.Code.{Code}
use Rattle.acpi_base.specs.declared.stage.Stage.TheVariants as stage
use Rattle.acpi_rules.specs.Places.{FindsLeast}
use Rattle.acpi_lint.specs.Places.{IsFacsFaultOf}
use Rattle.acpi_lint.specs.StageFaults.{IsFaultOfStage}
use Rattle.acpi_rules.specs.declared.place.Place.{Place}
use Rattle.acpi_rules.proofs.LeastPlaces.{least_as}
use Rattle.acpi_lint.proofs.OfTables.{of_table, of_no_table}

-- faults of the stage are those of the table
faults_as : (m : Memory) (q : PolicyValue) (fault : Code) (found : Option Place)
    → FindsLeast
    (λ at other point. HasListed m q.rsdp fadt_signature (λ bytes. IsFacsFaultOf m bytes fault at other point)) found
    → FindsLeast (IsFaultOfStage stage.Facs fault m q) found
faults_as m q fault found first =
    least_as found
    (λ at other point (whole, listed, (long, (wrong, unused))). ((whole, listed, long, wrong), unused.0, unused.1))
    (λ at other point ((whole, listed, long, wrong), second, third). (whole, listed, (long, (wrong, (second, third)))))
    first

pub facs_fault_in_fadt : {m : Memory} {whole : List ℕ} (q : PolicyValue) (fault : Code) (found : Option Place)
    → IsListedTable m q.rsdp fadt_signature whole → FindsLeast (IsFacsFaultOf m whole fault) found
    → FindsLeast (IsFaultOfStage stage.Facs fault m q) found
facs_fault_in_fadt {m} q fault found listed first =
    faults_as m q fault found (of_table (λ bytes. IsFacsFaultOf m bytes fault) found listed first)

pub no_facs_fault_without_fadt : {m : Memory} (q : PolicyValue) (fault : Code)
    → ((whole : List ℕ) → ¬ IsListedTable m q.rsdp fadt_signature whole)
    → FindsLeast (IsFaultOfStage stage.Facs fault m q) None
no_facs_fault_without_fadt {m} q fault none =
    faults_as m q fault None (of_no_table (λ bytes. IsFacsFaultOf m bytes fault) none)
