-- Stages that hold for the tables of a set, and codes that have no fault then.
use Rattle.std.proofs.Common.{◌≡◌, ℕ, List, Option, Some, None, refl, sym, subst}
use Rattle.std.specs.Prelude.{IsTrue, Bool, not, is_some, ⊤, Result, Ok, Err}
use Rattle.acpi_base.specs.Codes.{stage_of}
use Rattle.acpi_base.specs.Listed.{madt_signature, srat_signature, pptt_signature, ForListed}
use Rattle.acpi_base.specs.Madt.{madt_contents, IsValidMadt}
use Rattle.acpi_base.specs.Memory.{Memory}
use Rattle.acpi_base.specs.Policy.{PolicyValue}
use Rattle.acpi_base.specs.Pptt.{pptt_contents, IsCutPptt, AreReferencesValid}
use Rattle.acpi_base.specs.Srat.{srat_contents, IsValidSrat}
use Rattle.acpi_base.specs.Statements.{Holds}
use Rattle.acpi_base.specs.declared.code.Code.{Code}
use Rattle.acpi_base.specs.declared.stage.Stage.{Stage}
use Rattle.acpi_base.specs.declared.stage.Stage.TheVariants as stage
use Rattle.acpi_base.specs.declared.table_kind.TableKind.TheVariants as kind
use Rattle.acpi_base.specs.declared.witness.Witness.{Witness}
use Rattle.acpi_base.proofs.Faults.ListedTables.{of_listed}
use Rattle.acpi_base.proofs.Faults.Stages.{excludes}
use Rattle.acpi_check.specs.TableResults.{Finds}
use Rattle.acpi_check.specs.declared.refusal.Refusal.{Refusal}
use Rattle.acpi_check.specs.declared.refusal.Refusal.TheVariants.{Fault, OutOfMemory}
use Rattle.acpi_lint.specs.CompleteTables.{IsFound, AreCompleteTables}
use Rattle.acpi_lint.specs.HeldStages.{is_held, AreHeld}
use Rattle.acpi_lint.specs.StageFaults.{FindsFirstAt, IsPlaceOf}
use Rattle.acpi_lint.specs.declared.complete_tables.CompleteTables.{CompleteTables}
use Rattle.acpi_lint.specs.declared.held_stages.HeldStages.{HeldStages}
use Rattle.acpi_rules.specs.declared.place.Place.{Place}

-- what holds for the table that was found holds for each that the set lists first
for_found : (m : Memory) (p : ℕ) (signature : List ℕ) (P : List ℕ → Type 0) (found : Option (List ℕ))
    → IsFound m p signature found → ((whole : List ℕ) → found ≡ Some whole → P whole) → ForListed m p signature P
for_found m p signature P None looked holds whole listed = absurd (looked whole listed)
for_found m p signature P (Some other) looked holds whole listed =
    subst P (of_listed (λ one. one ≡ whole) looked (whole, listed, refl)) (holds other refl)

pub held_stages : (held : HeldStages) (tables : CompleteTables) (q : PolicyValue)
    → (IsTrue held.madt → (whole : List ℕ) → tables.madt ≡ Some whole → IsValidMadt q (madt_contents whole))
    → (IsTrue held.srat → (whole : List ℕ) → tables.srat ≡ Some whole → IsValidSrat (srat_contents whole))
    → (IsTrue held.pptt → (whole : List ℕ) → tables.pptt ≡ Some whole → IsCutPptt (pptt_contents whole))
    → (IsTrue held.references → (whole : List ℕ) → tables.pptt ≡ Some whole → AreReferencesValid (pptt_contents whole))
    → (m : Memory) → AreCompleteTables m q.rsdp tables → AreHeld held m q
held_stages held tables q madt srat pptt references m are = each
  where
    each : (one : Stage) → IsTrue (is_held held one) → Holds one m q
    each stage.Madt is =
        for_found m q.rsdp madt_signature (λ whole. IsValidMadt q (madt_contents whole)) tables.madt
        (are.listed kind.Madt) (madt is)
    each stage.Srat is =
        for_found m q.rsdp srat_signature (λ whole. IsValidSrat (srat_contents whole)) tables.srat
        (are.listed kind.Srat) (srat is)
    each stage.Pptt is =
        for_found m q.rsdp pptt_signature (λ whole. IsCutPptt (pptt_contents whole)) tables.pptt
        (are.listed kind.Pptt) (pptt is)
    each stage.References is =
        for_found m q.rsdp pptt_signature (λ whole. AreReferencesValid (pptt_contents whole)) tables.pptt
        (are.listed kind.Pptt) (references is)
    each _ is = absurd cc

-- a stage that finds no fault holds
pub holds_if_none : (verdict : Result ⊤ Refusal) (place : Option Place) (none : Bool) (stage : Stage) (P : Type 0)
    (IsFirst : Witness → Type 0) → Finds stage P IsFirst verdict → IsPlaceOf verdict place
    → is_some place ≡ not none → IsTrue none → P
holds_if_none (Ok v) None none stage P IsFirst holds is same true = holds
holds_if_none (Ok v) (Some place) none stage P IsFirst holds is same true = elim is [ ]
holds_if_none (Err (Fault w)) None none stage P IsFirst first is same true = elim is [ ]
holds_if_none (Err (Fault w)) (Some place) none stage P IsFirst first is same true =
    absurd (let some = rw true at same in cc)
holds_if_none (Err OutOfMemory) place none stage P IsFirst late is same true = elim is [ ]

-- a code of a stage that holds has no fault
pub none_of_held : (m : Memory) (q : PolicyValue) (code : Code) → Holds (stage_of code) m q
    → FindsFirstAt code m q None
none_of_held m q code holds w same fault =
    excludes m q w (stage_of w.code) fault.holds (subst (λ (one : Code). Holds (stage_of one) m q) (sym same) holds)
