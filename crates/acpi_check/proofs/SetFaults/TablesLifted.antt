-- From the result on the tables that a set lists to the result on the set.
use Rattle.std.proofs.Common.{◌≡◌, ℕ, ◌<◌, List, Option, Some, None, Result, Ok, Err, sym, ◌∙◌, subst}
use Rattle.std.specs.Prelude.{◌↔◌, ⊤, MatchOption}
use Rattle.acpi_base.specs.Memory.{Memory}
use Rattle.acpi_base.specs.Policy.{PolicyValue}
use Rattle.acpi_base.specs.Codes.{stage_number, stage_of}
use Rattle.acpi_base.specs.Listed.{IsListed, IsListedTable, ForListed, HasListed, ListsNone}
use Rattle.acpi_base.specs.Statements.{Holds, CleanBefore}
use Rattle.acpi_base.specs.Faults.{FaultCondition, FaultOfStage, NotAfter, IsLeastOfStage, IsFirstFault}
use Rattle.acpi_base.specs.declared.code.Code.{Code}
use Rattle.acpi_base.specs.declared.stage.Stage.{Stage}
use Rattle.acpi_base.specs.TableKinds.{signature_of}
use Rattle.acpi_base.specs.declared.table_kind.TableKind.{TableKind}
use Rattle.acpi_base.specs.declared.witness.Witness.{Witness}
use Rattle.acpi_base.proofs.Faults.ListedTables.{of_listed, for_listed}
use Rattle.acpi_base.proofs.Faults.HoldsOrFault.{first_of_set}
use Rattle.acpi_base.proofs.Tables.Listed.{none_and_listed}
use Rattle.acpi_read.specs.FirstTables.{first_table}
use Rattle.acpi_read.specs.declared.first_tables.FirstTables.{FirstTables}
use Rattle.acpi_check.specs.TableResults.{IsFirstOfTable, Finds, FindsFirst, AreFirstTables}
use Rattle.acpi_check.specs.StageResults.{IsStageResult}
use Rattle.acpi_check.specs.Set.{IsReady, IsSetResult}
use Rattle.acpi_check.specs.declared.refusal.Refusal.{Refusal}
use Rattle.acpi_check.specs.declared.set.Set.{Set}
use Rattle.acpi_check.specs.declared.refusal.Refusal.TheVariants.{Fault, OutOfMemory}

-- ---- one table

-- the first table of a kind is the listed one, if the set lists it
pub listed_of_first : {m : Memory} {p : ℕ} {firsts : FirstTables} → AreFirstTables m p firsts → (kind : TableKind)
    → {found : Option (List ℕ)} → found ≡ first_table firsts kind
    → {whole : List ℕ} → found ≡ Some whole → IsListedTable m p (signature_of kind) whole
listed_of_first {m} {p} all kind same is = subst (IsListed m p (signature_of kind)) (sym same ∙ is) (all.each kind)

pub none_listed : {m : Memory} {p : ℕ} {firsts : FirstTables} → AreFirstTables m p firsts → (kind : TableKind)
    → {found : Option (List ℕ)} → found ≡ first_table firsts kind
    → found ≡ None → ListsNone m p (signature_of kind)
none_listed {m} {p} all kind same is = subst (IsListed m p (signature_of kind)) (sym same ∙ is) (all.each kind)

pub of_none : {m : Memory} {p : ℕ} {signature : List ℕ} (P : List ℕ → Type 0) → ListsNone m p signature
    → ForListed m p signature P
of_none P none whole is = absurd (none_and_listed none is)

-- what is found about the table that the set lists first holds for the set, if the stage states it about the table, and
-- the first fault of the table is the set's
pub of_one : (s : Stage) {m : Memory} {q : PolicyValue} {signature : List ℕ} (Valid : List ℕ → Type 0)
    (IsFirst : List ℕ → Witness → Type 0)
    → (ForListed m q.rsdp signature Valid → Holds s m q)
    → ((whole : List ℕ) → IsListedTable m q.rsdp signature whole → (w : Witness) → IsFirst whole w
    → IsFirstFault m q w × (stage_of w.code ≡ s))
    → {whole : List ℕ} → IsListedTable m q.rsdp signature whole → (result : Result ⊤ Refusal)
    → Finds s (Valid whole) (IsFirst whole) result
    → IsStageResult s m q (λ _. ⊤) result
of_one s Valid IsFirst holds first is (Ok _) found = (holds (for_listed Valid is found), tt)
of_one s Valid IsFirst holds first {whole} is (Err (Fault w)) found = first whole is w found
of_one s Valid IsFirst holds first is (Err OutOfMemory) found = found

-- the first fault of a table is the set's, if the stage's faults are those of this table
pub table_first : {s : Stage} {m : Memory} {q : PolicyValue} {signature : List ℕ}
    (IsFault : List ℕ → Code → ℕ → ℕ → ℕ → Type 0)
    → ((v : Witness) → FaultCondition s m q v ↔ HasListed m q.rsdp signature
    (λ bytes. IsFault bytes v.code v.at v.other v.point))
    → ((w : Witness) → ((v : Witness) → FaultOfStage s m q v → NotAfter w v) → IsLeastOfStage s m q w)
    → CleanBefore s m q → (whole : List ℕ) → IsListedTable m q.rsdp signature whole → (w : Witness)
    → IsFirstOfTable s (IsFault whole) w
    → IsFirstFault m q w × (stage_of w.code ≡ s)
table_first IsFault condition order clean whole is w first = (
  first_of_set clean (record {
    holds = record { own = first.own; holds = (condition w).1 (whole, is, first.fault) };
    least = order w (λ v here. first.least v
        (of_listed (λ bytes. IsFault bytes v.code v.at v.other v.point) is ((condition v).0 here.holds)));
  }),
  first.own,
)

-- the same for a stage whose faults are those of a table of entries
pub of_faults : (s : Stage) {m : Memory} {q : PolicyValue} {signature : List ℕ} (Valid : List ℕ → Type 0)
    (IsFault : List ℕ → Code → ℕ → ℕ → ℕ → Type 0)
    → (ForListed m q.rsdp signature Valid → Holds s m q)
    → ((v : Witness) → FaultCondition s m q v ↔ HasListed m q.rsdp signature
    (λ bytes. IsFault bytes v.code v.at v.other v.point))
    → ((w : Witness) → ((v : Witness) → FaultOfStage s m q v → NotAfter w v) → IsLeastOfStage s m q w)
    → CleanBefore s m q → {whole : List ℕ} → IsListedTable m q.rsdp signature whole → (result : Result ⊤ Refusal)
    → FindsFirst s (Valid whole) (IsFault whole) result → IsStageResult s m q (λ _. ⊤) result
of_faults s Valid IsFault holds condition order clean is result found =
    of_one s Valid (λ whole. IsFirstOfTable s (IsFault whole)) holds (table_first IsFault condition order clean) is
    result found

-- ---- two tables

-- the first fault of two tables is the set's, if the stage's faults are those of these tables
pub both_first : {s : Stage} {m : Memory} {q : PolicyValue} {one other : List ℕ}
    (IsFault : List ℕ → List ℕ → Code → ℕ → ℕ → ℕ → Type 0)
    → ((v : Witness) → FaultCondition s m q v ↔ HasListed m q.rsdp one
    (λ x. HasListed m q.rsdp other (λ y. IsFault x y v.code v.at v.other v.point)))
    → ((w : Witness) → ((v : Witness) → FaultOfStage s m q v → NotAfter w v) → IsLeastOfStage s m q w)
    → CleanBefore s m q → (x y : List ℕ) → IsListedTable m q.rsdp one x → IsListedTable m q.rsdp other y → (w : Witness)
    → IsFirstOfTable s (IsFault x y) w → IsFirstFault m q w × (stage_of w.code ≡ s)
both_first {m = m} {q = q} {other = other} IsFault condition order clean x y is also w first =
    table_first (IsFault x)
    (λ v. (
      λ h. of_listed (λ z. HasListed m q.rsdp other (λ bytes. IsFault z bytes v.code v.at v.other v.point)) is
          ((condition v).0 h),
      λ h. (condition v).1 (x, is, h),
    ))
    order clean y also w first

-- the same as `of_one` for two tables
pub of_two : (s : Stage) {m : Memory} {q : PolicyValue} {one other : List ℕ} (Valid : List ℕ → List ℕ → Type 0)
    (IsFault : List ℕ → List ℕ → Code → ℕ → ℕ → ℕ → Type 0)
    → (ForListed m q.rsdp one (λ x. ForListed m q.rsdp other (Valid x)) → Holds s m q)
    → ((v : Witness) → FaultCondition s m q v ↔ HasListed m q.rsdp one
    (λ x. HasListed m q.rsdp other (λ y. IsFault x y v.code v.at v.other v.point)))
    → ((w : Witness) → ((v : Witness) → FaultOfStage s m q v → NotAfter w v) → IsLeastOfStage s m q w)
    → CleanBefore s m q → {x y : List ℕ} → IsListedTable m q.rsdp one x → IsListedTable m q.rsdp other y
    → (result : Result ⊤ Refusal)
    → FindsFirst s (Valid x y) (IsFault x y) result → IsStageResult s m q (λ _. ⊤) result
of_two s {m} {q} {one} {other} Valid IsFault holds condition order clean {x} {y} is also (Ok _) found =
    (holds (for_listed (λ z. ForListed m q.rsdp other (Valid z)) is (for_listed (Valid x) also found)), tt)
of_two s Valid IsFault holds condition order clean {x} {y} is also (Err (Fault w)) found =
    both_first IsFault condition order clean x y is also w found
of_two s Valid IsFault holds condition order clean is also (Err OutOfMemory) found = found

-- ---- a stage

pub earlier : {s t : Stage} {set : Set} → IsReady s set → s ≡ t → (e : Stage) → stage_number e < stage_number t
    → Holds e set.listed.image.now set.policy.now
earlier ready is e before = ready.clean e (rw is before)

-- if the set does not list the table, nothing is found, and the stage holds
pub unlisted : {s t : Stage} {set : Set} {first : Option (List ℕ)} {said : Option (Result ⊤ Refusal)} → IsReady s set
    → s ≡ t
    → (kind : TableKind) → first ≡ first_table set.listed.tables kind → first ≡ None → said ≡ None
    → (ListsNone set.listed.image.now set.policy.now.rsdp (signature_of kind)
    → Holds t set.listed.image.now set.policy.now)
    → MatchOption said (IsSetResult s set (Ok tt)) (IsSetResult s set)
unlisted ready is kind same none silent holds =
    rw (silent, is) (holds (none_listed ready.tables.listed.tables kind same none), tt)

-- otherwise what is found about the table holds for the set
pub settled : {s t : Stage} {set : Set} {first : Option (List ℕ)} {whole : List ℕ} → IsReady s set → s ≡ t
    → (kind : TableKind) → first ≡ first_table set.listed.tables kind → first ≡ Some whole
    → (Valid : List ℕ → Type 0) (IsFault : List ℕ → Code → ℕ → ℕ → ℕ → Type 0)
    → (ForListed set.listed.image.now set.policy.now.rsdp (signature_of kind) Valid
    → Holds t set.listed.image.now set.policy.now)
    → ((v : Witness) → FaultCondition t set.listed.image.now set.policy.now v
    ↔ HasListed set.listed.image.now set.policy.now.rsdp (signature_of kind)
    (λ bytes. IsFault bytes v.code v.at v.other v.point))
    → ((w : Witness) → ((v : Witness) → FaultOfStage t set.listed.image.now set.policy.now v → NotAfter w v)
    → IsLeastOfStage t set.listed.image.now set.policy.now w)
    → (result : Result ⊤ Refusal) → FindsFirst t (Valid whole) (IsFault whole) result → IsSetResult s set result
settled {t = t} ready is kind same some Valid IsFault holds condition order result found =
    rw is (of_faults t Valid IsFault holds condition order (rw is at ready.clean)
    (listed_of_first ready.tables.listed.tables kind same some) result found)
