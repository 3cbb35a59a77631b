-- The faults of an image, and the first of them.
use Rattle.std.specs.Prelude.{◌≡◌, ◌≤◌, ℕ, List, [], ◌∷◌}
use Rattle.acpi_base.specs.Memory.{Memory}
use Rattle.acpi_base.specs.Policy.{PolicyValue}
use Rattle.acpi_base.specs.Order.{AreNotAfter}
use Rattle.acpi_base.specs.Codes.{stage_number, code_number, stage_of}
use Rattle.acpi_base.specs.Rsdp.{RsdpFault}
use Rattle.acpi_base.specs.Root.{RootFault, IsSlot}
use Rattle.acpi_base.specs.Tables.{TableFault}
use Rattle.acpi_base.specs.Fadt.{FadtFault}
use Rattle.acpi_base.specs.Facs.{FacsFault}
use Rattle.acpi_base.specs.Contents.{HasMadt, HasSrat, HasSlit, HasPptt}
use Rattle.acpi_base.specs.Madt.{MadtFault, InterruptFault, OverrideFault, IsFirstGsiClash}
use Rattle.acpi_base.specs.Srat.{SratFault, RangeFault, IsFirstOverlap}
use Rattle.acpi_base.specs.Slit.{SlitFault}
use Rattle.acpi_base.specs.Pptt.{PpttFault, ReferenceFault, ParentFault, CacheFault}
use Rattle.acpi_base.specs.Across.{DomainFault, ServedFault, LeafFault}
use Rattle.acpi_base.specs.Statements.{CleanTo, CleanBefore}
use Rattle.acpi_base.specs.declared.stage.Stage.{Stage}
use Rattle.acpi_base.specs.declared.stage.Stage.TheVariants as stage
use Rattle.acpi_base.specs.declared.witness.Witness.{Witness}
use Rattle.acpi_base.specs.declared.verdict.Verdict.{Verdict}
use Rattle.acpi_base.specs.declared.verdict.Verdict.TheVariants.{Yes, No}

-- The conditions of a stage's faults. Numbers that a fault does not use are 0.
--   RSDP: at is the RSDP's address.
--   root table: at is the RSDP's address or the root table's.
--   tables: at is the slot's number, other the table's address.
--   FADT: at is an offset from its start, or 0.
--   FACS: at is its address, or 0.
-- From stage 6 on the set lists the tables that the stage is about, and the numbers are as the table's faults say.
abbrev pub FaultCondition : Stage → Memory → PolicyValue → Witness → Type 0
FaultCondition stage.Rsdp m q w = RsdpFault m q.rsdp w.code × (w.at ≡ q.rsdp) × (w.other ≡ 0) × (w.point ≡ 0)
FaultCondition stage.Root m q w = RootFault m q.rsdp w.code w.at × (w.other ≡ 0) × (w.point ≡ 0)
FaultCondition stage.Tables m q w = IsSlot m q.rsdp w.at w.other × TableFault m w.other w.code × (w.point ≡ 0)
FaultCondition stage.Fadt m q w = FadtFault m q.rsdp w.code w.at × (w.other ≡ 0) × (w.point ≡ 0)
FaultCondition stage.Facs m q w = FacsFault m q.rsdp w.code w.at × (w.other ≡ 0) × (w.point ≡ 0)
FaultCondition stage.Madt m q w = HasMadt m q (λ madt. MadtFault q madt w.code w.at w.other w.point)
FaultCondition stage.Interrupts m q w = HasMadt m q (λ madt. InterruptFault q madt w.code w.at w.other w.point)
FaultCondition stage.Overrides m q w = HasMadt m q (λ madt. OverrideFault madt w.code w.at w.other w.point)
FaultCondition stage.Srat m q w = HasSrat m q (λ srat. SratFault srat w.code w.at w.other w.point)
FaultCondition stage.Ranges m q w = HasSrat m q (λ srat. RangeFault q.hotplug srat w.code w.at w.other w.point)
FaultCondition stage.Slit m q w = HasSlit m q (λ slit. SlitFault slit w.code w.at w.other w.point)
FaultCondition stage.Pptt m q w = HasPptt m q (λ pptt. PpttFault pptt w.code w.at w.other w.point)
FaultCondition stage.References m q w = HasPptt m q (λ pptt. ReferenceFault pptt w.code w.at w.other w.point)
FaultCondition stage.Parents m q w = HasPptt m q (λ pptt. ParentFault pptt w.code w.at w.other w.point)
FaultCondition stage.Caches m q w = HasPptt m q (λ pptt. CacheFault pptt w.code w.at w.other w.point)
FaultCondition stage.Domains m q w = HasMadt m q (λ madt. HasSrat m q (λ srat. DomainFault q.processors madt srat w.code w.at w.other w.point))
FaultCondition stage.Served m q w = HasMadt m q (λ madt. ServedFault q madt w.code w.at w.other w.point)
FaultCondition stage.Leaves m q w = HasMadt m q (λ madt. HasPptt m q (λ pptt. LeafFault madt pptt w.code w.at w.other w.point))

-- w is a fault of the stage: it has one of the stage's codes, whose condition holds
pub record FaultOfStage (stage : Stage) (m : Memory) (q : PolicyValue) (w : Witness) : Type 0 where
  pub own : stage_of w.code ≡ stage
  pub holds : FaultCondition stage m q w

-- w is a fault of the image. Whether earlier stages hold does not matter.
abbrev pub Fault : Memory → PolicyValue → Witness → Type 0
Fault m q w = FaultOfStage (stage_of w.code) m q w

-- the numbers by which the faults of a stage are ordered
abbrev pub order_of : Witness → List ℕ
order_of w = w.at ∷ code_number w.code ∷ w.other ∷ w.point ∷ []

-- w comes before v in that order, or is equal to it
abbrev pub NotAfter : Witness → Witness → Type 0
NotAfter w v = AreNotAfter (order_of w) (order_of v)

-- w comes first of its stage's faults. The two stages of overlaps have their own order: w has the lowest interrupt number
-- that two I/O APICs serve, or the lowest address that two compared ranges contain, and names the first two that contain it,
-- by start and then by offset.
abbrev pub IsLeastOfStage : Stage → Memory → PolicyValue → Witness → Type 0
IsLeastOfStage stage.Interrupts m q w = HasMadt m q (λ madt. IsFirstGsiClash q madt w.at w.other w.point)
IsLeastOfStage stage.Ranges m q w = HasSrat m q (λ srat. IsFirstOverlap q.hotplug srat w.at w.other w.point)
IsLeastOfStage s m q w = (v : Witness) → FaultOfStage s m q v → NotAfter w v

-- w is the first fault: all earlier stages hold, and it comes first of its stage's faults
pub record IsFirstFault (m : Memory) (q : PolicyValue) (w : Witness) : Type 0 where
  pub fault : Fault m q w
  pub earlier : CleanBefore (stage_of w.code) m q
  pub least : IsLeastOfStage (stage_of w.code) m q w

-- the verdict on the stages up to `last`: yes if they hold, otherwise the first fault, of one of them
abbrev pub IsVerdict : Stage → Memory → PolicyValue → Verdict → Type 0
IsVerdict last m q Yes = CleanTo last m q
IsVerdict last m q (No w) = IsFirstFault m q w × (stage_number (stage_of w.code) ≤ stage_number last)
