-- The conditions of the faults of one table, by stage, on the table's contents.
use Rattle.acpi_base.specs.Across.{ServedFault}
use Rattle.acpi_base.specs.Policy.{PolicyValue}
use Rattle.acpi_base.specs.Madt.{MadtContents, MadtFault, InterruptFault, OverrideFault}
use Rattle.acpi_base.specs.Srat.{SratContents, SratFault, RangeFault}
use Rattle.acpi_base.specs.Pptt.{PpttContents, PpttFault, ReferenceFault, ParentFault, CacheFault}
use Rattle.acpi_base.specs.declared.stage.Stage.{Stage}
use Rattle.acpi_base.specs.declared.stage.Stage.TheVariants as stage
use Rattle.acpi_base.specs.declared.witness.Witness.{Witness}

-- of the MADT, stages 6 to 8 and 17
abbrev pub MadtCondition : Stage → PolicyValue → MadtContents → Witness → Type 0
MadtCondition stage.Madt q madt w = MadtFault q madt w.code w.at w.other w.point
MadtCondition stage.Interrupts q madt w = InterruptFault q madt w.code w.at w.other w.point
MadtCondition stage.Overrides q madt w = OverrideFault madt w.code w.at w.other w.point
MadtCondition stage.Served q madt w = ServedFault q madt w.code w.at w.other w.point
MadtCondition _ q madt w = ⊥

-- of the SRAT, stages 9 and 10
abbrev pub SratCondition : Stage → PolicyValue → SratContents → Witness → Type 0
SratCondition stage.Srat q srat w = SratFault srat w.code w.at w.other w.point
SratCondition stage.Ranges q srat w = RangeFault q.hotplug srat w.code w.at w.other w.point
SratCondition _ q srat w = ⊥

-- of the PPTT, stages 12 to 15
abbrev pub PpttCondition : Stage → PpttContents → Witness → Type 0
PpttCondition stage.Pptt pptt w = PpttFault pptt w.code w.at w.other w.point
PpttCondition stage.References pptt w = ReferenceFault pptt w.code w.at w.other w.point
PpttCondition stage.Parents pptt w = ParentFault pptt w.code w.at w.other w.point
PpttCondition stage.Caches pptt w = CacheFault pptt w.code w.at w.other w.point
PpttCondition _ pptt w = ⊥
