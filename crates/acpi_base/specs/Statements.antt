-- The statements of the stages, and when an image is clean up to a stage.
use Rattle.std.specs.Prelude.{ℕ, ◌<◌, ◌≤◌}
use Rattle.acpi_base.specs.Memory.{Memory}
use Rattle.acpi_base.specs.Policy.{PolicyValue}
use Rattle.acpi_base.specs.Codes.{stage_number}
use Rattle.acpi_base.specs.Rsdp.{IsValidRsdp}
use Rattle.acpi_base.specs.Root.{IsValidRoot, IsSlot}
use Rattle.acpi_base.specs.Tables.{IsValidTable}
use Rattle.acpi_base.specs.Fadt.{IsValidFadt}
use Rattle.acpi_base.specs.Facs.{IsValidFacs}
use Rattle.acpi_base.specs.Contents.{ForMadt, ForSrat, ForSlit, ForPptt}
use Rattle.acpi_base.specs.Madt.{IsValidMadt, AreInterruptsApart, DoOverridesAgree}
use Rattle.acpi_base.specs.Srat.{IsValidSrat, AreRangesApart}
use Rattle.acpi_base.specs.Slit.{IsValidSlit}
use Rattle.acpi_base.specs.Pptt.{IsCutPptt, AreReferencesValid, DoParentsEnd, DoCachesEnd}
use Rattle.acpi_base.specs.Across.{HaveOneDomain, AreNamedServed, AreLeavesKnown}
use Rattle.acpi_base.specs.declared.stage.Stage.{Stage}
use Rattle.acpi_base.specs.declared.stage.Stage.TheVariants as stage

-- Stage 3: every listed table is complete and sums to 0.
abbrev pub AreValidTables : Memory → ℕ → Type 0
AreValidTables m p = (k a : ℕ) → IsSlot m p k a → IsValidTable m a

-- What a stage states. From stage 6 on a stage holds if the set does not list a table that it is about, or if the first one
-- with the signature is not complete.
abbrev pub Holds : Stage → Memory → PolicyValue → Type 0
Holds stage.Rsdp m q = IsValidRsdp m q.rsdp
Holds stage.Root m q = IsValidRoot m q.rsdp
Holds stage.Tables m q = AreValidTables m q.rsdp
Holds stage.Fadt m q = IsValidFadt m q.rsdp
Holds stage.Facs m q = IsValidFacs m q.rsdp
Holds stage.Madt m q = ForMadt m q (IsValidMadt q)
Holds stage.Interrupts m q = ForMadt m q (AreInterruptsApart q)
Holds stage.Overrides m q = ForMadt m q DoOverridesAgree
Holds stage.Srat m q = ForSrat m q IsValidSrat
Holds stage.Ranges m q = ForSrat m q (AreRangesApart q.hotplug)
Holds stage.Slit m q = ForSlit m q IsValidSlit
Holds stage.Pptt m q = ForPptt m q IsCutPptt
Holds stage.References m q = ForPptt m q AreReferencesValid
Holds stage.Parents m q = ForPptt m q DoParentsEnd
Holds stage.Caches m q = ForPptt m q DoCachesEnd
Holds stage.Domains m q = ForMadt m q (λ madt. ForSrat m q (HaveOneDomain q.processors madt))
Holds stage.Served m q = ForMadt m q (AreNamedServed q)
Holds stage.Leaves m q = ForMadt m q (λ madt. ForPptt m q (AreLeavesKnown madt))

-- every stage holds
abbrev pub IsClean : Memory → PolicyValue → Type 0
IsClean m q = (stage : Stage) → Holds stage m q

-- every stage up to `last` holds
abbrev pub CleanTo : Stage → Memory → PolicyValue → Type 0
CleanTo last m q = (stage : Stage) → stage_number stage ≤ stage_number last → Holds stage m q

-- every stage before this one holds
abbrev pub CleanBefore : Stage → Memory → PolicyValue → Type 0
CleanBefore last m q = (stage : Stage) → stage_number stage < stage_number last → Holds stage m q
