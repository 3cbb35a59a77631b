-- The numbers and names of the fault codes, and the stage that each is a fault of.
use Rattle.std.specs.Prelude.{ℕ, List, [], ◌∷◌, codes}
use Rattle.acpi_base.specs.declared.code.Code.{Code}
use Rattle.acpi_base.specs.declared.code.Code.TheVariants as code
use Rattle.acpi_base.specs.declared.stage.Stage.{Stage}
use Rattle.acpi_base.specs.declared.stage.Stage.TheVariants as stage

-- a stage's number
abbrev pub stage_number : Stage → ℕ
stage_number stage.Rsdp = 1
stage_number stage.Root = 2
stage_number stage.Tables = 3
stage_number stage.Fadt = 4
stage_number stage.Facs = 5
stage_number stage.Madt = 6
stage_number stage.Interrupts = 7
stage_number stage.Overrides = 8
stage_number stage.Srat = 9
stage_number stage.Ranges = 10
stage_number stage.Slit = 11
stage_number stage.Pptt = 12
stage_number stage.References = 13
stage_number stage.Parents = 14
stage_number stage.Caches = 15
stage_number stage.Domains = 16
stage_number stage.Served = 17
stage_number stage.Leaves = 18

-- a code's number, the stage that it is a fault of, and its name in ASCII
abbrev pub code_row : Code → ℕ × Stage × List ℕ
code_row code.RsdpOut = (1, stage.Rsdp, codes "RsdpOut")
code_row code.RsdpSignature = (2, stage.Rsdp, codes "RsdpSignature")
code_row code.RsdpSum = (3, stage.Rsdp, codes "RsdpSum")
code_row code.RsdpTailOut = (4, stage.Rsdp, codes "RsdpTailOut")
code_row code.RsdpLength = (5, stage.Rsdp, codes "RsdpLength")
code_row code.RsdpLongOut = (6, stage.Rsdp, codes "RsdpLongOut")
code_row code.RsdpExtendedSum = (7, stage.Rsdp, codes "RsdpExtendedSum")
code_row code.NoRoot = (8, stage.Root, codes "NoRoot")
code_row code.RootHeaderOut = (9, stage.Root, codes "RootHeaderOut")
code_row code.RootSignature = (10, stage.Root, codes "RootSignature")
code_row code.RootLength = (11, stage.Root, codes "RootLength")
code_row code.RootOut = (12, stage.Root, codes "RootOut")
code_row code.RootRagged = (13, stage.Root, codes "RootRagged")
code_row code.RootSum = (14, stage.Root, codes "RootSum")
code_row code.TableHeaderOut = (15, stage.Tables, codes "TableHeaderOut")
code_row code.TableLength = (16, stage.Tables, codes "TableLength")
code_row code.TableOut = (17, stage.Tables, codes "TableOut")
code_row code.TableSum = (18, stage.Tables, codes "TableSum")
code_row code.NoFadt = (19, stage.Fadt, codes "NoFadt")
code_row code.FadtShort = (20, stage.Fadt, codes "FadtShort")
code_row code.PmEventLength = (21, stage.Fadt, codes "PmEventLength")
code_row code.PmControlLength = (22, stage.Fadt, codes "PmControlLength")
code_row code.PmTimerLength = (23, stage.Fadt, codes "PmTimerLength")
code_row code.GpeLength = (24, stage.Fadt, codes "GpeLength")
code_row code.ResetRegister = (25, stage.Fadt, codes "ResetRegister")
code_row code.NoFacs = (26, stage.Facs, codes "NoFacs")
code_row code.FacsAlign = (27, stage.Facs, codes "FacsAlign")
code_row code.FacsHeaderOut = (28, stage.Facs, codes "FacsHeaderOut")
code_row code.FacsSignature = (29, stage.Facs, codes "FacsSignature")
code_row code.FacsLength = (30, stage.Facs, codes "FacsLength")
code_row code.FacsOut = (31, stage.Facs, codes "FacsOut")
code_row code.MadtShort = (32, stage.Madt, codes "MadtShort")
code_row code.MadtEntryCut = (33, stage.Madt, codes "MadtEntryCut")
code_row code.MadtEntryLength = (34, stage.Madt, codes "MadtEntryLength")
code_row code.OverrideBus = (35, stage.Madt, codes "OverrideBus")
code_row code.ReservedInti = (36, stage.Madt, codes "ReservedInti")
code_row code.SecondAddressOverride = (37, stage.Madt, codes "SecondAddressOverride")
code_row code.GsiPastEnd = (38, stage.Madt, codes "GsiPastEnd")
code_row code.GsiClash = (39, stage.Interrupts, codes "GsiClash")
code_row code.OverrideClash = (40, stage.Overrides, codes "OverrideClash")
code_row code.SratShort = (41, stage.Srat, codes "SratShort")
code_row code.SratEntryCut = (42, stage.Srat, codes "SratEntryCut")
code_row code.SratEntryLength = (43, stage.Srat, codes "SratEntryLength")
code_row code.RangePastEnd = (44, stage.Srat, codes "RangePastEnd")
code_row code.Overlap = (45, stage.Ranges, codes "Overlap")
code_row code.SlitShort = (46, stage.Slit, codes "SlitShort")
code_row code.SlitSize = (47, stage.Slit, codes "SlitSize")
code_row code.SlitDiagonal = (48, stage.Slit, codes "SlitDiagonal")
code_row code.SlitLow = (49, stage.Slit, codes "SlitLow")
code_row code.PpttEntryCut = (50, stage.Pptt, codes "PpttEntryCut")
code_row code.PpttEntryLength = (51, stage.Pptt, codes "PpttEntryLength")
code_row code.DanglingParent = (52, stage.References, codes "DanglingParent")
code_row code.DanglingResource = (53, stage.References, codes "DanglingResource")
code_row code.DanglingCache = (54, stage.References, codes "DanglingCache")
code_row code.ParentCycle = (55, stage.Parents, codes "ParentCycle")
code_row code.CacheCycle = (56, stage.Caches, codes "CacheCycle")
code_row code.TwoDomains = (57, stage.Domains, codes "TwoDomains")
code_row code.GsiNowhere = (58, stage.Served, codes "GsiNowhere")
code_row code.LeafUnknown = (59, stage.Leaves, codes "LeafUnknown")

abbrev pub code_number : Code → ℕ
code_number c = (code_row c).0

abbrev pub stage_of : Code → Stage
stage_of c = (code_row c).1

abbrev pub code_name : Code → List ℕ
code_name c = (code_row c).2

-- all codes, in the order of their numbers
abbrev pub all_codes : List Code
all_codes =
    code.RsdpOut ∷ code.RsdpSignature ∷ code.RsdpSum ∷ code.RsdpTailOut ∷ code.RsdpLength ∷
    code.RsdpLongOut ∷ code.RsdpExtendedSum ∷ code.NoRoot ∷ code.RootHeaderOut ∷
    code.RootSignature ∷ code.RootLength ∷ code.RootOut ∷ code.RootRagged ∷ code.RootSum ∷
    code.TableHeaderOut ∷ code.TableLength ∷ code.TableOut ∷ code.TableSum ∷ code.NoFadt ∷
    code.FadtShort ∷ code.PmEventLength ∷ code.PmControlLength ∷ code.PmTimerLength ∷
    code.GpeLength ∷ code.ResetRegister ∷ code.NoFacs ∷ code.FacsAlign ∷ code.FacsHeaderOut ∷
    code.FacsSignature ∷ code.FacsLength ∷ code.FacsOut ∷ code.MadtShort ∷ code.MadtEntryCut ∷
    code.MadtEntryLength ∷ code.OverrideBus ∷ code.ReservedInti ∷ code.SecondAddressOverride ∷
    code.GsiPastEnd ∷ code.GsiClash ∷ code.OverrideClash ∷ code.SratShort ∷ code.SratEntryCut ∷
    code.SratEntryLength ∷ code.RangePastEnd ∷ code.Overlap ∷ code.SlitShort ∷ code.SlitSize ∷
    code.SlitDiagonal ∷ code.SlitLow ∷ code.PpttEntryCut ∷ code.PpttEntryLength ∷
    code.DanglingParent ∷ code.DanglingResource ∷ code.DanglingCache ∷ code.ParentCycle ∷
    code.CacheCycle ∷ code.TwoDomains ∷ code.GsiNowhere ∷ code.LeafUnknown ∷ []
