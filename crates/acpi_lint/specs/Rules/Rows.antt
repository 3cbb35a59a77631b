-- The rules of advice: their numbers and names. scripts/lists.py writes rule_row and all_rules.
use Rattle.std.specs.Prelude.{◌≡◌, ℕ, Bool, true, List, [], ◌∷◌, ◌==◌, Option, codes, find, map}
use Rattle.std.specs.List.{list_all}
use Rattle.std.specs.Str.{bytes_eq}
use Rattle.acpi_lint.specs.declared.rule.Rule.{Rule}
use Rattle.acpi_lint.specs.declared.rule.Rule.TheVariants as rule

-- a rule's place among all of them, its number, and its name as a line of advice has it
abbrev pub rule_row : Rule → ℕ × ℕ × List ℕ
rule_row rule.ListedTwice = (0, 101, codes "ListedTwice")
rule_row rule.SecondTable = (1, 102, codes "SecondTable")
rule_row rule.ListedApart = (2, 103, codes "ListedApart")
rule_row rule.FadtOfRevision = (3, 104, codes "FadtOfRevision")
rule_row rule.FacsDiffers = (4, 105, codes "FacsDiffers")
rule_row rule.DsdtDiffers = (5, 106, codes "DsdtDiffers")
rule_row rule.BlockDiffers = (6, 107, codes "BlockDiffers")
rule_row rule.SciNowhere = (7, 108, codes "SciNowhere")
rule_row rule.SameUid = (8, 109, codes "SameUid")
rule_row rule.SameApicId = (9, 110, codes "SameApicId")
rule_row rule.IoApicAtZero = (10, 111, codes "IoApicAtZero")
rule_row rule.SameIoApicId = (11, 112, codes "SameIoApicId")
rule_row rule.SameIoApicAddress = (12, 113, codes "SameIoApicAddress")
rule_row rule.NmiNowhere = (13, 114, codes "NmiNowhere")
rule_row rule.SecondGicd = (14, 115, codes "SecondGicd")
rule_row rule.NoProcessor = (15, 116, codes "NoProcessor")
rule_row rule.TwoUidDomains = (16, 117, codes "TwoUidDomains")
rule_row rule.AffinityNowhere = (17, 118, codes "AffinityNowhere")
rule_row rule.NoDomain = (18, 119, codes "NoDomain")
rule_row rule.DomainPastSlit = (19, 120, codes "DomainPastSlit")
rule_row rule.SlitDiffers = (20, 121, codes "SlitDiffers")
rule_row rule.SameLeaf = (21, 122, codes "SameLeaf")
rule_row rule.CacheShape = (22, 123, codes "CacheShape")
rule_row rule.SameCacheId = (23, 124, codes "SameCacheId")
rule_row rule.NoLeaf = (24, 125, codes "NoLeaf")
rule_row rule.LeafNowhere = (25, 126, codes "LeafNowhere")
rule_row rule.MadtUnread = (26, 127, codes "MadtUnread")
rule_row rule.SratUnread = (27, 128, codes "SratUnread")
rule_row rule.NullSlot = (28, 129, codes "NullSlot")
rule_row rule.RsdtDiffers = (29, 130, codes "RsdtDiffers")
rule_row rule.TablesOverlap = (30, 131, codes "TablesOverlap")
rule_row rule.NoDsdt = (31, 132, codes "NoDsdt")
rule_row rule.DsdtWrong = (32, 133, codes "DsdtWrong")
rule_row rule.NoPm1Block = (33, 134, codes "NoPm1Block")
rule_row rule.BlockWidth = (34, 135, codes "BlockWidth")
rule_row rule.HalfBlock = (35, 136, codes "HalfBlock")
rule_row rule.PortsOverlap = (36, 137, codes "PortsOverlap")
rule_row rule.PortPastEnd = (37, 138, codes "PortPastEnd")
rule_row rule.GpeOverlap = (38, 139, codes "GpeOverlap")
rule_row rule.SmiHalf = (39, 140, codes "SmiHalf")
rule_row rule.SciZero = (40, 141, codes "SciZero")
rule_row rule.ResetNowhere = (41, 142, codes "ResetNowhere")
rule_row rule.FadtForArch = (42, 143, codes "FadtForArch")
rule_row rule.SleepRegister = (43, 144, codes "SleepRegister")
rule_row rule.FadtReserved = (44, 145, codes "FadtReserved")
rule_row rule.FacsReserved = (45, 146, codes "FacsReserved")
rule_row rule.RsdpReserved = (46, 147, codes "RsdpReserved")
rule_row rule.HeaderText = (47, 148, codes "HeaderText")
rule_row rule.SecondOther = (48, 149, codes "SecondOther")
rule_row rule.X2ApicBelow255 = (49, 150, codes "X2ApicBelow255")
rule_row rule.BroadcastId = (50, 151, codes "BroadcastId")
rule_row rule.CapableTooEarly = (51, 152, codes "CapableTooEarly")
rule_row rule.EnabledAndCapable = (52, 153, codes "EnabledAndCapable")
rule_row rule.OverridePastIsa = (53, 154, codes "OverridePastIsa")
rule_row rule.TimerLevel = (54, 155, codes "TimerLevel")
rule_row rule.TwoSourcesOneGsi = (55, 156, codes "TwoSourcesOneGsi")
rule_row rule.LintNotOne = (56, 157, codes "LintNotOne")
rule_row rule.NoIoApic = (57, 158, codes "NoIoApic")
rule_row rule.NoDistributor = (58, 159, codes "NoDistributor")
rule_row rule.NoRedistributor = (59, 160, codes "NoRedistributor")
rule_row rule.GicrTooSmall = (60, 161, codes "GicrTooSmall")
rule_row rule.GiccBaseDiffers = (61, 162, codes "GiccBaseDiffers")
rule_row rule.SameMpidr = (62, 163, codes "SameMpidr")
rule_row rule.MpidrReserved = (63, 164, codes "MpidrReserved")
rule_row rule.GicrEmpty = (64, 165, codes "GicrEmpty")
rule_row rule.SameIts = (65, 166, codes "SameIts")
rule_row rule.SameMsiFrame = (66, 167, codes "SameMsiFrame")
rule_row rule.GicOverlap = (67, 168, codes "GicOverlap")
rule_row rule.RedistributorTwice = (68, 169, codes "RedistributorTwice")
rule_row rule.NoBootMethod = (69, 170, codes "NoBootMethod")
rule_row rule.SameHart = (70, 171, codes "SameHart")
rule_row rule.MadtReserved = (71, 172, codes "MadtReserved")
rule_row rule.NoMemoryRange = (72, 173, codes "NoMemoryRange")
rule_row rule.EmptyRange = (73, 174, codes "EmptyRange")
rule_row rule.InitiatorOff = (74, 175, codes "InitiatorOff")
rule_row rule.DomainPastRevision = (75, 176, codes "DomainPastRevision")
rule_row rule.ItsNowhere = (76, 177, codes "ItsNowhere")
rule_row rule.SratReserved = (77, 178, codes "SratReserved")
rule_row rule.RemoteAsLocal = (78, 179, codes "RemoteAsLocal")
rule_row rule.LeafUnflagged = (79, 180, codes "LeafUnflagged")
rule_row rule.LeafAsParent = (80, 181, codes "LeafAsParent")
rule_row rule.NoPackage = (81, 182, codes "NoPackage")
rule_row rule.CacheNumbers = (82, 183, codes "CacheNumbers")
rule_row rule.PpttReserved = (83, 184, codes "PpttReserved")
rule_row rule.McfgLength = (84, 185, codes "McfgLength")
rule_row rule.EcamAddress = (85, 186, codes "EcamAddress")
rule_row rule.BusesReversed = (86, 187, codes "BusesReversed")
rule_row rule.EcamWraps = (87, 188, codes "EcamWraps")
rule_row rule.EcamTooHigh = (88, 189, codes "EcamTooHigh")
rule_row rule.SameBus = (89, 190, codes "SameBus")
rule_row rule.EcamOverlap = (90, 191, codes "EcamOverlap")
rule_row rule.HpetLength = (91, 192, codes "HpetLength")
rule_row rule.HpetSpace = (92, 193, codes "HpetSpace")
rule_row rule.HpetAddress = (93, 194, codes "HpetAddress")
rule_row rule.HmatHeader = (94, 195, codes "HmatHeader")
rule_row rule.HmatCut = (95, 196, codes "HmatCut")
rule_row rule.HmatLength = (96, 197, codes "HmatLength")
rule_row rule.HmatDataType = (97, 198, codes "HmatDataType")
rule_row rule.HmatHierarchy = (98, 199, codes "HmatHierarchy")
rule_row rule.HmatUnit = (99, 200, codes "HmatUnit")
rule_row rule.HmatTooLarge = (100, 201, codes "HmatTooLarge")
rule_row rule.HmatSameDomain = (101, 202, codes "HmatSameDomain")
rule_row rule.HmatProximity = (102, 203, codes "HmatProximity")
rule_row rule.HmatDomainNowhere = (103, 204, codes "HmatDomainNowhere")
rule_row rule.HmatCacheNowhere = (104, 205, codes "HmatCacheNowhere")
rule_row rule.HmatCache = (105, 206, codes "HmatCache")
rule_row rule.HmatAlone = (106, 207, codes "HmatAlone")
rule_row rule.GtdtLength = (107, 208, codes "GtdtLength")
rule_row rule.NoGtdt = (108, 209, codes "NoGtdt")
rule_row rule.NoTimer = (109, 210, codes "NoTimer")
rule_row rule.TimerNoPpi = (110, 211, codes "TimerNoPpi")
rule_row rule.SameTimer = (111, 212, codes "SameTimer")
rule_row rule.PlatformTimerCut = (112, 213, codes "PlatformTimerCut")
rule_row rule.TimerBlock = (113, 214, codes "TimerBlock")
rule_row rule.TimerFrame = (114, 215, codes "TimerFrame")
rule_row rule.SameFrame = (115, 216, codes "SameFrame")
rule_row rule.Watchdog = (116, 217, codes "Watchdog")
rule_row rule.TimerNoSpi = (117, 218, codes "TimerNoSpi")
rule_row rule.TimerOverlap = (118, 219, codes "TimerOverlap")
rule_row rule.DmarWidth = (119, 240, codes "DmarWidth")
rule_row rule.DmarCut = (120, 241, codes "DmarCut")
rule_row rule.DmarShort = (121, 242, codes "DmarShort")
rule_row rule.NoDrhd = (122, 243, codes "NoDrhd")
rule_row rule.ScopeCut = (123, 244, codes "ScopeCut")
rule_row rule.ScopeType = (124, 245, codes "ScopeType")
rule_row rule.DrhdAddress = (125, 246, codes "DrhdAddress")
rule_row rule.DrhdOverlap = (126, 247, codes "DrhdOverlap")
rule_row rule.SecondIncludeAll = (127, 248, codes "SecondIncludeAll")
rule_row rule.IncludeAllNotLast = (128, 249, codes "IncludeAllNotLast")
rule_row rule.RmrrRange = (129, 250, codes "RmrrRange")
rule_row rule.RmrrNoDevice = (130, 251, codes "RmrrNoDevice")
rule_row rule.RhsaNowhere = (131, 252, codes "RhsaNowhere")
rule_row rule.RhsaDomain = (132, 253, codes "RhsaDomain")
rule_row rule.SameRhsa = (133, 254, codes "SameRhsa")
rule_row rule.AnddName = (134, 255, codes "AnddName")
rule_row rule.AnddNowhere = (135, 256, codes "AnddNowhere")
rule_row rule.IoApicUnmapped = (136, 257, codes "IoApicUnmapped")
rule_row rule.SameScope = (137, 258, codes "SameScope")
rule_row rule.IvrsCut = (138, 259, codes "IvrsCut")
rule_row rule.IvrsShort = (139, 260, codes "IvrsShort")
rule_row rule.NoIvhd = (140, 261, codes "NoIvhd")
rule_row rule.IvhdAddress = (141, 262, codes "IvhdAddress")
rule_row rule.SameIvhd = (142, 263, codes "SameIvhd")
rule_row rule.IvhdDiffers = (143, 264, codes "IvhdDiffers")
rule_row rule.IvhdEntryCut = (144, 265, codes "IvhdEntryCut")
rule_row rule.IvhdEntryType = (145, 266, codes "IvhdEntryType")
rule_row rule.IvhdRange = (146, 267, codes "IvhdRange")
rule_row rule.IoApicNotInIvrs = (147, 268, codes "IoApicNotInIvrs")
rule_row rule.SameSpecial = (148, 269, codes "SameSpecial")
rule_row rule.IvmdRange = (149, 270, codes "IvmdRange")
rule_row rule.SpcrLength = (150, 271, codes "SpcrLength")
rule_row rule.SpcrAddress = (151, 272, codes "SpcrAddress")
rule_row rule.SpcrBaud = (152, 273, codes "SpcrBaud")
rule_row rule.SpcrGsi = (153, 274, codes "SpcrGsi")
rule_row rule.SpcrPci = (154, 275, codes "SpcrPci")
rule_row rule.SpcrName = (155, 276, codes "SpcrName")
rule_row rule.RsdpText = (156, 279, codes "RsdpText")
rule_row rule.RootHeader = (157, 280, codes "RootHeader")
rule_row rule.DsdtText = (158, 281, codes "DsdtText")
rule_row rule.FadtPastRevision = (159, 282, codes "FadtPastRevision")
rule_row rule.ArmBootEarly = (160, 283, codes "ArmBootEarly")
rule_row rule.FixedInReduced = (161, 284, codes "FixedInReduced")
rule_row rule.SmiHandshake = (162, 285, codes "SmiHandshake")
rule_row rule.S4BiosDiffers = (163, 286, codes "S4BiosDiffers")
rule_row rule.GpePastEnd = (164, 287, codes "GpePastEnd")
rule_row rule.BlockTooLong = (165, 288, codes "BlockTooLong")
rule_row rule.BlockSpace = (166, 289, codes "BlockSpace")
rule_row rule.BlockUsualWidth = (167, 290, codes "BlockUsualWidth")
rule_row rule.SleepNotReduced = (168, 291, codes "SleepNotReduced")
rule_row rule.FadtForRiscv = (169, 292, codes "FadtForRiscv")
rule_row rule.GiccShort = (170, 293, codes "GiccShort")
rule_row rule.GiccNoGicr = (171, 294, codes "GiccNoGicr")
rule_row rule.CapableNoGicr = (172, 295, codes "CapableNoGicr")
rule_row rule.GiccDiffers = (173, 296, codes "GiccDiffers")
rule_row rule.SameGicrBase = (174, 297, codes "SameGicrBase")
rule_row rule.ParkingVersion = (175, 298, codes "ParkingVersion")
rule_row rule.GiccNoPpi = (176, 299, codes "GiccNoPpi")
rule_row rule.PicVersion = (177, 300, codes "PicVersion")
rule_row rule.FurtherReserved = (178, 301, codes "FurtherReserved")
rule_row rule.HartInvalid = (179, 302, codes "HartInvalid")
rule_row rule.WakeupMailbox = (180, 303, codes "WakeupMailbox")
rule_row rule.LapicAtZero = (181, 304, codes "LapicAtZero")
rule_row rule.MadtRevision = (182, 305, codes "MadtRevision")
rule_row rule.AffinityReserved = (183, 306, codes "AffinityReserved")
rule_row rule.DeviceHandle = (184, 307, codes "DeviceHandle")
rule_row rule.ItsDomain = (185, 308, codes "ItsDomain")
rule_row rule.PpttUnread = (186, 309, codes "PpttUnread")
rule_row rule.CacheIdZero = (187, 310, codes "CacheIdZero")
rule_row rule.SameCacheType = (188, 311, codes "SameCacheType")

abbrev pub rule_place : Rule → ℕ
rule_place r = (rule_row r).0

abbrev pub rule_number : Rule → ℕ
rule_number r = (rule_row r).1

abbrev pub rule_name : Rule → List ℕ
rule_name r = (rule_row r).2

-- all of them, in the order of their numbers
abbrev pub all_rules : List Rule
all_rules =
    rule.ListedTwice ∷ rule.SecondTable ∷ rule.ListedApart ∷ rule.FadtOfRevision ∷ rule.FacsDiffers ∷
    rule.DsdtDiffers ∷ rule.BlockDiffers ∷ rule.SciNowhere ∷ rule.SameUid ∷ rule.SameApicId ∷
    rule.IoApicAtZero ∷ rule.SameIoApicId ∷ rule.SameIoApicAddress ∷ rule.NmiNowhere ∷ rule.SecondGicd ∷
    rule.NoProcessor ∷ rule.TwoUidDomains ∷ rule.AffinityNowhere ∷ rule.NoDomain ∷ rule.DomainPastSlit ∷
    rule.SlitDiffers ∷ rule.SameLeaf ∷ rule.CacheShape ∷ rule.SameCacheId ∷ rule.NoLeaf ∷ rule.LeafNowhere ∷
    rule.MadtUnread ∷ rule.SratUnread ∷ rule.NullSlot ∷ rule.RsdtDiffers ∷ rule.TablesOverlap ∷ rule.NoDsdt ∷
    rule.DsdtWrong ∷ rule.NoPm1Block ∷ rule.BlockWidth ∷ rule.HalfBlock ∷ rule.PortsOverlap ∷
    rule.PortPastEnd ∷ rule.GpeOverlap ∷ rule.SmiHalf ∷ rule.SciZero ∷ rule.ResetNowhere ∷ rule.FadtForArch ∷
    rule.SleepRegister ∷ rule.FadtReserved ∷ rule.FacsReserved ∷ rule.RsdpReserved ∷ rule.HeaderText ∷
    rule.SecondOther ∷ rule.X2ApicBelow255 ∷ rule.BroadcastId ∷ rule.CapableTooEarly ∷
    rule.EnabledAndCapable ∷ rule.OverridePastIsa ∷ rule.TimerLevel ∷ rule.TwoSourcesOneGsi ∷
    rule.LintNotOne ∷ rule.NoIoApic ∷ rule.NoDistributor ∷ rule.NoRedistributor ∷ rule.GicrTooSmall ∷
    rule.GiccBaseDiffers ∷ rule.SameMpidr ∷ rule.MpidrReserved ∷ rule.GicrEmpty ∷ rule.SameIts ∷
    rule.SameMsiFrame ∷ rule.GicOverlap ∷ rule.RedistributorTwice ∷ rule.NoBootMethod ∷ rule.SameHart ∷
    rule.MadtReserved ∷ rule.NoMemoryRange ∷ rule.EmptyRange ∷ rule.InitiatorOff ∷ rule.DomainPastRevision ∷
    rule.ItsNowhere ∷ rule.SratReserved ∷ rule.RemoteAsLocal ∷ rule.LeafUnflagged ∷ rule.LeafAsParent ∷
    rule.NoPackage ∷ rule.CacheNumbers ∷ rule.PpttReserved ∷ rule.McfgLength ∷ rule.EcamAddress ∷
    rule.BusesReversed ∷ rule.EcamWraps ∷ rule.EcamTooHigh ∷ rule.SameBus ∷ rule.EcamOverlap ∷
    rule.HpetLength ∷ rule.HpetSpace ∷ rule.HpetAddress ∷ rule.HmatHeader ∷ rule.HmatCut ∷ rule.HmatLength ∷
    rule.HmatDataType ∷ rule.HmatHierarchy ∷ rule.HmatUnit ∷ rule.HmatTooLarge ∷ rule.HmatSameDomain ∷
    rule.HmatProximity ∷ rule.HmatDomainNowhere ∷ rule.HmatCacheNowhere ∷ rule.HmatCache ∷ rule.HmatAlone ∷
    rule.GtdtLength ∷ rule.NoGtdt ∷ rule.NoTimer ∷ rule.TimerNoPpi ∷ rule.SameTimer ∷ rule.PlatformTimerCut ∷
    rule.TimerBlock ∷ rule.TimerFrame ∷ rule.SameFrame ∷ rule.Watchdog ∷ rule.TimerNoSpi ∷ rule.TimerOverlap ∷
    rule.DmarWidth ∷ rule.DmarCut ∷ rule.DmarShort ∷ rule.NoDrhd ∷ rule.ScopeCut ∷ rule.ScopeType ∷
    rule.DrhdAddress ∷ rule.DrhdOverlap ∷ rule.SecondIncludeAll ∷ rule.IncludeAllNotLast ∷ rule.RmrrRange ∷
    rule.RmrrNoDevice ∷ rule.RhsaNowhere ∷ rule.RhsaDomain ∷ rule.SameRhsa ∷ rule.AnddName ∷
    rule.AnddNowhere ∷ rule.IoApicUnmapped ∷ rule.SameScope ∷ rule.IvrsCut ∷ rule.IvrsShort ∷ rule.NoIvhd ∷
    rule.IvhdAddress ∷ rule.SameIvhd ∷ rule.IvhdDiffers ∷ rule.IvhdEntryCut ∷ rule.IvhdEntryType ∷
    rule.IvhdRange ∷ rule.IoApicNotInIvrs ∷ rule.SameSpecial ∷ rule.IvmdRange ∷ rule.SpcrLength ∷
    rule.SpcrAddress ∷ rule.SpcrBaud ∷ rule.SpcrGsi ∷ rule.SpcrPci ∷ rule.SpcrName ∷ rule.RsdpText ∷
    rule.RootHeader ∷ rule.DsdtText ∷ rule.FadtPastRevision ∷ rule.ArmBootEarly ∷ rule.FixedInReduced ∷
    rule.SmiHandshake ∷ rule.S4BiosDiffers ∷ rule.GpePastEnd ∷ rule.BlockTooLong ∷ rule.BlockSpace ∷
    rule.BlockUsualWidth ∷ rule.SleepNotReduced ∷ rule.FadtForRiscv ∷ rule.GiccShort ∷ rule.GiccNoGicr ∷
    rule.CapableNoGicr ∷ rule.GiccDiffers ∷ rule.SameGicrBase ∷ rule.ParkingVersion ∷ rule.GiccNoPpi ∷
    rule.PicVersion ∷ rule.FurtherReserved ∷ rule.HartInvalid ∷ rule.WakeupMailbox ∷ rule.LapicAtZero ∷
    rule.MadtRevision ∷ rule.AffinityReserved ∷ rule.DeviceHandle ∷ rule.ItsDomain ∷ rule.PpttUnread ∷
    rule.CacheIdZero ∷ rule.SameCacheType ∷ []

-- the rule with this number
unfoldable pub rule_numbered : ℕ → Option Rule
rule_numbered number = find (λ r. rule_number r == number) all_rules

-- the rule with this name
unfoldable pub rule_named : List ℕ → Option Rule
rule_named name = find (λ r. bytes_eq (rule_name r) name) all_rules

-- ---- the code's table of the rules

abbrev pub BorRule : Type 0
BorRule = Rule × ℕ

-- whether a row has its rule's number
abbrev pub is_row : BorRule → Bool
is_row row = row.1 == rule_number row.0

-- the rows are those of all rules, in their order
pub record AreRows (rows : List BorRule) : Type 0 where
  pub all : map (λ row. row.0) rows ≡ all_rules
  pub each : list_all is_row rows ≡ true
