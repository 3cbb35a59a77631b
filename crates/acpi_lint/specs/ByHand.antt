-- What the rules that are not rows find in a set, one after another.
use Rattle.std.specs.Prelude.{◌≡◌, ℕ, List, [], ◌∷◌, ◌++◌}
use Rattle.acpi_base.specs.Memory.{Memory}
use Rattle.acpi_base.specs.Policy.{PolicyValue}
use Rattle.acpi_base.specs.Slit.{SlitContents, HasSlitSize}
use Rattle.acpi_lint.specs.RowFindings.{AreFirsts}
use Rattle.acpi_lint.specs.RowGroups.{OfAny}
use Rattle.acpi_lint.specs.Rules.Broken.{IsBrokenByHand}
use Rattle.acpi_lint.specs.Rules.Rows.{rule_number}
use Rattle.acpi_lint.specs.declared.row_findings.Found.{Found}
use Rattle.acpi_lint.specs.declared.rule.Rule.{Rule}
use Rattle.acpi_lint.specs.declared.rule.Rule.TheVariants as rule

-- the set breaks the rule, which has this number
abbrev pub BreaksByHand : Memory → PolicyValue → Rule → ℕ → ℕ → ℕ → ℕ → Type 0
BreaksByHand m q r number at other point = (rule_number r ≡ number) × IsBrokenByHand r m q at other point

-- these are the first findings of these rules
unfoldable pub AreFoundByHand : Memory → PolicyValue → List Rule → List Found → Type 0
AreFoundByHand m q rules found = AreFirsts (OfAny (BreaksByHand m q) rules) found

-- after the first findings of some rules, those of these stand there too
abbrev pub Adds : Memory → PolicyValue → List Rule → List Found → List Found → Type 0
Adds m q rules before after =
    (done : List Rule) → AreFoundByHand m q done before → AreFoundByHand m q (rules ++ done) after

-- P of a SLIT that has the right size
abbrev pub InSized : (SlitContents → ℕ → ℕ → ℕ → Type 0) → SlitContents → ℕ → ℕ → ℕ → Type 0
InSized P slit at other point = HasSlitSize slit × P slit at other point

-- ---- the rules, from the last on that is looked for, by what they look at

abbrev pub slot_rules : List Rule
slot_rules =
    rule.SecondOther ∷ rule.HeaderText ∷ rule.RootHeader ∷ rule.NullSlot ∷ rule.ListedApart ∷ rule.SecondTable
    ∷ rule.ListedTwice ∷ []

abbrev pub memory_rules : List Rule
memory_rules = rule.RsdpText ∷ rule.RsdpReserved ∷ rule.TablesOverlap ∷ rule.RsdtDiffers ∷ []

abbrev pub fadt_rules : List Rule
fadt_rules =
    rule.S4BiosDiffers ∷ rule.FacsReserved ∷ rule.DsdtText ∷ rule.DsdtWrong ∷ rule.PortPastEnd ∷ rule.PortsOverlap ∷ []

abbrev pub fadt_madt_rules : List Rule
fadt_madt_rules = rule.SciNowhere ∷ []

abbrev pub madt_rules : List Rule
madt_rules = rule.NoGtdt ∷ rule.GicrTooSmall ∷ []

abbrev pub slit_rules : List Rule
slit_rules = rule.RemoteAsLocal ∷ rule.SlitDiffers ∷ []

abbrev pub pptt_rules : List Rule
pptt_rules = rule.SameCacheType ∷ rule.NoPackage ∷ []

abbrev pub mcfg_rules : List Rule
mcfg_rules = rule.EcamOverlap ∷ []

abbrev pub hmat_rules : List Rule
hmat_rules = rule.HmatAlone ∷ []

abbrev pub gtdt_rules : List Rule
gtdt_rules = rule.TimerOverlap ∷ []

abbrev pub spcr_rules : List Rule
spcr_rules = rule.SpcrGsi ∷ rule.SpcrName ∷ []

-- all of them
abbrev pub rules_by_hand : List Rule
rules_by_hand =
    pptt_rules ++ (slit_rules ++ (madt_rules ++ (fadt_madt_rules ++ (fadt_rules ++ (memory_rules ++ (slot_rules
    ++ (spcr_rules ++ (gtdt_rules ++ (hmat_rules ++ mcfg_rules)))))))))
