-- The result of each call, or why it is refused.
use Rattle.std.specs.Prelude.{◌≡◌, ◌↔◌, ℕ, ◌⊎◌, Bool, IsTrue, List, Option, Some, None, Result, Ok, Err}
use Rattle.std.specs.Option.{option_or}
use Rattle.acpi_base.specs.Codes.{code_number, stage_number}
use Rattle.acpi_base.specs.Faults.{Fault, IsVerdict}
use Rattle.acpi_lint.specs.Rules.Findings.{AreFindings}
use Rattle.acpi_base.specs.Memory.{Memory}
use Rattle.acpi_base.specs.Policy.{PolicyValue}
use Rattle.acpi_base.specs.RsdpSearch.{IsFound, IsNowhere}
use Rattle.acpi_base.specs.declared.code.Code.{Code}
use Rattle.acpi_lint.specs.declared.rule.Advice.{Advice}
use Rattle.acpi_base.specs.declared.stage.Stage.{Stage}
use Rattle.acpi_base.specs.declared.stage.Stage.TheVariants as stage
use Rattle.acpi_base.specs.declared.verdict.Verdict.{Verdict}
use Rattle.acpi_base.specs.declared.verdict.Verdict.TheVariants.{Yes, No}
use Rattle.acpi_base.specs.declared.witness.Witness.{Witness}
use Rattle.acpi_c.specs.Settings.{policy_of, policy_refusal, stage_refusal, code_refusal, base_refusal}
use Rattle.acpi_c.specs.Sources.{Source, Fails}
use Rattle.acpi_c.specs.declared.answer.Finding.{Finding}
use Rattle.acpi_c.specs.declared.refusal.Refusal.{Refusal}
use Rattle.acpi_c.specs.declared.refusal.Refusal.TheVariants as refusal
use Rattle.acpi_c.specs.declared.settings.Inputs.{Inputs}
use Rattle.acpi_c.specs.declared.settings.Settings.{Settings}
use Rattle.acpi_write.specs.Rebuilding.{IsRebuildRefusal}
use Rattle.acpi_write.specs.SetBytes.{AreRebuiltBytes}
use Rattle.acpi_write.specs.declared.placing.RebuildFault.{RebuildFault}
use Rattle.acpi_write.specs.declared.placing.RebuildFault.TheVariants as rebuilding

-- The refusal of a call: what is wrong with its numbers, if anything is; otherwise what is wrong with what was passed
-- as an image, or out of memory. So memory runs out only if all numbers are right.
abbrev pub IsRefusal : Option Refusal → Source → Refusal → Type 0
IsRefusal numbers source r = (numbers ≡ Some r) ⊎ ((numbers ≡ None) × Fails source r)

-- the image that was passed, and the policy
pub record Asks (source : Source) (settings : Settings) (inputs : List Inputs) (m : Memory) (q : PolicyValue) : Type 0 where
  pub image : source.Is m
  pub policy : policy_of settings inputs ≡ Ok q

-- ---- a check

-- the verdict is right through the stage that the settings name
pub record Judges (source : Source) (settings : Settings) (inputs : List Inputs) (v : Verdict) : Type 0 where
  pub image : Memory
  pub policy : PolicyValue
  pub asked : Asks source settings inputs image policy
  pub last : Stage
  pub through : stage_number last ≡ settings.through
  pub verdict : IsVerdict last image policy v

abbrev pub Checks : Source → Settings → List Inputs → Result Verdict Refusal → Type 0
Checks source settings inputs (Ok v) = Judges source settings inputs v
Checks source settings inputs (Err r) =
    IsRefusal (option_or (policy_refusal settings inputs) (stage_refusal settings.through)) source r

-- ---- a confirmation

-- whether the finding is a fault of the image
pub record Tells (source : Source) (settings : Settings) (inputs : List Inputs) (f : Finding) (b : Bool) : Type 0 where
  pub image : Memory
  pub policy : PolicyValue
  pub asked : Asks source settings inputs image policy
  pub code : Code
  pub number : code_number code ≡ f.number
  pub fault : IsTrue b ↔ Fault image policy (record { code = code; at = f.at; other = f.other; point = f.point })

abbrev pub Confirms : Source → Settings → List Inputs → Finding → Result Bool Refusal → Type 0
Confirms source settings inputs f (Ok b) = Tells source settings inputs f b
Confirms source settings inputs f (Err r) =
    IsRefusal (option_or (policy_refusal settings inputs) (code_refusal f.number)) source r

-- ---- all findings

-- these are the faults and the advice that are reported for the image
pub record Reports (source : Source) (settings : Settings) (inputs : List Inputs) (found : List Witness × List Advice) : Type 0 where
  pub image : Memory
  pub policy : PolicyValue
  pub asked : Asks source settings inputs image policy
  pub findings : AreFindings image policy found.0 found.1

abbrev pub Lints : Source → Settings → List Inputs → Result (List Witness × List Advice) Refusal → Type 0
Lints source settings inputs (Ok found) = Reports source settings inputs found
Lints source settings inputs (Err r) = IsRefusal (policy_refusal settings inputs) source r

-- ---- a set that is shown

-- the bytes of a text, or a fault instead, as a verdict
abbrev pub verdict_of : Result (List ℕ) Witness → Verdict
verdict_of (Ok bytes) = Yes
verdict_of (Err w) = No w

-- There is a text exactly if the stages up to the listed tables hold; otherwise this is the first fault. What the text
-- says is not stated.
pub record Presents (source : Source) (settings : Settings) (inputs : List Inputs) (made : Result (List ℕ) Witness) : Type 0 where
  pub image : Memory
  pub policy : PolicyValue
  pub asked : Asks source settings inputs image policy
  pub verdict : IsVerdict stage.Tables image policy (verdict_of made)

abbrev pub Shows : Source → Settings → List Inputs → Result (Result (List ℕ) Witness) Refusal → Type 0
Shows source settings inputs (Ok made) = Presents source settings inputs made
Shows source settings inputs (Err r) = IsRefusal (policy_refusal settings inputs) source r

-- ---- a set that is rebuilt

-- the bytes of the rebuilt set; or the set is not clean, and this is its first fault
abbrev pub IsRebuiltOrFault : Memory → PolicyValue → ℕ → Result (List ℕ) Witness → Type 0
IsRebuiltOrFault m q base (Ok bytes) = AreRebuiltBytes m q base bytes
IsRebuiltOrFault m q base (Err w) = IsRebuildRefusal m q base (rebuilding.NotClean w)

pub record Moves (source : Source) (settings : Settings) (inputs : List Inputs) (base : ℕ) (made : Result (List ℕ) Witness) : Type 0 where
  pub image : Memory
  pub policy : PolicyValue
  pub asked : Asks source settings inputs image policy
  pub rebuilt : IsRebuiltOrFault image policy base made

-- why a clean set cannot be placed at a base address
abbrev pub placing_refusal : RebuildFault → Option Refusal
placing_refusal rebuilding.TableTooLong = Some refusal.TableTooLong
placing_refusal rebuilding.PastEnd = Some refusal.PastEnd
placing_refusal rebuilding.NeedsLow = Some refusal.NeedsLow
placing_refusal _ = None

-- the set is clean, and this is why it cannot be placed at the base address
pub record DoesNotFit (source : Source) (settings : Settings) (inputs : List Inputs) (base : ℕ) (r : Refusal) : Type 0 where
  pub image : Memory
  pub policy : PolicyValue
  pub asked : Asks source settings inputs image policy
  pub fault : RebuildFault
  pub why : IsRebuildRefusal image policy base fault
  pub refusal : placing_refusal fault ≡ Some r

abbrev pub Rebuilds : Source → Settings → List Inputs → ℕ → Result (Result (List ℕ) Witness) Refusal → Type 0
Rebuilds source settings inputs base (Ok made) = Moves source settings inputs base made
Rebuilds source settings inputs base (Err r) =
    IsRefusal (option_or (policy_refusal settings inputs) (base_refusal base)) source r
    ⊎ DoesNotFit source settings inputs base r

-- ---- the search for the RSDP

abbrev pub Finds : Source → Result (Option ℕ) Refusal → Type 0
Finds source (Ok (Some p)) = (m : Memory) × source.Is m × IsFound m p
Finds source (Ok None) = (m : Memory) × source.Is m × IsNowhere m
Finds source (Err r) = IsRefusal None source r
