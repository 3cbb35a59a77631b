-- What a command function reads, writes and returns.
use Rattle.std.specs.Prelude.{◌≡◌, ◌≤◌, ◌⊎◌, ◌+◌, ◌++◌, ℕ, Bool, if◌then◌else◌, List, [], ◌∷◌, length, take, codes, filter, nat_eq, not, Option, Some, None, Result, Ok, Err, true, false}
use Rattle.std.specs.List.{flat_map, list_any}
use Rattle.std.specs.Io.KnownBytes.{Appends, Consumes, IsAtEnd, Keeps}
use Rattle.acpi_base.specs.Memory.{Memory}
use Rattle.acpi_base.specs.Policy.{PolicyValue, new_policy, with_rsdp}
use Rattle.acpi_base.specs.Text.ImageText.{IsText, max_text}
use Rattle.acpi_base.specs.Text.TextReading.{CountsRead, IsFaultlessPrefix, IsRefusal, is_of_text}
use Rattle.acpi_base.specs.Tally.{CountedDevice, CountsFailure}
use Rattle.acpi_base.specs.RsdpSearch.{IsFound, IsNowhere}
use Rattle.acpi_base.specs.Faults.{Fault, IsVerdict}
use Rattle.acpi_lint.specs.Rules.Findings.{AreFindings}
use Rattle.acpi_base.specs.Statements.{CleanTo}
use Rattle.acpi_base.specs.Text.WitnessText.{hex_text, verdict_line}
use Rattle.acpi_base.specs.Text.WrittenText.{IsWritten}
use Rattle.acpi_lint.specs.AdviceText.{advice_line}
use Rattle.acpi_lint.specs.Rules.Rows.{rule_number}
use Rattle.acpi_lint.specs.declared.rule.Advice.{Advice}
use Rattle.acpi_lint.specs.declared.rule.Rule.{Rule}
use Rattle.acpi_base.specs.declared.stage.Stage.{Stage}
use Rattle.acpi_base.specs.declared.stage.Stage.TheVariants as stage
use Rattle.acpi_base.specs.declared.text.TextFault.{TextFault}
use Rattle.acpi_base.specs.declared.verdict.Verdict.{Verdict}
use Rattle.acpi_base.specs.declared.verdict.Verdict.TheVariants as verdict
use Rattle.acpi_base.specs.declared.witness.Witness.{Witness}
use Rattle.acpi_read.specs.Roots.{RootValue, IsCompleteRoot}
use Rattle.acpi_write.specs.Rebuilding.{IsRebuilt, IsRebuildRefusal}
use Rattle.acpi_write.specs.declared.placing.RebuildFault.{RebuildFault}
use Rattle.acpi_write.specs.declared.placing.RebuildFault.TheVariants as refusal
use Rattle.acpi_arguments.specs.declared.words.Job.{Job}
use Rattle.acpi_arguments.specs.declared.words.Job.TheVariants.{Check, Confirm, Find, Lint, Rebuild, Show}
use Rattle.acpi_cli.specs.declared.outcome.Outcome.{Outcome}
use Rattle.acpi_cli.specs.declared.outcome.Outcome.TheVariants as outcome
use Rattle.acpi_cli.specs.declared.outcome.RunFault.{RunFault}
use Rattle.acpi_cli.specs.declared.outcome.RunFault.TheVariants as run

-- A reader or a writer before and after: the bytes that a reader has left, or that a writer has, if they are known, and its
-- count of failures.
pub record Device : Type 0 where
  pub bytes_before : Option (List ℕ)
  pub bytes_after : Option (List ℕ)
  pub failures_before : ℕ
  pub failures_after : ℕ

-- a counted one, whose bytes `bytes` gives
abbrev pub device : {T : Type 0} → (T → Option (List ℕ)) → CountedDevice T → CountedDevice T → Device
device bytes before after =
    record {
      bytes_before = bytes before.inner;
      bytes_after = bytes after.inner;
      failures_before = before.failures;
      failures_after = after.failures;
    }

-- a call of the device failed: its count rose, or was at its maximum
abbrev pub HasFailed : Device → Type 0
HasFailed device = CountsFailure device.failures_before device.failures_after

-- no call of the device failed: its count is unchanged
abbrev pub HasNotFailed : Device → Type 0
HasNotFailed device = device.failures_after ≡ device.failures_before

-- ---- reading

-- this was read: at most one byte more than a text may have
pub record Reads (input : Device) (text : List ℕ) : Type 0 where
  pub consumed : Consumes input.bytes_before input.bytes_after text
  pub bounded : length text ≤ max_text + 1

-- a text of this image was read to its end
pub record ReadsImage (input : Device) (m : Memory) : Type 0 where
  pub text : List ℕ
  pub read : Reads input text
  pub whole : IsAtEnd input.bytes_after
  pub spells : IsText text m
  pub valid : HasNotFailed input

-- the text that was read is refused with this fault, which is one of a text's own: not out of memory; and no read failed,
-- except perhaps after an address that came twice
pub record ReadsRefused (input : Device) (fault : TextFault) : Type 0 where
  pub text : List ℕ
  pub read : Reads input text
  pub refused : IsRefusal text input.bytes_after fault
  pub own : is_of_text fault ≡ true
  pub valid : CountsRead input.failures_before input.failures_after fault

-- no read failed, and memory ran out, whatever had been read
pub record ReadsOutOfMemory (input : Device) : Type 0 where
  pub text : List ℕ
  pub read : Reads input text
  pub valid : HasNotFailed input

-- a read failed, and what had been read has no fault
pub record ReadsFailed (input : Device) : Type 0 where
  pub text : List ℕ
  pub read : Reads input text
  pub faultless : IsFaultlessPrefix text
  pub failed : HasFailed input

-- What was read, by the result: a complete text, which is the image's; a text that has this fault; if a read failed, bytes
-- without a fault so far; and if memory ran out any bytes. It is never more than one byte beyond the longest text. With any
-- result but `Device`, and a text that gives an address twice, no read failed.
abbrev pub ReadsInput : Device → Result Memory RunFault → Type 0
ReadsInput input (Ok image) = ReadsImage input image
ReadsInput input (Err (run.Image fault)) = ReadsRefused input fault
ReadsInput input (Err run.Memory) = ReadsOutOfMemory input
ReadsInput input (Err run.Device) = ReadsFailed input

-- ---- writing

-- this was written, after what had been written before
abbrev pub Writes : Device → List ℕ → Type 0
Writes output bytes = Appends output.bytes_before output.bytes_after bytes

-- nothing was written, and no write failed
abbrev pub WritesNothing : Device → Type 0
WritesNothing output = Keeps output.bytes_before output.bytes_after × HasNotFailed output

-- What was written: the complete output, with its outcome; or nothing, out of memory; or a prefix of it if the device failed.
abbrev pub WritesOutput : Device → List ℕ → Outcome → Result Outcome RunFault → Type 0
WritesOutput output bytes wanted (Ok returned) = (returned ≡ wanted) × Writes output bytes × HasNotFailed output
WritesOutput output bytes wanted (Err (run.Image fault)) = ⊥
WritesOutput output bytes wanted (Err run.Memory) = WritesNothing output
WritesOutput output bytes wanted (Err run.Device) = HasFailed output × ((n : ℕ) × Writes output (take n bytes))

-- ---- command functions

-- What a command does that reports on an image. It reads a text of an image and writes its report, unless memory runs out or
-- the writer fails; or it writes nothing, if the text is refused, a read failed or the program is out of memory.
abbrev pub Runs : (Memory → List ℕ → Outcome → Type 0) → Device → Device → Result Outcome RunFault → Type 0
Runs Reports input output result =
    ((m : Memory) × (bytes : List ℕ) × (returned : Outcome) × ReadsImage input m × Reports m bytes returned × WritesOutput output bytes returned result)
    ⊎ ((fault : RunFault) × (result ≡ Err fault) × ReadsInput input (Err fault) × WritesNothing output)

-- the RSDP's address: the one that is given, otherwise the one that is found
abbrev pub IsRsdpAddress : Option ℕ → Memory → ℕ → Type 0
IsRsdpAddress (Some given) m p = p ≡ given
IsRsdpAddress None m p = IsFound m p

-- no address is given, and none is found
abbrev pub HasNoRsdp : Option ℕ → Memory → Type 0
HasNoRsdp (Some given) m = ⊥
HasNoRsdp None m = IsNowhere m

-- the outcome for a verdict
abbrev pub outcome_of : Verdict → Outcome
outcome_of verdict.Yes = outcome.Yes
outcome_of (verdict.No w) = outcome.No

-- a check reports the line of the verdict on the stages up to `last`, with its outcome
pub record ReportsVerdict (given : Option ℕ) (q : PolicyValue) (last : Stage) (m : Memory) (bytes : List ℕ) (returned : Outcome) : Type 0 where
  pub address : ℕ
  pub rsdp : IsRsdpAddress given m address
  pub reported : Verdict
  pub judged : IsVerdict last m (with_rsdp q address) reported
  pub line : bytes ≡ verdict_line reported
  pub outcome : returned ≡ outcome_of reported

-- there is no RSDP to start from
pub record ReportsNoRsdp (given : Option ℕ) (m : Memory) (bytes : List ℕ) (returned : Outcome) : Type 0 where
  pub none : HasNoRsdp given m
  pub line : bytes ≡ codes "no rsdp\n"
  pub outcome : returned ≡ outcome.No

-- what a check reports on an image
abbrev pub ReportsCheck : Option ℕ → PolicyValue → Stage → Memory → List ℕ → Outcome → Type 0
ReportsCheck given q last m bytes returned = ReportsVerdict given q last m bytes returned ⊎ ReportsNoRsdp given m bytes returned

-- the line of a fault
abbrev pub no_line : Witness → List ℕ
no_line w = verdict_line (verdict.No w)

-- the lines of the faults that are reported: `yes` if there is none
abbrev pub fault_lines : List Witness → List ℕ
fault_lines [] = verdict_line verdict.Yes
fault_lines (w ∷ ws) = flat_map no_line (w ∷ ws)

-- and after them those of the advice
abbrev pub finding_lines : List Witness → List Advice → List ℕ
finding_lines faults advice = fault_lines faults ++ flat_map advice_line advice

-- the outcome of a search for all findings: a bad one if there is a fault, and if the search is strict also if there is advice
abbrev pub outcome_of_findings : Bool → List Witness → List Advice → Outcome
outcome_of_findings strict [] [] = outcome.Yes
outcome_of_findings strict [] (a ∷ advice) = if strict then outcome.No else outcome.Yes
outcome_of_findings strict (w ∷ faults) advice = outcome.No

-- a rule is one of these
abbrev pub is_allowed : List Rule → Rule → Bool
is_allowed allowed rule = list_any (λ r. nat_eq (rule_number r) (rule_number rule)) allowed

-- the advice of other rules than these
abbrev pub other_advice : List Rule → List Advice → List Advice
other_advice allowed advice = filter (λ a. not (is_allowed allowed a.rule)) advice

-- a search for everything that is wrong reports the first fault of each code, and the first finding of each rule of advice that
-- is not among these rules
pub record ReportsFindings (allowed : List Rule) (given : Option ℕ) (q : PolicyValue) (strict : Bool) (m : Memory) (bytes : List ℕ) (returned : Outcome) : Type 0 where
  pub address : ℕ
  pub rsdp : IsRsdpAddress given m address
  pub faults : List Witness
  pub advice : List Advice
  pub found : AreFindings m (with_rsdp q address) faults advice
  pub lines : bytes ≡ finding_lines faults (other_advice allowed advice)
  pub outcome : returned ≡ outcome_of_findings strict faults (other_advice allowed advice)

-- what such a search reports on an image
abbrev pub ReportsLint : List Rule → Option ℕ → PolicyValue → Bool → Memory → List ℕ → Outcome → Type 0
ReportsLint allowed given q strict m bytes returned =
    ReportsFindings allowed given q strict m bytes returned ⊎ ReportsNoRsdp given m bytes returned

-- `true` is reported for a fault of the image, and `false` for everything else, with the outcome
abbrev pub TellsFault : Memory → PolicyValue → Witness → List ℕ → Outcome → Type 0
TellsFault m q w bytes returned =
    (Fault m q w × (bytes ≡ codes "true\n") × (returned ≡ outcome.Yes))
    ⊎ ((¬ Fault m q w) × (bytes ≡ codes "false\n") × (returned ≡ outcome.No))

-- a witness is checked, with the RSDP at an address
pub record ReportsFault (given : Option ℕ) (q : PolicyValue) (w : Witness) (m : Memory) (bytes : List ℕ) (returned : Outcome) : Type 0 where
  pub address : ℕ
  pub rsdp : IsRsdpAddress given m address
  pub told : TellsFault m (with_rsdp q address) w bytes returned

-- what is reported on an image of which a fault is to be confirmed
abbrev pub ReportsConfirm : Option ℕ → PolicyValue → Witness → Memory → List ℕ → Outcome → Type 0
ReportsConfirm given q w m bytes returned = ReportsFault given q w m bytes returned ⊎ ReportsNoRsdp given m bytes returned

-- the line of a refusal to rebuild a set: the verdict's if the set is not clean, otherwise the refusal's name; none if memory
-- ran out
abbrev pub IsRefusalLine : RebuildFault → List ℕ → Type 0
IsRefusalLine refusal.Unaligned bytes = bytes ≡ codes "refused Unaligned\n"
IsRefusalLine (refusal.NotClean w) bytes = bytes ≡ verdict_line (verdict.No w)
IsRefusalLine refusal.TableTooLong bytes = bytes ≡ codes "refused TableTooLong\n"
IsRefusalLine refusal.PastEnd bytes = bytes ≡ codes "refused PastEnd\n"
IsRefusalLine refusal.NeedsLow bytes = bytes ≡ codes "refused NeedsLow\n"
IsRefusalLine refusal.Memory bytes = ⊥

-- the written form of the rebuilt image is reported, or the line of a refusal, with the outcome
abbrev pub TellsRebuilt : Memory → PolicyValue → ℕ → List ℕ → Outcome → Type 0
TellsRebuilt m q base bytes returned =
    ((new : Memory) × IsRebuilt m q base new × IsWritten bytes new × (returned ≡ outcome.Yes))
    ⊎ ((refused : RebuildFault) × IsRebuildRefusal m q base refused × IsRefusalLine refused bytes × (returned ≡ outcome.No))

-- a set is rebuilt, with the RSDP at an address
pub record ReportsRebuilt (given : Option ℕ) (q : PolicyValue) (base : ℕ) (m : Memory) (bytes : List ℕ) (returned : Outcome) : Type 0 where
  pub address : ℕ
  pub rsdp : IsRsdpAddress given m address
  pub told : TellsRebuilt m (with_rsdp q address) base bytes returned

-- what is reported on an image whose set is to be rebuilt from a base address on
abbrev pub ReportsRebuild : Option ℕ → PolicyValue → ℕ → Memory → List ℕ → Outcome → Type 0
ReportsRebuild given q base m bytes returned = ReportsRebuilt given q base m bytes returned ⊎ ReportsNoRsdp given m bytes returned

-- the policy under which a set is shown: any will do, as the stages up to the listed tables depend only on the RSDP's address
abbrev pub shown_policy : PolicyValue
shown_policy = new_policy 0 24

-- What is shown for an image: if the stages up to the listed tables hold, lines, which are not defined here; otherwise what a
-- check of those stages reports.
abbrev pub ReportsShow : Option ℕ → Memory → List ℕ → Outcome → Type 0
ReportsShow given m bytes returned =
    ((returned ≡ outcome.Yes) × ((p : ℕ) × IsRsdpAddress given m p × CleanTo stage.Tables m (with_rsdp shown_policy p)))
    ⊎ ((returned ≡ outcome.No) × ReportsCheck given shown_policy stage.Tables m bytes returned)

-- After the line of a verdict, the lines of a set, which are not defined here, if there is a complete root table, whatever its
-- checksum; otherwise nothing.
abbrev pub IsShownAfter : Memory → ℕ → List ℕ → List ℕ → Outcome → Type 0
IsShownAfter m p line bytes returned =
    (((root : RootValue) × IsCompleteRoot m p root) × (returned ≡ outcome.Yes) × ((lines : List ℕ) × (bytes ≡ line ++ lines)))
    ⊎ (((root : RootValue) → ¬ IsCompleteRoot m p root) × (returned ≡ outcome.No) × (bytes ≡ line))

-- the verdict on the stages up to the listed tables, and what is shown after it
pub record ReportsAnyway (given : Option ℕ) (m : Memory) (bytes : List ℕ) (returned : Outcome) : Type 0 where
  pub address : ℕ
  pub rsdp : IsRsdpAddress given m address
  pub reported : Verdict
  pub judged : IsVerdict stage.Tables m (with_rsdp shown_policy address) reported
  pub shown : IsShownAfter m address (verdict_line reported) bytes returned

-- what is shown for an image even if these stages do not hold
abbrev pub ReportsShowAnyway : Option ℕ → Memory → List ℕ → Outcome → Type 0
ReportsShowAnyway given m bytes returned = ReportsAnyway given m bytes returned ⊎ ReportsNoRsdp given m bytes returned

-- the same, by whether a set is shown anyway
abbrev pub ReportsShown : Bool → Option ℕ → Memory → List ℕ → Outcome → Type 0
ReportsShown false = ReportsShow
ReportsShown true = ReportsShowAnyway

-- what a search reports on an image: the RSDP's address, or that none is found
abbrev pub ReportsFound : Memory → List ℕ → Outcome → Type 0
ReportsFound m bytes returned =
    ((p : ℕ) × IsFound m p × (bytes ≡ codes "rsdp " ++ hex_text p ++ codes "\n") × (returned ≡ outcome.Yes))
    ⊎ (IsNowhere m × (bytes ≡ codes "rsdp none\n") × (returned ≡ outcome.No))

-- what a job reports on an image
abbrev pub ReportsJob : Job → Memory → List ℕ → Outcome → Type 0
ReportsJob (Check given policy last) = ReportsCheck given policy last
ReportsJob (Lint allowed given policy strict) = ReportsLint allowed.items given policy strict
ReportsJob (Confirm given policy w) = ReportsConfirm given policy w
ReportsJob (Rebuild given policy base) = ReportsRebuild given policy base
ReportsJob (Show given anyway) = ReportsShown anyway given
ReportsJob Find = ReportsFound
