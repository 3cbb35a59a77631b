-- The command line as it is declared to `clap`, and the job that its arguments give.
use Rattle.std.specs.Prelude.{◌≡◌, ◌==◌, ℕ, ◌&&◌, Bool, true, false, List, [], ◌∷◌, ◌++◌, Option, Some, None}
use Rattle.std.specs.Prelude.{if◌then◌else◌, codes, find as find_first, fold, nat_le, option_and_then, option_map, unwrap_or}
use Rattle.std.specs.List.{slice_split}
use Rattle.std.specs.Str.{bytes_eq}
use Rattle.clap.specs.Words.{App, Kinds, Row, Rule, Text, all_of, fault_of, first_of, new_app, new_rule}
use Rattle.clap.specs.Words.{subcommand_of, with_rule, with_subcommand}
use Rattle.clap.specs.declared.builder.action.ArgAction.TheVariants.{Append, Set, SetTrue}
use Rattle.acpi_base.specs.Codes.{stage_number}
use Rattle.acpi_base.specs.Policy.{PolicyValue, new_policy, with_input}
use Rattle.acpi_base.specs.declared.policy.HotPlug.{HotPlug}
use Rattle.acpi_base.specs.declared.policy.HotPlug.TheVariants.{Apart, Counted}
use Rattle.acpi_base.specs.declared.policy.Processors.{Processors}
use Rattle.acpi_base.specs.declared.policy.Processors.TheVariants.{Enabled, Usable}
use Rattle.acpi_base.specs.declared.witness.Witness.{Witness}
use Rattle.acpi_lint.specs.Rules.Rows.{rule_named}
use Rattle.acpi_lint.specs.declared.rule.Rule.{Rule as AdviceRule}
use Rattle.acpi_arguments.specs.Words.{all_inputs, all_read, count_word, decimal_word, written_fault, hex_word}
use Rattle.acpi_arguments.specs.declared.policy_words.Inputs.{Inputs}
use Rattle.acpi_arguments.specs.declared.words.Job.{Job}
use Rattle.acpi_arguments.specs.declared.words.Job.TheVariants.{Check, Confirm, Find, Lint, Rebuild, Show}

-- ---- the command line, as it is declared to `clap`

-- `--NAME VALUE`, at most once; error messages have a name for the value
abbrev pub option_rule : Text → Rule
option_rule name = record (new_rule name) { long = Some name; action = Some Set; value_names = 1 }

-- `--NAME`, without a value
abbrev pub flag_rule : Text → Rule
flag_rule name = record (new_rule name) { long = Some name; action = Some SetTrue }

-- `ADDRESS=COUNT`, any number of times
abbrev pub inputs_rule : Rule
inputs_rule = record (new_rule (codes "inputs")) { action = Some Append; value_names = 1 }

-- `.. --default-inputs N --hotplug SETTING --processors SETTING`, after a command's own options
abbrev pub with_setting_options : App → App
with_setting_options line =
    with_rule (with_rule (with_rule
    line
    (option_rule (codes "default-inputs")))
    (option_rule (codes "hotplug")))
    (option_rule (codes "processors"))

-- a command with its own two options, and then these
abbrev pub with_options : App → Rule → Rule → App
with_options line first second = with_setting_options (with_rule (with_rule line first) second)

-- the same, and `ADDRESS=COUNT`
abbrev pub judging_line : App → Rule → Rule → App
judging_line line first second = with_rule (with_options line first second) inputs_rule

-- the same, and `--strict`
abbrev pub strict_line : App → Rule → Rule → App
strict_line line first second = with_rule (with_rule (with_options line first second) (flag_rule (codes "strict"))) inputs_rule

-- `check --rsdp HEX --through N --default-inputs N --hotplug SETTING --processors SETTING ADDRESS=COUNT..`
unfoldable pub check_line : App
check_line = judging_line (new_app (codes "check")) (option_rule (codes "rsdp")) (option_rule (codes "through"))

-- `lint --allow NAMES --rsdp HEX --default-inputs N --hotplug SETTING --processors SETTING --strict ADDRESS=COUNT..`
unfoldable pub lint_line : App
lint_line = strict_line (new_app (codes "lint")) (option_rule (codes "allow")) (option_rule (codes "rsdp"))

-- `confirm --witness FAULT --rsdp HEX --default-inputs N --hotplug SETTING --processors SETTING ADDRESS=COUNT..`
unfoldable pub confirm_line : App
confirm_line = judging_line (new_app (codes "confirm")) (option_rule (codes "witness")) (option_rule (codes "rsdp"))

-- `rebuild --base HEX --rsdp HEX --default-inputs N --hotplug SETTING --processors SETTING ADDRESS=COUNT..`
unfoldable pub rebuild_line : App
rebuild_line = judging_line (new_app (codes "rebuild")) (option_rule (codes "base")) (option_rule (codes "rsdp"))

-- `show --rsdp HEX --anyway`
unfoldable pub show_line : App
show_line = with_rule (with_rule (new_app (codes "show")) (option_rule (codes "rsdp"))) (flag_rule (codes "anyway"))

-- `find`
unfoldable pub find_line : App
find_line = new_app (codes "find")

-- `acpiset COMMAND ..`
unfoldable pub command_line : App
command_line =
    with_subcommand (with_subcommand (with_subcommand (with_subcommand (with_subcommand (with_subcommand
    (new_app (codes "acpiset"))
    check_line.top)
    lint_line.top)
    confirm_line.top)
    rebuild_line.top)
    show_line.top)
    find_line.top

abbrev pub are_none : Kinds → Bool
are_none [] = true
are_none (kind ∷ kinds) = false

-- `clap` accepts the arguments, of which the first is the program's name
unfoldable pub is_taken : List Text → Bool
is_taken words = are_none (fault_of command_line words)

-- the command that the arguments name, and the values of its options
unfoldable pub command_of : List Text → Option (Text × List Row)
command_of = subcommand_of command_line

-- ---- the job that the arguments give

pub data Asked : Type 0 where
  -- the RSDP's address, if it is given, the policy, and the number of the last stage
  check : Option ℕ → PolicyValue → ℕ → Asked
  -- the rules that are allowed, the RSDP's address, if it is given, the policy, and whether advice is a bad outcome too
  lint : List AdviceRule → Option ℕ → PolicyValue → Bool → Asked
  -- the RSDP's address, if it is given, the policy, and the fault
  confirm : Option ℕ → PolicyValue → Witness → Asked
  -- the RSDP's address, if it is given, the policy, and the base address
  rebuild : Option ℕ → PolicyValue → ℕ → Asked
  -- the RSDP's address, if it is given, and whether checksums and Lengths may be wrong
  show : Option ℕ → Bool → Asked
  find : Asked

-- `--rsdp HEX`: without it the RSDP is searched for
abbrev pub rsdp_word : Option Text → Option (Option ℕ)
rsdp_word None = Some None
rsdp_word (Some text) = option_map (λ address. Some address) (hex_word 16 text)

-- the number of a stage
abbrev pub stage_of_number : ℕ → Option ℕ
stage_of_number n = if nat_le 1 n && nat_le n 18 then Some n else None

-- `--through N`: without it the last stage
abbrev pub last_word : Option Text → Option ℕ
last_word None = Some 18
last_word (Some text) = option_and_then stage_of_number (decimal_word 2 text)

-- whether a flag is given, by the value that `clap` then gives it
abbrev pub is_set : Option Text → Bool
is_set None = false
is_set (Some text) = bytes_eq text (codes "true")

-- `--strict`
abbrev pub strict_word : Option Text → Option Bool
strict_word value = Some (is_set value)

-- `--allow NAME,NAME..`: the rules with these names
abbrev pub allow_word : Option Text → Option (List AdviceRule)
allow_word None = Some []
allow_word (Some text) = all_read rule_named (slice_split (λ byte. byte == 44) text)

-- `--witness FAULT`: there is no job without it
abbrev pub witness_word : Option Text → Option Witness
witness_word None = None
witness_word (Some text) = written_fault text

-- `--base HEX`: there is no job without it
abbrev pub base_word : Option Text → Option ℕ
base_word None = None
base_word (Some text) = hex_word 16 text

-- `--default-inputs N`: without it an I/O APIC has 24 inputs
abbrev pub default_word : Option Text → Option ℕ
default_word None = Some 24
default_word (Some text) = count_word text

-- the policy with these counts of inputs, given one after another: if an address is repeated, the first count wins
abbrev pub with_inputs : PolicyValue → List Inputs → PolicyValue
with_inputs q counts = fold (λ q inputs. with_input q inputs.address inputs.count) q counts

-- the first of the counts that is given for the I/O APIC at this address
abbrev pub first_count : List Inputs → ℕ → Option ℕ
first_count counts address = option_map (λ inputs. inputs.count) (find_first (λ inputs. inputs.address == address) counts)

-- The policy of `--default-inputs N` and the arguments `ADDRESS=COUNT`. No RSDP is set yet, and the other settings are
-- those of a new policy.
abbrev pub inputs_policy : Option Text → List Text → Option PolicyValue
inputs_policy default_inputs words =
    option_and_then
    (λ inputs. option_map (with_inputs (new_policy 0 inputs)) (all_inputs words))
    (default_word default_inputs)

-- `--hotplug counted` or `--hotplug apart`: without it hot-pluggable memory ranges count as the others do
abbrev pub hotplug_word : Option Text → Option HotPlug
hotplug_word None = Some Counted
hotplug_word (Some text) =
    if bytes_eq text (codes "counted")
    then Some Counted
    else (if bytes_eq text (codes "apart") then Some Apart else None)

-- `--processors enabled` or `--processors usable`: without it only processors with the Enabled flag count as enabled
abbrev pub processors_word : Option Text → Option Processors
processors_word None = Some Enabled
processors_word (Some text) =
    if bytes_eq text (codes "enabled")
    then Some Enabled
    else (if bytes_eq text (codes "usable") then Some Usable else None)

-- the policy with these settings
abbrev pub with_settings : HotPlug → Processors → PolicyValue → PolicyValue
with_settings hotplug processors q = record q { hotplug = hotplug; processors = processors }

-- the arguments that set the policy: the value of each option, if it is given, and the arguments `ADDRESS=COUNT`
pub record PolicyTexts : Type 0 where
  pub default_inputs : Option Text
  pub hotplug : Option Text
  pub processors : Option Text
  pub inputs : List Text

-- The policy that these arguments set, if all of them are valid: the inputs of I/O APICs, and the settings.
abbrev pub policy_words : PolicyTexts → Option PolicyValue
policy_words texts =
    option_and_then
    (λ h. option_and_then
    (λ p. option_map (with_settings h p) (inputs_policy texts.default_inputs texts.inputs))
    (processors_word texts.processors))
    (hotplug_word texts.hotplug)

-- the arguments that set the policy, by the value of each option and the arguments `ADDRESS=COUNT`
abbrev pub texts_of : (Text → Option Text) → List Text → PolicyTexts
texts_of value words = record {
  default_inputs = value (codes "default-inputs");
  hotplug = value (codes "hotplug");
  processors = value (codes "processors");
  inputs = words;
}

-- the values of the options of a command, and its arguments `ADDRESS=COUNT`
abbrev pub values_of : List Row → Text → Option Text
values_of options id = first_of id options

abbrev pub words_of : List Row → List Text
words_of options = unwrap_or (all_of (codes "inputs") options) []

-- the policy among the options of a command
abbrev pub asked_policy : List Row → Option PolicyValue
asked_policy options = policy_words (texts_of (values_of options) (words_of options))

-- the job of a command with a policy: the RSDP's address, the policy, and the value of one more option
abbrev pub judging_asked : {T : Type 0} → (Option ℕ → PolicyValue → T → Asked) → Text → (Option Text → Option T)
    → (Text → Option Text) → List Text → Option Asked
judging_asked make id word value words =
    option_and_then
    (λ rsdp. option_and_then
    (λ policy. option_map (make rsdp policy) (word (value id)))
    (policy_words (texts_of value words)))
    (rsdp_word (value (codes "rsdp")))

-- the options of `check`
unfoldable pub asked_check : List Row → Option Asked
asked_check options = judging_asked check (codes "through") last_word (values_of options) (words_of options)

-- the options of `lint`
unfoldable pub asked_lint : List Row → Option Asked
asked_lint options =
    option_and_then
    (λ allowed. judging_asked (lint allowed) (codes "strict") strict_word (values_of options) (words_of options))
    (allow_word (first_of (codes "allow") options))

-- the options of `confirm`
unfoldable pub asked_confirm : List Row → Option Asked
asked_confirm options = judging_asked confirm (codes "witness") witness_word (values_of options) (words_of options)

-- the options of `rebuild`
unfoldable pub asked_rebuild : List Row → Option Asked
asked_rebuild options = judging_asked rebuild (codes "base") base_word (values_of options) (words_of options)

-- the options of `show`
unfoldable pub asked_show : List Row → Option Asked
asked_show options =
    option_map (λ rsdp. show rsdp (is_set (first_of (codes "anyway") options))) (rsdp_word (first_of (codes "rsdp") options))

abbrev pub asked_command : Option (Text × List Row) → Option Asked
asked_command None = None
asked_command (Some command) =
    if bytes_eq command.0 (codes "check")
    then asked_check command.1
    else (if bytes_eq command.0 (codes "lint")
    then asked_lint command.1
    else (if bytes_eq command.0 (codes "confirm")
    then asked_confirm command.1
    else (if bytes_eq command.0 (codes "rebuild")
    then asked_rebuild command.1
    else (if bytes_eq command.0 (codes "show")
    then asked_show command.1
    else (if bytes_eq command.0 (codes "find") then Some find else None)))))

-- the job that a complete command line gives, if it is valid
abbrev pub asked_job : List Text → Option Asked
asked_job words = if is_taken words then asked_command (command_of words) else None

-- ---- plain command lines

-- `PROGRAM find`
abbrev pub find_words : Text → List Text
find_words program = program ∷ codes "find" ∷ []

-- `--NAME VALUE`, if there is a value
abbrev pub option_words : Text → Option Text → List Text
option_words name None = []
option_words name (Some value) = (codes "--" ++ name) ∷ value ∷ []

-- the arguments of several options, and those after them
abbrev pub options_words : List (Text × Option Text) → List Text → List Text
options_words [] words = words
options_words (choice ∷ options) words = option_words choice.0 choice.1 ++ options_words options words

-- the options of the policy, each with its value, if it is given
abbrev pub policy_options : PolicyTexts → List (Text × Option Text)
policy_options texts =
    (codes "default-inputs", texts.default_inputs)
    ∷ (codes "hotplug", texts.hotplug)
    ∷ (codes "processors", texts.processors)
    ∷ []

-- `PROGRAM check`, the options that are given, and the arguments that set the policy
abbrev pub check_words : Text → Option Text → Option Text → PolicyTexts → List Text
check_words program rsdp through texts =
    program ∷ codes "check"
    ∷ options_words ((codes "rsdp", rsdp) ∷ (codes "through", through) ∷ policy_options texts) texts.inputs

-- `--strict`, if it is given
abbrev pub strict_words : Bool → List Text
strict_words false = []
strict_words true = codes "--strict" ∷ []

-- `PROGRAM lint`, the options that are given, `--strict` if it is given, and the arguments that set the policy
abbrev pub lint_words : Text → Option Text → Option Text → PolicyTexts → Bool → List Text
lint_words program allow rsdp texts strict =
    program ∷ codes "lint"
    ∷ options_words ((codes "allow", allow) ∷ (codes "rsdp", rsdp) ∷ policy_options texts)
    (strict_words strict ++ texts.inputs)

-- `PROGRAM confirm`, the fault's text, the options that are given, and the arguments that set the policy
abbrev pub confirm_words : Text → Text → Option Text → PolicyTexts → List Text
confirm_words program fault rsdp texts =
    program ∷ codes "confirm"
    ∷ options_words ((codes "witness", Some fault) ∷ (codes "rsdp", rsdp) ∷ policy_options texts) texts.inputs

-- `PROGRAM rebuild`, the base address's text, the options that are given, and the arguments that set the policy
abbrev pub rebuild_words : Text → Text → Option Text → PolicyTexts → List Text
rebuild_words program base rsdp texts =
    program ∷ codes "rebuild"
    ∷ options_words ((codes "base", Some base) ∷ (codes "rsdp", rsdp) ∷ policy_options texts) texts.inputs

-- `--anyway`, if it is given
abbrev pub anyway_words : Bool → List Text
anyway_words false = []
anyway_words true = codes "--anyway" ∷ []

-- `PROGRAM show`, and its option and its flag, if they are given
abbrev pub show_words : Text → Option Text → Bool → List Text
show_words program rsdp anyway = program ∷ codes "show" ∷ option_words (codes "rsdp") rsdp ++ anyway_words anyway

-- ---- the job as a value of the program

abbrev pub Does : Asked → Job → Type 0
Does (check rsdp policy last) (Check given carried stage) =
    (given ≡ rsdp) × (carried ≡ policy) × (stage_number stage ≡ last)
Does (lint rules rsdp policy strict) (Lint allowed given carried is_strict) =
    (allowed.items ≡ rules) × (given ≡ rsdp) × (carried ≡ policy) × (is_strict ≡ strict)
Does (confirm rsdp policy w) (Confirm given carried witness) =
    (given ≡ rsdp) × (carried ≡ policy) × (witness ≡ w)
Does (rebuild rsdp policy base) (Rebuild given carried at) =
    (given ≡ rsdp) × (carried ≡ policy) × (at ≡ base)
Does (show rsdp anyway) (Show given is_anyway) = (given ≡ rsdp) × (is_anyway ≡ anyway)
Does find Find = Unit {0}
Does _ _ = ⊥

-- the job does what the arguments give, and they give something
abbrev pub DoesAsked : Option Asked → Job → Type 0
DoesAsked None job = ⊥
DoesAsked (Some what) job = Does what job
