-- Command lines with valid arguments, and the jobs that they give.
use Rattle.std.proofs.Common.{◌≡◌, ◌∙◌, ◌++◌, ℕ, Bool, List, [], ◌∷◌, Option, Some, None, true, false, true≢false, cond, codes, append_assoc, append-nil, refl, ap, sym, ◌==◌}
use Rattle.std.specs.Prelude.{IfSome, find as find_first, fold, is_some, option_and_then, option_map}
use Rattle.std.specs.List.{list_all, onto_first, slice_split}
use Rattle.std.specs.Str.{bytes_eq}
use Rattle.std.proofs.lemmas.Bool.{not-true}
use Rattle.std.proofs.lemmas.Option.{option_and_then_some}
use Rattle.clap.specs.Words.{Row, Rule, Shape, Text}
use Rattle.clap.specs.Simple.{App, built, entered, label_of, names_of}
use Rattle.clap.specs.Walk.{Names, Walk, answers_to, finished, idle, nothing_held, settled, subcommand_met, walk, walk_from, walked}
use Rattle.clap.specs.Kinds.{or_else}
use Rattle.clap.specs.Faults.{built_fault, check_fault, defaults_fault, entered_fault, settle_fault, walk_fault}
use Rattle.clap.proofs.OnLiterals.{clap_on_literals}
use Rattle.acpi_base.specs.Laws.{NumbersFit}
use Rattle.acpi_base.specs.Policy.{PolicyValue}
use Rattle.acpi_base.specs.Text.WitnessText.{witness_line}
use Rattle.acpi_base.specs.declared.witness.Witness.{Witness}
use Rattle.acpi_lint.specs.Rules.Rows.{rule_named}
use Rattle.acpi_lint.specs.declared.rule.Rule.{Rule as AdviceRule}
use Rattle.acpi_arguments.specs.CommandLine.{Asked, PolicyTexts, allow_word, are_none, asked_job, base_word, check, asked_check, check_line, check_words, asked_command, command_line, command_of, confirm, asked_confirm, confirm_line, confirm_words, default_word, find, find_line, find_words, hotplug_word, inputs_policy, is_taken, judging_asked, last_word, lint, asked_lint, lint_line, lint_words, options_words, policy_options, policy_words, processors_word, rebuild, asked_rebuild, rebuild_line, rebuild_words, rsdp_word, show, asked_show, show_line, show_words, strict_word, values_of, witness_word, words_of}
use Rattle.acpi_arguments.specs.Words.{all_inputs, all_read}
use Rattle.acpi_arguments.proofs.FaultWords.{fault_is_plain, is_read}
use Rattle.acpi_arguments.proofs.CheckRows.{are_distinct, flag_is_found, no_row_behind, option_is_found, options_rows, rows_behind, value_of, words_are_found}
use Rattle.acpi_arguments.proofs.Hyphens.{ArePlain, IsPlain, all_are_plain, no_number, value_is_plain}
use Rattle.acpi_arguments.proofs.Spellings.{made_of}
use Rattle.acpi_arguments.proofs.JudgingArguments.{AllPlain, Line, Reads, all_given, are_new, flag_words, flagged, given, is_option, reads_options, rules, shape, standing, taken}

-- ---- what comes before the arguments of a command

words_behind : (c : List Rule) (names : Names) (w : Walk) (name : Text) (before words : List Text)
    → fold (walked c names) (record w { stopped = Some (name, before) }) words ≡ record w
    { stopped = Some (name, before ++ words) }
unfolding walked
words_behind c names w name before [] =
    ap (λ (all : List Text). record w { stopped = Some (name, all) }) (sym (append-nil before))
words_behind c names w name before (word ∷ words) =
    words_behind c names w name (before ++ word ∷ []) words
    ∙ ap (λ (all : List Text). record w { stopped = Some (name, all) }) (append_assoc before (word ∷ []) words)

no_fault_behind : (s : Shape) (names : Names) (w : Walk) (name : Text) (before words : List Text)
    → walk_fault s names (record w { stopped = Some (name, before) }) words ≡ []
unfolding walked walk_fault
no_fault_behind s names w name before [] = refl
no_fault_behind s names w name before (word ∷ words) = no_fault_behind s names w name (before ++ word ∷ []) words

-- what is left to be checked once the walk is over
after_walk : (a : App) (words : List Text) (w : Walk) → walk a.top.rules (names_of a) nothing_held words ≡ w
    → walk_fault a.top (names_of a) (walk_from nothing_held) words ≡ []
    → built_fault a nothing_held words
    ≡ or_else (entered_fault a w.stopped)
    (or_else (settle_fault a.top.rules a.top.args_override_self w.held)
    (or_else (defaults_fault (settled a.top.rules w.held).rows a.top.rules)
    (check_fault a.top (finished a.top.rules w.held) (is_some (entered a w.stopped)))))
after_walk a words w e fault = rw (fault, e) refl

program_line : App
unfolding command_line check_line lint_line confirm_line rebuild_line show_line find_line
program_line = built command_line

-- the program has the command of such a line
record HasCommand (l : Line) : Type 0 where
  pub no_help : bytes_eq l.name (codes "help") ≡ false
  pub met : subcommand_met (names_of program_line) idle l.name ≡ Some l.name
  pub is : find_first (λ (s : Shape). answers_to l.name (label_of s)) program_line.subs ≡ Some (shape l)

at_command : Line → List Text → Walk
at_command l words = record (walk_from nothing_held) { stopped = Some (l.name, words) }

walks_to : (l : Line) (words : List Text) → HasCommand l
    → walk program_line.top.rules (names_of program_line) nothing_held (l.name ∷ words) ≡ at_command l words
unfolding walked at_command
walks_to l words has =
    rw has.met (words_behind program_line.top.rules (names_of program_line) (walk_from nothing_held) l.name [] words)

no_fault_to : (l : Line) (words : List Text) → HasCommand l
    → walk_fault program_line.top (names_of program_line) (walk_from nothing_held) (l.name ∷ words) ≡ []
unfolding walked walk_fault
no_fault_to l words has =
    rw (has.met, has.no_help)
    (no_fault_behind program_line.top (names_of program_line) (walk_from nothing_held) l.name
    [] words)

-- what comes before it has no fault either
no_fault_before : (l : Line) (words : List Text)
    → or_else (settle_fault program_line.top.rules program_line.top.args_override_self (at_command l words).held)
    (or_else (defaults_fault (settled program_line.top.rules (at_command l words).held).rows program_line.top.rules)
    (check_fault program_line.top (finished program_line.top.rules (at_command l words).held) true)) ≡ []
unfolding program_line command_line check_line lint_line confirm_line rebuild_line show_line find_line at_command
    clap_on_literals
no_fault_before l words = refl

command_is_taken : (l : Line) (program : Text) (words : List Text) (rows : List Row) → HasCommand l
    → Reads l (standing [] None idle) words rows → is_taken (program ∷ l.name ∷ words) ≡ true
unfolding is_taken program_line at_command
command_is_taken l program words rows has reads =
    ap are_none {y = []} (after_walk program_line (l.name ∷ words) (at_command l words) (walks_to l words has)
    (no_fault_to l words has)
    ∙ rw (has.is, taken l words rows reads) (no_fault_before l words))

-- the command is entered with these rows
command_is_entered : (l : Line) (program : Text) (words : List Text) (rows : List Row) → HasCommand l
    → Reads l (standing [] None idle) words rows
    → command_of (program ∷ l.name ∷ words) ≡ Some (l.name, flagged l.flag rows)
unfolding command_of program_line at_command shape
command_is_entered l program words rows has reads =
    ap (λ (w : Walk). entered program_line w.stopped) (walks_to l words has)
    ∙ rw (has.is, given l words rows reads) refl

-- ---- plain lines

rsdp_is_plain : (text : Option Text) (rsdp : Option ℕ) → rsdp_word text ≡ Some rsdp → IfSome text IsPlain
rsdp_is_plain text rsdp e = value_is_plain rsdp_word text rsdp refl (λ rest. ap (option_map _) (no_number _ _ _)) e

-- no name begins with a hyphen
no_hyphen : (parts : List Text) → all_read rule_named (onto_first 45 parts) ≡ None
unfolding rule_named
no_hyphen [] = refl
no_hyphen (part ∷ parts) = refl

no_names : allow_word (Some []) ≡ None
unfolding rule_named
no_names = refl

names_are_plain : (names : Option Text) (allowed : List AdviceRule) → allow_word names ≡ Some allowed
    → IfSome names IsPlain
names_are_plain names allowed e =
    value_is_plain allow_word names allowed no_names (λ rest. no_hyphen (slice_split (λ byte. byte == 44) rest)) e

policy_is_plain : (texts : PolicyTexts) (policy : PolicyValue) → policy_words texts ≡ Some policy
    → AllPlain (policy_options texts) × ArePlain texts.inputs
policy_is_plain texts policy e =
    option_and_then_some _ (hotplug_word texts.hotplug) policy e (λ ranges is_hotplug e.
    option_and_then_some _ (processors_word texts.processors) policy e (λ who is_processors e.
    made_of _ (inputs_policy texts.default_inputs texts.inputs) policy e (λ q e same.
    option_and_then_some _ (default_word texts.default_inputs) q e (λ count is_count e.
    made_of _ (all_inputs texts.inputs) q e (λ counts are_counts same. (
      (
        value_is_plain default_word texts.default_inputs count refl (λ rest. ap (option_and_then _) (no_number _ _ _))
            is_count,
        (
          value_is_plain hotplug_word texts.hotplug ranges refl (λ rest. refl) is_hotplug,
          (value_is_plain processors_word texts.processors who refl (λ rest. refl) is_processors, tt),
        ),
      ),
      all_are_plain texts.inputs counts are_counts,
    ))))))

-- what is read of a plain line
abbrev rows_of_line : Line → List Text → List Row
rows_of_line l words = options_rows l.options ++ rows_behind l.flag words

-- the options of a line are distinct and its own, and neither their values nor the other arguments begin with a hyphen
record IsPlainLine (l : Line) (words : List Text) : Type 0 where
  pub command : HasCommand l
  pub own : list_all (λ choice. is_option l.options choice.0) l.options ≡ true
  pub new : are_new [] l.options ≡ true
  pub distinct : are_distinct l.options ≡ true
  pub values : AllPlain l.options
  pub inputs : ArePlain words

line_is_read : (l : Line) (program : Text) (words : List Text) → IsPlainLine l words
    → asked_job (program ∷ l.name ∷ options_words l.options (flag_words l.flag ++ words))
    ≡ asked_command (Some (l.name, rows_of_line l words))
line_is_read l program words plain =
    let reads = reads_options l words plain.own plain.new plain.values plain.inputs in
    let taken : is_taken (program ∷ l.name ∷ options_words l.options (flag_words l.flag ++ words)) ≡ true =
    command_is_taken l program _ _ plain.command reads in
    let entered : command_of (program ∷ l.name ∷ options_words l.options (flag_words l.flag ++ words))
    ≡ Some (l.name, rows_of_line l words) =
    command_is_entered l program _ _ plain.command reads
    ∙ ap (λ (rows : List Row). Some (l.name, rows)) (all_given l.options l.flag words l.no_strict) in
    rw (taken, entered) refl

option_of_line : (l : Line) (words : List Text) (id : Text) → are_distinct l.options ≡ true
    → bytes_eq (codes "inputs") id ≡ false → bytes_eq (codes "strict") id ≡ false
    → values_of (rows_of_line l words) id ≡ value_of id l.options
option_of_line l words id distinct other another =
    option_is_found id l.options (rows_behind l.flag words) distinct (no_row_behind id l.flag words other another)

-- a command gives the same job if its options have the same values
asks_same : {T : Type 0} (make : Option ℕ → PolicyValue → T → Asked) (id : Text) (word : Option Text → Option T)
    (value given : Text → Option Text) (words inputs : List Text)
    → ((id : Text) → bytes_eq (codes "inputs") id ≡ false → bytes_eq (codes "strict") id ≡ false → value id
    ≡ given id)
    → word (value id) ≡ word (given id) → words ≡ inputs
    → judging_asked make id word value words ≡ judging_asked make id word given inputs
asks_same make id word value given words inputs same own e =
    rw (
      same (codes "rsdp") refl refl,
      same (codes "default-inputs") refl refl,
      same (codes "hotplug") refl refl,
      same (codes "processors") refl refl,
      own,
      e,
    ) refl

-- a plain line gives the job that the values of its options say
line_is_asked : {T : Type 0} (make : Option ℕ → PolicyValue → T → Asked) (id : Text) (word : Option Text → Option T)
    (l : Line) (program : Text) (words : List Text)
    → IsPlainLine l words → ((rows : List Row)
    → asked_command (Some (l.name, rows)) ≡ judging_asked make id word (values_of rows) (words_of rows))
    → bytes_eq (codes "inputs") id ≡ false → bytes_eq (codes "strict") id ≡ false
    → asked_job (program ∷ l.name ∷ options_words l.options (flag_words l.flag ++ words))
    ≡ judging_asked make id word (λ id. value_of id l.options) words
line_is_asked make id word l program words plain asks other another =
    let rows = rows_of_line l words in
    line_is_read l program words plain ∙ asks rows
    ∙ asks_same make id word (values_of rows) (λ id. value_of id l.options) (words_of rows) words
    (λ id other another. option_of_line l words id plain.distinct other another)
    (ap word (option_of_line l words id plain.distinct other another))
    (words_are_found l.options l.flag words l.no_inputs)

pub check_words_asked : (program : Text) (hex number : Option Text) (texts : PolicyTexts) (rsdp : Option ℕ)
    (policy : PolicyValue) (last : ℕ)
    → rsdp_word hex ≡ Some rsdp → policy_words texts ≡ Some policy → last_word number ≡ Some last
    → asked_job (check_words program hex number texts) ≡ Some (check rsdp policy last)
unfolding program_line command_line check_line lint_line confirm_line rebuild_line show_line find_line shape rules
    asked_check
check_words_asked program hex number texts rsdp policy last a b c =
    let plain = policy_is_plain texts policy b in
    let l : Line = record {
      name = codes "check";
      options =
          (codes "rsdp", hex) ∷ (codes "through", number) ∷ policy_options texts;
      flag = None;
      no_inputs = refl;
      no_strict = refl;
    } in
    let stage = value_is_plain last_word number last refl (λ rest. ap (option_and_then _) (no_number _ _ _)) c in
    line_is_asked check (codes "through") last_word l program texts.inputs
    (record {
      command = record { no_help = refl; met = refl; is = refl };
      own = refl;
      new = refl;
      distinct = refl;
      values = (rsdp_is_plain hex rsdp a, (stage, plain.0));
      inputs = plain.1;
    }) (λ rows. refl) refl refl
    ∙ rw (a, b, c) refl

pub lint_words_asked : (program : Text) (names hex : Option Text) (texts : PolicyTexts) (strict : Bool)
    (allowed : List AdviceRule) (rsdp : Option ℕ) (policy : PolicyValue)
    → allow_word names ≡ Some allowed → rsdp_word hex ≡ Some rsdp → policy_words texts ≡ Some policy
    → asked_job (lint_words program names hex texts strict) ≡ Some (lint allowed rsdp policy strict)
unfolding program_line command_line check_line lint_line confirm_line rebuild_line show_line find_line shape rules
    asked_lint
lint_words_asked program names hex texts strict allowed rsdp policy n a b =
    let plain = policy_is_plain texts policy b in
    let l : Line = record {
      name = codes "lint";
      options =
          (codes "allow", names) ∷ (codes "rsdp", hex) ∷ policy_options texts;
      flag = Some strict;
      no_inputs = refl;
      no_strict = refl;
    } in
    let rows = rows_of_line l texts.inputs in
    line_is_read l program texts.inputs
    (record {
      command = record { no_help = refl; met = refl; is = refl };
      own = refl;
      new = refl;
      distinct = refl;
      values = (names_are_plain names allowed n, (rsdp_is_plain hex rsdp a, plain.0));
      inputs = plain.1;
    })
    ∙ ap (option_and_then (λ rules. judging_asked (lint rules) (codes "strict") strict_word (values_of rows)
    (words_of rows)))
    (ap allow_word (option_of_line l texts.inputs (codes "allow") refl refl refl) ∙ n)
    ∙ asks_same (lint allowed) (codes "strict") strict_word (values_of rows)
    (λ id. cond (bytes_eq (codes "strict") id) (values_of rows id) (value_of id l.options))
    (words_of rows) texts.inputs
    (λ id other another. rw another (option_of_line l texts.inputs id refl other another))
    refl (words_are_found l.options l.flag texts.inputs l.no_inputs)
    ∙ rw (a, b, flag_is_found l.options strict texts.inputs l.no_strict) refl

pub confirm_words_asked : (program : Text) (w : Witness) (hex : Option Text) (texts : PolicyTexts) (rsdp : Option ℕ)
    (policy : PolicyValue)
    → NumbersFit w → rsdp_word hex ≡ Some rsdp → policy_words texts ≡ Some policy
    → asked_job (confirm_words program (witness_line w) hex texts) ≡ Some (confirm rsdp policy w)
unfolding program_line command_line check_line lint_line confirm_line rebuild_line show_line find_line shape rules
    asked_confirm
confirm_words_asked program w hex texts rsdp policy fits a b =
    let plain = policy_is_plain texts policy b in
    let l : Line = record {
      name = codes "confirm";
      options =
          (codes "witness", Some (witness_line w)) ∷ (codes "rsdp", hex) ∷ policy_options texts;
      flag = None;
      no_inputs = refl;
      no_strict = refl;
    } in
    let fault = is_read (witness_line w) w fits refl in
    line_is_asked confirm (codes "witness") witness_word l program texts.inputs
    (record {
      command = record { no_help = refl; met = refl; is = refl };
      own = refl;
      new = refl;
      distinct = refl;
      values = (fault_is_plain (witness_line w) w fault, (rsdp_is_plain hex rsdp a, plain.0));
      inputs = plain.1;
    }) (λ rows. refl) refl refl
    ∙ rw (a, b, fault) refl

pub rebuild_words_asked : (program base : Text) (at : ℕ) (hex : Option Text) (texts : PolicyTexts) (rsdp : Option ℕ)
    (policy : PolicyValue)
    → base_word (Some base) ≡ Some at → rsdp_word hex ≡ Some rsdp → policy_words texts ≡ Some policy
    → asked_job (rebuild_words program base hex texts) ≡ Some (rebuild rsdp policy at)
unfolding program_line command_line check_line lint_line confirm_line rebuild_line show_line find_line shape rules
    asked_rebuild
rebuild_words_asked program base at hex texts rsdp policy a b c =
    let plain = policy_is_plain texts policy c in
    let l : Line = record {
      name = codes "rebuild";
      options =
          (codes "base", Some base) ∷ (codes "rsdp", hex) ∷ policy_options texts;
      flag = None;
      no_inputs = refl;
      no_strict = refl;
    } in
    let address = value_is_plain base_word (Some base) at refl (λ rest. no_number _ _ _) a in
    line_is_asked rebuild (codes "base") base_word l program texts.inputs
    (record {
      command = record { no_help = refl; met = refl; is = refl };
      own = refl;
      new = refl;
      distinct = refl;
      values = (address, (rsdp_is_plain hex rsdp b, plain.0));
      inputs = plain.1;
    }) (λ rows. refl) refl refl
    ∙ rw (a, b, c) refl

-- a line of `show`, if a value begins with no hyphen
show_is_asked : (program : Text) (hex : Option Text) (rsdp : Option ℕ) (anyway : Bool) → IfSome hex IsPlain
    → rsdp_word hex ≡ Some rsdp
    → asked_job (show_words program hex anyway) ≡ Some (show rsdp anyway)
unfolding is_taken command_of command_line check_line lint_line confirm_line rebuild_line show_line find_line
    asked_show
    clap_on_literals
show_is_asked program None rsdp false plain e = ap (option_map (λ at. show at false)) e
show_is_asked program None rsdp true plain e = ap (option_map (λ at. show at true)) e
show_is_asked program (Some []) rsdp anyway plain e = absurd (true≢false (sym plain))
show_is_asked program (Some (c ∷ cs)) rsdp false plain e = simp (not-true (c == 45) plain, e)
show_is_asked program (Some (c ∷ cs)) rsdp true plain e = simp (not-true (c == 45) plain, e)

pub show_words_asked : (program : Text) (hex : Option Text) (rsdp : Option ℕ) (anyway : Bool)
    → rsdp_word hex ≡ Some rsdp → asked_job (show_words program hex anyway) ≡ Some (show rsdp anyway)
show_words_asked program hex rsdp anyway e = show_is_asked program hex rsdp anyway (rsdp_is_plain hex rsdp e) e

pub find_words_asked : (program : Text) → asked_job (find_words program) ≡ Some find
unfolding is_taken command_of command_line check_line lint_line confirm_line rebuild_line show_line find_line
    clap_on_literals
find_words_asked program = refl
