use Rattle.std.proofs.Common.{◌≡◌, ◌∙◌, List, [], ◌∷◌, true, map, ap, sym, refl, inl, inr, true≢false}
use Rattle.std.specs.String.{string_bytes}
use Rattle.clap.specs.Words.{App, HasKind, Kinds, Text, fault_of, is_simple, is_simple_and_free, kind_of, subcommand_of}
use Rattle.clap.specs.declared.error.Error.{Error}
use Rattle.clap.specs.declared.error.kind.ErrorKind.TheVariants.{OutOfMemory}
use Rattle.clap.proofs.OnLiterals.{clap_on_literals}
use Rattle.acpi_arguments.specs.CommandLine.{are_none, check_line, command_line, confirm_line, find_line, command_of, is_taken, lint_line, rebuild_line, show_line}
use Rattle.acpi_arguments.proofs.command_line.parse.Goals as goal

simple : is_simple command_line ≡ true
unfolding command_line check_line lint_line confirm_line rebuild_line show_line find_line clap_on_literals
simple = refl

simple_and_free : is_simple_and_free command_line ≡ true
unfolding command_line check_line lint_line confirm_line rebuild_line show_line find_line clap_on_literals
simple_and_free = refl

only_memory : (kinds : Kinds) (e : Error) → are_none kinds ≡ true → HasKind kinds e → kind_of e ≡ OutOfMemory
only_memory [] e taken (inl memory) = memory
only_memory [] e taken (inr other) = absurd other
only_memory (k ∷ ks) e taken h = absurd (true≢false (sym taken))

pub returns-in-Ok-try_get_matches_from-clause-taken : goal.returns-in-Ok-try_get_matches_from-clause-taken
unfolding is_taken
returns-in-Ok-try_get_matches_from-clause-taken c =
    let words : List Text = map string_bytes c.args.words.now in
    let line = c.in-Ok.ensures.line in
    let none = c.in-Ok-try_get_matches_from.ensures.kinds (ap is_simple_and_free line ∙ simple_and_free) in
    ap (λ (a : App). are_none (fault_of a words)) (sym line) ∙ ap are_none none

pub returns-in-Ok-try_get_matches_from-clause-command : goal.returns-in-Ok-try_get_matches_from-clause-command
unfolding command_of
returns-in-Ok-try_get_matches_from-clause-command c =
    let words : List Text = map string_bytes c.args.words.now in
    let line = c.in-Ok.ensures.line in
    (c.in-Ok-try_get_matches_from.ensures.matches (ap is_simple line ∙ simple)).1
    ∙ ap (λ (a : App). subcommand_of a words) line

pub returns-in-Err-clause-refused : goal.returns-in-Err-clause-refused
unfolding is_taken
returns-in-Err-clause-refused c = λ taken.
    let words : List Text = map string_bytes c.args.words.now in
    let line = c.in-Ok.ensures.line in
    let fails = c.in-Err.ensures.kinds (ap is_simple_and_free line ∙ simple_and_free) in
    c.fault_of.ensures.memory (only_memory _ c.in-Err.error (ap (λ (a : App). are_none (fault_of a words)) line ∙ taken)
    fails)
