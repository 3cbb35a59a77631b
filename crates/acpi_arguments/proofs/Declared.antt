-- A command is declared to `clap` argument by argument.
use Rattle.std.proofs.Common.{◌≡◌, ◌∙◌, Bool, ◌||◌, false, ap, ap₂}
use Rattle.clap.specs.Words.{AddsArg, App, Rule, app_of, rule_of, with_rule}
use Rattle.clap.specs.declared.builder.arg.Arg.{Arg}
use Rattle.clap.specs.declared.builder.command.Command.{Command}
use Rattle.clap.specs.declared.builder.command.Command.TheViews.{out-Command}

-- the command is declared so, and none of its arguments belongs to subcommands too
abbrev pub IsDeclared : Command → App → Type 0
IsDeclared command line = (app_of command ≡ line) × ((out-Command command).has_globals ≡ false)

pub one_more : (old : Command) (a : Arg) (new : Command) (line : App) (rule : Rule) → IsDeclared old line
    → rule_of a ≡ rule → a.global ≡ false → AddsArg old a new
    → IsDeclared new (with_rule line rule)
one_more old a new line rule is is_rule own adds =
    (adds.shape own ∙ ap₂ with_rule is.0 is_rule, adds.globals ∙ ap₂ (λ (x y : Bool). x || y) is.1 own)

pub several_more : (old new : Command) (line : App) (change : App → App) → IsDeclared old line
    → app_of new ≡ change (app_of old) → (out-Command new).has_globals ≡ false → IsDeclared new (change line)
several_more old new line change is changed own = (changed ∙ ap change is.0, own)
