use Rattle.std.proofs.Common.{◌∙◌, ap, ap₂}
use Rattle.std.proofs.lemmas.Result.{IfOk-weaker}
use Rattle.clap.specs.Words.{App, with_subcommand}
use Rattle.acpi_arguments.specs.CommandLine.{command_line, find_line}
use Rattle.acpi_arguments.proofs.command_line.acpiset.Goals as goal

pub returns : goal.returns
unfolding command_line find_line
returns c =
    let check = ap (λ (a : App). a.top) c.in_ok-check.ensures.line in
    let first = c.in_ok-subcommand.ensures.shape c.in_ok-check.ensures.own
    ∙ ap₂ with_subcommand c.new.ensures.app check in
    let lint = ap (λ (a : App). a.top) c.in_ok-lint.ensures.line in
    let second = c.in_ok-subcommand-2.ensures.shape c.in_ok-lint.ensures.own ∙ ap₂ with_subcommand first lint in
    let confirm = ap (λ (a : App). a.top) c.in_ok-confirm.ensures.line in
    let third = c.in_ok-subcommand-3.ensures.shape c.in_ok-confirm.ensures.own ∙ ap₂ with_subcommand second confirm in
    let rebuild = ap (λ (a : App). a.top) c.in_ok-rebuild.ensures.line in
    let fourth = c.in_ok-subcommand-4.ensures.shape c.in_ok-rebuild.ensures.own ∙ ap₂ with_subcommand third rebuild in
    let show = ap (λ (a : App). a.top) c.in_ok-show.ensures.line in
    let fifth = c.in_ok-subcommand-5.ensures.shape c.in_ok-show.ensures.own ∙ ap₂ with_subcommand fourth show in
    let find = ap (λ (a : App). a.top) c.new-2.ensures.app in
    record {
      line = IfOk-weaker c.subcommand-6.result _ _
          (λ command adds. adds.shape c.new-2.ensures.local ∙ ap₂ with_subcommand fifth find) c.subcommand-6.ensures;
    }
