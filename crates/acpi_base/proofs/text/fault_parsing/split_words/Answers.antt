use Rattle.std.proofs.Common.{rules, ◌≡◌, None}
use Rattle.acpi_base.proofs.Texts.FaultTexts.{stage_first, name_next, at_next, line_has_blank, stage_has_blank_behind, name_has_blank_behind, at_has_blank_behind}
use Rattle.acpi_base.proofs.text.fault_parsing.split_words.Goals as goal

pub returns-in_err-stage : goal.returns-in_err-stage
returns-in_err-stage c =
    let none : c.from_residual.result ≡ None = search rules in
    rw none (λ w fits line. line_has_blank c.args.text.now w line c.in_err-stage.ensures)

pub returns-in_err-name : goal.returns-in_err-name
returns-in_err-name c =
    let none : c.from_residual-in_err-name.result ≡ None = search rules in
    rw none
    (λ w fits line.
    let stages = stage_first c.args.text.now c.in_ok-stage.stage.now c.in_ok-stage.rest.now w line
    c.in_ok-stage.ensures.0 c.in_ok-stage.ensures.1 in
    stage_has_blank_behind c.in_ok-stage.rest.now w stages.1 c.in_err-name.ensures)

pub returns-in_err-at : goal.returns-in_err-at
returns-in_err-at c =
    let none : c.from_residual-in_err-at.result ≡ None = search rules in
    rw none
    (λ w fits line.
    let stages = stage_first c.args.text.now c.in_ok-stage.stage.now c.in_ok-stage.rest.now w line
    c.in_ok-stage.ensures.0 c.in_ok-stage.ensures.1 in
    let names = name_next c.in_ok-stage.rest.now c.in_ok-name.name.now c.in_ok-name.rest.now w stages.1
    c.in_ok-name.ensures.0 c.in_ok-name.ensures.1 in
    name_has_blank_behind c.in_ok-name.rest.now w names.1 c.in_err-at.ensures)

pub returns-in_err-other : goal.returns-in_err-other
returns-in_err-other c =
    let none : c.from_residual-in_err-other.result ≡ None = search rules in
    rw none
    (λ w fits line.
    let stages = stage_first c.args.text.now c.in_ok-stage.stage.now c.in_ok-stage.rest.now w line
    c.in_ok-stage.ensures.0 c.in_ok-stage.ensures.1 in
    let names = name_next c.in_ok-stage.rest.now c.in_ok-name.name.now c.in_ok-name.rest.now w stages.1
    c.in_ok-name.ensures.0 c.in_ok-name.ensures.1 in
    let ats = at_next c.in_ok-name.rest.now c.in_ok-at.at.now c.in_ok-at.rest.now w fits names.1 c.in_ok-at.ensures.0
    c.in_ok-at.ensures.1 in
    at_has_blank_behind c.in_ok-at.rest.now w ats.1 c.in_err-other.ensures)
