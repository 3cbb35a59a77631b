use Rattle.std.proofs.Common.{Some, ap, sym, ◌∙◌}
use Rattle.acpi_base.specs.Laws.{NumbersFit}
use Rattle.acpi_base.specs.declared.witness.Witness.{Witness}
use Rattle.acpi_base.proofs.Texts.FaultTexts.{words_of, line_of, texts_differ}
use Rattle.acpi_base.proofs.text.fault_parsing.parse_witness.Goals as goal

pub returns-in_err-code_with-clause-every : goal.returns-in_err-code_with-clause-every
returns-in_err-code_with-clause-every c = λ w fits line.
    let of = words_of w fits c.in_ok-words.ensures line in
    absurd (c.in_err-code_with.ensures w.code (record { number = of.stage_is; named = of.name_is }))

pub returns-in_err-hex_value-clause-every : goal.returns-in_err-hex_value-clause-every
returns-in_err-hex_value-clause-every c = λ w fits line.
    let of = words_of w fits c.in_ok-words.ensures line in
    absurd (c.in_err-hex_value.ensures w.at fits.0 of.at_is)

pub returns-in_err-hex_value-2-clause-every : goal.returns-in_err-hex_value-2-clause-every
returns-in_err-hex_value-2-clause-every c = λ w fits line.
    let of = words_of w fits c.in_ok-words.ensures line in
    absurd (c.in_err-hex_value-2.ensures w.other fits.1 of.other_is)

pub returns-in_err-hex_value-3-clause-every : goal.returns-in_err-hex_value-3-clause-every
returns-in_err-hex_value-3-clause-every c = λ w fits line.
    let of = words_of w fits c.in_ok-words.ensures line in
    absurd (c.in_err-hex_value-3.ensures w.point fits.2 of.point_is)

-- the fault that is returned
abbrev found : goal.In_ok-hex_value-3 → Witness
found c = record {
  code = c.in_ok-code_with.field-0;
  at = c.in_ok-hex_value.field-0;
  other = c.in_ok-hex_value-2.field-0;
  point = c.in_ok-hex_value-3.field-0;
}

pub returns-clause-text : goal.returns-clause-text
returns-clause-text c =
    let head = c.in_ok-code_with.ensures in
    line_of (found c) c.in_ok-words.ensures
    (record {
      stage_is = head.number;
      name_is = head.named;
      at_is = c.in_ok-hex_value.ensures.1;
      other_is = c.in_ok-hex_value-2.ensures.1;
      point_is = c.in_ok-hex_value-3.ensures.1;
    })

pub returns-clause-every : goal.returns-clause-every
returns-clause-every c = λ w fits line.
    let fit : NumbersFit (found c) =
    (c.in_ok-hex_value.ensures.0, c.in_ok-hex_value-2.ensures.0, c.in_ok-hex_value-3.ensures.0) in
    ap Some (texts_differ (found c) w fit fits (sym (returns-clause-text c) ∙ line))
