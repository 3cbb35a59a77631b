use Rattle.std.proofs.Common.{◌≡◌, ◌∙◌, ◌-◌, take, drop, length, false, sym, ap, arith}
use Rattle.std.specs.Fmt.{digits}
use Rattle.std.proofs.lemmas.Slice.{between_to_end}
use Rattle.acpi_base.specs.Text.ImageText.{hex_number}
use Rattle.acpi_base.proofs.Texts.HexTexts.{hex_begins, hex_goes_on, hex_whole, hex_reads_back, length-hex}
use Rattle.acpi_base.proofs.text.fault_parsing.hex_value.Goals as goal

pub returns-then-not-starts_with : goal.returns-then-not-starts_with
returns-then-not-starts_with c = λ n fits is.
    let begins = hex_begins c.args.text.now n is in
    let test = c.starts_with.ensures.value in
    let not_true = c.if-not-starts_with.true in
    cc

pub returns-then-digits-gt16 : goal.returns-then-digits-gt16
returns-then-digits-gt16 c = λ n fits is.
    let rest : take (length c.args.text.now - 2) (drop 2 c.args.text.now) ≡ digits 16 false n =
    between_to_end c.args.text.now 2 (length c.args.text.now) (omega arith) ∙ hex_goes_on c.args.text.now n is in
    omega (arith, ap length rest, length-hex n fits)

pub returns-then-not-spells : goal.returns-then-not-spells
returns-then-not-spells c = λ n fits is.
    let rest : take (length c.args.text.now - 2) (drop 2 c.args.text.now) ≡ digits 16 false n =
    between_to_end c.args.text.now 2 (length c.args.text.now) (omega arith) ∙ hex_goes_on c.args.text.now n is in
    let value : c.number_value-number.result ≡ n = c.number_value-number.ensures ∙ ap (hex_number 0) rest
    ∙ hex_reads_back n fits in
    let spelled = c.spells.ensures.1 (rest ∙ ap (digits 16 false) (sym value)) in
    let not_true = c.if-not-spells.true in
    cc

pub returns : goal.returns
returns c =
    let rest = c.spells.ensures.0 c.if-not-spells.false in (
      omega arith,
      hex_whole c.args.text.now c.number_value-number.result
          (sym c.starts_with.ensures.value ∙ c.if-not-starts_with.false)
          (sym (between_to_end c.args.text.now 2 (length c.args.text.now) (omega arith)) ∙ rest),
    )
