use Rattle.std.proofs.Common.{sym, subst, ◌∙◌, arith}
use Rattle.std.proofs.lemmas.List.{get_or_default}
use Rattle.std.specs.Global.{Global}
use Rattle.std.specs.Prelude.{String}
use Rattle.std.specs.String.{string_bytes}
use Rattle.acpi_arguments.specs.Printable.{IsPrinted}
use Rattle.acpi_arguments.proofs.PrintableTexts.{none_printed, one_printed}
use Rattle.acpi_arguments.proofs.printable.printable_arguments.Goals as goal

pub loop-word-init : goal.loop-word-init
loop-word-init c = rw c.new-printed.ensures.items (none_printed c.args.words.now)

pub loop-word-preserved : goal.loop-word-preserved
loop-word-preserved c =
    let words = c.args.words.now in
    let i = c.loop-word.word-index in
    let text = c.in_ok-printable_text.field-0 in
    rw c.in_ok-push.ensures.items
    (one_printed words c.loop-word.printed.items text i c.loop-word.invariant
    (λ d. subst (λ (word : String Global). IsPrinted (string_bytes word) (string_bytes text))
    (sym (get_or_default words i d c.word-item.result c.loop-word-test.true ∙ sym c.word-item.is))
    (rw c.as_str.ensures.value at c.in_ok-printable_text.ensures)))

pub returns : goal.returns
returns c =
    let so = c.loop-word.invariant in
    let over = c.loop-word-test.false in
    let end = c.loop-word.auto.word-index-end in
    record {
      count = omega (arith, so.0);
      each = λ i d below. so.1 i d (omega arith);
    }
