use Rattle.std.proofs.Common.{◌≡◌, ◌*◌, ◌/◌, ◌-◌, drop, take, get_or, length, ap, ◌∙◌, arith}
use Rattle.std.proofs.lemmas.List.{take_all, length-drop}
use Rattle.acpi_base.proofs.Texts.ByteSearch.{none_in_block, none_in_whole_block, found_in_block, none_behind}
use Rattle.acpi_base.proofs.text.image_text.byte_search.first_index.Goals as goal

pub returns-clause-before : goal.returns-clause-before
returns-clause-before c =
    let text = c.args.text.now in
    let at = 64 * (length text / 64) in
    let rest : take (length text - at) (drop at text) ≡ drop at text =
    take_all (length text - at) (drop at text) (omega (arith, length-drop at text)) in
    none_behind c.args.byte text at c.index_in_rest.result (λ k l. c.loop-block.invariant k (omega arith))
    (λ k l is. c.index_in_rest.ensures.before k l (ap (λ t. get_or t k 0) rest ∙ is))

pub returns-then-before-lt64-clause-before : goal.returns-then-before-lt64-clause-before
returns-then-before-lt64-clause-before c =
    none_in_block c.args.byte c.args.text.now (64 * c.loop-block.block) c.index_in_block-before.result
    c.loop-block.invariant (omega arith) c.index_in_block-before.ensures

pub returns-then-before-lt64-clause-found : goal.returns-then-before-lt64-clause-found
returns-then-before-lt64-clause-found c within =
    found_in_block c.args.byte c.args.text.now (64 * c.loop-block.block) c.index_in_block-before.result (omega arith)
    c.index_in_block-before.ensures c.if-before-lt64.true

pub loop-block-preserved : goal.loop-block-preserved
loop-block-preserved c k l =
    none_in_whole_block c.args.byte c.args.text.now (64 * c.loop-block.block) c.index_in_block-before.result
    c.loop-block.invariant (omega arith) c.index_in_block-before.ensures c.if-before-lt64.false k (omega arith)
