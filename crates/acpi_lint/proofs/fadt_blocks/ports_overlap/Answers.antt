use Rattle.std.proofs.Common.{◌≡◌, ◌<◌, ◌+◌, ◌∷◌, [], ℕ, suc, zero, drop, false, map, refl, rules, arith}
use Rattle.std.proofs.lemmas.List.{append-nil, append_assoc}
use Rattle.std.proofs.Math.ListN.{drop_of_length-le}
use Rattle.acpi_base.specs.Fadt.{is_reduced}
use Rattle.acpi_rules.proofs.LeastPlaces.{least_as}
use Rattle.acpi_lint.specs.Rules.Ports.{block_range, blocks}
use Rattle.acpi_lint.proofs.CollectedNumbers.{each_ok}
use Rattle.acpi_lint.proofs.fadt_blocks.ports_overlap.Goals as goal

-- after the block k those from the next one on
next_block : (k : ℕ) → k < 8 → drop k blocks ≡ k ∷ drop (k + 1) blocks
next_block zero below = refl
next_block (suc zero) below = refl
next_block (suc (suc zero)) below = refl
next_block (suc (suc (suc zero))) below = refl
next_block (suc (suc (suc (suc zero)))) below = refl
next_block (suc (suc (suc (suc (suc zero))))) below = refl
next_block (suc (suc (suc (suc (suc (suc zero)))))) below = refl
next_block (suc (suc (suc (suc (suc (suc (suc zero))))))) below = refl
next_block (suc (suc (suc (suc (suc (suc (suc (suc k)))))))) below = absurd (omega (arith, below))

pub loop-k-init : goal.loop-k-init
loop-k-init c = rw c.new-ranges.ensures.items refl

pub loop-k-preserved : goal.loop-k-preserved
loop-k-preserved c =
    let whole = c.args.fadt.now in
    let k = c.loop-k.k in
    let before = rw (next_block k c.loop-k-test.true) at c.loop-k.invariant in
    rw (
      c.in_ok-push.ensures.items,
      c.block_range.ensures,
      append_assoc c.loop-k.ranges.items (block_range whole k ∷ []) (map (block_range whole) (drop (k + 1) blocks)),
    ) before

pub returns : goal.returns
returns c =
    let full : is_reduced c.args.fadt.now ≡ false = search rules in
    let all = rw (drop_of_length-le blocks {i = c.loop-k.k} c.loop-k-test.false, append-nil c.loop-k.ranges.items) at
    c.loop-k.invariant in
    each_ok c.first_overlap.result
    (λ found least. least_as found (λ at other point here. (full, here)) (λ at other point here. here.1) least)
    (rw all at c.first_overlap.ensures.found)
