use Rattle.std.proofs.Common.{ℕ, ◌<◌, ◌≤◌, ◌++◌, sym, subst}
use Rattle.std.specs.List.{All}
use Rattle.std.specs.List.Sorted.{IsPermutation}
use Rattle.std.proofs.lemmas.List.Sorted.{All-permutation, IsPermutation-append, IsPermutation-trans}
use Rattle.acpi_base.specs.Image.Pieces.{Piece}
use Rattle.acpi_base.proofs.Images.Partitioned.{sorted_parts}
use Rattle.acpi_base.proofs.image.sorting.+sort_parts.Goals as goal

pub returns-clause-permutation : goal.returns-clause-permutation
returns-clause-permutation t c =
    let parts = c.split_at_mut-low.ensures in
    IsPermutation-trans c.args.pieces.now c.partition-count.new.pieces _ c.partition-count.ensures.permutation
    (subst (λ all. IsPermutation all (c.sort_parts.new.pieces ++ c.sort_parts-2.new.pieces)) (sym parts.value)
    (IsPermutation-append _ _ _ _ c.sort_parts.ensures.permutation c.sort_parts-2.ensures.permutation))

pub returns-clause-sorted : goal.returns-clause-sorted
returns-clause-sorted t c =
    let parts = c.split_at_mut-low.ensures in
    let middle : ℕ = c.middle-most.result in
    sorted_parts middle c.sort_parts.new.pieces c.sort_parts-2.new.pieces c.sort_parts.ensures.sorted
    c.sort_parts-2.ensures.sorted
    (All-permutation (λ (p : Piece). p.0 ≤ middle) _ _ c.sort_parts.ensures.permutation
    (subst (All (λ (p : Piece). p.0 ≤ middle)) (sym parts.front) c.partition-count.ensures.low))
    (All-permutation (λ (p : Piece). middle < p.0) _ _ c.sort_parts-2.ensures.permutation
    (subst (All (λ (p : Piece). middle < p.0)) (sym parts.back) c.partition-count.ensures.high))
