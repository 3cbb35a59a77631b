use Rattle.std.proofs.Common.{rules}
use Rattle.std.proofs.lemmas.List.Sorted.{IsNonDecreasingBy-from_sort_by_key}
use Rattle.acpi_base.specs.Image.Pieces.{Piece}
use Rattle.acpi_base.proofs.image.sorting.sort_few.Goals as goal

pub returns-in-Ok-clause-sorted : goal.returns-in-Ok-clause-sorted
returns-in-Ok-clause-sorted c =
    IsNonDecreasingBy-from_sort_by_key (λ (p : Piece). p.0) _ c.in-Ok.ensures.sorted (λ a r q k. search rules)

pub returns-in-Err-clause-sorted : goal.returns-in-Err-clause-sorted
returns-in-Err-clause-sorted c =
    IsNonDecreasingBy-from_sort_by_key (λ (p : Piece). p.0) _ c.sort_unstable_by_key.ensures.sorted
    (λ a r q k. search rules)
