use Rattle.std.proofs.Common.{◌+◌, ◌^◌, ◌≤◌, length, sym, subst}
use Rattle.std.specs.Prelude.{MatchOption}
use Rattle.std.specs.List.{AllByRecursion}
use Rattle.acpi_base.specs.Image.Draft.{IsFirstTwice, IsOnceBefore}
use Rattle.acpi_base.specs.Image.Pieces.{Piece, LiesBefore}
use Rattle.acpi_base.proofs.Images.FirstTwice.{fault_is, match_weaker, none_twice}
use Rattle.acpi_base.proofs.Images.Holders.{all_permuted}
use Rattle.acpi_base.proofs.Images.Stores.{all_weaker}
use Rattle.acpi_base.proofs.image.draft.judge.Goals as goal

pub first_twice-requires-clause-fits : goal.first_twice-requires-clause-fits
first_twice-requires-clause-fits c =
    let lies = all_permuted (LiesBefore (length c.args.store.now)) _ _ c.sort_by_address.ensures.permutation
    c.requires.lies in
    subst (AllByRecursion (λ (p : Piece). p.0 + p.1.len ≤ 2 ^ 64)) (sym c.deref.ensures.value)
    (all_weaker _ _ _ (λ p inside. inside.1) lies)

pub returns-clause-judged : goal.returns-clause-judged
returns-clause-judged c =
    match_weaker c.first_twice.result
    (none_twice c.args.store.now _ _ c.requires c.sort_by_address.ensures.permutation)
    (λ x first. fault_is c.args.store.now _ _ x c.requires c.sort_by_address.ensures.permutation first)
    (subst (λ qs. MatchOption c.first_twice.result (IsOnceBefore qs (length c.args.store.now)) (IsFirstTwice qs))
    c.deref.ensures.value c.first_twice.ensures)
