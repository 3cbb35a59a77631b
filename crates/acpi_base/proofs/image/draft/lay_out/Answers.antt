use Rattle.std.proofs.Common.{◌≡◌, ◌<◌, ℕ, List, Option, None, refl, sym, ap, ◌∙◌, inl}
use Rattle.std.specs.Prelude.{Ok, Err, MatchOption}
use Rattle.std.specs.FinMap.{empty}
use Rattle.std.specs.List.Sorted.{IsNonDecreasingBy, IsPermutation}
use Rattle.acpi_base.specs.declared.image.ImageFault.TheVariants as fault
use Rattle.acpi_base.specs.Image.Draft.{AreDrafted, all_added, holder_count}
use Rattle.acpi_base.specs.Image.Pieces.{Piece, runs_in}
use Rattle.acpi_base.proofs.Images.FirstTwice.{AreJudged, are_judged, told_on}
use Rattle.acpi_base.proofs.image.draft.lay_out.Goals as goal

-- the sorted pieces, if no address comes twice
laid : (store : List ℕ) (ps qs : List Piece) (found : Option ℕ) → AreDrafted store ps → IsPermutation ps qs
    → IsNonDecreasingBy (λ p. p.0) qs → found ≡ None
    → MatchOption found ((x : ℕ) → holder_count ps x < 2) (λ address. all_added empty (runs_in store ps) ≡ Err address)
    → AreJudged store ps qs
laid store ps qs found drafted permutation sorted none judged =
    let once : (x : ℕ) → holder_count ps x < 2 = rw none at judged in
    are_judged store ps qs drafted permutation sorted once

pub segments_of-requires-clause-rising : goal.segments_of-requires-clause-rising
segments_of-requires-clause-rising c =
    let found = c.judge.ensures in
    (laid _ _ _ _ c.requires found.permutation found.sorted c.in_default.is found.judged).rising

pub segments_of-requires-clause-lies : goal.segments_of-requires-clause-lies
segments_of-requires-clause-lies c =
    let found = c.judge.ensures in
    (laid _ _ _ _ c.requires found.permutation found.sorted c.in_default.is found.judged).lies

pub returns-clause-same : goal.returns-clause-same
returns-clause-same c =
    let found = c.judge.ensures in
    (laid _ _ _ _ c.requires found.permutation found.sorted c.in_default.is found.judged).same
    ∙ ap (λ m. Ok m) (sym c.in_ok-segments_of.ensures.same)

pub returns-in_err-segments_of-clause-same : goal.returns-in_err-segments_of-clause-same
returns-in_err-segments_of-clause-same c =
    let found = c.judge.ensures in
    told_on _ c.from_residual.result fault.Memory _ c.from_residual.ensures.1
    (inl (_, refl, (laid _ _ _ _ c.requires found.permutation found.sorted c.in_default.is found.judged).same))
