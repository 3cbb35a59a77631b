use Rattle.std.proofs.Common.{◌<◌, ◌≤◌, List, [], ◌∷◌, sym, ap, subst, ◌∙◌, arith}
use Rattle.std.specs.List.{AllByRecursion}
use Rattle.std.specs.Option.{option_or}
use Rattle.std.specs.Result.{result_ok}
use Rattle.std.proofs.lemmas.Option.{same_Some}
use Rattle.std.proofs.lemmas.Result.{IfOk-weaker}
use Rattle.acpi_base.specs.Memory.{byte_of}
use Rattle.acpi_base.specs.Image.Pieces.{Piece, AreSortedDisjoint, runs_in}
use Rattle.acpi_base.specs.Image.Runs.{lookup, memory_of}
use Rattle.acpi_base.specs.Image.Segments.{memory_in}
use Rattle.acpi_base.proofs.Images.Adopted.{apart_joined}
use Rattle.acpi_base.proofs.Images.RunBytes.{byte_of_memory_of}
use Rattle.acpi_base.proofs.Images.RunMemory.{same_memory}
use Rattle.acpi_base.proofs.image.draft.segments_of.Goals as goal

pub are_apart-requires : goal.are_apart-requires
are_apart-requires c =
    subst (AllByRecursion (λ (p : Piece). 0 < p.1.len)) (sym c.deref.ensures.value)
    (filled c.args.pieces.items c.requires.rising)
  where
    filled : (ps : List Piece) → AreSortedDisjoint ps → AllByRecursion (λ p. 0 < p.1.len) ps
    filled [] rising = tt
    filled (p ∷ ps) rising = (rising.0, filled ps rising.2)

pub returns-then-are_apart-clause-same : goal.returns-then-are_apart-clause-same
returns-then-are_apart-clause-same c =
    let all = c.in_ok-ordered.ensures in
    IfOk-weaker c.adopt.result _ _
    (λ segments same. same_Some (memory_in segments) _
    (ap result_ok (sym same ∙ apart_joined _ _ all.draft all.apart)) ∙ ap memory_of all.same)
    c.adopt.ensures.same

pub take_all-requires-clause-behind : goal.take_all-requires-clause-behind
take_all-requires-clause-behind c =
    subst (λ n. AllByRecursion (λ (p : Piece). n ≤ p.0) c.deref-2.result.now) (sym c.in_ok-segments.ensures.end)
    (from_zero c.deref-2.result.now)
  where
    from_zero : (qs : List Piece) → AllByRecursion (λ p. 0 ≤ p.0) qs
    from_zero [] = tt
    from_zero (q ∷ qs) = (omega arith, from_zero qs)

pub returns-clause-same : goal.returns-clause-same
returns-clause-same c =
    let pieces = c.deref-2.result.now in
    same_memory _ _ (λ x.
    c.in_ok-take_all.ensures.whole x
    ∙ ap (λ o. option_or o (lookup (runs_in c.args.store.now pieces) x))
    (λ i. byte_of (c.in_ok-segments.ensures.nothing i) x)
    ∙ ap (λ o. option_or o (lookup (runs_in c.args.store.now pieces) x)) (byte_of_memory_of [] x)
    ∙ sym (byte_of_memory_of (runs_in c.args.store.now pieces) x))
    ∙ ap (λ ps. memory_of (runs_in c.args.store.now ps)) c.deref-2.ensures.value
