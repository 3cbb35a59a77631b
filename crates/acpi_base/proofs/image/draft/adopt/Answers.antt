use Rattle.std.proofs.Common.{inl, inr, ◌<◌, length, ap, sym, subst, ◌∙◌, arith}
use Rattle.std.specs.Prelude.{Ok}
use Rattle.std.proofs.lemmas.Bool.{cases_lt}
use Rattle.std.proofs.lemmas.List.{get_or_past, nil_from_length}
use Rattle.std.proofs.lemmas.Result.{IfOk-weaker}
use Rattle.acpi_base.proofs.Images.Adopted.{adopted_laid, adopted_same}
use Rattle.acpi_base.proofs.Images.Drafts.{nothing_added}
use Rattle.acpi_base.proofs.image.draft.adopt.Goals as goal

pub returns-in-None-clause-same : goal.returns-in-None-clause-same
returns-in-None-clause-same c =
    let none = c.in-None.ensures.cases.0 in
    nothing_added c.args.store.items c.args.pieces.items (nil_from_length c.args.pieces.items (omega arith))
    ∙ ap (λ m. Ok m) (sym c.new.ensures.nothing)

pub of-requires : goal.of-requires
of-requires c =
    adopted_laid c.args.store.items c.pop.new.self.items c.args.pieces.items c.in-Some.base c.in-Some.span
    c.in-Some.ensures.items
    (λ k. elim (cases_lt k (length c.args.store.items)) [
      | inl within ↦ omega arith
      | inr past ↦ subst (λ b. b < 256) (sym (get_or_past c.args.store.items k 0 past)) (omega arith)
    ])
    c.requires.draft c.requires.apart

pub returns-in-Some-clause-same : goal.returns-in-Some-clause-same
returns-in-Some-clause-same c =
    IfOk-weaker c.of.result _ _
    (λ segments same. adopted_same c.args.store.items c.pop.new.self.items c.args.pieces.items
    c.in-Some.base c.in-Some.span c.in-Some.ensures.items c.requires.draft c.requires.apart ∙ ap (λ m. Ok m) (sym same))
    c.of.ensures.same
