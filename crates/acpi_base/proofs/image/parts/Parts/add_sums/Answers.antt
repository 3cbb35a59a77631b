use Rattle.std.proofs.Common.{◌≡◌, ◌∙◌, refl, sym, ap, slice_set}
use Rattle.std.specs.Vec.{with_item}
use Rattle.std.proofs.lemmas.List.{set-get_or}
use Rattle.acpi_base.proofs.Images.Lent.{same_lists, same_valid}
use Rattle.acpi_base.proofs.image.parts.Parts.add_sums.Goals as goal

pub loop-index-init : goal.loop-index-init
loop-index-init c = record { own = refl; lent = refl; count = refl }

pub index_mut-requires : goal.index_mut-requires
index_mut-requires c = rw c.loop-index.invariant.count (rw (sym c.len-index-end.ensures) c.loop-index-test.true)

pub returns-in_err-add_sums-clause-valid : goal.returns-in_err-add_sums-clause-valid
returns-in_err-add_sums-clause-valid c =
    let items = c.loop-index.self.lent.items in
    let kept = ap (slice_set items c.loop-index.index) (c.in_err-add_sums.ensures ∙ c.index_mut.ensures.value)
    ∙ set-get_or items c.loop-index.index _ in
    same_valid c.args.self.now _ c.loop-index.invariant.own (kept ∙ c.loop-index.invariant.lent) c.requires

pub returns-in_err-add_sums-clause-same : goal.returns-in_err-add_sums-clause-same
returns-in_err-add_sums-clause-same c =
    let items = c.loop-index.self.lent.items in
    let kept = ap (slice_set items c.loop-index.index) (c.in_err-add_sums.ensures ∙ c.index_mut.ensures.value)
    ∙ set-get_or items c.loop-index.index _ in
    same_lists c.args.self.now
    (record {
      own = c.loop-index.self.own;
      lent = with_item c.loop-index.self.lent c.loop-index.index c.add_sums.new.self;
    })
    c.loop-index.invariant.own (kept ∙ c.loop-index.invariant.lent)

pub loop-index-preserved : goal.loop-index-preserved
loop-index-preserved c =
    let items = c.loop-index.self.lent.items in
    let kept = ap (slice_set items c.loop-index.index) (c.in_ok-add_sums.ensures ∙ c.index_mut.ensures.value)
    ∙ set-get_or items c.loop-index.index _ in
    record {
      own = c.loop-index.invariant.own;
      lent = kept ∙ c.loop-index.invariant.lent;
      count = c.loop-index.invariant.count;
    }

pub returns-clause-valid : goal.returns-clause-valid
returns-clause-valid c =
    same_valid c.args.self.now c.loop-index.self c.loop-index.invariant.own c.loop-index.invariant.lent c.requires

pub returns-clause-same : goal.returns-clause-same
returns-clause-same c =
    same_lists c.args.self.now c.loop-index.self c.loop-index.invariant.own c.loop-index.invariant.lent
