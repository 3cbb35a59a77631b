use Rattle.std.proofs.Common.{◌≡◌, ℕ, ◌<◌, Some, refl, subst, arith}
use borrow.Author.Count.{below_more}
use Rattle.acpi_base.specs.Root.{HasSlot}
use Rattle.acpi_base.specs.Listed.{IsFirstListed}
use Rattle.acpi_base.specs.Tables.{IsSigned}
use Rattle.acpi_base.proofs.Tables.Listed.{one_first_listed, none_and_first_listed}
use Rattle.acpi_read.proofs.listed.first.Goals as goal

pub loop-k-preserved : goal.loop-k-preserved
loop-k-preserved c =
    let root = c.args.root.now in
    let here : (b : ℕ) → HasSlot root.bytes root.width c.loop-k.k b
    → ¬ IsSigned c.args.image.now b c.args.signature = c.in_default.ensures.none refl in
    λ j b below slot signed. below_more (λ (i : ℕ). (a : ℕ) → HasSlot root.bytes root.width i a
    → ¬ IsSigned c.args.image.now a c.args.signature) c.loop-k.k (λ i lower a. c.loop-k.invariant i a lower) here j
    below b slot signed

pub returns-clause-none : goal.returns-clause-none
returns-clause-none c = λ _ k a slot signed.
    let inside : k < c.slots-k-end.result = (c.slots-k-end.ensures.inside k).1 slot.inside in
    c.loop-k.invariant k a (omega arith) slot signed

pub returns-in-Some-clause-every : goal.returns-in-Some-clause-every
returns-in-Some-clause-every c = λ a first.
    let m = c.args.image.now in
    let root = c.args.root.now in
    let here = c.in-Some.ensures.found in
    let found : IsFirstListed m root.bytes root.width c.args.signature c.in-Some.address =
    record {
      k = c.loop-k.k;
      slot = here.0;
      signed = here.1;
      none_before = λ j b below slot signed. c.loop-k.invariant j b below slot signed;
    } in
    subst (λ (x : ℕ). Some c.in-Some.address ≡ Some x)
    (one_first_listed m root.bytes root.width c.args.signature c.in-Some.address a found first) refl

pub returns-clause-every : goal.returns-clause-every
returns-clause-every c = λ a first. absurd (none_and_first_listed (returns-clause-none c refl) first)
