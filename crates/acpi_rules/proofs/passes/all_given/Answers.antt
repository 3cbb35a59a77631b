use Rattle.std.proofs.Common.{◌∙◌, ◌++◌, ◌∷◌, [], map, refl}
use Rattle.acpi_rules.specs.Cases.{case_value}
use Rattle.acpi_rules.specs.Terms.{tables_value}
use Rattle.acpi_rules.proofs.ToldNumbers.{all_beside, all_of, beside_found, beside_next, excepted_next, in_except, is_beside, none_beside, one_taken}
use Rattle.acpi_rules.proofs.passes.all_given.Goals as goal

pub loop-given-init : goal.loop-given-init
loop-given-init c = record {
  all = refl;
  beside = none_beside c.args.except.now [] c.new-all.result.items refl c.new-all.ensures.items;
}

pub loop-given-preserved-in-Continue-1 : goal.loop-given-preserved-in-Continue-1
loop-given-preserved-in-Continue-1 c =
    let g = c.in-Some.given in
    record {
      all = one_taken c.loop-given.yielded c.loop-given.given-iterator c.next.new.self _ g c.in-Some.ensures.steps
          c.loop-given.invariant.all;
      beside = rw c.in_ok-push.ensures.items
          (beside_next c.args.except.now c.loop-given.yielded (c.loop-given.yielded ++ (g ∷ []))
          c.loop-given.all.items g refl
          (is_beside c.args.except.now g c.first_of.result c.first_of.ensures c.if-is_none.ensures)
          c.loop-given.invariant.beside);
    }

pub loop-given-preserved : goal.loop-given-preserved
loop-given-preserved c =
    let g = c.in-Some.given in
    record {
      all = one_taken c.loop-given.yielded c.loop-given.given-iterator c.next.new.self _ g c.in-Some.ensures.steps
          c.loop-given.invariant.all;
      beside = excepted_next c.args.except.now c.loop-given.yielded (c.loop-given.yielded ++ (g ∷ []))
          c.loop-given.all.items g refl
          (in_except c.args.except.now g c.first_of.result c.first_of.ensures c.if-is_none.ensures)
          c.loop-given.invariant.beside;
    }

pub returns : goal.returns
returns c =
    all_beside (tables_value c.args.tables.now) c.args.path.now (map case_value c.args.cases.now)
    c.along-given-items.result c.args.except.now c.loop-given.all.items c.along-given-items.ensures
    (beside_found c.args.except.now c.loop-given.yielded c.along-given-items.result c.loop-given.all.items
    (all_of c.loop-given.yielded c.loop-given.given-iterator _ c.in-None.ensures.steps.0 c.loop-given.invariant.all
    ∙ c.into_iter-given-iterator.ensures.into_iter_gives)
    c.loop-given.invariant.beside)
