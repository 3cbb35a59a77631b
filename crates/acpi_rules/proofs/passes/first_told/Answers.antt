use Rattle.std.proofs.Common.{◌∙◌, ◌++◌, ◌∷◌, [], map, refl, sym}
use Rattle.acpi_rules.specs.Cases.{case_value}
use Rattle.acpi_rules.specs.Known.{told}
use Rattle.acpi_rules.specs.Terms.{tables_value}
use Rattle.acpi_rules.proofs.ToldNumbers.{all_of, all_told, none_told, one_taken, told_found, told_next, untold_next}
use Rattle.acpi_rules.proofs.passes.first_told.Goals as goal

pub loop-given-init : goal.loop-given-init
loop-given-init c = record {
  all = refl;
  found = none_told (told c.args.look_up c.args.except.now c.args.known.now) [] refl;
}

pub loop-given-preserved-in-Some-told : goal.loop-given-preserved-in-Some-told
loop-given-preserved-in-Some-told c =
    let g = c.in-Some.given in
    record {
      all = one_taken c.loop-given.yielded c.loop-given.given-iterator c.next.new.self _ g c.in-Some.ensures.steps
          c.loop-given.invariant.all;
      found = told_next (told c.args.look_up c.args.except.now c.args.known.now) c.loop-given.yielded
          (c.loop-given.yielded ++ (g ∷ [])) g c.loop-given.least c.in-Some-told.place c.lesser.result refl
          (sym c.told.ensures ∙ c.in-Some-told.is) c.loop-given.invariant.found c.lesser.ensures.one
          c.lesser.ensures.after c.lesser.ensures.before;
    }

pub loop-given-preserved : goal.loop-given-preserved
loop-given-preserved c =
    let g = c.in-Some.given in
    record {
      all = one_taken c.loop-given.yielded c.loop-given.given-iterator c.next.new.self _ g c.in-Some.ensures.steps
          c.loop-given.invariant.all;
      found = untold_next (told c.args.look_up c.args.except.now c.args.known.now) c.loop-given.yielded
          (c.loop-given.yielded ++ (g ∷ [])) g c.loop-given.least refl (sym c.told.ensures ∙ c.in_default-told.is)
          c.loop-given.invariant.found;
    }

pub returns : goal.returns
returns c =
    all_told c.args.look_up (tables_value c.args.tables.now) c.args.path.now (map case_value c.args.cases.now)
    c.along-given-items.result c.args.except.now c.args.known.now c.loop-given.least c.along-given-items.ensures
    (told_found (told c.args.look_up c.args.except.now c.args.known.now) c.loop-given.yielded
    c.along-given-items.result c.loop-given.least
    (all_of c.loop-given.yielded c.loop-given.given-iterator _ c.in-None.ensures.steps.0 c.loop-given.invariant.all
    ∙ c.into_iter-given-iterator.ensures.into_iter_gives)
    c.loop-given.invariant.found)
