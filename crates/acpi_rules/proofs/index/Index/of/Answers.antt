use Rattle.std.proofs.Common.{◌∙◌, ap, arith, map, refl}
use Rattle.acpi_base.proofs.Elements.{first_element, later_element}
use Rattle.acpi_rules.specs.Sites.{entry_sites, site_in, whole_table}
use Rattle.acpi_rules.specs.Walks.{placed}
use Rattle.std.specs.Option.{is_none}
use Rattle.acpi_rules.proofs.TypedSites.{all_listed, cut_at, listed_as, none_same, none_yet, one_more}
use Rattle.acpi_rules.proofs.index.Index.of.Goals as goal

pub loop-own-init : goal.loop-own-init
loop-own-init c =
    let series = c.args.series.now in
    let table = c.args.table.now in
    rw c.new-structures.ensures (record {
      sites = none_yet (whole_table table) c.new-types.result.items (entry_sites series table)
          c.new-types.ensures.items;
      listed = λ w has. has;
      cut = refl;
    })

pub overflow_cast-listed : goal.overflow_cast-listed
overflow_cast-listed c =
    let own = placed c.in-Some.own in
    let here = rw c.in-Some.ensures.steps.0 at c.loop-own.invariant.listed own in
    let lies = listed_as c.args.series.now c.args.table.now own (here (first_element own c.next.new.self.structures)) in
    omega (arith, lies.within, c.if-table.false)

pub overflow_cast-listed-in-Some : goal.overflow_cast-listed-in-Some
overflow_cast-listed-in-Some c =
    let own = placed c.in-Some.own in
    let here = rw c.in-Some.ensures.steps.0 at c.loop-own.invariant.listed own in
    let lies = listed_as c.args.series.now c.args.table.now own (here (first_element own c.next.new.self.structures)) in
    omega (arith, lies.within, c.if-table.false)

pub loop-own-preserved : goal.loop-own-preserved
loop-own-preserved c =
    let series = c.args.series.now in
    let table = c.args.table.now in
    let whole = whole_table table in
    let own = placed c.in-Some.own in
    let left = c.next.new.self.structures in
    let site = site_in series.shape whole whole in
    let before = rw c.in-Some.ensures.steps.0 at c.loop-own.invariant in
    let lies = listed_as series table own (before.listed own (first_element own left)) in
    record {
      sites = one_more whole c.loop-own.types.items c.add.new.types.items (site own) (map site left)
          (entry_sites series table) before.sites
          (λ s. rw (lies.same, c.kind_in-kind.ensures) at (c.in_ok-add.ensures whole s));
      listed = λ w has. before.listed w (later_element own w left has);
      cut = c.in-Some.ensures.steps.1 ∙ before.cut;
    }

pub returns-clause-index : goal.returns-clause-index
returns-clause-index c =
    let series = c.args.series.now in
    let whole = whole_table c.args.table.now in
    let site = site_in series.shape whole whole in
    record {
      sites = all_listed whole c.loop-own.types.items (map site c.loop-own.structures.structures)
          (entry_sites series c.args.table.now) (ap (map site) c.in_default.ensures.steps.0.0)
          c.loop-own.invariant.sites;
      whole = none_same c.cut.result c.is_none.result c.is_none.ensures
          ∙ ap is_none (c.cut.ensures ∙ cut_at c.next.new.self c.in_default.ensures.steps.0.1
          ∙ c.in_default.ensures.steps.1 ∙ c.loop-own.invariant.cut);
    }
