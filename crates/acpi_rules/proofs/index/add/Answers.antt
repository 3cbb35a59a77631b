use Rattle.std.proofs.Common.{◌∙◌, ◌++◌, ◌∷◌, [], List, ap, refl, rules}
use Rattle.acpi_rules.specs.declared.index.Listed.{Listed}
use Rattle.acpi_rules.specs.declared.index.OfType.{OfType}
use Rattle.acpi_rules.proofs.TypedSites.{added_alone, added_to}
use Rattle.acpi_rules.proofs.index.add.Goals as goal

pub returns : goal.returns
returns c = λ whole s.
    let old = c.index_mut.result.now in
    let new : OfType = record { kind = old.kind; listed = c.push.new.self } in
    added_to whole c.args.kind c.args.types.now.items _ old new c.args.own (search rules) (search rules)
    (search rules) refl c.in_ok-push.ensures.items s

pub returns-2 : goal.returns-2
returns-2 c = λ whole s.
    let new : OfType = record { kind = c.args.kind; listed = c.push-2.new.self } in
    added_alone whole c.args.kind c.args.types.now.items c.push-3.new.self.items new c.args.own
    c.in_ok-push-3.ensures.items refl
    (c.in_ok-push-2.ensures.items
    ∙ ap (λ (l : List Listed). l ++ (c.args.own ∷ [])) c.new-listed.ensures.items)
    s
