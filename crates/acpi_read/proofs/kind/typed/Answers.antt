use Rattle.std.proofs.Common.{rules, ◌≡◌, length, ◌∙◌}
use Rattle.acpi_base.specs.Layouts.{IsOfLayout}
use Rattle.acpi_read.proofs.kind.typed.Goals as goal

pub returns-clause-err : goal.returns-clause-err
returns-clause-err g c =
    let e = c.args.bytes.now in
    let formed : length e ≡ g.K.EntryKind.kind.size → IsOfLayout g.K.Layout.parts e × g.K.Layout.allows e =
    λ count. g.met.K.EntryKind.laid.formed e count c.requires.number (c.requires.entry.said ∙ count) in
    search rules
