use Rattle.std.proofs.Common.{rules}
use Rattle.acpi_base.proofs.Layouts.Kinds.{lays_out, byte_field}
use Rattle.acpi_read.proofs.kind.AnyLayout.read.Goals as goal

pub returns-clause-some : goal.returns-clause-some
returns-clause-some g c =
    let kind = g.K.FixedKind in
    let e = c.args.bytes.now in
    let laid = g.met.K.FixedKind.laid.2 in
    let formed = (lays_out kind.layout laid kind.say).formed e in
    let first = byte_field e 0 in
    let second = byte_field e 1 in
    search rules
