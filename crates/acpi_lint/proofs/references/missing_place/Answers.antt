use Rattle.std.proofs.Common.{◌≡◌, None, refl, ap, rules}
use Rattle.acpi_read.specs.Pptts.{pptt_value, node_value}
use Rattle.acpi_read.specs.Entries.{entry_at_value}
use Rattle.acpi_lint.proofs.NamedPlaces.{none_missing, first_missing}
use Rattle.acpi_lint.proofs.references.missing_place.Goals as goal

pub returns-in_err-number : goal.returns-in_err-number
returns-in_err-number c =
    let head = c.in-Node.head in
    let references = c.in-Node.references.now in
    let none : c.from_residual.result ≡ None = search rules in
    rw none
    (none_missing c.args.offsets.now references head.count (entry_at_value pptt_value c.args.at.now)
    (node_value head references) (ap pptt_value c.in-Node.is) refl c.in_err-number.ensures)

pub returns : goal.returns
returns c =
    let head = c.in-Node.head in
    let references = c.in-Node.references.now in
    let found = c.in_ok-number.ensures in
    rw (c.from.ensures, c.from-2.ensures, found.1)
    (first_missing c.args.offsets.now references head.count c.in_ok-number.number
    (entry_at_value pptt_value c.args.at.now) (node_value head references) (ap pptt_value c.in-Node.is) refl found.0
    (rw found.1 at found.2) found.3)
