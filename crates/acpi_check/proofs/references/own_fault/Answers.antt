use Rattle.std.proofs.Common.{refl}
use Rattle.acpi_read.specs.Pptts.{node_value, cache24_value, cache28_value}
use Rattle.acpi_check.proofs.NodeLinks.NamedPlaces.{node_valid, parent_first, resource_first, cache_link}
use Rattle.acpi_check.proofs.references.own_fault.Goals as goal

pub returns-in-Some-first_dangling : goal.returns-in-Some-first_dangling
returns-in-Some-first_dangling c =
    let head = c.in-Node.head in
    let references = c.in-Node.references.now in
    let number = c.in-Some-first_dangling.number in
    let resource = c.in-Some-first_dangling.resource in
    let parent = c.in_default.ensures in
    let found = c.in-Some-first_dangling.ensures in
    rw (c.in-Node.is, c.from.ensures, c.from-in-Some-first_dangling.ensures) (
      refl,
      resource_first c.args.places.now (node_value head references) references head.count c.args.at.now.offset
          number resource refl parent found.0 found.1 found.2 found.3,
    )

pub returns-in-None : goal.returns-in-None
returns-in-None c =
    let head = c.in-Node.head in
    let references = c.in-Node.references.now in
    let parent = c.in_default.ensures in
    let all = c.in-None.ensures in
    rw c.in-Node.is (node_valid c.args.places.now (node_value head references) references head.count refl parent all)

pub returns-in-Cache24 : goal.returns-in-Cache24
returns-in-Cache24 c =
    rw c.in-Cache24.is
    (cache_link c.args.places.now (cache24_value c.in-Cache24.cache) c.args.at.now.offset c.link_fault-in-Cache24.result
    c.link_fault-in-Cache24.ensures)

pub returns-in-Cache28 : goal.returns-in-Cache28
returns-in-Cache28 c =
    rw c.in-Cache28.is
    (cache_link c.args.places.now (cache28_value c.in-Cache28.cache) c.args.at.now.offset c.link_fault-in-Cache28.result
    c.link_fault-in-Cache28.ensures)

pub returns-in-Some : goal.returns-in-Some
returns-in-Some c =
    let head = c.in-Node.head in
    let found = c.in-Some.ensures in
    rw (c.in-Node.is, found.0) (
      refl,
      parent_first c.args.places.now (node_value head c.in-Node.references.now) c.args.at.now.offset found.1
          found.2,
    )
