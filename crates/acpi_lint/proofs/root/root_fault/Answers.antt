use Rattle.std.proofs.Common.{refl, inr}
use Rattle.acpi_base.specs.Root.{IsRoot}
use Rattle.acpi_lint.proofs.LeastPlaces.{finds_one}
use Rattle.acpi_lint.proofs.RootPlaces.{root_of_read, at_root}
use Rattle.acpi_lint.proofs.root.root_fault.Goals as goal

pub returns-in-Some : goal.returns-in-Some
returns-in-Some c =
    let place = c.in-Some.root in
    let root : IsRoot c.args.image.now c.args.policy.now.rsdp place.address place.width =
    root_of_read (rw (c.in-Some.is, c.rsdp-rsdp.ensures.value) at c.in_ok-root.ensures.root) in
    rw (c.then_some.ensures, c.at.ensures)
    (finds_one (record { at = place.address; other = 0; point = 0 }) c.has_fault.result (
      λ true. (inr (place.width, root, c.has_fault.ensures.0 true), refl, refl),
      λ (fault, _, _). c.has_fault.ensures.1 (at_root c.args.code root place.address fault).1,
    )
    (λ at other point (fault, second, third). ((at_root c.args.code root at fault).0, second, third)))
