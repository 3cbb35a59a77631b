use Rattle.std.proofs.Common.{◌≡◌, take}
use Rattle.std.specs.List.{filter_map}
use Rattle.acpi_lint.specs.Rules.RootAdvice.{listed_signature}
use Rattle.acpi_lint.proofs.root_advice.signatures_at.Given as goal

-- those at the addresses before this one
abbrev pub invariant-loop-address : goal.invariant-loop-address
invariant-loop-address l =
    l.found.items ≡ filter_map (listed_signature l.image) (take l.address-index l.addresses)
