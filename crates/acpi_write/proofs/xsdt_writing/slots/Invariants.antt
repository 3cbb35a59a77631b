use Rattle.std.proofs.Common.{◌≡◌, ◌++◌, drop, flat_map}
use Rattle.acpi_base.specs.Number.{number_bytes}
use Rattle.acpi_write.proofs.xsdt_writing.slots.Given as goal

-- the slots so far, and those of the addresses to come
abbrev pub invariant-loop-address : goal.invariant-loop-address
invariant-loop-address l =
    l.bytes.items ++ flat_map (number_bytes 8) (drop l.address-index l.addresses) ≡ flat_map (number_bytes 8)
    l.addresses
