-- A set whose parts have addresses.
use Rattle.std.specs.Prelude.{◌≡◌, ℕ}
use Rattle.std.specs.List.{All}
use Rattle.acpi_base.specs.Memory.{Memory}
use Rattle.acpi_base.specs.Policy.{PolicyValue}
use Rattle.acpi_base.specs.Statements.{IsClean}
use Rattle.acpi_write.specs.Placed.{IsPlaced}
use Rattle.acpi_write.specs.Rebuilt.{part_places}
use Rattle.acpi_write.specs.SetValues.{IsSetValue}
use Rattle.acpi_write.specs.Views.{set_value, IsShaped, IsShort}
use Rattle.acpi_write.specs.declared.rebuilding.PlacedSet.{PlacedSet}

-- the contents of a clean set, which can be placed at the base address, and the addresses of its parts there
pub record IsPlacedSet (m : Memory) (q : PolicyValue) (base : ℕ) (set : PlacedSet) : Type 0 where
  pub clean : IsClean m q
  pub value : IsSetValue m q.rsdp (set_value set.value)
  pub shaped : All IsShaped set.value.tables.items
  pub short : All IsShort set.value.tables.items
  pub placed : IsPlaced (set_value set.value) base
  pub places : set.places.items ≡ part_places (set_value set.value) base
