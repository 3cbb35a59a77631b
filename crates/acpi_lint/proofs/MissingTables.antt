-- What is found where no slot lists a table.
use Rattle.std.proofs.Common.{◌≡◌, ℕ, List, Option, Some, None, refl, true, false}
use Rattle.std.specs.Option.{is_some}
use Rattle.acpi_base.specs.Memory.{Memory}
use Rattle.acpi_base.specs.Tables.{IsSigned}
use Rattle.acpi_rules.specs.Places.{FindsLeast}
use Rattle.acpi_rules.specs.declared.place.Place.{Place}
use Rattle.acpi_rules.proofs.LeastPlaces.{least_as, not_after_itself}
use Rattle.acpi_lint.specs.Rules.MissingTables.{IsUnlisted}
use Rattle.acpi_lint.specs.Slots.{FindsSlot}
use Rattle.acpi_lint.specs.declared.listed_slots.Slot.{Slot}

-- a slot lists it
pub found_listed : (m : Memory) (p : ℕ) (signature : List ℕ) (P : ℕ → ℕ → ℕ → Type 0) (slot : Option Slot)
    → is_some slot ≡ true → FindsSlot m p (λ a. IsSigned m a signature) slot
    → FindsLeast (λ at other point. IsUnlisted m p signature × P at other point) None
found_listed m p signature P None listed first = absurd cc
found_listed m p signature P (Some slot) listed first = λ at other point (unlisted, holds).
    unlisted slot.number slot.table.address first.slot first.here

-- none does
pub found_unlisted : (m : Memory) (p : ℕ) (signature : List ℕ) (P : ℕ → ℕ → ℕ → Type 0) (slot : Option Slot)
    (found : Option Place) → is_some slot ≡ false → FindsSlot m p (λ a. IsSigned m a signature) slot
    → FindsLeast P found
    → FindsLeast (λ at other point. IsUnlisted m p signature × P at other point) found
found_unlisted m p signature P (Some slot) found none unlisted least = absurd cc
found_unlisted m p signature P None found none unlisted least =
    least_as found (λ at other point holds. (unlisted, holds)) (λ at other point both. both.1) least

-- no place in a table
abbrev pub IsNoPlace : ℕ → ℕ → ℕ → Type 0
IsNoPlace at other point = (at ≡ 0) × (other ≡ 0) × (point ≡ 0)

pub no_place : FindsLeast IsNoPlace (Some (record { at = 0; other = 0; point = 0 }))
no_place =
    record {
      here = (refl, refl, refl);
      least = λ at other point same. not_after_itself (record { at = 0; other = 0; point = 0 }) at other point same;
    }
