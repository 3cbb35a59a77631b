-- The faults of the root table that an RSDP names are at its address.
use Rattle.std.proofs.Common.{◌≡◌, ℕ, Some, refl, sym, subst, inl, inr}
use Rattle.std.specs.Option.{option_map}
use Rattle.std.proofs.lemmas.Option.{same_Some}
use Rattle.acpi_base.specs.Memory.{Memory}
use Rattle.acpi_base.specs.Root.{chosen_root, IsRoot, RootTableFault, RootFault}
use Rattle.acpi_base.specs.Rsdp.{addresses_at}
use Rattle.acpi_base.specs.declared.code.Code.{Code}
use Rattle.acpi_base.proofs.Options.{cases_Option, none_and_some}
use Rattle.acpi_base.proofs.Root.Named.{no_root_and_root, one_root}

pub root_of_read : {m : Memory} {p r d : ℕ}
    → Some (Some (record { address = r; width = d })) ≡ option_map chosen_root (addresses_at m p) → IsRoot m p r d
root_of_read {m} {p} {r} {d} is =
    elim (cases_Option (addresses_at m p)) [
      | inl (named, read) ↦
          record { named = named; read = read; chosen = sym (same_Some _ _ (rw read at is)) }
      | inr none ↦ absurd (none_and_some refl (sym (rw none at is)))
    ]

pub at_root : {m : Memory} {p r d : ℕ} (fault : Code) → IsRoot m p r d → (at : ℕ) → RootFault m p fault at
    → (at ≡ r) × RootTableFault m r d fault
at_root fault root at (inl none) = absurd (no_root_and_root none.0 root)
at_root {m} {p} {r} {d} fault root at (inr (e, other, wrong)) =
    let (place, width) = one_root m p at e r d other root in (
      place,
      subst (λ (x : ℕ). RootTableFault m x d fault) place
          (subst (λ (x : ℕ). RootTableFault m at x fault) width wrong),
    )
