-- The root table that an RSDP names: there is one or none, its slots have 4 bytes or 8, and its address has 64 bits.
use Rattle.std.proofs.Common.{◌≡◌, ℕ, ◌^◌, ◌<◌, List, Some, subst, inl, inr, arith}
use Rattle.std.specs.Prelude.{◌⊎◌}
use Rattle.std.proofs.lemmas.Bool.{cases_Bool}
use Rattle.std.proofs.lemmas.Option.{same_Some}
use Rattle.acpi_base.specs.Memory.{Memory, IsImage}
use Rattle.acpi_base.specs.Rsdp.{Addresses, addresses_at}
use Rattle.acpi_base.specs.Root.{chosen_root, IsRoot, HasNoRoot, IsRootTable, IsSlotWidth}
use Rattle.acpi_base.proofs.Options.{cases_Option, none_and_some, same_value}
use Rattle.acpi_base.proofs.Rsdp.Naming.{named_fit}
use Rattle.acpi_base.proofs.Frames.{one_frame}

pub chosen_is : (named : Addresses) (r d : ℕ) → chosen_root named ≡ Some (record { address = r; width = d })
    → ((r ≡ named.rsdt) × (d ≡ 4)) ⊎ ((r ≡ named.xsdt) × (d ≡ 8))
unfolding chosen_root
chosen_is named r d chosen = grind (arith, cases_Bool, same_Some)

pub root_or_none : (m : Memory) (p : ℕ) (named : Addresses) → addresses_at m p ≡ Some named
    → HasNoRoot m p ⊎ ((r d : ℕ) × IsRoot m p r d)
root_or_none m p named read =
    elim (cases_Option (chosen_root named)) [
      | inl (root, chosen) ↦ inr (root.address, root.width, record { named = named; read = read; chosen = chosen })
      | inr none ↦ inl (record { named = named; read = read; none = none })
    ]

pub no_root_and_root : {m : Memory} {p r d : ℕ} → HasNoRoot m p → IsRoot m p r d → ⊥
no_root_and_root none root =
    none_and_some (rw (same_value none.named root.named none.read root.read) at none.none) root.chosen

pub one_root : (m : Memory) (p r d r' d' : ℕ) → IsRoot m p r d → IsRoot m p r' d' → (r ≡ r') × (d ≡ d')
one_root m p r d r' d' one other = grind (arith, same_value)

pub root_width : {m : Memory} {p r d : ℕ} → IsRoot m p r d → IsSlotWidth d
root_width {r = r} {d = d} root =
    elim (chosen_is root.named r d root.chosen) [ inl is ↦ inl is.1 | inr is ↦ inr is.1 ]

pub root_fits : {m : Memory} {p r d : ℕ} → IsImage m → IsRoot m p r d → r < 2 ^ 64
root_fits {m = m} {p = p} {r = r} {d = d} image root =
    grind (arith, named_fit m image p root.named root.read, chosen_is root.named r d root.chosen)

at_root : {m : Memory} {p r d r' d' : ℕ} (P : ℕ → ℕ → Type 0) → IsRoot m p r d → IsRoot m p r' d' → P r d → P r' d'
at_root {m} {p} {r} {d} {r'} {d'} P one other here =
    (let same = one_root m p r d r' d' one other in rw (same.0, same.1) at here)

pub one_root_table : {m : Memory} {p r d r' d' : ℕ} (whole whole' : List ℕ) → IsRoot m p r d → IsRoot m p r' d'
    → IsRootTable m r d whole → IsRootTable m r' d' whole' → whole ≡ whole'
one_root_table {m} {r' = r'} {d' = d'} whole whole' one other table table' =
    let moved = at_root (λ x y. IsRootTable m x y whole) one other table in
    one_frame moved.table table'.table

pub of_root : {m : Memory} {p r d r' d' : ℕ} {whole whole' : List ℕ} (P : ℕ → List ℕ → Type 0) → IsRoot m p r d
    → IsRoot m p r' d' → IsRootTable m r d whole → IsRootTable m r' d' whole' → P d whole → P d' whole'
of_root {d' = d'} {whole = whole} {whole' = whole'} P one other table table' here =
    subst (λ (x : List ℕ). P d' x) (one_root_table whole whole' one other table table')
    (at_root (λ _ y. P y whole) one other here)
