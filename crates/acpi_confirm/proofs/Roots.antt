-- The root table of a set: there is one or none, and its slots are the set's.
use Rattle.std.proofs.Common.{◌≡◌, ℕ, ◌+◌, ◌*◌, ◌≤◌, List, add-one, arith}
use Rattle.std.proofs.Math.Nat.{mul-suc}
use Rattle.acpi_base.specs.Memory.{Memory}
use Rattle.acpi_base.specs.Root.{HasSlot, IsSlot}
use Rattle.acpi_base.proofs.Root.Slots.{slot_of_root, root_slot}
use Rattle.acpi_confirm.specs.Roots.{IsCompleteRoot}

pub slot_end : (d k n : ℕ) → 36 + d * (k + 1) ≤ n → 36 + d * k + d ≤ n
slot_end d k n inside = let e : d * (k + 1) ≡ d * k + d = rw add-one (mul-suc d k) in omega arith

pub slot_of_set : {m : Memory} {p d k a : ℕ} {bytes : List ℕ} → IsCompleteRoot m p d bytes → HasSlot bytes d k a
    → IsSlot m p k a
slot_of_set whole slot = root_slot whole.root whole.table slot

pub slot_of_bytes : {m : Memory} {p d k a : ℕ} {bytes : List ℕ} → IsCompleteRoot m p d bytes → IsSlot m p k a
    → HasSlot bytes d k a
slot_of_bytes {m} {p} {d} {k} {a} {bytes} whole slot = slot_of_root m p whole.r d k a bytes whole.root whole.table slot

pub root_of_slot : {m : Memory} {p k a : ℕ} (slot : IsSlot m p k a) → IsCompleteRoot m p slot.d slot.whole
root_of_slot slot = record { r = slot.r; root = slot.root; table = slot.table }
