-- The slots of a root table: each has one address or none, and their numbers have 64 bits.
use Rattle.std.proofs.Common.{◌≡◌, ◌<◌, ◌+◌, ◌*◌, ◌^◌, ℕ, List, length, refl, sym, ◌∙◌, inl, inr, arith}
use Rattle.std.specs.Prelude.{◌⊎◌}
use Rattle.std.proofs.lemmas.Bool.{cases_lt, cases_eq}
use Rattle.acpi_base.specs.Memory.{Memory, IsImage}
use Rattle.acpi_base.specs.Number.{field}
use Rattle.acpi_base.specs.Root.{IsSlotWidth, IsRoot, IsRootTable, HasSlot, IsSlot}
use Rattle.acpi_base.specs.Tables.{length_of}
use Rattle.acpi_base.proofs.Images.PresentBytes.{present_field_below}
use Rattle.acpi_base.proofs.Root.Named.{of_root, root_width}
use Rattle.acpi_base.proofs.Frames.{length_frame}

pub slot_below : (whole : List ℕ) (d k a : ℕ) → IsSlotWidth d → HasSlot whole d k a → k < length whole
slot_below whole d k a width slot = grind (arith, slot.inside)

address_fits : (whole : List ℕ) (d k a : ℕ) → ((offset width : ℕ) → field whole offset width < 256 ^ width)
    → IsSlotWidth d → HasSlot whole d k a → a < 2 ^ 64
address_fits whole d k a number_below width slot =
    grind (arith, slot.address, number_below (36 + 4 * k) 4, number_below (36 + 8 * k) 8)

pub slot_fits : {m : Memory} {p k a : ℕ} → IsImage m → IsSlot m p k a → (k < 2 ^ 64) × (a < 2 ^ 64)
slot_fits {m = m} {k = k} {a = a} image slot =
    let table = slot.table.table in
    let length_fits = present_field_below m image slot.r 36 slot.table.header table.header_present 4 4 in
    let below = slot_below slot.whole slot.d k a (root_width slot.root) slot.slot in
    let number_below = present_field_below m image slot.r (length_of slot.table.header) slot.whole table.present in (
      grind (arith, length_fits, length_frame table, below),
      address_fits slot.whole slot.d k a number_below (root_width slot.root) slot.slot,
    )

pub slot_or_none : (whole : List ℕ) (d k : ℕ) → ((a : ℕ) × HasSlot whole d k a) ⊎ ((a : ℕ) → ¬ HasSlot whole d k a)
slot_or_none whole d k =
    elim (cases_lt (length whole) (36 + d * (k + 1))) [
      | inl past ↦ inr (λ a slot. let inside = slot.inside in omega arith)
      | inr inside ↦
          elim (cases_eq (field whole (36 + d * k) d) 0) [
            | inl zero ↦ inr (λ a slot. slot.listed (sym slot.address ∙ zero))
            | inr listed ↦ inl (field whole (36 + d * k) d, record { inside = inside; address = refl; listed = listed })
          ]
    ]

pub one_slot : (whole : List ℕ) (d k a b : ℕ) → HasSlot whole d k a → HasSlot whole d k b → a ≡ b
one_slot whole d k a b one other = sym one.address ∙ other.address

pub slot_of_root : (m : Memory) (p r d k a : ℕ) (whole : List ℕ) → IsRoot m p r d → IsRootTable m r d whole
    → IsSlot m p k a → HasSlot whole d k a
slot_of_root m p r d k a whole root table slot =
    of_root (λ x bytes. HasSlot bytes x k a) slot.root root slot.table table slot.slot

pub root_slot : {m : Memory} {p r d k a : ℕ} {whole : List ℕ} → IsRoot m p r d → IsRootTable m r d whole
    → HasSlot whole d k a → IsSlot m p k a
root_slot {r = r} {d = d} {whole = whole} root table slot =
    record { r = r; d = d; whole = whole; root = root; table = table; slot = slot }
