-- The first slot of a root table whose address is looked for: the lowest place, and the table there.
use Rattle.std.proofs.Common.{◌≡◌, ℕ, List, Option, Some, None, refl, subst, ap, ◌∙◌, inl, inr, arith}
use Rattle.std.specs.Prelude.{MatchOption}
use Rattle.std.specs.Option.{option_map}
use Rattle.std.proofs.lemmas.Bool.{cases_lt}
use Rattle.acpi_base.specs.Listed.{IsFirstListed}
use Rattle.acpi_base.specs.Memory.{Memory}
use Rattle.acpi_base.specs.Root.{IsSlot}
use Rattle.acpi_base.specs.Tables.{IsTable, IsSigned}
use Rattle.acpi_base.proofs.Root.Slots.{one_slot, root_slot, slot_of_root}
use Rattle.acpi_base.proofs.Tables.Listed.{one_first_listed, listed_of_root, listed_in_root}
use Rattle.acpi_rules.specs.Places.{FindsLeast}
use Rattle.acpi_lint.specs.Slots.{FindsSlot}
use Rattle.acpi_lint.specs.CompleteTables.{IsFound}
use Rattle.acpi_rules.specs.declared.place.Place.{Place}
use Rattle.acpi_lint.specs.declared.listed_slots.Slot.{Slot}
use Rattle.acpi_rules.proofs.LeastPlaces.{not_after_itself}

pub one_listed : {m : Memory} {p k a b : ℕ} → IsSlot m p k a → IsSlot m p k b → a ≡ b
one_listed {m} {p} {k} {a} {b} one other =
    one_slot one.whole one.d k a b one.slot
    (slot_of_root m p one.r one.d k b one.whole one.root one.table other)

-- ---- its place

-- slot `at` lists an address for which this holds, and these are its two numbers
abbrev pub IsSlotWith : Memory → ℕ → (ℕ → Type 0) → (ℕ → ℕ) → (ℕ → ℕ) → ℕ → ℕ → ℕ → Type 0
IsSlotWith m p Is other_of point_of at other point =
    (a : ℕ) × IsSlot m p at a × Is a × (other ≡ other_of a) × (point ≡ point_of a)

-- the place of a slot
abbrev pub place_of : (ℕ → ℕ) → (ℕ → ℕ) → Slot → Place
place_of other_of point_of s =
    record { at = s.number; other = other_of s.table.address; point = point_of s.table.address }

pub least_slot : (m : Memory) (p : ℕ) (Is : ℕ → Type 0) (other_of point_of : ℕ → ℕ) (found : Option Slot)
    → FindsSlot m p Is found
    → FindsLeast (IsSlotWith m p Is other_of point_of) (option_map (place_of other_of point_of) found)
least_slot m p Is other_of point_of None none = λ at other point (a, slot, holds, _, _). none at a slot holds
least_slot m p Is other_of point_of (Some s) first =
    record {
      here = (s.table.address, first.slot, first.here, refl, refl);
      least = λ at other point (a, slot, holds, second, third).
          elim (cases_lt at s.number) [
            | inl less ↦ absurd (first.before at a less slot holds)
            | inr most ↦
                elim (cases_lt s.number at) [
                  | inl later ↦ inl later
                  | inr least ↦
                      let same : at ≡ s.number = omega arith in
                      let one : a ≡ s.table.address = one_listed (rw same at slot) first.slot in
                      not_after_itself (place_of other_of point_of s) at other point
                      (same, second ∙ ap other_of one, third ∙ ap point_of one)
                ]
          ];
    }

-- ---- the table at its address

pub no_table : {m : Memory} {p : ℕ} (signature : List ℕ) → FindsSlot m p (λ a. IsSigned m a signature) None
    → IsFound m p signature None
no_table signature none = λ whole listed.
    let first = listed.first in
    none first.first.k listed.a (root_slot first.root first.table first.first.slot) first.first.signed

-- if one is found, its table is the set's
pub table_there : {m : Memory} {p : ℕ} (signature : List ℕ) (s : Slot) (table : Option (List ℕ))
    → FindsSlot m p (λ a. IsSigned m a signature) (Some s)
    → MatchOption table ((header bytes : List ℕ) → ¬ IsTable m s.table.address header bytes)
    (λ bytes. (header : List ℕ) × IsTable m s.table.address header bytes)
    → IsFound m p signature table
table_there {m} {p} signature s table found stands = is table stands
  where
    slot : IsSlot m p s.number s.table.address
    slot = found.slot

    first : IsFirstListed m slot.whole slot.d signature s.table.address
    first =
        record {
          k = s.number;
          slot = slot.slot;
          signed = found.here;
          none_before = λ j b less other. found.before j b less (root_slot slot.root slot.table other);
        }

    is : (table : Option (List ℕ))
        → MatchOption table ((header bytes : List ℕ) → ¬ IsTable m s.table.address header bytes)
        (λ bytes. (header : List ℕ) × IsTable m s.table.address header bytes)
        → IsFound m p signature table
    is None none = λ whole listed.
        let same = one_first_listed m slot.whole slot.d signature listed.a s.table.address
        (listed_of_root slot.root slot.table listed.first) first in
        none listed.header whole (subst (λ (x : ℕ). IsTable m x listed.header whole) same listed.table)
    is (Some bytes) (header, stands) = listed_in_root slot.root slot.table first stands
