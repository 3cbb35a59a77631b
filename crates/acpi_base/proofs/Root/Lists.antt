-- The addresses that a root table's bytes list are those in its slots.
use Rattle.std.proofs.Common.{◌≡◌, ◌<◌, ◌≤◌, ◌+◌, ◌-◌, ◌*◌, ℕ, zero, suc, List, ◌∷◌, length, map, true, false, cond, refl, sym, ◌∙◌, ap, inl, inr, arith}
use Rattle.std.specs.Prelude.{◌≢◌, ◌/◌, ◌==◌, not, Bool, filter}
use Rattle.std.specs.List.{Contains, range_with_len}
use Rattle.std.proofs.lemmas.Bool.{cases_eq, ne_eqb}
use Rattle.acpi_base.specs.Number.{field}
use Rattle.acpi_base.specs.Root.{IsSlotWidth}
use Rattle.acpi_base.specs.Listed.{listed_addresses}
use Rattle.acpi_base.specs.Laws.{RootsListSlots}
use Rattle.acpi_base.proofs.Elements.{first_or_later}

-- what is not 0
abbrev some : ℕ → Bool
some a = not (a == 0)

-- a number that a function has at one of n numbers
record IsAmong (f : ℕ → ℕ) (start n a : ℕ) : Type 0 where
  k : ℕ
  least : start ≤ k
  most : k < start + n
  is : f k ≡ a
  listed : a ≢ 0

among_more : (f : ℕ → ℕ) (start n a : ℕ) → IsAmong f (start + 1) n a → IsAmong f start (suc n) a
among_more f start n a here =
    record {
      k = here.k;
      least = omega (arith, here.least);
      most = omega (arith, here.most);
      is = here.is;
      listed = here.listed;
    }

among : (f : ℕ → ℕ) (start n a : ℕ) → Contains (filter some (map f (range_with_len start n))) a → IsAmong f start n a
among f start zero a (k, below, is) = absurd (omega arith)
among f start (suc n) a here =
    elim (cases_eq (f start) 0) [
      | inl none ↦ among_more f start n a
          (among f (start + 1) n a (let past : some (f start) ≡ false = rw none refl in rw past at here))
      | inr listed_addresses ↦
          let kept : some (f start) ≡ true = rw (ne_eqb (f start) 0 listed_addresses) refl in
          elim (first_or_later (f start) a (filter some (map f (range_with_len (start + 1) n))) (rw kept at here)) [
            | inl is ↦ record {
              k = start;
              least = omega arith;
              most = omega arith;
              is = is;
              listed = λ zero. listed_addresses (is ∙ zero);
            }
            | inr rest ↦ among_more f start n a (among f (start + 1) n a rest)
          ]
    ]

contained : (f : ℕ → ℕ) (start n a : ℕ) → IsAmong f start n a
    → Contains (filter some (map f (range_with_len start n))) a
contained f start zero a here = absurd (omega (arith, here.least, here.most))
contained f start (suc n) a here =
    elim (cases_eq here.k start) [
      | inl same ↦
          let first : f start ≡ a = ap f (sym same) ∙ here.is in
          let kept : some (f start) ≡ true = grind (arith, ne_eqb, here.listed) in
          rw kept (zero, omega arith, first)
      | inr other ↦
          let rest = contained f (start + 1) n a
          (record {
            k = here.k;
            least = omega (arith, here.least);
            most = omega (arith, here.most);
            is = here.is;
            listed = here.listed;
          }) in
          elim (some (f start)) as (λ b. Contains
          (cond b (f start ∷ filter some (map f (range_with_len (start + 1) n)))
          (filter some (map f (range_with_len (start + 1) n)))) a) [
            | true ↦ (suc rest.0, omega (arith, rest.1), rest.2)
            | false ↦ rest
          ]
    ]

inside : (whole : List ℕ) (d k : ℕ) → IsSlotWidth d → k < (length whole - 36) / d → 36 + d * (k + 1) ≤ length whole
inside whole d k width below = grind (arith, width)

below_count : (whole : List ℕ) (d k : ℕ) → IsSlotWidth d → 36 + d * (k + 1) ≤ length whole → k < (length whole - 36) / d
below_count whole d k width fits = grind (arith, width)

pub roots_list_slots : RootsListSlots
unfolding listed_addresses
roots_list_slots whole d a width = (
  λ here. let found = among (λ k. field whole (36 + d * k) d) 0 ((length whole - 36) / d) a here in let most =
      found.most in (
        found.k,
        record {
          inside = inside whole d found.k width (omega arith);
          address = found.is;
          listed = found.listed;
        },
      ),
  λ slot. let below = below_count whole d slot.0 width slot.1.inside in
      contained (λ k. field whole (36 + d * k) d) 0 ((length whole - 36) / d) a
      (record { k = slot.0; least = omega arith; most = omega arith; is = slot.1.address; listed = slot.1.listed }),
)
