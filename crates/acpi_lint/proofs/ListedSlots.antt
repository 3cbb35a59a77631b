-- The slots of a root table that list an address.
use Rattle.std.proofs.Common.{◌≡◌, ℕ, ◌<◌, ◌≤◌, ◌+◌, ◌*◌, List, [], ◌∷◌, ◌++◌, length, get_or, map, None, false, refl, sym, ap, ◌∙◌, inl, inr, arith}
use Rattle.std.specs.Prelude.{◌⊎◌, Contains}
use Rattle.std.proofs.lemmas.Bool.{cases_lt}
use Rattle.std.proofs.lemmas.List.{get_or-map, length-map}
use Rattle.std.proofs.lemmas.List.Elements.{Contains-append_left, Contains-push, Contains-push_cases, Contains-get_or}
use Rattle.acpi_base.specs.Memory.{Memory}
use Rattle.acpi_base.specs.Number.{field}
use Rattle.acpi_base.specs.Root.{HasSlot, IsSlot}
use Rattle.acpi_base.proofs.Elements.{no_element, element_of_map}
use Rattle.acpi_base.proofs.Root.Slots.{one_slot, slot_of_root, root_slot}
use Rattle.acpi_read.specs.Roots.{RootValue, IsCompleteRoot}
use Rattle.acpi_check.proofs.EntryPasses.Kept.{map_has}
use Rattle.acpi_lint.specs.Numbered.{at_place, HasAt, AreNumbersAt}
use Rattle.acpi_lint.specs.Slots.{IsTableAt, AreSlots, numbered_slot}
use Rattle.acpi_lint.specs.declared.listed_slots.Slot.{Slot}
use Rattle.acpi_rules.specs.declared.numbered.Numbered.{Numbered}
use Rattle.acpi_lint.proofs.RisingLists.{rise_more}

-- a slot to read lists with
abbrev pub no_slot : Slot
no_slot =
    record {
      number = 0;
      table =
          record {
            address = 0;
            signature = 0;
            odd_text = None;
            fault = None;
            kind = None;
            further = None;
            is_apart = false;
          };
    }

-- ---- slot by slot

-- the slots before this one list these addresses
abbrev pub ListsBefore : List ℕ → ℕ → ℕ → ℕ → ℕ → Type 0
ListsBefore whole d end k a = (k < end) × HasSlot whole d k a

-- a slot that lists one more address
pub one_more : {m : Memory} {whole : List ℕ} {d n : ℕ} (s : Slot) (slots : List Slot)
    → AreSlots m (ListsBefore whole d n) slots → s.number ≡ n → HasSlot whole d n s.table.address
    → IsTableAt m s.table → AreSlots m (ListsBefore whole d (n + 1)) (slots ++ s ∷ [])
one_more {m} {whole} {d} {n} s slots before number slot there =
    record {
      rise = rise_more (λ x. x.number) slots s before.rise
          (λ x here. let lists = (before.listed x here).0 in omega (arith, lists.0, number));
      listed = λ x here. elim (Contains-push_cases slots s x here) [
        | inl early ↦ (let (lists, is) = before.listed x early in ((omega (arith, lists.0), lists.1), is))
        | inr same ↦ rw (← same) ((omega (arith, number), rw number slot), there)
      ];
      all = λ k a (below, lists). elim (cases_lt k n) [
        | inl less ↦
            let (x, here, number, address) = before.all k a (less, lists) in
            (x, Contains-append_left slots (s ∷ []) x here, number, address)
        | inr least ↦
            let place : k ≡ n = omega arith in (
              s,
              Contains-push slots s,
              number ∙ sym place,
              one_slot whole d n s.table.address a slot (rw place at lists),
            )
      ];
    }

pub none_more : {m : Memory} {whole : List ℕ} {d n : ℕ} (slots : List Slot) → AreSlots m (ListsBefore whole d n) slots
    → field whole (36 + d * n) d ≡ 0 → AreSlots m (ListsBefore whole d (n + 1)) slots
none_more {m} {whole} {d} {n} slots before zero =
    record {
      rise = before.rise;
      listed = λ s here. (let (lists, is) = before.listed s here in ((omega (arith, lists.0), lists.1), is));
      all = λ k a (below, lists). before.all k a (upto k a lists below (cases_lt k n), lists);
    }
  where
    upto : (k a : ℕ) → HasSlot whole d k a → k < n + 1 → (k < n) ⊎ (n ≤ k) → k < n
    upto k a lists below (inl less) = less
    upto k a lists below (inr least) =
        let place : k ≡ n = omega arith in
        let here : HasSlot whole d n a = rw place at lists in
        absurd (here.listed (sym here.address ∙ zero))

slots_as : {m : Memory} {Lists Others : ℕ → ℕ → Type 0} (slots : List Slot)
    → ((k a : ℕ) → Lists k a → Others k a) → ((k a : ℕ) → Others k a → Lists k a)
    → AreSlots m Lists slots → AreSlots m Others slots
slots_as slots to from are =
    record {
      rise = are.rise;
      listed = λ s here. (let (lists, is) = are.listed s here in (to s.number s.table.address lists, is));
      all = λ k a lists. are.all k a (from k a lists);
    }

pub all_listed : {m : Memory} {whole : List ℕ} {d n : ℕ} (slots : List Slot) → AreSlots m (ListsBefore whole d n) slots
    → ((k : ℕ) → 36 + d * (k + 1) ≤ length whole → k < n) → AreSlots m (HasSlot whole d) slots
all_listed slots before inside =
    slots_as slots (λ k a lists. lists.1) (λ k a lists. (inside k lists.inside, lists)) before

pub set_listed : {m : Memory} {p : ℕ} {root : RootValue} (slots : List Slot) → IsCompleteRoot m p root
    → AreSlots m (HasSlot root.bytes root.width) slots → AreSlots m (IsSlot m p) slots
set_listed {m} {p} {root} slots is are =
    slots_as slots (λ k a here. root_slot is.named is.table here)
    (λ k a slot. slot_of_root m p root.address root.width k a root.bytes is.named is.table slot) are

pub no_slots : {m : Memory} {p : ℕ} → ((root : RootValue) → ¬ IsCompleteRoot m p root) → AreSlots m (IsSlot m p) []
no_slots none =
    record {
      rise = λ i j d less within. absurd (omega (arith, within));
      listed = λ s here. absurd (no_element s here);
      all = λ k a slot. absurd (none (record { address = slot.r; width = slot.d; bytes = slot.whole })
          (record { named = slot.root; table = slot.table }));
    }

-- what is at the address of a slot
pub table_of_slot : {m : Memory} {Lists : ℕ → ℕ → Type 0} (slots : List Slot) (i : ℕ) → AreSlots m Lists slots
    → i < length slots → IsTableAt m (get_or slots i no_slot).table
table_of_slot slots i are within = (are.listed (get_or slots i no_slot) (Contains-get_or slots i no_slot within)).1

-- ---- their addresses

pub at_numbers : (slots : List Slot) (g : Numbered) → Contains (map numbered_slot slots) g → g.value ≡ g.at
at_numbers slots g here = (let (s, listed, is) = element_of_map numbered_slot slots g here in rw (← is) refl)

pub are_numbered : {m : Memory} {Lists : ℕ → ℕ → Type 0} (slots : List Slot) → AreSlots m Lists slots
    → AreNumbersAt Lists (map numbered_slot slots)
are_numbered {Lists = Lists} slots are =
    record {
      rise = λ i j d before within.
          let inside : j < length slots = omega (arith, within, length-map slots numbered_slot) in
          rw (get_or-map numbered_slot slots i no_slot d (omega arith))
          (rw (get_or-map numbered_slot slots j no_slot d inside) (are.rise i j no_slot before inside));
      placed = at_numbers slots;
      all = λ at n. (
        λ here. from at n (element_of_map numbered_slot slots (at_place at n) here),
        λ lists. to (are.all at n lists),
      );
    }
  where
    from : (at n : ℕ) → ((s : Slot) × Contains slots s × (numbered_slot s ≡ at_place at n)) → Lists at n
    from at n (s, listed, is) =
        rw (← ap (λ (g : Numbered). g.at) is, ← ap (λ (g : Numbered). g.number) is) ((are.listed s listed).0)

    to : {at n : ℕ} → ((s : Slot) × Contains slots s × (s.number ≡ at) × (s.table.address ≡ n))
        → HasAt (map numbered_slot slots) at n
    to (s, listed, number, address) = rw (← number, ← address) (map_has numbered_slot slots s listed)
