-- Slots that list tables of which a set has one: a slot is a later one if it gives another address to the number of its
-- signature than the first slot with that number.
use Rattle.std.proofs.Common.{◌≡◌, ◌≢◌, ℕ, ◌<◌, ◌≤◌, true, false, true≢false, List, length, get_or, Some, None, refl, sym, ◌∙◌, ap, inl, inr, arith}
use Rattle.std.specs.Prelude.{AllPairs, Contains}
use Rattle.std.specs.List.{filter_map}
use Rattle.std.proofs.Math.Nat.{eq-or-lt_of_le}
use Rattle.std.proofs.lemmas.Option.{cond_some}
use Rattle.acpi_base.specs.Memory.{Memory, bytes_at}
use Rattle.acpi_base.specs.Number as number
use Rattle.acpi_base.specs.Root.{IsSlot}
use Rattle.acpi_base.proofs.Options.{cases_Option}
use Rattle.acpi_check.proofs.EntryPasses.Kept.{kept_has, kept_from}
use Rattle.acpi_lint.specs.Headers.{once_numbered}
use Rattle.acpi_rules.specs.Numbered.{IsNoLater, IsRepeated}
use Rattle.acpi_rules.specs.Places.{FindsLeast, IsLeast, IsNotAfter}
use Rattle.acpi_lint.specs.Rules.HeaderAdvice.{is_once, once_signatures, signature_number, ListsNumber, IsSecondOther}
use Rattle.acpi_lint.specs.Rules.Slots.{IsSecond}
use Rattle.acpi_lint.specs.Slots.{signature_at, IsTableAt, AreSlots}
use Rattle.acpi_lint.specs.declared.listed_slots.Slot.{Slot}
use Rattle.acpi_rules.specs.declared.numbered.Numbered.{Numbered}
use Rattle.acpi_rules.specs.declared.numbered.Repeat.TheVariants as repeat
use Rattle.acpi_rules.specs.declared.place.Place.{Place}
use Rattle.acpi_lint.proofs.FirstSlots.{one_listed}
use Rattle.acpi_lint.proofs.ListedSlots.{no_slot}
use Rattle.acpi_lint.proofs.RisingLists.{at_or_behind, none_such}

-- ---- the slot with a number

pub address_there : (slots : List Slot) (i number : ℕ) (s : Slot) → AllPairs (λ s t. s.number < t.number) slots
    → i < length slots → (get_or slots i no_slot).number ≡ number
    → ((j : ℕ) → j < i → (get_or slots j no_slot).number ≢ number) → Contains slots s → s.number ≡ number
    → (get_or slots i no_slot).table.address ≡ s.table.address
address_there slots i number s rise within here passed listed same =
    elim (at_or_behind (λ (x : Slot). x.number) (λ (x : Slot). x.number ≡ number) slots i no_slot s rise within passed
    listed same) [
      | inl one ↦ ap (λ (x : Slot). x.table.address) (sym one)
      | inr more ↦ absurd (omega (arith, here, same, more))
    ]

pub no_address : (slots : List Slot) (i number : ℕ) (s : Slot) → length slots ≤ i
    → ((j : ℕ) → j < i → (get_or slots j no_slot).number ≢ number) → Contains slots s → s.number ≢ number
no_address slots i number s end passed listed =
    none_such (λ (x : Slot). x.number ≡ number) slots i no_slot s end passed listed

-- ---- what is gathered

-- slot k lists the address a of a table with the signature n, of which a set has one
abbrev IsOnceAt : Memory → ℕ → ℕ → ℕ → ℕ → Type 0
IsOnceAt m p n k a = ListsNumber m p n k a × (is_once n ≡ true)

-- no table has the signature 0
not_once : is_once 0 ≡ false
unfolding once_signatures number.field
not_once = refl

once_signed : (m : Memory) (a n : ℕ) → n ≡ signature_at m a → is_once n ≡ true
    → (header : List ℕ) × (bytes_at m a 36 ≡ Some header) × (signature_number header ≡ n)
once_signed m a n is once =
    elim (cases_Option (bytes_at m a 36)) [
      | inr none ↦
          let zero : n ≡ 0 = rw none at is in
          absurd (true≢false (sym (rw zero at once) ∙ not_once))
      | inl (header, present) ↦ (header, present, sym (rw present at is))
    ]

once_from : (m : Memory) (p : ℕ) (s : Slot) (g : Numbered) → IsSlot m p s.number s.table.address
    → IsTableAt m s.table → once_numbered s ≡ Some g
    → IsOnceAt m p g.number g.at g.value × (g.at ≡ s.number) × (g.value ≡ s.table.address)
once_from m p s g slot there is =
    let kept = cond_some (is_once s.table.signature)
    (record { number = s.table.signature; at = s.number; value = s.table.address }) g is in
    rw (← kept.1) (((slot, once_signed m _ _ there.signature kept.0), kept.0), refl, refl)

once_to : (m : Memory) (p n k a : ℕ) (s : Slot) → s.number ≡ k → s.table.address ≡ a → IsTableAt m s.table
    → IsOnceAt m p n k a → once_numbered s ≡ Some (record { number = n; at = k; value = a })
once_to m p n k a s number address there ((slot, (header, present, is)), once) =
    let here : bytes_at m s.table.address 36 ≡ Some header = rw address present in
    let same : s.table.signature ≡ n = there.signature ∙ (rw (here, is) refl) in
    rw (same, once, number, address) refl

pub given_from : {m : Memory} {p : ℕ} (slots : List Slot) (g : Numbered) → AreSlots m (IsSlot m p) slots
    → Contains (filter_map once_numbered slots) g
    → IsOnceAt m p g.number g.at g.value
    × ((s : Slot) × Contains slots s × (s.number ≡ g.at) × (s.table.address ≡ g.value))
given_from {m} {p} slots g are listed =
    let (s, here, is) = kept_from once_numbered slots g listed in
    let (once, at, value) = once_from m p s g (are.listed s here).0 (are.listed s here).1 is in
    (once, (s, here, sym at, sym value))

pub given_to : {m : Memory} {p : ℕ} (slots : List Slot) (n k a : ℕ) → AreSlots m (IsSlot m p) slots
    → IsOnceAt m p n k a
    → Contains (filter_map once_numbered slots) (record { number = n; at = k; value = a })
given_to {m} {p} slots n k a are once =
    let (s, here, number, address) = are.all k a once.0.0 in
    kept_has once_numbered slots s (record { number = n; at = k; value = a }) here
    (once_to m p n k a s number address (are.listed s here).1 once)

-- ---- what is found among them

second_from : {m : Memory} {p : ℕ} (slots : List Slot) (at other n : ℕ) → AreSlots m (IsSlot m p) slots
    → IsRepeated repeat.Unlike (λ g. Contains (filter_map once_numbered slots) g) at other n
    → (point : ℕ) × IsSecondOther m p at other point
    × ((s : Slot) × Contains slots s × (s.number ≡ at) × (s.table.address ≡ point))
second_from {m} {p} slots at other n are (g, f, unlike, is) =
    let (here, place) = given_from slots g are unlike.here in
    let (there, _) = given_from slots f are unlike.first.here in
    rw (← ap (λ (x : Place). x.at) is, ← ap (λ (x : Place). x.other) is) (
      g.value,
      (
        g.number,
        here.1,
        record {
          here = here.0;
          a = f.value;
          there = rw unlike.same there.0;
          first = λ k b lists.
              upto k b (unlike.first.least (record { number = g.number; at = k; value = b })
              (given_to slots g.number k b are (lists, here.1)) unlike.same);
          differs = λ same. unlike.told (sym same);
        },
      ),
      place,
    )
  where
    upto : (k b : ℕ) → IsNoLater f (record { number = g.number; at = k; value = b }) → f.at ≤ k
    upto k b (inl less) = omega arith
    upto k b (inr (same, rest)) = omega (arith, same)

second_to : {m : Memory} {p at other point n : ℕ} (slots : List Slot) → AreSlots m (IsSlot m p) slots
    → is_once n ≡ true → IsSecond (ListsNumber m p n) at other point
    → IsRepeated repeat.Unlike (λ g. Contains (filter_map once_numbered slots) g) at other n
second_to {m} {p} {at} {other} {point} {n} slots are once second = (
  record { number = n; at = at; value = point },
  record { number = n; at = other; value = second.a },
  record {
    first =
        record {
          here = given_to slots n other second.a are (second.there, once);
          least = λ g listed same.
              let ((lists, _), _) = given_from slots g are listed in
              let low = second.first g.at g.value (rw same at lists) in
              elim (eq-or-lt_of_le {n = other} {m = g.at} low) [
                | inl one ↦
                    let value : g.value ≡ second.a = one_listed (rw (sym one) at lists.0) second.there.0 in
                    inr (one, omega (arith, value))
                | inr less ↦ inl less
              ];
        };
    here = given_to slots n at point are (second.here, once);
    same = refl;
    told = λ same. second.differs (sym same);
  },
  refl,
)

-- no such slot is found
pub no_second : {m : Memory} {p : ℕ} (slots : List Slot) → AreSlots m (IsSlot m p) slots
    → FindsLeast (IsRepeated repeat.Unlike (λ g. Contains (filter_map once_numbered slots) g)) None
    → FindsLeast (IsSecondOther m p) None
no_second slots are none = λ at other point (n, once, second). none at other n (second_to slots are once second)

-- the first one is found, and this is the address that it lists
pub first_second : {m : Memory} {p : ℕ} (slots : List Slot) (r : Place) (address : ℕ) → AreSlots m (IsSlot m p) slots
    → IsLeast (IsRepeated repeat.Unlike (λ g. Contains (filter_map once_numbered slots) g)) r
    → ((s : Slot) → Contains slots s → s.number ≡ r.at → address ≡ s.table.address)
    → FindsLeast (IsSecondOther m p) (Some (record { at = r.at; other = r.other; point = address }))
first_second {m} {p} slots r address are least tells =
    let (point, (signature, signed, second), (s, listed, number, there)) =
    second_from slots r.at r.other r.point are least.here in
    let same : address ≡ point = tells s listed number ∙ there in
    record {
      here = (signature, signed, rw same second);
      least = λ at other others (n, once, also).
          after at other others n same second also (least.least at other n (second_to slots are once also));
    }
  where
    after : (at other others n : ℕ) {point k : ℕ} → address ≡ point → IsSecond (ListsNumber m p k) r.at r.other point
        → IsSecond (ListsNumber m p n) at other others → IsNotAfter r at other n
        → IsNotAfter (record { at = r.at; other = r.other; point = address }) at other others
    after at other others n same second also (inl before) = inl before
    after at other others n same second also (inr (here, inl less)) = inr (here, inl less)
    after at other others n same second also (inr (here, inr (there, rest))) =
        let one = one_listed (rw here at second.here.0) also.here.0 in
        inr (here, inr (there, omega (arith, same, one)))
