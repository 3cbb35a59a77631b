-- Texts of a header: a scan for a byte that is not printable and none of the zeros at the text's end; and the first
-- slot that
-- lists a header with one.
use Rattle.std.proofs.Common.{◌≡◌, ℕ, ◌<◌, ◌≤◌, Bool, false, true≢false, List, length, take, drop, get_or, Option, Some, None, sym, ◌∙◌, ap, subst, inl, inr, arith}
use Rattle.std.specs.Prelude.{◌⊎◌, ◌↔◌, IsTrue, slice_index}
use Rattle.std.proofs.lemmas.Bool.{cases_lt}
use Rattle.std.proofs.lemmas.List.Elements.{Contains-get_or}
use Rattle.acpi_base.specs.Memory.{Memory}
use Rattle.acpi_base.specs.Root.{IsSlot}
use Rattle.acpi_rules.specs.Places.{FindsLeast, IsNotAfter}
use Rattle.acpi_lint.specs.Rules.HeaderAdvice.{IsNoText, IsOddField, IsOddText, IsHeaderText}
use Rattle.acpi_lint.specs.Slots.{FindsOddAt, AreSlots}
use Rattle.acpi_lint.specs.declared.listed_slots.Slot.{Slot}
use Rattle.acpi_lint.proofs.ListedSlots.{no_slot, table_of_slot}
use Rattle.acpi_lint.proofs.RisingLists.{at_or_behind, none_such}

-- byte i is not printable
abbrev pub IsOddAt : List ℕ → ℕ → Type 0
IsOddAt text i = (slice_index text i < 32) ⊎ (126 < slice_index text i)

-- one of the first n bytes is not printable
abbrev pub HasOdd : List ℕ → ℕ → Type 0
HasOdd text n = (i : ℕ) × (i < n) × IsOddAt text i

-- none of the first n bytes shows that it is no text, and this says whether one of them is not printable
pub record IsScanned (text : List ℕ) (n : ℕ) (odd : Bool) : Type 0 where
  pub tells : IsTrue odd ↔ HasOdd text n
  pub none : (i j : ℕ) → i ≤ j → j < n → IsOddAt text i → slice_index text j ≡ 0

-- ---- the texts of a header, in their order

-- the text of this size at an offset is one
abbrev pub IsText : List ℕ → ℕ → ℕ → Type 0
IsText header offset size = ¬ IsNoText (take size (drop offset header))

pub is_text : (odd : Bool) (P : Type 0) → (IsTrue odd ↔ P) → odd ≡ false → ¬ P
is_text odd P tells is holds = true≢false (sym (tells.1 holds) ∙ is)

pub from_second : (header : List ℕ) → IsText header 0 4 → (offset : ℕ) → IsOddField header offset → 10 ≤ offset
from_second header one offset (size, inl (at, is), odd) = absurd (one (rw (at, is) at odd))
from_second header one offset (size, inr (inl (at, is)), odd) = omega (arith, at)
from_second header one offset (size, inr (inr (inl (at, is))), odd) = omega (arith, at)
from_second header one offset (size, inr (inr (inr (at, is))), odd) = omega (arith, at)

pub from_third : (header : List ℕ) → IsText header 0 4 → IsText header 10 6 → (offset : ℕ) → IsOddField header offset
    → 16 ≤ offset
from_third header one two offset (size, inl (at, is), odd) = absurd (one (rw (at, is) at odd))
from_third header one two offset (size, inr (inl (at, is)), odd) = absurd (two (rw (at, is) at odd))
from_third header one two offset (size, inr (inr (inl (at, is))), odd) = omega (arith, at)
from_third header one two offset (size, inr (inr (inr (at, is))), odd) = omega (arith, at)

pub from_fourth : (header : List ℕ) → IsText header 0 4 → IsText header 10 6 → IsText header 16 8 → (offset : ℕ)
    → IsOddField header offset → 28 ≤ offset
from_fourth header one two three offset (size, inl (at, is), odd) = absurd (one (rw (at, is) at odd))
from_fourth header one two three offset (size, inr (inl (at, is)), odd) = absurd (two (rw (at, is) at odd))
from_fourth header one two three offset (size, inr (inr (inl (at, is))), odd) = absurd (three (rw (at, is) at odd))
from_fourth header one two three offset (size, inr (inr (inr (at, is))), odd) = omega (arith, at)

pub no_odd : (header : List ℕ) → IsText header 0 4 → IsText header 10 6 → IsText header 16 8 → IsText header 28 4
    → (offset : ℕ) → ¬ IsOddField header offset
no_odd header one two three four offset (size, inl (at, is), odd) = one (rw (at, is) at odd)
no_odd header one two three four offset (size, inr (inl (at, is)), odd) = two (rw (at, is) at odd)
no_odd header one two three four offset (size, inr (inr (inl (at, is))), odd) = three (rw (at, is) at odd)
no_odd header one two three four offset (size, inr (inr (inr (at, is))), odd) = four (rw (at, is) at odd)

-- ---- the headers that slots list

abbrev pub NoneBefore : List Slot → ℕ → Type 0
NoneBefore slots i = (j : ℕ) → j < i → (get_or slots j no_slot).table.odd_text ≡ None

text_there : (m : Memory) (a : ℕ) (found : Option ℕ) (first : ℕ) → FindsOddAt m a found → found ≡ Some first
    → FindsOddAt m a (Some first)
text_there m a found first finds is = rw is at finds

no_text_there : (m : Memory) (a : ℕ) (found : Option ℕ) (offset : ℕ) → FindsOddAt m a found → found ≡ None
    → ¬ IsOddText m a offset
no_text_there m a found offset finds none = (rw none at finds) offset

passed_text : {m : Memory} {p : ℕ} (slots : List Slot) (i offset : ℕ) → AreSlots m (IsSlot m p) slots
    → i ≤ length slots → NoneBefore slots i → (j : ℕ) → j < i
    → ¬ IsOddText m (get_or slots j no_slot).table.address offset
passed_text {m} slots i offset are upto passed j below =
    no_text_there m _ _ offset (table_of_slot slots j are (omega arith)).text (passed j below)

pub first_text : {m : Memory} {p : ℕ} (slots : List Slot) (i offset : ℕ) → AreSlots m (IsSlot m p) slots
    → i < length slots → (get_or slots i no_slot).table.odd_text ≡ Some offset → NoneBefore slots i
    → FindsLeast (IsHeaderText m p) (Some (record {
      at = (get_or slots i no_slot).number;
      other = offset;
      point = (get_or slots i no_slot).table.address;
    }))
first_text {m} {p} slots i offset are within found passed =
    let s : Slot = get_or slots i no_slot in
    let (slot, there) = are.listed s (Contains-get_or slots i no_slot within) in
    let (odd, first) = text_there m _ _ offset there.text found in
    record {
      here = (slot, odd);
      least = λ at other point (lists, wrong).
          let (t, listed, same, is) = are.all at point lists in
          let here : IsOddText m t.table.address other = rw is wrong in
          elim (at_or_behind (λ (x : Slot). x.number) (λ (x : Slot). IsOddText m x.table.address other) slots i no_slot
          t are.rise within (passed_text slots i other are (omega arith) passed) listed here) [
            | inl one ↦
                let low = first other (subst (λ (x : Slot). IsOddText m x.table.address other) one here) in
                upto s.number offset s.table.address at other point
                (omega (arith, same, ap (λ (x : Slot). x.number) one)) low
                (omega (arith, is, ap (λ (x : Slot). x.table.address) one))
            | inr more ↦ inl (omega (arith, same, more))
          ];
    }
  where
    upto : (number first address at other point : ℕ) → number ≡ at → first ≤ other → address ≡ point
        → IsNotAfter (record { at = number; other = first; point = address }) at other point
    upto number first address at other point here low there =
        elim (cases_lt first other) [
          | inl less ↦ inr (here, inl less)
          | inr most ↦ inr (here, inr (omega (arith, low, most), omega (arith, there)))
        ]

pub no_text : {m : Memory} {p : ℕ} (slots : List Slot) (i : ℕ) → AreSlots m (IsSlot m p) slots → length slots ≤ i
    → i ≤ length slots → NoneBefore slots i → FindsLeast (IsHeaderText m p) None
no_text {m} {p} slots i are end upto passed = λ at other point (lists, wrong).
    let (t, listed, same, is) = are.all at point lists in
    none_such (λ (x : Slot). IsOddText m x.table.address other) slots i no_slot t end
    (passed_text slots i other are upto passed) listed (rw is wrong)
