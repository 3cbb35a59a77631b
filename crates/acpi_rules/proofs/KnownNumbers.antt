-- Numbers that are looked up among others, which are in order.
use Rattle.std.proofs.Common.{◌≡◌, ◌≢◌, ◌∙◌, ℕ, suc, ◌<◌, ◌≤◌, List, [], ◌∷◌, length, get_or, Option, Some, None, Bool, true, false, refl, sym, ap, inl, inr, arith, ltb, ltb-true}
use Rattle.std.specs.Prelude.{AllPairs, Contains, ◌==◌, ◌⊎◌, if◌then◌else◌}
use Rattle.std.specs.List.{slice_get}
use Rattle.std.specs.List.Sorted.{IsPartitionPoint, IsPartitionedBy}
use Rattle.std.proofs.lemmas.Bool.{cases_lt, eq-eqb, eqb-true, ltb-false}
use Rattle.std.proofs.lemmas.Bool.Decides.{nat_tests}
use Rattle.std.proofs.lemmas.List.Folds.{find_at}
use Rattle.std.proofs.lemmas.List.Sorted.{IsPartitionedBy-ltb}
use Rattle.std.proofs.lemmas.List.Sums.{position_or_len_is}
use Rattle.std.proofs.lemmas.Option.{same_Some, slice_get-get_or, slice_get_past}
use Rattle.acpi_base.proofs.Elements.{first_or_later, later_element, no_element}
use Rattle.acpi_rules.specs.Known.{first_of}
use Rattle.acpi_rules.specs.Numbered.{IsFirst, IsNotAbove}
use Rattle.acpi_rules.specs.declared.numbered.Numbered.{Numbered}
use Rattle.acpi_rules.proofs.RepeatedNumbers.{first_at, never_falls, one_first}

-- ---- the one that is found

-- of numbers in order those before this index are less than n, and the others are not
pub record IsParted (known : List Numbered) (n before : ℕ) : Type 0 where
  pub order : AllPairs IsNotAbove known
  pub within : before ≤ length known
  pub less : (k : ℕ) (d : Numbered) → k < before → (get_or known k d).number < n
  pub upto : (k : ℕ) (d : Numbered) → before ≤ k → k < length known → n ≤ (get_or known k d).number

pub parted_by : (known : List Numbered) (n before : ℕ) → AllPairs IsNotAbove known → before ≤ length known
    → IsPartitionPoint (λ g. ltb g.number n ≡ true) (λ g. ltb g.number n ≡ false) known before → IsParted known
    n before
parted_by known n before order within point =
    record {
      order = order;
      within = within;
      less = λ k d below. ltb-true _ _ (point.0 k d (omega arith) below);
      upto = λ k d least inside. ltb-false _ _ (point.1 k d least inside);
    }

pub sorted_below : (known : List Numbered) (n : ℕ) → AllPairs IsNotAbove known
    → IsPartitionedBy (λ g. ltb g.number n) known
sorted_below known n order =
    IsPartitionedBy-ltb (λ (g : Numbered). g.number) known n
    (λ i j d least inside. never_falls known order i j d least inside)

less_differs : (m n : ℕ) → (m < n) ⊎ (n < m) → (m == n) ≡ false
less_differs m n (inl less) = grind (arith, nat_tests)
less_differs m n (inr more) = grind (arith, nat_tests)

-- the number at that index is n, so it is the first that is
pub found_there : (known : List Numbered) (n before : ℕ) (d : Numbered) → IsParted known n before
    → before < length known → (get_or known before d).number ≡ n → first_of known n ≡ Some (get_or known before d)
unfolding first_of
found_there known n before d parted inside is =
    find_at (λ g. g.number == n) known
    ∙ ap (λ i. slice_get known i)
    (position_or_len_is (λ g. g.number == n) known before d parted.within
    (λ k below. less_differs (get_or known k d).number n (inl (parted.less k d below)))
    (λ within. eq-eqb (get_or known before d).number n is))
    ∙ slice_get-get_or known before d inside

-- the number at that index is another, or there is none, so none of them is n
pub found_nowhere : (known : List Numbered) (n before : ℕ) (d : Numbered) → IsParted known n before
    → (before < length known → ¬ ((get_or known before d).number ≡ n)) → first_of known n ≡ None
unfolding first_of
found_nowhere known n before d parted differs =
    find_at (λ g. g.number == n) known
    ∙ ap (λ i. slice_get known i)
    (position_or_len_is (λ g. g.number == n) known (length known) d (omega arith)
    (λ k inside. less_differs (get_or known k d).number n (either k inside))
    (λ past. absurd (omega arith)))
    ∙ slice_get_past known (length known) (omega arith)
  where
    either : (k : ℕ) → k < length known → ((get_or known k d).number < n) ⊎ (n < (get_or known k d).number)
    either k inside =
        elim (cases_lt k before) [
          | inl below ↦ inl (parted.less k d below)
          | inr least ↦
              let other = differs (omega arith) in
              let upto = parted.upto before d (omega arith) (omega arith) in
              let rises = never_falls known parted.order before k d least inside in
              inr (grind (arith, other, upto, rises))
        ]

-- ---- what it is

-- what is found among one and others, by whether that one has the number
abbrev found_with : Bool → Numbered → List Numbered → ℕ → Option Numbered
found_with here h known n = if here then Some h else first_of known n

rest_in_order : (h : Numbered) (known : List Numbered) → AllPairs IsNotAbove (h ∷ known) → AllPairs IsNotAbove known
rest_in_order h known order i j d less inside = order (suc i) (suc j) d (omega arith) (omega arith)

-- it has the number, and is the first that does
pub first_of_is : (known : List Numbered) (n : ℕ) (f : Numbered) → AllPairs IsNotAbove known
    → first_of known n ≡ Some f → IsFirst (λ g. Contains known g) f × (f.number ≡ n)
unfolding first_of
first_of_is [] n f order is = absurd cc
first_of_is (h ∷ known) n f order is =
    go (h.number == n) refl is (λ found. first_of_is known n f (rest_in_order h known order) found)
  where
    rest : IsFirst (λ g. Contains known g) f × (f.number ≡ n) → h.number ≢ n
        → IsFirst (λ g. Contains (h ∷ known) g) f × (f.number ≡ n)
    rest (first, same) differ = (
      record {
        here = later_element h f known first.here;
        least = λ g listed equal. elim (first_or_later h g known listed) [
          | inl here ↦ absurd (differ (ap (λ (x : Numbered). x.number) here ∙ equal ∙ same))
          | inr later ↦ first.least g later equal
        ];
      },
      same,
    )

    go : (b : Bool) → (h.number == n) ≡ b → found_with b h known n ≡ Some f
        → (first_of known n ≡ Some f → IsFirst (λ g. Contains known g) f × (f.number ≡ n))
        → IsFirst (λ g. Contains (h ∷ known) g) f × (f.number ≡ n)
    go true same found later =
        let here : h ≡ f = same_Some h f found in
        rw (sym here) (
          first_at (h ∷ known) order 0 h (omega arith) refl (λ k d below. absurd (omega arith)),
          eqb-true h.number n same,
        )
    go false differ found later =
        rest (later found)
        (λ same. let no = sym (eq-eqb h.number n same) ∙ differ in absurd cc)

-- none of them has it
pub first_of_none : (known : List Numbered) (n : ℕ) → first_of known n ≡ None → (g : Numbered) → Contains known g
    → ¬ (g.number ≡ n)
unfolding first_of
first_of_none [] n is g listed same = no_element g listed
first_of_none (h ∷ known) n is g listed same =
    go (h.number == n) refl is (λ found later. first_of_none known n found g later same)
  where
    go : (b : Bool) → (h.number == n) ≡ b → found_with b h known n ≡ None
        → (first_of known n ≡ None → Contains known g → ⊥) → ⊥
    go true here found rest = absurd cc
    go false differ found rest =
        elim (first_or_later h g known listed) [
          | inl one ↦
              let no = sym (eq-eqb h.number n (ap (λ (x : Numbered). x.number) one ∙ same)) ∙ differ in absurd cc
          | inr later ↦ rest found later
        ]

-- the first one that has a number is found
pub first_of_found : (known : List Numbered) (f : Numbered) → AllPairs IsNotAbove known
    → IsFirst (λ g. Contains known g) f → first_of known f.number ≡ Some f
first_of_found known f order first = go (first_of known f.number) refl
  where
    go : (o : Option Numbered) → first_of known f.number ≡ o → o ≡ Some f
    go None none = absurd (first_of_none known f.number none f first.here refl)
    go (Some g) is =
        let (other, same) = first_of_is known f.number g order is in
        ap Some (one_first (λ x. Contains known x) other first same)
