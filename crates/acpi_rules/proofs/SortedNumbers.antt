-- Numbers that are given at places, once they are sorted.
use Rattle.std.proofs.Common.{◌≡◌, ℕ, ◌<◌, ◌≤◌, ◌⊎◌, List, get_or, Option, Result, Ok, Err, false, Ordering, arith}
use Rattle.std.specs.Prelude.{AllPairs, Contains, OnOk}
use Rattle.std.specs.Cmp.{IsTotalOrder}
use Rattle.std.specs.List.Sorted.{IsPermutation, IsSorted}
use Rattle.std.specs.Ordering.{nat_cmp, ordering_then, is_lt}
use Rattle.std.proofs.lemmas.Bool.Decides.{nat_tests}
use Rattle.std.proofs.lemmas.Cmp.{nat_cmp_total, on_total, then_total}
use Rattle.std.proofs.lemmas.List.Sorted.{ranks_by, sorted_far, Contains-permutation, IsPermutation-sym}
use Rattle.acpi_rules.specs.Numbered.{IsNotAbove, IsRepeated, Repeats}
use Rattle.acpi_rules.specs.Places.{FindsLeast}
use Rattle.acpi_rules.specs.declared.numbered.Numbered.{Numbered}
use Rattle.acpi_rules.specs.declared.numbered.Repeat.{Repeat}
use Rattle.acpi_rules.specs.declared.place.Place.{Place}
use Rattle.acpi_rules.proofs.LeastPlaces.{least_as}

-- how they compare
abbrev numbered_cmp : Numbered → Numbered → Ordering
numbered_cmp a b =
    ordering_then (nat_cmp a.number b.number) (ordering_then (nat_cmp a.at b.at) (nat_cmp a.value b.value))

numbered_cmp_total : IsTotalOrder numbered_cmp
numbered_cmp_total =
    then_total (on_total (λ n. n.number) nat_cmp_total)
    (then_total (on_total (λ n. n.at) nat_cmp_total) (on_total (λ n. n.value) nat_cmp_total))

not_above : (m n p q v w : ℕ)
    → is_lt (ordering_then (nat_cmp n m) (ordering_then (nat_cmp q p) (nat_cmp w v))) ≡ false
    → (m < n) ⊎ ((m ≡ n) × ((p < q) ⊎ ((p ≡ q) × (v ≤ w))))
not_above m n p q v w upto = grind (arith, nat_tests)

pub in_order : (sorted : List Numbered) → IsSorted numbered_cmp sorted → AllPairs IsNotAbove sorted
in_order sorted order i j d before within =
    not_above (get_or sorted i d).number (get_or sorted j d).number (get_or sorted i d).at (get_or sorted j d).at
    (get_or sorted i d).value (get_or sorted j d).value
    (sorted_far (λ a b. is_lt (numbered_cmp a b)) (ranks_by numbered_cmp_total (λ n. n)) sorted order i j d
    (omega arith) within)

moved_repeats : (r : Repeat) (given others : List Numbered) (g f : Numbered)
    → ((x : Numbered) → Contains given x → Contains others x)
    → ((x : Numbered) → Contains others x → Contains given x) → Repeats r (λ x. Contains given x) g f
    → Repeats r (λ x. Contains others x) g f
moved_repeats r given others g f to from repeats =
    record {
      first =
          record {
            here = to f repeats.first.here;
            least = λ x listed same. repeats.first.least x (from x listed) same;
          };
      here = to g repeats.here;
      same = repeats.same;
      told = repeats.told;
    }

pub in_order_ok : {X Y : Type 0} (r : Result X Y) (sorted : List Numbered) → OnOk r (IsSorted numbered_cmp sorted)
    → OnOk r (AllPairs IsNotAbove sorted)
in_order_ok (Ok x) sorted order = in_order sorted order
in_order_ok (Err y) sorted order = tt

pub found_moved : (r : Repeat) (given sorted : List Numbered) (found : Option Place) → IsPermutation given sorted
    → FindsLeast (IsRepeated r (λ x. Contains sorted x)) found → FindsLeast
    (IsRepeated r (λ x. Contains given x)) found
found_moved r given sorted found moved least =
    least_as found
    (λ at other point (g, f, repeats, is). (g, f, moved_repeats r sorted given g f back there repeats, is))
    (λ at other point (g, f, repeats, is). (g, f, moved_repeats r given sorted g f there back repeats, is)) least
  where
    there : (x : Numbered) → Contains given x → Contains sorted x
    there x listed = Contains-permutation given sorted x moved listed

    back : (x : Numbered) → Contains sorted x → Contains given x
    back x listed = Contains-permutation sorted given x (IsPermutation-sym given sorted moved) listed
