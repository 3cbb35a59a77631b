-- Sorting spans changes neither whether they overlap nor their first overlap.
use Rattle.std.proofs.Common.{◌≡◌, ◌≢◌, ℕ, ◌+◌, ◌<◌, ◌⊎◌, List, length, get_or, arith, sym, ◌∙◌, map, false, nat_eq, Ordering, [], ◌∷◌}
use Rattle.std.specs.Ordering.{nat_cmp, ordering_then, is_lt}
use Rattle.std.specs.Cmp.{IsTotalOrder}
use Rattle.std.specs.List.{AllPairs, Contains}
use Rattle.std.specs.List.Sorted.{IsPermutation, IsSorted}
use Rattle.std.proofs.lemmas.List.{get_or-map, length-map}
use Rattle.std.proofs.Math.ListN.{get_or-map as get_or-map_at}
use Rattle.std.proofs.lemmas.List.Sorted.{ranks_by, sorted_far, IsPermutation-map, IsPermutation-sym, Contains-permutation}
use Rattle.std.proofs.lemmas.Cmp.{nat_cmp_total, nat_eq_equiv, on_total, then_total}
use Rattle.std.proofs.lemmas.Bool.Decides.{nat_tests, Decides-eqb}
use Rattle.std.proofs.lemmas.Map.Made.{AllPairs-from_IsDistinct, IsDistinct-from_AllPairs}
use Rattle.std.proofs.lemmas.Map.Keys.{IsDistinct-IsPermutation}
use Rattle.acpi_graph.specs.declared.span.Span.{Span}
use Rattle.acpi_graph.specs.Spans.{NamesDiffer, ComesBefore, LiesInTwo, IsClear, IsFirstClash}

-- how spans compare: by start, by name, by end
abbrev pub span_cmp : Span → Span → Ordering
span_cmp a b = ordering_then (nat_cmp a.start b.start) (ordering_then (nat_cmp a.name b.name) (nat_cmp a.end b.end))

span_cmp_total : IsTotalOrder span_cmp
span_cmp_total = then_total (on_total (λ s. s.start) nat_cmp_total)
    (then_total (on_total (λ s. s.name) nat_cmp_total) (on_total (λ s. s.end) nat_cmp_total))

not_above : (m n p q u v : ℕ) → is_lt (ordering_then (nat_cmp n m) (ordering_then (nat_cmp q p) (nat_cmp v u))) ≡ false
    → p ≢ q → (m < n) ⊎ ((m ≡ n) × (p < q))
not_above m n p q u v upto differ = grind (arith, nat_tests)

pub in_order : (xs : List Span) → NamesDiffer xs → IsSorted span_cmp xs → AllPairs ComesBefore xs
in_order xs names sorted i j d before within =
    not_above (get_or xs i d).start (get_or xs j d).start (get_or xs i d).name (get_or xs j d).name (get_or xs i d).end
    (get_or xs j d).end
    (sorted_far (λ a b. is_lt (span_cmp a b)) (ranks_by span_cmp_total (λ s. s)) xs sorted i j d (omega arith) within)
    (names i j d before within)

not_below : (m n p q u v : ℕ) → (m < n) ⊎ ((m ≡ n) × (p < q))
    → is_lt (ordering_then (nat_cmp n m) (ordering_then (nat_cmp q p) (nat_cmp v u))) ≡ false
not_below m n p q u v before = grind (arith, nat_tests)

pub sorted_in_order : (xs : List Span) → AllPairs ComesBefore xs → IsSorted span_cmp xs
sorted_in_order xs ordered k d from within =
    not_below (get_or xs k d).start (get_or xs (k + 1) d).start (get_or xs k d).name (get_or xs (k + 1) d).name
    (get_or xs k d).end (get_or xs (k + 1) d).end (ordered k (k + 1) d (omega arith) within)

to_names : (xs : List Span) → NamesDiffer xs → AllPairs (λ m n. m ≢ n) (map (λ s. s.name) xs)
to_names [] names i j d before within = absurd (omega arith)
to_names (x ∷ xs) names i j d before within =
    let inside : j < length (x ∷ xs) = rw length-map at within in
    let at_i : get_or (map (λ (s : Span). s.name) (x ∷ xs)) i d ≡ (get_or (x ∷ xs) i x).name =
    get_or-map (λ s. s.name) (x ∷ xs) i x d (omega arith) in
    let at_j : get_or (map (λ (s : Span). s.name) (x ∷ xs)) j d ≡ (get_or (x ∷ xs) j x).name =
    get_or-map (λ s. s.name) (x ∷ xs) j x d inside in
    λ same. names i j x before inside (sym at_i ∙ same ∙ at_j)

from_names : (xs : List Span) → AllPairs (λ m n. m ≢ n) (map (λ s. s.name) xs) → NamesDiffer xs
from_names xs names i j d before within =
    let inside : j < length (map (λ (s : Span). s.name) xs) = rw length-map within in
    λ same. names i j d.name before inside
    (get_or-map_at (λ (s : Span). s.name) xs i d ∙ same ∙ sym (get_or-map_at (λ (s : Span). s.name) xs j d))

pub names_permuted : (xs ys : List Span) → IsPermutation xs ys → NamesDiffer xs → NamesDiffer ys
names_permuted xs ys moved names = from_names ys (AllPairs-from_IsDistinct Decides-eqb (map (λ s. s.name) ys)
    (IsDistinct-IsPermutation nat_eq nat_eq_equiv.symm (map (λ s. s.name) xs) (map (λ s. s.name) ys)
    (IsPermutation-map (λ s. s.name) xs ys moved)
    (IsDistinct-from_AllPairs Decides-eqb (map (λ s. s.name) xs) (to_names xs names))))

contained_back : (xs ys : List Span) (s : Span) → IsPermutation xs ys → Contains ys s → Contains xs s
contained_back xs ys s moved found = Contains-permutation ys xs s (IsPermutation-sym xs ys moved) found

shared_permuted : (xs ys : List Span) (number : ℕ) → IsPermutation xs ys → LiesInTwo xs number → LiesInTwo ys number
shared_permuted xs ys number moved shared = record {
  one = shared.one;
  other = shared.other;
  one_listed = Contains-permutation xs ys shared.one moved shared.one_listed;
  other_listed = Contains-permutation xs ys shared.other moved shared.other_listed;
  two = shared.two;
  one_holds = shared.one_holds;
  other_holds = shared.other_holds;
}

pub clear_permuted : (xs ys : List Span) → IsPermutation xs ys → IsClear ys → IsClear xs
clear_permuted xs ys moved clear number shared = clear number (shared_permuted xs ys number moved shared)

pub first_clash_permuted : (xs ys : List Span) (first second point : ℕ) → IsPermutation xs ys
    → IsFirstClash ys first second point → IsFirstClash xs first second point
first_clash_permuted xs ys first second point moved found = record {
  two = record {
    earlier = found.two.earlier;
    later = found.two.later;
    earlier_listed = contained_back xs ys found.two.earlier moved found.two.earlier_listed;
    later_listed = contained_back xs ys found.two.later moved found.two.later_listed;
    earlier_name = found.two.earlier_name;
    later_name = found.two.later_name;
    two = found.two.two;
    earlier_holds = found.two.earlier_holds;
    later_holds = found.two.later_holds;
    in_order = found.two.in_order;
    others_after = λ s listed. found.two.others_after s (Contains-permutation xs ys s moved listed);
  };
  least = λ number shared. found.least number (shared_permuted xs ys number moved shared);
}

pub point_shared : (xs : List Span) (first second point : ℕ) → IsFirstClash xs first second point → LiesInTwo xs point
point_shared xs first second point found = record {
  one = found.two.earlier;
  other = found.two.later;
  one_listed = found.two.earlier_listed;
  other_listed = found.two.later_listed;
  two = λ same. found.two.two (sym found.two.earlier_name ∙ same ∙ found.two.later_name);
  one_holds = found.two.earlier_holds;
  other_holds = found.two.later_holds;
}
