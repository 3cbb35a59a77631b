-- The lowest number that two lists have a different number of times: the first at which they differ, once they are in
-- order.
use Rattle.std.proofs.Common.{◌≡◌, ◌≢◌, ℕ, suc, ◌+◌, ◌<◌, ◌≤◌, ◌==◌, Bool, true, false, List, [], ◌∷◌, length, drop, get_or, Option, Some, None, refl, sym, subst, ◌∙◌, inl, inr, arith}
use Rattle.std.specs.Prelude.{Contains, min, if◌then◌else◌}
use Rattle.std.specs.List.Sorted.{IsPermutation, IsSorted}
use Rattle.std.specs.Ordering.{nat_cmp, is_lt}
use Rattle.std.proofs.lemmas.Bool.{cases_lt}
use Rattle.std.proofs.lemmas.Bool.Decides.{nat_tests}
use Rattle.std.proofs.lemmas.Cmp.{nat_cmp_total}
use Rattle.std.proofs.lemmas.List.{drop_more, drop_all}
use Rattle.std.proofs.lemmas.List.Sorted.{ranks_by, sorted_far, sum_by-IsPermutation}
use Rattle.std.proofs.lemmas.List.Sums.{sum_by-cons}
use Rattle.acpi_base.proofs.Elements.{first_element, later_element, first_or_later}
use Rattle.acpi_lint.specs.Differences.{first_difference, FindsDifference}
use Rattle.acpi_lint.specs.Rules.RootAdvice.{times_in}

-- ---- how often a number is in a list

one_more : (x : ℕ) (xs : List ℕ) (n : ℕ) → times_in (x ∷ xs) n ≡ (if x == n then 1 else 0) + times_in xs n
one_more x xs n = sum_by-cons (λ k. if k == n then 1 else 0) x xs

here_more : (n : ℕ) (ns : List ℕ) → times_in (n ∷ ns) n ≢ 0
here_more n ns zero = some (times_in ns n) (sym (one_more n ns n) ∙ zero)
  where
    some : (t : ℕ) → (if n == n then 1 else 0) + t ≢ 0
    some t none = grind (arith, nat_tests)

other_more : (x n : ℕ) (xs : List ℕ) → x ≢ n → times_in (x ∷ xs) n ≡ times_in xs n
other_more x n xs differs = one_more x xs n ∙ none (times_in xs n)
  where
    none : (t : ℕ) → (if x == n then 1 else 0) + t ≡ t
    none t = grind (arith, nat_tests)

zero_below : (m : ℕ) (xs : List ℕ) → ((x : ℕ) → Contains xs x → m < x) → times_in xs m ≡ 0
zero_below m [] above = refl
zero_below m (x ∷ xs) above =
    other_more x m xs (λ same. omega (arith, same, above x (first_element x xs)))
    ∙ zero_below m xs (λ y later. above y (later_element x y xs later))

-- ---- lists in order

-- no number is above a later one
abbrev pub IsRising : List ℕ → Type 0
IsRising [] = Unit {0}
IsRising (n ∷ ns) = ((x : ℕ) → Contains ns x → n ≤ x) × IsRising ns

rising_from : (xs : List ℕ) → ((i j d : ℕ) → i ≤ j → j < length xs → get_or xs i d ≤ get_or xs j d) → IsRising xs
rising_from [] order = tt
rising_from (n ∷ ns) order = (
  λ x (k, below, is). let most = order 0 (suc k) x (omega arith) (omega (arith, below)) in omega (arith, most, is),
  rising_from ns (λ i j d upto within. order (suc i) (suc j) d (omega (arith, upto)) (omega (arith, within))),
)

no_less : (n k : ℕ) → is_lt (nat_cmp k n) ≡ false → n ≤ k
no_less n k upto = grind (arith, nat_tests)

sorted_rising : (xs : List ℕ) → IsSorted nat_cmp xs → IsRising xs
sorted_rising xs order =
    rising_from xs
    (λ i j d upto within.
    no_less (get_or xs i d) (get_or xs j d)
    (sorted_far (λ a b. is_lt (nat_cmp a b)) (ranks_by nat_cmp_total (λ n. n)) xs order i j d upto within))

below_first : (m n : ℕ) (ns : List ℕ) → ((x : ℕ) → Contains ns x → n ≤ x) → m < n → times_in (n ∷ ns) m ≡ 0
below_first m n ns low less =
    zero_below m (n ∷ ns)
    (λ x listed.
    elim (first_or_later n x ns listed) [
      | inl is ↦ omega (arith, is, less)
      | inr later ↦ omega (arith, low x later, less)
    ])

-- ---- the first number at which two differ

same_heads : (n : ℕ) (ours theirs : List ℕ) (found : Option ℕ) → FindsDifference ours theirs found
    → FindsDifference (n ∷ ours) (n ∷ theirs) found
same_heads n ours theirs None same = λ k. omega (arith, one_more n ours k, one_more n theirs k, same k)
same_heads n ours theirs (Some d) (differ, least) = (
  λ same. differ (omega (arith, one_more n ours d, one_more n theirs d, same)),
  λ k other. least k (λ same. other (omega (arith, one_more n ours k, one_more n theirs k, same))),
)

low_first : (n k : ℕ) (ours theirs : List ℕ) → ((x : ℕ) → Contains ours x → n ≤ x)
    → ((x : ℕ) → Contains theirs x → k ≤ x) → n < k → FindsDifference (n ∷ ours) (k ∷ theirs) (Some n)
low_first n k ours theirs low from less = (
  λ same. here_more n ours (same ∙ below_first n k theirs from less),
  λ m differ. elim (cases_lt m n) [
    | inl below ↦
        absurd (differ (below_first m n ours low below ∙ sym
        (below_first m k theirs from (omega (arith, below, less)))))
    | inr most ↦ most
  ],
)

turned : (ours theirs : List ℕ) (n : ℕ) → FindsDifference theirs ours (Some n) → FindsDifference ours theirs (Some n)
turned ours theirs n (differ, least) = (λ same. differ (sym same), λ k other. least k (λ same. other (sym same)))

at_heads : (n k : ℕ) (ours theirs : List ℕ) (rest : Option ℕ) → ((x : ℕ) → Contains ours x → n ≤ x)
    → ((x : ℕ) → Contains theirs x → k ≤ x) → FindsDifference ours theirs rest → (b : Bool) → (n == k) ≡ b
    → FindsDifference (n ∷ ours) (k ∷ theirs) (if b then rest else Some (min n k))
at_heads n k ours theirs rest low from found true is =
    let same : n ≡ k = grind (arith, nat_tests) in
    subst (λ (x : ℕ). FindsDifference (n ∷ ours) (x ∷ theirs) rest) same (same_heads n ours theirs rest found)
at_heads n k ours theirs rest low from found false is =
    let differs : n ≢ k = λ same. grind (arith, nat_tests) in
    elim (cases_lt n k) [
      | inl less ↦
          let least : min n k ≡ n = omega (arith, less) in
          subst (λ (x : ℕ). FindsDifference (n ∷ ours) (k ∷ theirs) (Some x)) (sym least)
          (low_first n k ours theirs low from less)
      | inr most ↦
          let least : min n k ≡ k = omega (arith, most) in
          let less : k < n =
          elim (cases_lt k n) [ inl is ↦ is | inr upto ↦ absurd (differs (omega (arith, most, upto))) ] in
          subst (λ (x : ℕ). FindsDifference (n ∷ ours) (k ∷ theirs) (Some x)) (sym least)
          (turned (n ∷ ours) (k ∷ theirs) k (low_first k n theirs ours from low less))
    ]

pub lowest : (ours theirs : List ℕ) → IsRising ours → IsRising theirs
    → FindsDifference ours theirs (first_difference ours theirs)
unfolding first_difference
lowest [] [] rise more = λ n. refl
lowest [] (k ∷ theirs) rise (from, more) = (
  λ same. here_more k theirs (sym same),
  λ m differ. elim (cases_lt m k) [
    | inl below ↦ absurd (differ (sym (below_first m k theirs from below)))
    | inr most ↦ most
  ],
)
lowest (n ∷ ours) [] (low, rise) more = (
  λ same. here_more n ours same,
  λ m differ. elim (cases_lt m n) [
    | inl below ↦ absurd (differ (below_first m n ours low below))
    | inr most ↦ most
  ],
)
lowest (n ∷ ours) (k ∷ theirs) (low, rise) (from, more) =
    at_heads n k ours theirs (first_difference ours theirs) low from (lowest ours theirs rise more) (n == k) refl

-- the same for lists that are sorted first
pub lowest_sorted : (ours theirs here there : List ℕ) → IsPermutation ours here → IsPermutation theirs there
    → IsSorted nat_cmp here → IsSorted nat_cmp there → FindsDifference ours theirs (first_difference here there)
lowest_sorted ours theirs here there moved also order more =
    of (first_difference here there) (lowest here there (sorted_rising here order) (sorted_rising there more))
  where
    one : (n : ℕ) → times_in here n ≡ times_in ours n
    one n = sum_by-IsPermutation (λ k. if k == n then 1 else 0) ours here moved

    other : (n : ℕ) → times_in there n ≡ times_in theirs n
    other n = sum_by-IsPermutation (λ k. if k == n then 1 else 0) theirs there also

    of : (found : Option ℕ) → FindsDifference here there found → FindsDifference ours theirs found
    of None same = λ n. sym (one n) ∙ same n ∙ other n
    of (Some n) (differ, least) = (
      λ same. differ (one n ∙ same ∙ sym (other n)),
      λ k differs. least k (λ same. differs (sym (one k) ∙ same ∙ other k)),
    )

-- ---- at an index

both_here : (ours theirs : List ℕ) (i : ℕ) → i < length ours → i < length theirs
    → first_difference (drop i ours) (drop i theirs)
    ≡ (if get_or ours i 0 == get_or theirs i 0 then first_difference (drop (i + 1) ours) (drop (i + 1) theirs)
    else Some (min (get_or ours i 0) (get_or theirs i 0)))
unfolding first_difference
both_here ours theirs i within inside = rw (drop_more ours i 0 within, drop_more theirs i 0 inside) refl

pub same_here : (ours theirs : List ℕ) (i : ℕ) → i < length ours → i < length theirs
    → get_or ours i 0 ≡ get_or theirs i 0
    → first_difference (drop (i + 1) ours) (drop (i + 1) theirs) ≡ first_difference (drop i ours) (drop i theirs)
same_here ours theirs i within inside same =
    sym (both_here ours theirs i within inside
    ∙ test (get_or ours i 0) (get_or theirs i 0) same _ _)
  where
    test : (n k : ℕ) → n ≡ k → (x y : Option ℕ) → (if n == k then x else y) ≡ x
    test n k same x y = grind (arith, nat_tests)

pub other_here : (ours theirs : List ℕ) (i : ℕ) → i < length ours → i < length theirs
    → get_or ours i 0 ≢ get_or theirs i 0
    → first_difference (drop i ours) (drop i theirs) ≡ Some (min (get_or ours i 0) (get_or theirs i 0))
other_here ours theirs i within inside differs =
    both_here ours theirs i within inside ∙ test (get_or ours i 0) (get_or theirs i 0) differs _ _
  where
    test : (n k : ℕ) → n ≢ k → (x y : Option ℕ) → (if n == k then x else y) ≡ y
    test n k differs x y = grind (arith, nat_tests)

pub ours_more : (ours theirs : List ℕ) (i : ℕ) → i < length ours → length theirs ≤ i
    → first_difference (drop i ours) (drop i theirs) ≡ Some (get_or ours i 0)
unfolding first_difference
ours_more ours theirs i within end = rw (drop_more ours i 0 within, drop_all i theirs end) refl

pub theirs_more : (ours theirs : List ℕ) (i : ℕ) → length ours ≤ i → i < length theirs
    → first_difference (drop i ours) (drop i theirs) ≡ Some (get_or theirs i 0)
unfolding first_difference
theirs_more ours theirs i end within = rw (drop_all i ours end, drop_more theirs i 0 within) refl

pub none_more : (ours theirs : List ℕ) (i : ℕ) → length ours ≤ i → length theirs ≤ i
    → first_difference (drop i ours) (drop i theirs) ≡ None
unfolding first_difference
none_more ours theirs i end also = rw (drop_all i ours end, drop_all i theirs also) refl
