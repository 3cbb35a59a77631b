-- The caches that nodes of a PPTT name, and the pairs of a node and a Next Level.
use Rattle.std.proofs.Common.{◌≡◌, ◌∙◌, ℕ, ◌<◌, ◌≤◌, List, length, get_or, Option, Some, None, Bool, true, false, refl, sym, ap, inl, inr, arith, ltb, subst}
use Rattle.std.specs.Prelude.{◌↔◌, ◌⊎◌, ◌&&◌, ◌||◌, ◌==◌, not, AllPairs, Contains, IfSome}
use Rattle.std.specs.List.{filter_map, slice_index_or}
use Rattle.std.specs.List.Sorted.{IsPartitionedBy, IsPartitionPoint, IsPermutation}
use Rattle.std.proofs.lemmas.Bool.{cases_lt, cases_order, eq-eqb, eqb-true}
use Rattle.std.proofs.lemmas.List.{get_or_default}
use Rattle.std.proofs.lemmas.List.Folds.{Any-from_list_any, list_any-from_Any}
use Rattle.std.proofs.lemmas.List.Sorted.{Contains-permutation, IsPermutation-sym}
use Rattle.std.proofs.lemmas.Option.{cond_some, same_Some}
use Rattle.acpi_rules.specs.Known.{first_of}
use Rattle.acpi_rules.specs.Cases.{Case, gives}
use Rattle.acpi_rules.specs.Given.{all_given}
use Rattle.acpi_rules.specs.Numbered.{IsFirst, IsNotAbove, IsRepeated}
use Rattle.acpi_rules.specs.Numbers.{GivenIn}
use Rattle.acpi_rules.specs.Sites.{sites_of}
use Rattle.acpi_rules.specs.Places.{FindsLeast, IsLeast, IsNotAfter}
use Rattle.acpi_rules.specs.Terms.{TwoTables}
use Rattle.acpi_rules.specs.declared.numbered.Numbered.{Numbered}
use Rattle.acpi_rules.specs.declared.numbered.Repeat.TheVariants as repeat
use Rattle.acpi_rules.specs.declared.place.Place.{Place}
use Rattle.acpi_rules.specs.declared.series.Path.{Path}
use Rattle.acpi_check.proofs.EntryPasses.Kept.{kept_from, kept_has}
use Rattle.acpi_rules.proofs.Following.{cases_Option}
use Rattle.acpi_rules.proofs.FormFindings.{repeated_as}
use Rattle.acpi_rules.proofs.KnownNumbers.{first_of_found, first_of_is}
use Rattle.acpi_rules.proofs.LeastPlaces.{least_as, not_after_trans}
use Rattle.acpi_lint.specs.CacheTypes.{IsLower, has_pair, has_type, nearest, next_level}
use Rattle.acpi_lint.specs.Rules.Entries.{alone}
use Rattle.acpi_lint.specs.Rules.CacheTypes.{IsCache, IsNearest, IsResource, IsSameOfType, IsTyped, LeadsTo}
use Rattle.acpi_lint.proofs.OuterNodes.{first_as}

-- ---- pairs

-- the pair with a node and an offset
abbrev pub IsPair : ℕ → ℕ → Numbered → Type 0
IsPair n o g = (g.number ≡ n) × (g.at ≡ o)

is_pair : (n o : ℕ) (g : Numbered) → (g.number == n && g.at == o) ≡ true → IsPair n o g
is_pair n o g both = grind (arith, both)

pair_is : (n o : ℕ) (g : Numbered) → IsPair n o g → (g.number == n && g.at == o) ≡ true
pair_is n o g (number, at) = grind (arith, number, at)

pub pair_found : (pairs : List Numbered) (n o : ℕ) → has_pair pairs n o ≡ true
    → (g : Numbered) × Contains pairs g × IsPair n o g
unfolding has_pair
pair_found pairs n o found =
    let (i, g, within, here, both) = Any-from_list_any (λ g. g.number == n && g.at == o) pairs found in
    (g, (i, within, here), is_pair n o g both)

pub pair_there : (pairs : List Numbered) (n o : ℕ) (g : Numbered) → Contains pairs g → IsPair n o g
    → has_pair pairs n o ≡ true
unfolding has_pair
pair_there pairs n o g (i, within, here) is =
    list_any-from_Any (λ g. g.number == n && g.at == o) pairs (i, g, within, here, pair_is n o g is)

-- ---- pairs in order

-- whether a pair is below the one with a node and an offset
abbrev pub is_below : ℕ → ℕ → Numbered → Bool
is_below n o g = ltb g.number n || (g.number == n && ltb g.at o)

abbrev IsBelow : ℕ → ℕ → Numbered → Type 0
IsBelow n o g = (g.number < n) ⊎ ((g.number ≡ n) × (g.at < o))

below_is : (n o : ℕ) (g : Numbered) → is_below n o g ≡ true → IsBelow n o g
below_is n o g is = grind (arith, is)

is_so_below : (n o : ℕ) (g : Numbered) → IsBelow n o g → is_below n o g ≡ true
is_so_below n o g below = grind (arith, below)

not_below : (n o : ℕ) (g : Numbered) → is_below n o g ≡ false → ¬ IsBelow n o g
not_below n o g not_so below = let yes = is_so_below n o g below in absurd cc

lower_below : (n o : ℕ) (a b : Numbered) → IsNotAbove a b → IsBelow n o b → IsBelow n o a
lower_below n o a b order below = grind (arith, order, below)

pub pairs_below : (pairs : List Numbered) (n o : ℕ) → AllPairs IsNotAbove pairs → IsPartitionedBy (is_below n o) pairs
pairs_below pairs n o order i j d least inside is =
    elim (cases_order i j) [
      | inl same ↦ rw same is
      | inr (inl less) ↦
          is_so_below n o (slice_index_or pairs i d)
          (lower_below n o (slice_index_or pairs i d) (slice_index_or pairs j d) (order i j d less inside)
          (below_is n o (slice_index_or pairs j d) is))
      | inr (inr more) ↦ absurd (omega arith)
    ]

-- those before this index are below the pair, and the others are not
pub record IsPartedAt (pairs : List Numbered) (n o before : ℕ) : Type 0 where
  pub order : AllPairs IsNotAbove pairs
  pub less : (k : ℕ) (d : Numbered) → k < before → IsBelow n o (get_or pairs k d)
  pub upto : (k : ℕ) (d : Numbered) → before ≤ k → k < length pairs → ¬ IsBelow n o (get_or pairs k d)

pub parted_at : (pairs : List Numbered) (n o before : ℕ) → AllPairs IsNotAbove pairs → before ≤ length pairs
    → IsPartitionPoint (λ g. is_below n o g ≡ true) (λ g. is_below n o g ≡ false) pairs before
    → IsPartedAt pairs n o before
parted_at pairs n o before order within point =
    record {
      order = order;
      less = λ k d below. below_is n o (get_or pairs k d) (point.0 k d (omega arith) below);
      upto = λ k d least inside. not_below n o (get_or pairs k d) (point.1 k d least inside);
    }

-- a pair that is there is not before that index, and is the one at it
apart : (n o : ℕ) (g : Numbered) → IsPair n o g → ¬ IsBelow n o g
apart n o g is below = grind (arith, is, below)

next_to : (n o : ℕ) (a b : Numbered) → IsNotAbove a b → (¬ IsBelow n o a) → IsPair n o b → IsPair n o a
next_to n o a b order least is = grind (arith, order, least, is)

pub only_there : (pairs : List Numbered) (n o before : ℕ) (d : Numbered) → IsPartedAt pairs n o before
    → has_pair pairs n o ≡ true → (before < length pairs) × IsPair n o (get_or pairs before d)
only_there pairs n o before d parted found =
    let (g, (k, inside, here), is) = pair_found pairs n o found in
    elim (cases_lt k before) [
      | inl below ↦ absurd (apart n o (get_or pairs k g) (rw here is) (parted.less k g below))
      | inr least ↦
          let within : before < length pairs = omega arith in (
            within,
            elim (cases_order before k) [
              | inl same ↦
                  let there : get_or pairs before d ≡ g = get_or_default pairs before d g within ∙ rw same here in
                  rw there is
              | inr (inl less) ↦
                  next_to n o (get_or pairs before d) (get_or pairs k d) (parted.order before k d less inside)
                  (parted.upto before d (omega arith) within)
                  (rw (get_or_default pairs k d g inside ∙ here) is)
              | inr (inr more) ↦ absurd (omega arith)
            ],
          )
    ]

-- so whether a pair is there is whether it is at that index
pub pair_at : (pairs : List Numbered) (n o before : ℕ) (d : Numbered) → IsPartedAt pairs n o before
    → before < length pairs
    → ((get_or pairs before d).number == n && (get_or pairs before d).at == o) ≡ has_pair pairs n o
pair_at pairs n o before d parted within = go (has_pair pairs n o) refl
  where
    go : (b : Bool) → has_pair pairs n o ≡ b
        → ((get_or pairs before d).number == n && (get_or pairs before d).at == o) ≡ b
    go true found = pair_is n o (get_or pairs before d) (only_there pairs n o before d parted found).1
    go false none = other ((get_or pairs before d).number == n && (get_or pairs before d).at == o) refl
      where
        other : (b : Bool)
            → ((get_or pairs before d).number == n && (get_or pairs before d).at == o) ≡ b
            → ((get_or pairs before d).number == n && (get_or pairs before d).at == o) ≡ false
        other true is =
            let yes = pair_there pairs n o (get_or pairs before d)
            (before, within, get_or_default pairs before (get_or pairs before d) d within)
            (is_pair n o (get_or pairs before d) is) in
            absurd cc
        other false is = is

-- by its second number, if the first one is that of the node
pub pair_by_place : (pairs : List Numbered) (n o before : ℕ) (d : Numbered) → IsPartedAt pairs n o before
    → before < length pairs → (get_or pairs before d).number ≡ n
    → ((get_or pairs before d).at == o) ≡ has_pair pairs n o
pair_by_place pairs n o before d parted within same =
    rw (eq-eqb (get_or pairs before d).number n same) at (pair_at pairs n o before d parted within)

-- if it is not, no pair is there
pub pair_by_node : (pairs : List Numbered) (n o before : ℕ) (d : Numbered) → IsPartedAt pairs n o before
    → before < length pairs → ¬ ((get_or pairs before d).number ≡ n)
    → ((get_or pairs before d).number == n) ≡ has_pair pairs n o
pair_by_node pairs n o before d parted within differs = go ((get_or pairs before d).number == n) refl
  where
    go : (b : Bool) → ((get_or pairs before d).number == n) ≡ b
        → ((get_or pairs before d).number == n) ≡ has_pair pairs n o
    go true same = absurd (differs (eqb-true (get_or pairs before d).number n same))
    go false other = other ∙ (rw other at (pair_at pairs n o before d parted within))

pub no_pair : (pairs : List Numbered) (n o before : ℕ) (d : Numbered) → IsPartedAt pairs n o before
    → length pairs ≤ before → has_pair pairs n o ≡ false
no_pair pairs n o before d parted past = go (has_pair pairs n o) refl
  where
    go : (b : Bool) → has_pair pairs n o ≡ b → has_pair pairs n o ≡ false
    go true found = absurd (omega (arith, (only_there pairs n o before d parted found).0))
    go false none = none

-- ---- what structures give

pub given_are : (t : TwoTables) (path : Path) (cases : List Case) (items : List Numbered)
    → items ≡ all_given t cases (sites_of path t.table) → (g : Numbered) → Contains items g ↔ GivenIn t path cases g
given_are t path cases items are g =
    rw are (
      λ listed. kept_from (gives t cases) (sites_of path t.table) g listed,
      λ (s, within, is). kept_has (gives t cases) (sites_of path t.table) s g within is,
    )

-- ---- where nodes lead

leads_by : (caches : List Numbered) (r g : Numbered) → next_level caches r ≡ Some g
    → (c : Numbered) × (first_of caches r.number ≡ Some c) × (g.number ≡ r.value) × (g.at ≡ c.value)
unfolding next_level
leads_by caches r g is =
    elim (cases_Option (first_of caches r.number)) [
      | inl (c, found) ↦
          let same = same_Some (record { number = r.value; at = c.value; value = 0 }) g (rw found at is) in
          (c, found, sym (ap (λ (x : Numbered). x.number) same), sym (ap (λ (x : Numbered). x.at) same))
      | inr none ↦ let no = rw none at is in absurd cc
    ]

leads_to : (caches : List Numbered) (r c : Numbered) → first_of caches r.number ≡ Some c
    → next_level caches r ≡ Some (record { number = r.value; at = c.value; value = 0 })
unfolding next_level
leads_to caches r c found = rw found refl

pub pairs_lead : (t : TwoTables) (resources caches pairs : List Numbered) → AllPairs IsNotAbove caches
    → ((g : Numbered) → Contains resources g ↔ IsResource t g) → ((g : Numbered) → Contains caches g ↔ IsCache t g)
    → IsPermutation (filter_map (next_level caches) resources) pairs
    → (n o : ℕ) → (has_pair pairs n o ≡ true) ↔ LeadsTo t n o
pairs_lead t resources caches pairs order are caches_are moved n o = (from, to)
  where
    all : List Numbered
    all = filter_map (next_level caches) resources

    from : has_pair pairs n o ≡ true → LeadsTo t n o
    from found =
        let (g, listed, (number, place)) = pair_found pairs n o found in
        let (r, has, gives) = kept_from (next_level caches) resources g
        (Contains-permutation pairs all g (IsPermutation-sym all pairs moved) listed) in
        let (c, first, node, next) = leads_by caches r g gives in
        let (is, same) = first_of_is caches r.number c order first in
        (r, c, (are r).0 has, first_as c caches_are is, same, sym node ∙ number, sym next ∙ place)

    to : LeadsTo t n o → has_pair pairs n o ≡ true
    to (r, c, has, first, same, node, next) =
        let is : IsFirst (λ g. Contains caches g) c = first_as c (λ g. ((caches_are g).1, (caches_are g).0)) first in
        let found : first_of caches r.number ≡ Some c =
        ap (first_of caches) (sym same) ∙ first_of_found caches c order is in
        let pair : Numbered = record { number = r.value; at = c.value; value = 0 } in
        pair_there pairs n o pair
        (Contains-permutation all pairs pair moved
        (kept_has (next_level caches) resources r pair ((are r).1 has) (leads_to caches r c found)))
        (node, next)

-- ---- the nearest caches

nearest_by : (types : List Numbered) (type : ℕ) (pairs : List Numbered) (r g : Numbered)
    → nearest types type pairs r ≡ Some g
    → (has_type (first_of types r.number) type ≡ true) × (has_pair pairs r.value r.number ≡ false)
    × (record { number = r.value; at = r.at; value = r.number } ≡ g)
unfolding nearest
nearest_by types type pairs r g is =
    let (both, same) = cond_some (has_type (first_of types r.number) type && not (has_pair pairs r.value r.number))
    (record { number = r.value; at = r.at; value = r.number }) g is in
    let typed : has_type (first_of types r.number) type ≡ true = grind (arith, both) in
    let none : has_pair pairs r.value r.number ≡ false = grind (arith, both) in
    (typed, none, same)

is_nearest : (types : List Numbered) (type : ℕ) (pairs : List Numbered) (r : Numbered)
    → has_type (first_of types r.number) type ≡ true → has_pair pairs r.value r.number ≡ false
    → nearest types type pairs r ≡ Some (record { number = r.value; at = r.at; value = r.number })
unfolding nearest
is_nearest types type pairs r typed none = rw (typed, none) refl

pub nearest_are : (t : TwoTables) (type : ℕ) (resources types pairs : List Numbered)
    → AllPairs IsNotAbove types → ((g : Numbered) → Contains resources g ↔ IsResource t g)
    → ((g : Numbered) → Contains types g ↔ IsTyped t g)
    → ((n o : ℕ) → (has_pair pairs n o ≡ true) ↔ LeadsTo t n o) → (g : Numbered)
    → Contains (filter_map (nearest types type pairs) resources) g ↔ IsNearest t type g
nearest_are t type resources types pairs order are types_are lead g = (from, to)
  where
    typed : (n : ℕ) → has_type (first_of types n) type ≡ true
        → (c : Numbered) × IsFirst (IsTyped t) c × (c.number ≡ n) × (c.value ≡ type)
    typed n has =
        elim (cases_Option (first_of types n)) [
          | inl (c, found) ↦
              let (first, same) = first_of_is types n c order found in
              (c, first_as c types_are first, same, eqb-true c.value type (rw found at has))
          | inr none ↦ let no = rw none at has in absurd cc
        ]

    from : Contains (filter_map (nearest types type pairs) resources) g → IsNearest t type g
    from listed =
        let (r, has, gives) = kept_from (nearest types type pairs) resources g listed in
        let (some, none, same) = nearest_by types type pairs r g gives in
        subst (IsNearest t type) same (record {
          named = (are r).0 has;
          typed = typed r.number some;
          nearest = λ leads. let yes = (lead r.value r.number).1 leads in absurd cc;
        })

    has_it : (n : ℕ) → (c : Numbered) × IsFirst (IsTyped t) c × (c.number ≡ n) × (c.value ≡ type)
        → has_type (first_of types n) type ≡ true
    has_it n (c, first, same, is) =
        let here : IsFirst (λ x. Contains types x) c = first_as c (λ x. ((types_are x).1, (types_are x).0)) first in
        let found : first_of types n ≡ Some c = ap (first_of types) (sym same) ∙ first_of_found types c order here in
        rw found (eq-eqb c.value type is)

    none_of : (b : Bool) → has_pair pairs g.number g.value ≡ b → (¬ LeadsTo t g.number g.value)
        → has_pair pairs g.number g.value ≡ false
    none_of true is not_so = absurd (not_so ((lead g.number g.value).0 is))
    none_of false is not_so = is

    to : IsNearest t type g → Contains (filter_map (nearest types type pairs) resources) g
    to it =
        let r : Numbered = record { number = g.value; at = g.at; value = g.number } in
        kept_has (nearest types type pairs) resources r g ((are r).1 it.named)
        (is_nearest types type pairs r (has_it g.value it.typed)
        (none_of (has_pair pairs g.number g.value) refl it.nearest))

pub found_of_type : (pptt : List ℕ) (type : ℕ) (resources types pairs : List Numbered) (found : Option Place)
    → AllPairs IsNotAbove types → ((g : Numbered) → Contains resources g ↔ IsResource (alone pptt) g)
    → ((g : Numbered) → Contains types g ↔ IsTyped (alone pptt) g)
    → ((n o : ℕ) → (has_pair pairs n o ≡ true) ↔ LeadsTo (alone pptt) n o)
    → FindsLeast (IsRepeated repeat.UnlikeValues (λ g. Contains (filter_map (nearest types type pairs) resources) g))
    found → FindsLeast (IsSameOfType type pptt) found
found_of_type pptt type resources types pairs found order are types_are lead least =
    repeated_as repeat.UnlikeValues found
    (nearest_are (alone pptt) type resources types pairs order are types_are lead) least

-- ---- the lower of two places

pub least_of_both : (P Q : ℕ → ℕ → ℕ → Type 0) (one : Option Place) (q r : Place) → FindsLeast P one → IsLeast Q q
    → (r ≡ q) ⊎ (one ≡ Some r) → IsNotAfter r q.at q.other q.point
    → IfSome one (λ l. IsNotAfter r l.at l.other l.point)
    → IsLeast (λ at second third. P at second third ⊎ Q at second third) r
least_of_both P Q one q r first second which after before =
    record {
      here =
          elim which [
            | inl is ↦ inr (subst (λ (p : Place). Q p.at p.other p.point) (sym is) second.here)
            | inr is ↦ inl (here_of one is first)
          ];
      least = λ at other point either.
          elim either [
            | inl holds ↦ upto one first before at other point holds
            | inr holds ↦ not_after_trans r q at other point after (second.least at other point holds)
          ];
    }
  where
    here_of : (o : Option Place) → o ≡ Some r → FindsLeast P o → P r.at r.other r.point
    here_of None is none = absurd cc
    here_of (Some p) is found = subst (λ (s : Place). P s.at s.other s.point) (same_Some p r is) found.here

    upto : (o : Option Place) → FindsLeast P o → IfSome o (λ l. IsNotAfter r l.at l.other l.point)
        → (at other point : ℕ) → P at other point → IsNotAfter r at other point
    upto None none order at other point holds = absurd (none at other point holds)
    upto (Some l) found order at other point holds =
        not_after_trans r l at other point order (found.least at other point holds)

pub lower_of_both : (P Q : ℕ → ℕ → ℕ → Type 0) (one other found : Option Place) → FindsLeast P one
    → FindsLeast Q other → IsLower one other found
    → FindsLeast (λ at second third. P at second third ⊎ Q at second third) found
lower_of_both P Q one None found first none is =
    least_as found (λ at other point holds. inl holds)
    (λ at other point either. elim either [ inl holds ↦ holds | inr holds ↦ absurd (none at other point holds) ])
    (rw is first)
lower_of_both P Q one (Some q) found first second (r, is, which, after, before) =
    rw is (least_of_both P Q one q r first second which after before)
