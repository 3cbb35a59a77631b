-- What pieces that came one after another make: an image, or the first address that comes twice.
use Rattle.std.proofs.Common.{◌≡◌, ◌⊎◌, inl, inr, ℕ, ◌+◌, ◌-◌, ◌<◌, ◌≤◌, List, [], ◌∷◌, length, take, drop, Option, Some, None, IsSome, refl, sym, ap, subst, ◌∙◌, arith}
use Rattle.std.specs.Prelude.{Ok, Err, MatchOption, MatchResult, Result}
use Rattle.std.specs.Result.{IsErrAnd}
use Rattle.std.specs.Option.{option_map_or, option_or}
use Rattle.std.specs.List.{AllByRecursion}
use Rattle.std.specs.List.Sorted.{IsNonDecreasingBy, IsPermutation}
use Rattle.std.specs.FinMap.{empty}
use Rattle.std.proofs.lemmas.Bool.{cases_lt}
use Rattle.acpi_base.specs.Memory.{Memory, byte_of, with_bytes}
use Rattle.acpi_base.specs.Image.Adding.{IsLayoutRefusal, added}
use Rattle.acpi_base.specs.declared.image.ImageFault.{ImageFault}
use Rattle.acpi_base.specs.Image.Draft.{AreContiguous, AreDisjoint, AreDrafted, IsFirstTwice, IsOnceBefore, all_added, cut, cut_all, holder_count, holds_at}
use Rattle.acpi_base.specs.Image.Pieces.{Piece, AreSortedDisjoint, LiesBefore, end_at, run_in, runs_in}
use Rattle.acpi_base.specs.Image.Runs.{byte_in, lookup, memory_of}
use Rattle.acpi_base.specs.Text.ImageText.{on_ok}
use Rattle.acpi_base.proofs.Images.ByteRuns.{first_of_at, first_of_none}
use Rattle.acpi_base.proofs.Images.Holders.{disjoint_permuted, has_or_not, has_within, lookup_none, memory_permuted, rising_sorted}
use Rattle.acpi_base.proofs.Images.RunBytes.{byte_of-with_bytes, byte_of_memory_of, present_none, present_some}
use Rattle.acpi_base.proofs.Images.RunMemory.{same_memory}
use Rattle.acpi_base.proofs.Images.Stores.{run_ends}
use Rattle.acpi_base.proofs.Images.Twice.{count_all, none_cut, once_permuted, twice_permuted, whole_cut}

-- ---- bytes are added

added_none : (m : Memory) (a : ℕ) (bytes : List ℕ) → ((y : ℕ) → a ≤ y → y < a + length bytes → byte_of m y ≡ None)
    → added m a bytes ≡ Ok (with_bytes m a bytes)
added_none m a bytes free =
    ap (λ o. option_map_or (λ x. Err x) o (Ok (with_bytes m a bytes)))
    (first_of_none (byte_of m) a (length bytes) (λ k h. free (a + k) (omega arith) (omega arith)))

added_some : (m : Memory) (a : ℕ) (bytes : List ℕ) (k : ℕ) → k < length bytes → IsSome (byte_of m (a + k))
    → ((j : ℕ) → j < k → byte_of m (a + j) ≡ None) → added m a bytes ≡ Err (a + k)
added_some m a bytes k h some before =
    ap (λ o. option_map_or (λ x. Err x) o (Ok (with_bytes m a bytes)))
    (first_of_at (byte_of m) a (length bytes) k h some before)

-- a memory has the addresses that have come, each of them once
record Knows (m : Memory) (c : ℕ → ℕ) : Type 0 where
  few : (y : ℕ) → c y < 2
  some : (y : ℕ) → 0 < c y → IsSome (byte_of m y)
  none : (y : ℕ) → c y ≡ 0 → byte_of m y ≡ None

knows_nothing : Knows empty (λ y. 0)
knows_nothing = record {
  few = λ y. omega arith;
  some = λ y some. absurd (omega arith);
  none = λ y none. byte_of_memory_of [] y;
}

knows_more : (store : List ℕ) (n : ℕ) (m : Memory) (c : ℕ → ℕ) (p : Piece) → n ≤ length store → LiesBefore n p
    → Knows m c
    → ((y : ℕ) → c y + holds_at y p < 2)
    → Knows (with_bytes m p.0 (take p.1.len (drop p.1.start store))) (λ y. c y + holds_at y p)
knows_more store n m c p l lies known few = record {
  few = few;
  some = λ y some. elim (has_or_not y p) [
    | inl here ↦ (let high = here.2 in
        subst IsSome (sym (byte_of-with_bytes m p.0 bytes y))
        (or_left _ _ (present_some (run_in store p) y here.1 (let e = ends in omega arith))))
    | inr there ↦ (let zero_is = there.0 in
        subst IsSome (sym (byte_of-with_bytes m p.0 bytes y ∙ ap (λ o. option_or o (byte_of m y)) (outside y there.1)))
        (known.some y (omega arith)))
  ];
  none = λ y none. elim (has_or_not y p) [
    | inl here ↦ absurd (let one = here.0 in omega arith)
    | inr there ↦ byte_of-with_bytes m p.0 bytes y ∙ ap (λ o. option_or o (byte_of m y)) (outside y there.1)
        ∙ known.none y (omega arith)
  ];
}
  where
    bytes : List ℕ
    bytes = take p.1.len (drop p.1.start store)

    ends : p.0 + length bytes ≡ end_at p
    ends = run_ends store p n l lies

    outside : (y : ℕ) → (y < p.0) ⊎ (end_at p ≤ y) → byte_in (run_in store p) y ≡ None
    outside y (inl low) = present_none (run_in store p) y (inl low)
    outside y (inr high) = present_none (run_in store p) y (inr (let e = ends in omega arith))

    or_left : (x y : Option ℕ) → IsSome x → IsSome (option_or x y)
    or_left x y some = grind arith

-- ---- the first address that comes twice

later_cut : (ps : List Piece) (from to s y : ℕ) → AreContiguous ps from to → s ≤ from
    → holder_count (cut_all s ps) y ≡ 0
unfolding AreContiguous
later_cut [] from to s y row l = refl
later_cut (p ∷ ps) from to s y row l =
    (let at = row.0 in let rest = later_cut ps (from + p.1.len) to s y row.1 (omega arith) in
    let none = none_cut s p y (omega arith) in omega arith)

fault_from : (store : List ℕ) (n : ℕ) (m : Memory) (c : ℕ → ℕ) (ps : List Piece) (from to s x : ℕ) → n ≤ length store
    → AllByRecursion (LiesBefore n) ps → AreContiguous ps from to → Knows m c
    → ((y : ℕ) → c y + holder_count (cut_all s ps) y < 2) → 1 < c x + holder_count (cut_all (s + 1) ps) x
    → all_added m (runs_in store ps) ≡ Err x
unfolding all_added AreContiguous
fault_from store n m c [] from to s x l lies row known once twice = absurd (let few = known.few x in omega arith)
fault_from store n m c (p ∷ ps) from to s x l lies row known once twice =
    let start = row.0 in
    let ends = run_ends store p n l lies.0 in
    elim (cases_lt s (from + p.1.len)) [
      | inl within ↦
          let later = later_cut ps (from + p.1.len) to (s + 1) x row.1 (omega arith) in
          let few = known.few x in
          elim (has_or_not x (cut (s + 1) p)) [
            | inl here ↦
                let one = here.0 in
                let low = here.1 in
                let high = here.2 in
                let before = once x in
                let place : x ≡ p.0 + (s - from) = elim (has_or_not x (cut s p)) [
                  | inl y ↦ absurd (let two = y.0 in omega arith)
                  | inr y ↦ elim y.1 [
                    | inl less ↦ absurd (omega arith)
                    | inr more ↦ omega arith
                  ]
                ] in
                ap (λ r. on_ok r (λ k. all_added k (runs_in store ps)))
                (added_some m p.0 (take p.1.len (drop p.1.start store)) (s - from) (omega arith)
                (subst (λ y. IsSome (byte_of m y)) place (known.some x (omega arith)))
                (λ j less. known.none (p.0 + j)
                (let first = has_within (p.0 + j) (cut s p) (omega arith) (omega arith) in
                let most = once (p.0 + j) in omega arith)))
                ∙ ap (λ y. Err y) (sym place)
            | inr there ↦ absurd (let zero_is = there.0 in omega arith)
          ]
      | inr behind ↦
          let free = added_none m p.0 (take p.1.len (drop p.1.start store)) (λ y low high. known.none y (
          let whole = whole_cut s p y (omega arith) in
          let here = has_within y p low (omega arith) in
          let most = once y in
          omega arith)) in
          ap (λ r. on_ok r (λ k. all_added k (runs_in store ps))) free
          ∙ fault_from store n (with_bytes m p.0 (take p.1.len (drop p.1.start store))) (λ y. c y + holds_at y p) ps
          (from + p.1.len) to s x l lies.1 row.1
          (knows_more store n m c p l lies.0 known
          (λ y. let whole = whole_cut s p y (omega arith) in let most = once y in omega arith))
          (λ y. let whole = whole_cut s p y (omega arith) in let most = once y in omega arith)
          (let whole = whole_cut (s + 1) p x (omega arith) in omega arith)
    ]

-- ---- no address comes twice

-- the memory in this case
record IsJoined (store : List ℕ) (m : Memory) (ps : List Piece) : Type 0 where
  memory : Memory
  is : all_added m (runs_in store ps) ≡ Ok memory
  holds : (y : ℕ) → byte_of memory y ≡ option_or (lookup (runs_in store ps) y) (byte_of m y)

joined_from : (store : List ℕ) (n : ℕ) (m : Memory) (c : ℕ → ℕ) (ps : List Piece) → n ≤ length store
    → AllByRecursion (LiesBefore n) ps → Knows m c → ((y : ℕ) → c y + holder_count ps y < 2) → IsJoined store m ps
unfolding all_added
joined_from store n m c [] l lies known once = record { memory = m; is = refl; holds = λ y. refl }
joined_from store n m c (p ∷ ps) l lies known once =
    let ends = run_ends store p n l lies.0 in
    let bytes = take p.1.len (drop p.1.start store) in
    let free = added_none m p.0 bytes (λ y low high. known.none y (
    let here = has_within y p low (omega arith) in let most = once y in omega arith)) in
    let rest = joined_from store n (with_bytes m p.0 bytes) (λ y. c y + holds_at y p) ps l lies.1
    (knows_more store n m c p l lies.0 known (λ y. let most = once y in omega arith))
    (λ y. let most = once y in omega arith) in
    record {
      memory = rest.memory;
      is = ap (λ r. on_ok r (λ k. all_added k (runs_in store ps))) free ∙ rest.is;
      holds = λ y. rest.holds y ∙ ap (option_or (lookup (runs_in store ps) y)) (byte_of-with_bytes m p.0 bytes y)
          ∙ last_first (lookup (runs_in store ps) y) (byte_in (run_in store p) y) (byte_of m y) (elim (has_or_not y p) [
            | inl here ↦ inl (let one = here.0 in let most = once y in
                lookup_none store n ps y l lies.1 (omega arith))
            | inr there ↦ inr (present_none (run_in store p) y
                (elim there.1 [ inl low ↦ inl low | inr high ↦ inr (omega arith) ]))
          ]);
    }
  where
    last_first : (x y z : Option ℕ) → (x ≡ None) ⊎ (y ≡ None)
        → option_or x (option_or y z) ≡ option_or (option_or y x) z
    last_first x y z (inl e) = grind arith
    last_first x y z (inr e) = grind arith

-- ---- of all pieces

pub all_joined : (store : List ℕ) (ps : List Piece) → AllByRecursion (LiesBefore (length store)) ps
    → ((y : ℕ) → holder_count ps y < 2) → all_added empty (runs_in store ps) ≡ Ok (memory_of (runs_in store ps))
all_joined store ps lies once =
    let joined = joined_from store (length store) empty (λ y. 0) ps (omega arith) lies knows_nothing
    (λ y. omega (arith, once y)) in
    joined.is ∙ ap (λ m. Ok m) (same_memory joined.memory (memory_of (runs_in store ps)) (λ y.
    joined.holds y ∙ ap (option_or (lookup (runs_in store ps) y)) (byte_of_memory_of [] y)
    ∙ or_none (lookup (runs_in store ps) y)
    ∙ sym (byte_of_memory_of (runs_in store ps) y)))
  where
    or_none : (x : Option ℕ) → option_or x None ≡ x
    or_none x = grind arith

pub fault_is : (store : List ℕ) (ps qs : List Piece) (x : ℕ) → AreDrafted store ps → IsPermutation ps qs
    → IsFirstTwice qs x
    → all_added empty (runs_in store ps) ≡ Err x
fault_is store ps qs x drafted moved (s, once, twice) =
    fault_from store (length store) empty (λ y. 0) ps 0 (length store) s x (omega arith) drafted.lies drafted.contiguous
    knows_nothing
    (λ y. omega (arith, once_permuted s ps qs moved once y)) (omega (arith, twice_permuted (s + 1) ps qs x moved twice))

pub none_twice : (store : List ℕ) (ps qs : List Piece) → AreDrafted store ps → IsPermutation ps qs
    → IsOnceBefore qs (length store)
    → (y : ℕ) → holder_count ps y < 2
none_twice store ps qs drafted moved once = λ y.
    let whole = count_all (length store) ps y drafted.lies in
    let few = once_permuted (length store) ps qs moved once y in
    omega arith

pub match_weaker : (o : Option ℕ) {P P' : Type 0} {Q Q' : ℕ → Type 0} → (P → P') → ((x : ℕ) → Q x → Q' x)
    → MatchOption o P Q
    → MatchOption o P' Q'
match_weaker None none some h = none h
match_weaker (Some x) none some h = some x h

-- what is found among the pieces, or among a copy of them
pub found_in_copy : (value : Result Memory ℕ) (store : List ℕ) (ps : List Piece) (others : List ℕ) (qs : List Piece)
    (found : Option ℕ) → all_added empty (runs_in store ps) ≡ value → AreDrafted store ps → others ≡ store → qs ≡ ps
    → MatchOption found ((x : ℕ) → holder_count qs x < 2) (λ x. all_added empty (runs_in others qs) ≡ Err x)
    → MatchOption found ((m : Memory) × (value ≡ Ok m)) (λ x. value ≡ Err x)
found_in_copy value store ps others qs found is drafted same copied judged =
    match_weaker found
    (λ once. (_, sym is ∙ all_joined store ps drafted.lies (subst (λ rs. (x : ℕ) → holder_count rs x < 2) copied once)))
    (λ x twice. sym is ∙ ap (λ rs. all_added empty (runs_in store rs)) (sym copied)
    ∙ ap (λ s. all_added empty (runs_in s qs)) (sym same) ∙ twice)
    judged

-- pieces in the order of their addresses, no two of which have an address in common
pub record AreJudged (store : List ℕ) (ps qs : List Piece) : Type 0 where
  pub rising : AreSortedDisjoint qs
  pub lies : AllByRecursion (LiesBefore (length store)) qs
  pub same : all_added empty (runs_in store ps) ≡ Ok (memory_of (runs_in store qs))

pub are_judged : (store : List ℕ) (ps qs : List Piece) → AreDrafted store ps → IsPermutation ps qs
    → IsNonDecreasingBy (λ (p : Piece). p.0) qs → ((x : ℕ) → holder_count ps x < 2) → AreJudged store ps qs
are_judged store ps qs drafted moved sorted once =
    let disjoint : AreDisjoint (length store) ps = record {
      once = λ x. (let few = once x in omega arith);
      filled = drafted.filled;
      lies = drafted.lies;
    } in
    let all = disjoint_permuted (length store) ps qs moved disjoint in
    record {
      rising = rising_sorted qs sorted all.once all.filled;
      lies = all.lies;
      same = all_joined store ps drafted.lies once ∙ ap (λ m. Ok m) (sym (memory_permuted store ps qs moved disjoint));
    }

pub told_on : {U : Type 0} (P : U → Type 0) (r : Result U ImageFault) (e : ImageFault) (present : Result Memory ℕ)
    → IsErrAnd r (λ f. f ≡ e) → IsLayoutRefusal present e → MatchResult r P (IsLayoutRefusal present)
told_on P (Ok x) e present is told = absurd is
told_on P (Err f) e present is told = subst (IsLayoutRefusal present) (sym is) told
