-- How the counts of a policy are stored.
use Rattle.std.proofs.Common.{◌≡◌, ℕ, ◌==◌, ◌^◌, ◌<◌, ◌≤◌, ◌⊎◌, inl, inr, Bool, true, false, IsTrue, cond, List, [], ◌∷◌, Option, Some, None, unwrap_or, Result, Ok, Err, OnOk, OnErr, refl, sym, ap, subst, ◌∙◌, arith}
use Rattle.std.specs.Ordering.{nat_cmp, is_eq}
use Rattle.std.specs.Cmp.{nat_cmp_total, eq_by_cmp_equiv, unsigned_tied}
use Rattle.std.proofs.lemmas.Bool.Decides.{nat_tests}
use Rattle.std.specs.Map.{lookup}
use Rattle.std.specs.BTreeMap as tree
use Rattle.std.specs.BTreeMap.{BTreeMap, is_at}
use Rattle.std.specs.FinMap.{FinMap, find, get, insert, from_entries, gets, get-insert, get-from_entries, same_map, nat_cmp-IsAntisymmetric}

-- what a map has at a key
pub ruleset map_reads = (gets)

find_as_lookup : (a : ℕ) (es : List (ℕ × ℕ)) → find nat_cmp a es ≡ lookup (is_at (nat_cmp a)) es
find_as_lookup a [] = refl
find_as_lookup a (e ∷ es) = ap (cond (is_eq (nat_cmp a e.0)) (Some e.1)) (find_as_lookup a es)

pub count_at : (es : List (ℕ × ℕ)) (a : ℕ) → get (from_entries {R = nat_cmp} es) a ≡ lookup (is_at (nat_cmp a)) es
count_at es a = get-from_entries nat_cmp_total es a ∙ find_as_lookup a es

pub count_inserted : (old new : BTreeMap ℕ ℕ) (a n : ℕ) → tree.Updates nat_cmp old new a (Some n)
    → from_entries {R = nat_cmp} new.entries ≡ insert (from_entries old.entries) a n
count_inserted old new a n updates =
    same_map nat_cmp_total nat_cmp-IsAntisymmetric _ _
    (λ q. count_at new.entries q
    ∙ updates.0 q
    ∙ (λ i. cond ((eq_by_cmp_equiv nat_cmp_total).symm a q i) (Some n) (sym (count_at old.entries q) i))
    ∙ sym (get-insert nat_cmp_total (from_entries old.entries) a n q))

new_or_old : (b : Bool) (n count : ℕ) (old : Option ℕ) → cond b (Some n) old ≡ Some count
    → (IsTrue b × (count ≡ n)) ⊎ (old ≡ Some count)
new_or_old true n count old e = inl (refl, ap (λ o. unwrap_or o 0) (sym e))
new_or_old false n count old e = inr e

-- addresses and counts are within the bounds that `IsPolicy` sets
abbrev AreBounded : FinMap nat_cmp ℕ → Type 0
AreBounded m = (address count : ℕ) → get m address ≡ Some count → (address < 2 ^ 32) × (1 ≤ count) × (count ≤ 256)

still_bounded : (m : FinMap nat_cmp ℕ) (a n : ℕ) → a < 2 ^ 32 → 1 ≤ n → n ≤ 256 → AreBounded m
    → AreBounded (insert m a n)
still_bounded m a n fits least most counts address count e =
    grind (
      arith,
      nat_tests,
      counts address count,
      unsigned_tied address a,
      new_or_old (address == a) n count (get m address),
      get-insert nat_cmp_total m a n address,
    )

-- addresses and counts stay within their bounds after an insertion, also if it was refused
pub bounded_after : {E : Type 0} (old new : BTreeMap ℕ ℕ) (a n : ℕ) (result : Result (Option ℕ) E) → a < 2 ^ 32
    → 1 ≤ n → n ≤ 256
    → OnOk result (tree.Updates nat_cmp old new a (Some n)) → OnErr result (tree.IsUnchanged old new)
    → AreBounded (from_entries old.entries) → AreBounded (from_entries new.entries)
bounded_after old new a n (Ok _) fits least most updates _ counts =
    subst AreBounded (sym (count_inserted old new a n updates))
    (still_bounded (from_entries old.entries) a n fits least most counts)
bounded_after old new a n (Err _) fits least most _ unchanged counts =
    subst (λ es. AreBounded (from_entries es)) (sym unchanged) counts

-- for adding a count
pub ruleset adding = (count_at, count_inserted, bounded_after)

pub inputs_bounded : (es : List (ℕ × ℕ)) (default a : ℕ) → (1 ≤ default) × (default ≤ 256)
    → AreBounded (from_entries es)
    → (1 ≤ unwrap_or (lookup (is_at (nat_cmp a)) es) default)
    × (unwrap_or (lookup (is_at (nat_cmp a)) es) default ≤ 256)
inputs_bounded es default a fits counts = within (lookup (is_at (nat_cmp a)) es) (count_at es a)
  where
    within : (given : Option ℕ) → get (from_entries {R = nat_cmp} es) a ≡ given
        → (1 ≤ unwrap_or given default) × (unwrap_or given default ≤ 256)
    within None e = fits
    within (Some n) e = ((counts a n e).1, (counts a n e).2)

-- for looking a count up
pub ruleset looking = (count_at, inputs_bounded)
