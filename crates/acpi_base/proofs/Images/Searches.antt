-- What a search of the segments finds.
use Rattle.std.proofs.Common.{◌≡◌, ◌⊎◌, inl, inr, ℕ, zero, suc, ◌+◌, ◌-◌, ◌<◌, ◌≤◌, List, [], ◌∷◌, length, get_or, drop, Option, None, Some, IsSome, sym, ap, subst, ◌∙◌, arith, length-drop}
use Rattle.std.specs.List.{AllByRecursion}
use Rattle.std.proofs.lemmas.Bool.{cases_lt}
use Rattle.std.proofs.lemmas.List.{get_or_default, take_all}
use Rattle.acpi_base.specs.Memory.{least_defined}
use Rattle.acpi_base.specs.Image.Runs.{byte_in, run_at, lookup, end_of}
use Rattle.acpi_base.specs.Image.Pieces.{Piece, end_at, LiesBefore, run_in, runs_in, all_runs}
use Rattle.acpi_base.specs.Image.Segments.{AreSegmentsApart, AreSegments, IsPartitionPoint, IsRunAt, IsGap}
use Rattle.acpi_base.proofs.Images.RunBytes.{present_none, present_some}
use Rattle.acpi_base.proofs.Images.ByteRuns.{first_of_at, first_of_none}
use Rattle.acpi_base.proofs.Images.Stores.{all_from, of_all, all_weaker, run_ends, none_present, base_present}

pub nothing_present : (f : ℕ → Option ℕ) (a n x : ℕ) → least_defined f a n ≡ None → a ≤ x → x < a + n → f x ≡ None
unfolding least_defined
nothing_present f a zero x e l h = absurd (omega arith)
nothing_present f a (suc n) x e l h = grind (arith, cases_lt a x, nothing_present f (a + 1) n x)

pub first_next : (f : ℕ → Option ℕ) (a n b : ℕ) → a ≤ b → b < a + n → IsSome (f b)
    → ((x : ℕ) → a ≤ x → x < b → f x ≡ None) → Some b ≡ least_defined f a n
first_next f a n b l m some gap =
    let same : a + (b - a) ≡ b = omega arith in
    sym (first_of_at f a n (b - a) (omega arith) (subst (λ x. IsSome (f x)) (sym same) some)
    (λ j h. gap (a + j) (omega arith) (omega arith)) ∙ ap Some same)

pub first_never : (f : ℕ → Option ℕ) (a n : ℕ) → ((x : ℕ) → a ≤ x → x < a + n → f x ≡ None) → None ≡ least_defined f a n
first_never f a n gap = sym (first_of_none f a n (λ k h. gap (a + k) (omega arith) (omega arith)))

-- the first address that is present
pub ruleset first_in_gap = (first_next, first_never)

-- ---- the order of the segments

pub bases_rise : (ps : List Piece) (i k : ℕ) (d : Piece) → AreSegmentsApart ps → i ≤ k → k < length ps
    → (get_or ps i d).0 ≤ (get_or ps k d).0
bases_rise [] i k d apart l h = absurd (omega arith)
bases_rise (p ∷ ps) zero zero d apart l h = omega arith
bases_rise (p ∷ ps) zero (suc k) d apart l h = (let behind = of_all _ ps k d apart.1 (omega arith) in omega arith)
bases_rise (p ∷ ps) (suc i) zero d apart l h = absurd (omega arith)
bases_rise (p ∷ ps) (suc i) (suc k) d apart l h = bases_rise ps i k d apart.2 (omega arith) (omega arith)

pub filled : (ps : List Piece) (i : ℕ) (d : Piece) → AreSegmentsApart ps → i < length ps → 0 < (get_or ps i d).1.len
filled [] i d apart h = absurd (omega arith)
filled (p ∷ ps) zero d apart h = apart.0
filled (p ∷ ps) (suc i) d apart h = filled ps i d apart.2 (omega arith)

-- ---- the last segment that begins at an address or before it

-- from the address on, to its end, no other segment has anything
reached_ended : (store : List ℕ) (n : ℕ) (ps : List Piece) (i a x : ℕ) (d : Piece) → n ≤ length store
    → AllByRecursion (LiesBefore n) ps → AreSegmentsApart ps
    → i < length ps → IsPartitionPoint ps a (i + 1) → a ≤ x → (x ≤ a) ⊎ (x ≤ end_at (get_or ps i d))
    → lookup (runs_in store ps) x ≡ byte_in (run_in store (get_or ps i d)) x
reached_ended store n [] i a x d l lies apart h place from to = absurd (omega arith)
reached_ended store n (p ∷ ps) zero a x d l lies apart h place from to =
    let later : AllByRecursion (λ q. (end_at q ≤ x) ⊎ (x < q.0)) ps = all_from _ ps (λ k e m.
    inr (let behind = of_all _ ps k e apart.1 m in let above = place.1 (suc k) e (omega arith) (omega arith) in
    grind arith)) in
    grind (arith, none_present store n ps x l lies.1 later)
reached_ended store n (p ∷ ps) (suc i) a x d l lies apart h place from to =
    let before = of_all _ ps i d apart.1 (omega arith) in
    let begins = place.0 (suc i) d (omega arith) (omega arith) in
    let rest = reached_ended store n ps i a x d l lies.1 apart.2 (omega arith)
    (λ k e m o. place.0 (suc k) e (omega arith) (omega arith), λ k e m o. place.1 (suc k) e (omega arith) (omega arith))
    from to in
    grind (arith, run_ends store p n l lies.0, present_none (run_in store p) x, rest)

-- the open segment is empty, or begins after the address
abbrev pub IsBehind : List ℕ → ℕ → ℕ → ℕ → Type 0
IsBehind store base begin a = (length store ≤ begin) ⊎ (a < base)

behind_none : (store : List ℕ) (base begin x : ℕ) → IsBehind store base begin x
    → byte_in (run_at base (drop begin store)) x ≡ None
behind_none store base begin x behind =
    grind (arith, behind, length-drop begin store, cases_lt x base, present_none (run_at base (drop begin store)) x)

pub reached_open : (store : List ℕ) (ps : List Piece) (base begin a : ℕ) → AreSegments store ps base begin → base ≤ a
    → IsRunAt (all_runs store ps base begin) a (run_at base (drop begin store))
reached_open store ps base begin a laid low =
    record { begins = low; here = all a (omega arith); further = λ x l m. all x l }
  where
    all : (x : ℕ) → a ≤ x → lookup (all_runs store ps base begin) x ≡ byte_in (run_at base (drop begin store)) x
    all x l =
        let none : lookup (runs_in store ps) x ≡ None = none_present store begin ps x laid.within laid.lies
        (all_weaker _ _ ps (λ p below. inl (omega arith)) laid.below) in
        grind (arith, none)

-- if the open segment begins after the address, the segment before the index is the one that is reached
pub reached : (store : List ℕ) (ps : List Piece) (base begin a i : ℕ) (d : Piece) → AreSegments store ps base begin
    → IsBehind store base begin a → i < length ps
    → IsPartitionPoint ps a (i + 1) → IsRunAt (all_runs store ps base begin) a (run_in store (get_or ps i d))
reached store ps base begin a i d laid behind h place = record {
  begins = place.0 i d (omega arith) (omega arith);
  here = all a (omega arith) (inl (omega arith)) (behind_none store base begin a behind);
  further = λ x l m. (let ends = run_ends store (get_or ps i d) begin laid.within (of_all _ ps i d laid.lies h) in
      let below = of_all _ ps i d laid.below h in
      all x l (inr (omega arith)) (behind_none store base begin x (inr (omega arith))));
}
  where
    all : (x : ℕ) → a ≤ x → (x ≤ a) ⊎ (x ≤ end_at (get_or ps i d)) → byte_in (run_at base (drop begin store)) x ≡ None
        → lookup (all_runs store ps base begin) x ≡ byte_in (run_in store (get_or ps i d)) x
    all x l m none = rw none (reached_ended store begin ps i a x d laid.within laid.lies laid.apart h place l m)

pub open_run : (store : List ℕ) (base begin n : ℕ) → n ≡ length store - begin
    → run_in store (base, record { start = begin; len = n }) ≡ run_at base (drop begin store)
open_run store base begin n e =
    (let long = length-drop begin store in ap (run_at base) (take_all n (drop begin store) (omega arith)))

pub lies_inside : (store : List ℕ) (ps : List Piece) (base begin i : ℕ) (p : Piece) → AreSegments store ps base begin
    → i < length ps → p ≡ get_or ps i p
    → p.1.start + p.1.len ≤ length store
lies_inside store ps base begin i p laid h is =
    let within = laid.within in
    let lies = subst (LiesBefore begin) (sym is) (of_all _ ps i p laid.lies h) in
    let low = lies.0 in
    omega arith

pub none_reached : (store : List ℕ) (ps : List Piece) (base begin a : ℕ) → AreSegments store ps base begin
    → IsBehind store base begin a → IsPartitionPoint ps a 0
    → lookup (all_runs store ps base begin) a ≡ None
none_reached store ps base begin a laid behind place =
    rw (behind_none store base begin a behind)
    (none_present store begin ps a laid.within laid.lies (all_from _ ps (λ k d l. inr (place.1 k d (omega arith) l))))

-- ---- the next segment after an address that is not present

pub ended_at : (store : List ℕ) (n : ℕ) (ps : List Piece) (k a : ℕ) (d : Piece) → n ≤ length store
    → AllByRecursion (LiesBefore n) ps
    → lookup (runs_in store ps) a ≡ None → k < length ps → (get_or ps k d).0 ≤ a → end_at (get_or ps k d) ≤ a
ended_at store n [] k a d l lies none h begins = absurd (omega arith)
ended_at store n (p ∷ ps) zero a d l lies none h begins =
    grind (arith, cases_lt a (end_at p), run_ends store p n l lies.0, present_some (run_in store p) a)
ended_at store n (p ∷ ps) (suc k) a d l lies none h begins =
    let rest : lookup (runs_in store ps) a ≡ None = grind arith in
    ended_at store n ps k a d l lies.1 rest (omega arith) begins

-- nothing is present up to the base of the segment at the index
gap_ended : (store : List ℕ) (n : ℕ) (ps : List Piece) (a b i x : ℕ) → n ≤ length store
    → AllByRecursion (LiesBefore n) ps → lookup (runs_in store ps) a ≡ None
    → IsPartitionPoint ps a i → ((k : ℕ) (d : Piece) → i ≤ k → k < length ps → b ≤ (get_or ps k d).0) → a ≤ x → x < b
    → lookup (runs_in store ps) x ≡ None
gap_ended store n ps a b i x l lies none place above from to =
    none_present store n ps x l lies (all_from _ ps (λ k d h. elim (cases_lt k i) [
      | inl m ↦ inl (let ended = ended_at store n ps k a d l lies none h (place.0 k d (omega arith) m) in omega arith)
      | inr m ↦ inr (let low = above k d m h in omega arith)
    ]))

-- the next segment is an ended one
pub next_ended : (store : List ℕ) (ps : List Piece) (base begin a i : ℕ) (d : Piece) → AreSegments store ps base begin
    → lookup (all_runs store ps base begin) a ≡ None
    → IsPartitionPoint ps a i → i < length ps
    → (a < (get_or ps i d).0) × IsSome (lookup (all_runs store ps base begin) (get_or ps i d).0)
    × IsGap (all_runs store ps base begin) a (get_or ps i d).0
next_ended store ps base begin a i d laid none place h =
    let rest : lookup (runs_in store ps) a ≡ None = grind arith in
    let below = of_all _ ps i d laid.below h in
    let some = base_present store begin ps i d laid.within laid.lies h (filled ps i d laid.apart h) in (
      place.1 i d (omega arith) h,
      grind (arith, some),
      λ x from to.
          rw (behind_none store base begin x (inr (omega arith)))
          (gap_ended store begin ps a (get_or ps i d).0 i x laid.within laid.lies rest place
          (λ k e m o. bases_of k e m o) from to),
    )
  where
    bases_of : (k : ℕ) (e : Piece) → i ≤ k → k < length ps → (get_or ps i d).0 ≤ (get_or ps k e).0
    bases_of k e m o =
        (let rise = bases_rise ps i k e laid.apart m o in let same = get_or_default ps i d e h in rw same rise)

-- the open segment is the next
pub next_open : (store : List ℕ) (ps : List Piece) (base begin a : ℕ) → AreSegments store ps base begin
    → lookup (all_runs store ps base begin) a ≡ None
    → IsPartitionPoint ps a (length ps) → a < base → begin < length store
    → (a < base) × IsSome (lookup (all_runs store ps base begin) base) × IsGap (all_runs store ps base begin) a base
next_open store ps base begin a laid none place low some =
    let rest : lookup (runs_in store ps) a ≡ None = grind arith in
    let long = length-drop begin store in
    let first = present_some (run_at base (drop begin store)) base (omega arith) (omega arith) in (
      low,
      grind (arith, first),
      λ x from to.
          rw (behind_none store base begin x (inr to))
          (gap_ended store begin ps a base (length ps) x laid.within laid.lies rest place
          (λ k e m o. absurd (omega arith)) from to),
    )

-- there is no next segment
pub no_next : (store : List ℕ) (ps : List Piece) (base begin a : ℕ) → AreSegments store ps base begin
    → lookup (all_runs store ps base begin) a ≡ None
    → IsPartitionPoint ps a (length ps) → (base ≤ a) ⊎ (length store ≤ begin) → (x : ℕ) → a ≤ x
    → lookup (all_runs store ps base begin) x ≡ None
no_next store ps base begin a laid none place past x from =
    let rest : lookup (runs_in store ps) a ≡ None = grind arith in
    let past_end : byte_in (run_at base (drop begin store)) x ≡ None =
    grind (
      arith,
      length-drop begin store,
      present_none (run_at base (drop begin store)) x,
      present_some (run_at base (drop begin store)) a,
      cases_lt a (end_of (run_at base (drop begin store))),
    ) in
    rw past_end (gap_ended store begin ps a (x + 1) (length ps) x laid.within laid.lies rest place
    (λ k e m o. absurd (omega arith)) from (omega arith))

-- ---- all segments end before the address before this one

pub no_bytes_from : (store : List ℕ) (ps : List Piece) (base begin a x : ℕ) → AreSegments store ps base begin
    → length store ≡ 0 → a ≤ x + 1 → lookup (all_runs store ps base begin) x ≡ None
no_bytes_from store ps base begin a x laid empty from =
    rw (behind_none store base begin x (inl (omega arith)))
    (none_present store begin ps x laid.within laid.lies (all_from _ ps (λ k d h. absurd (
    let some = filled ps k d laid.apart h in
    let lies = (of_all _ ps k d laid.lies h).0 in
    let within = laid.within in
    omega arith))))

pub none_from_end : (store : List ℕ) (ps : List Piece) (base begin a x : ℕ) → AreSegments store ps base begin
    → base < a → length store - begin < a - base → a ≤ x + 1 → lookup (all_runs store ps base begin) x ≡ None
none_from_end store ps base begin a x laid low ends from =
    let long = length-drop begin store in
    rw (present_none (run_at base (drop begin store)) x (inr (omega arith)))
    (none_present store begin ps x laid.within laid.lies
    (all_weaker _ _ ps (λ p below. inl (omega arith)) laid.below))
