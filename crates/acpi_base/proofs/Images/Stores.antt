-- The bytes of the pieces in a store.
use Rattle.std.proofs.Common.{◌≡◌, ◌⊎◌, ℕ, zero, suc, ◌<◌, ◌≤◌, List, [], ◌∷◌, ◌++◌, length, get_or, drop, None, IsSome, refl, arith, length-drop}
use Rattle.std.specs.List.{AllByRecursion}
use Rattle.std.proofs.lemmas.List.{take-append-le, drop-append-le, length-take-le}
use Rattle.acpi_base.specs.Image.Runs.{end_of, lookup}
use Rattle.acpi_base.specs.Image.Pieces.{Piece, end_at, LiesBefore, run_in, runs_in}
use Rattle.acpi_base.proofs.Images.RunBytes.{present_none, present_some}

-- ---- all elements of a list

pub all_from : {T : Type 0} (P : T → Type 0) (ps : List T) → ((k : ℕ) (d : T) → k < length ps → P (get_or ps k d))
    → AllByRecursion P ps
all_from P [] h = tt
all_from P (p ∷ ps) h = (h 0 p (omega arith), all_from P ps (λ k d l. h (suc k) d (omega arith)))

pub of_all : {T : Type 0} (P : T → Type 0) (ps : List T) (k : ℕ) (d : T) → AllByRecursion P ps → k < length ps
    → P (get_or ps k d)
of_all P [] k d all h = absurd (omega arith)
of_all P (p ∷ ps) zero d all h = all.0
of_all P (p ∷ ps) (suc k) d all h = of_all P ps k d all.1 (omega arith)

pub all_weaker : {T : Type 0} (P Q : T → Type 0) (ps : List T) → ((p : T) → P p → Q p) → AllByRecursion P ps
    → AllByRecursion Q ps
all_weaker P Q [] weaker all = tt
all_weaker P Q (p ∷ ps) weaker all = (weaker p all.0, all_weaker P Q ps weaker all.1)

-- ---- runs in a store

pub run_ends : (store : List ℕ) (p : Piece) (n : ℕ) → n ≤ length store → LiesBefore n p
    → end_of (run_in store p) ≡ end_at p
run_ends store p n l lies =
    let long = length-drop p.1.start store in
    let low = lies.0 in
    omega (arith, length-take-le p.1.len (drop p.1.start store) (omega arith))

pub runs_in_more : (store more : List ℕ) (n : ℕ) (ps : List Piece) → n ≤ length store → AllByRecursion (LiesBefore n) ps
    → runs_in (store ++ more) ps ≡ runs_in store ps
runs_in_more store more n [] l lies = refl
runs_in_more store more n (p ∷ ps) l lies =
    let low = lies.0.0 in
    let long = length-drop p.1.start store in
    rw (
      drop-append-le p.1.start store more (omega arith),
      take-append-le p.1.len (drop p.1.start store) more (omega arith),
      runs_in_more store more n ps l lies.1,
    ) refl

pub none_present : (store : List ℕ) (n : ℕ) (ps : List Piece) (x : ℕ) → n ≤ length store
    → AllByRecursion (LiesBefore n) ps
    → AllByRecursion (λ p. (end_at p ≤ x) ⊎ (x < p.0)) ps → lookup (runs_in store ps) x ≡ None
none_present store n [] x l lies clear = refl
none_present store n (p ∷ ps) x l lies clear =
    grind (
      arith,
      clear.0,
      run_ends store p n l lies.0,
      present_none (run_in store p) x,
      none_present store n ps x l lies.1 clear.1,
    )

pub base_present : (store : List ℕ) (n : ℕ) (ps : List Piece) (k : ℕ) (d : Piece) → n ≤ length store
    → AllByRecursion (LiesBefore n) ps
    → k < length ps → 0 < (get_or ps k d).1.len → IsSome (lookup (runs_in store ps) (get_or ps k d).0)
base_present store n [] k d l lies h some = absurd (omega arith)
base_present store n (p ∷ ps) zero d l lies h some =
    grind (arith, run_ends store p n l lies.0, present_some (run_in store p) p.0)
base_present store n (p ∷ ps) (suc k) d l lies h some =
    grind (arith, base_present store n ps k d l lies.1 (omega arith) some)
