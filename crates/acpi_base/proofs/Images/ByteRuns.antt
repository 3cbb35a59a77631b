-- What `run_of` and `least_defined` find, and so `bytes_at` and `first_present`.
use Rattle.std.proofs.Common.{◌≡◌, ℕ, zero, suc, ◌+◌, ◌<◌, ◌≤◌, true, List, [], ◌∷◌, length, take, slice_index, Option, Some, None, IsSome, is_some, refl, ap, subst, ◌∙◌, arith, add-zero}
use Rattle.acpi_base.specs.Memory.{Memory, byte_of, run_of, least_defined, cons_both, bytes_at, Has}

next : (P : ℕ → ℕ → Type 0) (a n : ℕ) → ((k : ℕ) → k < suc n → P (a + k) k) → (k : ℕ) → k < n → P (a + 1 + k) (suc k)
next P a n h k l = (let q : a + suc k ≡ a + 1 + k = omega arith in subst (λ x. P x (suc k)) q (h (suc k) (omega arith)))

pub run_of_none : (f : ℕ → Option ℕ) (a n k : ℕ) → k < n → f (a + k) ≡ None → run_of f a n ≡ None
unfolding run_of cons_both
run_of_none f a zero k h e = absurd (omega arith)
run_of_none f a (suc n) zero h e = grind (arith, add-zero)
run_of_none f a (suc n) (suc k) h e =
    (let q : a + suc k ≡ a + 1 + k = omega arith in grind (arith, run_of_none f (a + 1) n k))

pub first_of_none : (f : ℕ → Option ℕ) (a n : ℕ) → ((k : ℕ) → k < n → f (a + k) ≡ None) → least_defined f a n ≡ None
unfolding least_defined
first_of_none f a zero h = refl
first_of_none f a (suc n) h = grind (arith, add-zero, h 0, first_of_none f (a + 1) n (next (λ x k. f x ≡ None) a n h))

pub first_of_at : (f : ℕ → Option ℕ) (a n k : ℕ) → k < n → IsSome (f (a + k)) → ((j : ℕ) → j < k → f (a + j) ≡ None)
    → least_defined f a n ≡ Some (a + k)
unfolding least_defined
first_of_at f a zero k h s before = absurd (omega arith)
first_of_at f a (suc n) zero h s before = grind (arith, add-zero)
first_of_at f a (suc n) (suc k) h s before =
    let q : a + 1 + k ≡ a + suc k = omega arith in
    grind (
      arith,
      add-zero,
      before 0,
      first_of_at f (a + 1) n k (omega arith) (ap (λ x. is_some (f x)) q ∙ s)
          (next (λ x j. f x ≡ None) a k before),
    )

pub first_of_from : (f : ℕ → Option ℕ) (a n x : ℕ) → least_defined f a n ≡ Some x → a ≤ x
unfolding least_defined
first_of_from f a zero x e = absurd (cc)
first_of_from f a (suc n) x e = grind (arith, first_of_from f (a + 1) n x)

pub first_of_here : (f : ℕ → Option ℕ) (a n x : ℕ) → least_defined f a n ≡ Some x → (x < a + n) × IsSome (f x)
unfolding least_defined
first_of_here f a zero x e = absurd (cc)
first_of_here f a (suc n) x e = grind (arith, first_of_here f (a + 1) n x)

pub run_of-agree : (f g : ℕ → Option ℕ) (a n : ℕ) → ((k : ℕ) → k < n → f (a + k) ≡ g (a + k))
    → run_of f a n ≡ run_of g a n
unfolding run_of
run_of-agree f g a zero h = refl
run_of-agree f g a (suc n) h = grind (arith, add-zero, h 0, run_of-agree f g (a + 1) n (next (λ x k. f x ≡ g x) a n h))

-- ---- the list of bytes

pub run_of-split : (f : ℕ → Option ℕ) (a n : ℕ) (l : List ℕ) → run_of f a (suc n) ≡ Some l
    → (b : ℕ) × (rest : List ℕ) × (f a ≡ Some b) × (run_of f (a + 1) n ≡ Some rest) × (l ≡ b ∷ rest)
unfolding run_of cons_both
run_of-split f a n l e = grind (arith)

pub run_of-count : (f : ℕ → Option ℕ) (a n : ℕ) (l : List ℕ) → run_of f a n ≡ Some l → length l ≡ n
unfolding run_of
run_of-count f a zero l e = (let none : l ≡ [] = cc in ap length none)
run_of-count f a (suc n) l e = grind (arith, run_of-split f a n l e, run_of-count f (a + 1) n)

pub run_of-each : (f : ℕ → Option ℕ) (a n : ℕ) (l : List ℕ) → run_of f a n ≡ Some l → (k : ℕ) → k < n
    → f (a + k) ≡ Some (slice_index l k)
run_of-each f a zero l e k h = absurd (omega arith)
run_of-each f a (suc n) l e zero h = grind (arith, add-zero, run_of-split f a n l e)
run_of-each f a (suc n) l e (suc k) h =
    (let q : a + suc k ≡ a + 1 + k = omega arith in grind (arith, run_of-split f a n l e, run_of-each f (a + 1) n))

pub run_of-from_each : (f : ℕ → Option ℕ) (a n : ℕ) (l : List ℕ) → length l ≡ n
    → ((k : ℕ) → k < n → f (a + k) ≡ Some (slice_index l k))
    → run_of f a n ≡ Some l
unfolding run_of cons_both
run_of-from_each f a zero [] c h = refl
run_of-from_each f a zero (b ∷ bs) c h = absurd (omega arith)
run_of-from_each f a (suc n) [] c h = absurd (omega arith)
run_of-from_each f a (suc n) (b ∷ bs) c h =
    grind (
      arith,
      add-zero,
      h 0,
      run_of-from_each f (a + 1) n bs (omega arith)
          (next (λ x k. f x ≡ Some (slice_index (b ∷ bs) k)) a n h),
    )

pub run_of-some : (f : ℕ → Option ℕ) (a n : ℕ) → ((k : ℕ) → k < n → IsSome (f (a + k))) → IsSome (run_of f a n)
unfolding run_of cons_both
run_of-some f a zero h = refl
run_of-some f a (suc n) h = grind (arith, add-zero, h 0, run_of-some f (a + 1) n (next (λ x k. IsSome (f x)) a n h))

pub run_of-take : (f : ℕ → Option ℕ) (a n k : ℕ) (l : List ℕ) → run_of f a n ≡ Some l → k ≤ n
    → run_of f a k ≡ Some (take k l)
unfolding run_of cons_both
run_of-take f a n zero l e h = refl
run_of-take f a zero (suc k) l e h = absurd (omega arith)
run_of-take f a (suc n) (suc k) l e h = grind (arith, run_of-split f a n l e, run_of-take f (a + 1) n k)

pub Has-bytes_at : (m : Memory) (a n : ℕ) → IsSome (bytes_at m a n) → Has m a n
Has-bytes_at m a n s k h =
    elim (bytes_at m a n) as (λ v. bytes_at m a n ≡ v → is_some v ≡ true → IsSome (byte_of m (a + k))) [
      | None ↦ λ p t. absurd (cc)
      | Some l ↦ λ p t. ap is_some (run_of-each (byte_of m) a n l p k h)
    ] refl s
