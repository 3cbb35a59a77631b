-- What a run has, and what an image has once bytes are put in.
use Rattle.std.proofs.lemmas.Grind.{common_steps}
use Rattle.std.proofs.Common.{◌≡◌, ℕ, zero, suc, ◌+◌, ◌-◌, ◌<◌, ◌≤◌, ◌⊎◌, cond, List, [], ◌∷◌, length, get_or, take, drop, slice_get, slice_index, Some, None, IsSome, is_some, refl, ap, ◌∙◌, arith, drop-cons}
use Rattle.std.specs.Prelude.{◌==◌}
use Rattle.std.specs.Option.{option_or}
use Rattle.std.specs.Ordering.{nat_cmp, eq_by_cmp}
use Rattle.std.specs.Cmp.{nat_cmp_total}
use Rattle.std.specs.FinMap.{insert, remove, get-insert, get-remove, get-empty}
use Rattle.std.proofs.lemmas.Bool.{cases_lt}
use Rattle.std.proofs.lemmas.Bool.Decides.{nat_tests}
use Rattle.std.proofs.lemmas.Option.{slice_get_past, slice_get-get_or}
use Rattle.acpi_base.specs.Memory.{Memory, byte_of, run_of, with_bytes, cons_both}
use Rattle.acpi_base.specs.Image.Runs.{Run, byte_in, end_of, lookup, memory_of, run_at}

pub present_from : (r : Run) (a : ℕ) → r.base ≤ a → byte_in r a ≡ slice_get r.bytes (a - r.base)
present_from r a h = grind (arith, nat_tests)

pub present_none : (r : Run) (a : ℕ) → (a < r.base) ⊎ (end_of r ≤ a) → byte_in r a ≡ None
present_none r a h = grind (arith, cases_lt, nat_tests, slice_get_past)

pub present_at : (r : Run) (a : ℕ) → r.base ≤ a → a < end_of r → byte_in r a ≡ Some (get_or r.bytes (a - r.base) 0)
present_at r a l h = present_from r a l ∙ slice_get-get_or r.bytes (a - r.base) 0 (omega arith)

pub present_some : (r : Run) (a : ℕ) → r.base ≤ a → a < end_of r → IsSome (byte_in r a)
present_some r a l h = ap is_some (present_at r a l h)

pub present_inside : (r : Run) (a : ℕ) → IsSome (byte_in r a) → (r.base ≤ a) × (a < end_of r)
present_inside r a s = grind (arith, cases_lt, present_none)

pub byte_in-cons : (a b : ℕ) (bs : List ℕ) (x : ℕ)
    → byte_in (run_at a (b ∷ bs)) x ≡ cond (x == a) (Some b) (byte_in (run_at (a + 1) bs) x)
byte_in-cons a b bs x = grind (arith, cases_lt)

pub byte_in-nil : (a x : ℕ) → byte_in (run_at a []) x ≡ None
byte_in-nil a x = grind arith

-- the two tests for the same number
same_number : (x a : ℕ) → eq_by_cmp nat_cmp x a ≡ (x == a)
same_number x a = grind (arith, nat_tests)

pub byte_of-insert : (m : Memory) (a b x : ℕ) → byte_of (insert m a b) x ≡ cond (x == a) (Some b) (byte_of m x)
byte_of-insert m a b x = get-insert nat_cmp_total m a b x ∙ ap (λ t. cond t (Some b) (byte_of m x)) (same_number x a)

pub byte_of-remove : (m : Memory) (a x : ℕ) → byte_of (remove m a) x ≡ cond (x == a) None (byte_of m x)
byte_of-remove m a x = get-remove nat_cmp_total m a x ∙ ap (λ t. cond t None (byte_of m x)) (same_number x a)

pub byte_of-with_bytes : (m : Memory) (a : ℕ) (bs : List ℕ) (x : ℕ)
    → byte_of (with_bytes m a bs) x ≡ option_or (byte_in (run_at a bs) x) (byte_of m x)
unfolding with_bytes
byte_of-with_bytes m a [] x = rw (byte_in-nil a x) refl
byte_of-with_bytes m a (b ∷ bs) x =
    grind (arith, byte_of-insert (with_bytes m (a + 1) bs) a b x, byte_of-with_bytes m (a + 1) bs x, byte_in-cons)

pub byte_of_memory_of : (rs : List Run) (x : ℕ) → byte_of (memory_of rs) x ≡ lookup rs x
byte_of_memory_of [] x = get-empty nat_cmp x
byte_of_memory_of (r ∷ rs) x =
    byte_of-with_bytes (memory_of rs) r.base r.bytes x ∙ ap (option_or (byte_in r x)) (byte_of_memory_of rs x)

pub run_of_present : (r : Run) (a n : ℕ) → r.base ≤ a → a + n ≤ end_of r
    → run_of (byte_in r) a n ≡ Some (take n (drop (a - r.base) r.bytes))
unfolding run_of cons_both
run_of_present r a zero l h = refl
run_of_present r a (suc n) l h =
    grind (arith, common_steps, present_at, drop-cons, run_of_present r (a + 1) n (omega arith) (omega arith))

-- ---- after bytes were put in

pub byte_of-with_bytes_within : (m : Memory) (a : ℕ) (bs : List ℕ) (x : ℕ) → a ≤ x → x < a + length bs
    → byte_of (with_bytes m a bs) x ≡ Some (slice_index bs (x - a))
byte_of-with_bytes_within m a bs x l h = byte_of-with_bytes m a bs x ∙ rw (present_at (run_at a bs) x l h) refl

pub byte_of-with_bytes_outside : (m : Memory) (a : ℕ) (bs : List ℕ) (x : ℕ) → (x < a) ⊎ (a + length bs ≤ x)
    → byte_of (with_bytes m a bs) x ≡ byte_of m x
byte_of-with_bytes_outside m a bs x h = byte_of-with_bytes m a bs x ∙ rw (present_none (run_at a bs) x h) refl
