-- Reading the listed tables in the order of their slots.
use Rattle.std.proofs.Common.{◌≡◌, ℕ, suc, ◌+◌, ◌-◌, ◌*◌, ◌/◌, ◌<◌, ◌≤◌, List, [], ◌∷◌, ◌++◌, length, map, refl, sym, ap, ◌∙◌, subst, arith, append_assoc}
use Rattle.std.specs.Prelude.{◌≢◌, ◌==◌, not, filter}
use Rattle.std.specs.List.{AllZip, range_with_len}
use Rattle.std.proofs.lemmas.Bool.{ne_eqb, eq-eqb}
use Rattle.std.proofs.lemmas.List.{append-nil}
use Rattle.acpi_base.specs.Memory.{Memory}
use Rattle.acpi_base.specs.Number.{field}
use Rattle.acpi_base.specs.Listed.{listed_addresses}
use Rattle.acpi_write.specs.SetValues.{IsCompleteAt}

-- what the n slots, of d bytes each, from slot k on list
abbrev pub listed_from : List ℕ → ℕ → ℕ → ℕ → List ℕ
listed_from whole d k n = filter (λ a. not (a == 0)) (map (λ j. field whole (36 + d * j) d) (range_with_len k n))

pub listed_is : (whole : List ℕ) (d : ℕ) → listed_addresses whole d ≡ listed_from whole d 0 ((length whole - 36) / d)
unfolding listed_addresses
listed_is whole d = refl

pub listed_skip : (root : List ℕ) (d j n : ℕ) → field root (36 + d * j) d ≡ 0
    → listed_from root d j (suc n) ≡ listed_from root d (j + 1) n
listed_skip root d j n nil = rw (eq-eqb (field root (36 + d * j) d) 0 nil) refl

pub listed_take : (root : List ℕ) (d j n : ℕ) → field root (36 + d * j) d ≢ 0
    → listed_from root d j (suc n) ≡ field root (36 + d * j) d ∷ listed_from root d (j + 1) n
listed_take root d j n some = rw (ne_eqb (field root (36 + d * j) d) 0 some) refl

-- whatever the tables of the n slots from k on are, with those found they are all tables
abbrev pub Completes : Memory → List ℕ → ℕ → ℕ → ℕ → List (List ℕ) → Type 0
Completes m root d k n found =
    (rest : List (List ℕ)) → AllZip (IsCompleteAt m) (listed_from root d k n) rest
    → AllZip (IsCompleteAt m) (listed_addresses root d) (found ++ rest)

pub begins : (m : Memory) (root : List ℕ) (d n : ℕ) (found : List (List ℕ)) → n ≡ (length root - 36) / d → found ≡ []
    → Completes m root d 0 n found
begins m root d n found count none rest zip =
    rw (none, listed_is root d) (subst (λ (k : ℕ). AllZip (IsCompleteAt m) (listed_from root d 0 k) rest) count zip)

pub skips : (m : Memory) (root : List ℕ) (d k s : ℕ) (found : List (List ℕ)) → k < s → field root (36 + d * k) d ≡ 0
    → Completes m root d k (s - k) found → Completes m root d (k + 1) (s - (k + 1)) found
skips m root d k s found below nil before rest zip =
    let n : s - k ≡ suc (s - (k + 1)) = omega arith in
    before rest (subst (λ (xs : List ℕ). AllZip (IsCompleteAt m) xs rest)
    (sym (ap (listed_from root d k) n ∙ listed_skip root d k (s - (k + 1)) nil)) zip)

pub takes : (m : Memory) (root : List ℕ) (d k s : ℕ) (found new : List (List ℕ)) (t : List ℕ) → k < s
    → field root (36 + d * k) d ≢ 0 → IsCompleteAt m (field root (36 + d * k) d) t → new ≡ found ++ t ∷ []
    → Completes m root d k (s - k) found → Completes m root d (k + 1) (s - (k + 1)) new
takes m root d k s found new t below some at pushed before rest zip =
    let n : s - k ≡ suc (s - (k + 1)) = omega arith in
    let whole = before (t ∷ rest)
    (subst (λ (xs : List ℕ). AllZip (IsCompleteAt m) xs (t ∷ rest))
    (sym (ap (listed_from root d k) n ∙ listed_take root d k (s - (k + 1)) some)) (at, zip)) in
    subst (AllZip (IsCompleteAt m) (listed_addresses root d))
    (sym (append_assoc found (t ∷ []) rest) ∙ ap (λ (f : List (List ℕ)). f ++ rest) (sym pushed)) whole

pub completed : (m : Memory) (root : List ℕ) (d k s : ℕ) (found : List (List ℕ)) → s ≤ k
    → Completes m root d k (s - k) found → AllZip (IsCompleteAt m) (listed_addresses root d) found
completed m root d k s found past before =
    let none : s - k ≡ 0 = omega arith in
    let whole = before [] (subst (λ (n : ℕ). AllZip (IsCompleteAt m) (listed_from root d k n) []) (sym none) tt) in
    subst (AllZip (IsCompleteAt m) (listed_addresses root d)) (append-nil found) whole
