-- Which of the searched addresses cannot look like an RSDP, and the bytes from a later one of a run on.
use Rattle.std.proofs.Common.{◌≡◌, ℕ, zero, suc, ◌+◌, ◌<◌, ◌≤◌, ◌%◌, inl, inr, min, List, length, take, drop, Option, Some, None, refl, sym, ap, ◌∙◌, arith, length-drop}
use Rattle.std.specs.Option.{option_map}
use Rattle.std.proofs.lemmas.Bool.{cases_lt}
use Rattle.std.proofs.lemmas.Bool.Decides.{nat_tests}
use Rattle.std.proofs.lemmas.List.{drop-take}
use Rattle.acpi_base.specs.Memory.{Memory, byte_of, run_of, cons_both}
use Rattle.acpi_base.specs.Image.Runs.{AreBytesFrom}
use Rattle.acpi_base.specs.RsdpSearch.{IsSearched, LooksLikeRsdp}
use Rattle.acpi_base.proofs.Options.{none_and_some}
use Rattle.acpi_base.proofs.Images.ByteRuns.{run_of-split, run_of_none}

pub nothing_there : (m : Memory) (a : ℕ) → byte_of m a ≡ None → LooksLikeRsdp m a → ⊥
nothing_there m a none looks =
    let here : a + 0 ≡ a = omega arith in
    none_and_some
    (run_of_none (byte_of m) a 20 0 (omega arith) (ap (byte_of m) here ∙ none)) looks.present

drop_after : (k b : ℕ) (rest : Option (List ℕ))
    → option_map (drop k) rest ≡ option_map (drop (suc k)) (cons_both (Some b) rest)
unfolding cons_both
drop_after k b None = refl
drop_after k b (Some l) = refl

drop_none : (bytes : Option (List ℕ)) → bytes ≡ option_map (drop 0) bytes
drop_none None = refl
drop_none (Some l) = refl

run_of-drop : (f : ℕ → Option ℕ) (a k n : ℕ) (l : List ℕ) → run_of f a k ≡ Some l
    → run_of f (a + k) n ≡ option_map (drop k) (run_of f a (k + n))
unfolding run_of
run_of-drop f a zero n l present =
    let here : a + 0 ≡ a = omega arith in
    let all : n ≡ 0 + n = omega arith in
    ap (λ (x : ℕ). run_of f x n) here
    ∙ ap (run_of f a) all
    ∙ drop_none (run_of f a (0 + n))
run_of-drop f a (suc k) n l present =
    let parts = run_of-split f a k l present in
    let on : a + suc k ≡ a + 1 + k = omega arith in
    let all : suc (k + n) ≡ suc k + n = omega arith in
    ap (λ (x : ℕ). run_of f x n) on
    ∙ run_of-drop f (a + 1) k n parts.1 parts.3
    ∙ drop_after k parts.0 (run_of f (a + 1) (k + n))
    ∙ ap (λ (b : Option ℕ). option_map (drop (suc k)) (cons_both b (run_of f (a + 1) (k + n)))) (sym parts.2)
    ∙ ap (λ (x : ℕ). option_map (drop (suc k)) (run_of f a x)) all

pub bytes_further : (m : Memory) (a k : ℕ) (bytes : List ℕ) → AreBytesFrom m a bytes → k ≤ length bytes
    → AreBytesFrom m (a + k) (drop k bytes)
bytes_further m a k bytes run within n =
    let long = length-drop k bytes in
    let all : run_of (byte_of m) a k ≡ Some (take k bytes) = run k ∙ grind (arith, nat_tests) in
    run_of-drop (byte_of m) a k n (take k bytes) all
    ∙ ap (option_map (drop k)) (run (k + n))
    ∙ elim (cases_lt (length (drop k bytes)) n) [
      | inl short ↦ grind (arith, nat_tests, long)
      | inr fits ↦ grind (arith, nat_tests, long, drop-take k n bytes)
    ]

pub rest_of_run : (m : Memory) (a : ℕ) (bytes : List ℕ) (k : ℕ) → k ≡ min (length bytes) 16 → AreBytesFrom m a bytes
    → 0 < length (drop k bytes) → AreBytesFrom m (a + 16) (drop k bytes)
rest_of_run m a bytes k is run some =
    let long = length-drop k bytes in
    let whole : k ≡ 16 = omega (arith, is, long, some) in
    rw whole (bytes_further m a 16 bytes run (omega (arith, is, long, some)))

-- nothing looks like an RSDP below an address, from there to another one, and at that one
pub none_further : (m : Memory) (from at : ℕ) → at % 16 ≡ 0
    → ((a : ℕ) → a < from → IsSearched a → LooksLikeRsdp m a → ⊥)
    → ((a : ℕ) → from ≤ a → a < at → IsSearched a → LooksLikeRsdp m a → ⊥) → (LooksLikeRsdp m at → ⊥)
    → (a : ℕ) → a < at + 16 → IsSearched a → LooksLikeRsdp m a → ⊥
none_further m from at aligned below between here a within searched =
    elim (cases_lt a at) [
      | inl before ↦ elim (cases_lt a from) [
        | inl low ↦ below a low searched
        | inr high ↦ between a high before searched
      ]
      | inr least ↦
          let same : a ≡ at = omega (arith, within, least, aligned, searched.aligned) in
          rw same here
    ]
