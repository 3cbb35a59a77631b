-- The reports of codes and of rules, one after another by their numbers: the first of each that has one.
use Rattle.std.proofs.Common.{◌≡◌, ℕ, ◌+◌, ◌<◌, List, ◌∷◌, [], ◌++◌, sym, ◌∙◌, ap}
use Rattle.std.specs.Prelude.{◌↔◌, Contains}
use Rattle.acpi_lint.proofs.RisingLists.{IsUpTo, none_next, one_next}

module _ {X K : Type 0} (First : X → Type 0) (kind : X → K) (number : K → ℕ)
    (same : (k l : K) → number k ≡ number l → k ≡ l) where
  -- the reports for lower numbers
  abbrev pub AreBelow : ℕ → List X → Type 0
  AreBelow n xs = IsUpTo First (λ x. number (kind x)) n xs

  pub no_more : (k : K) (n : ℕ) (xs : List X) → number k ≡ n → AreBelow n xs → ((x : X) → kind x ≡ k → ¬ First x)
      → AreBelow (n + 1) xs
  no_more k n xs is before none = none_next before (λ x first has. none x (same (kind x) k (has ∙ sym is)) first)

  pub one_more : (k : K) (n : ℕ) (xs : List X) (x : X) → number k ≡ n → AreBelow n xs → kind x ≡ k → First x
      → ((y : X) → kind y ≡ kind x → First y → First x → y ≡ x) → AreBelow (n + 1) (xs ++ x ∷ [])
  one_more k n xs x is before of first one =
      let own : number (kind x) ≡ n = ap number of ∙ is in
      one_next x before first own (λ y other has. one y (same (kind y) (kind x) (has ∙ sym own)) other first)

  pub are_all : (n : ℕ) (xs : List X) → AreBelow n xs → ((k : K) → number k < n) → (x : X) → Contains xs x ↔ First x
  are_all n xs all below x = (λ here. (all.listed x here).0, λ first. all.all x first (below (kind x)))
