-- The order in which faults and findings are reported.
use Rattle.std.specs.Prelude.{◌≡◌, ◌<◌, ◌≤◌, ◌⊎◌, ℕ, List, [], ◌∷◌, ⊤}

-- the numbers come before the others, of which there are as many, or are equal to them: the first difference decides
abbrev pub AreNotAfter : List ℕ → List ℕ → Type 0
AreNotAfter (n ∷ []) (k ∷ []) = n ≤ k
AreNotAfter (n ∷ ns) (k ∷ ks) = (n < k) ⊎ ((n ≡ k) × AreNotAfter ns ks)
AreNotAfter _ _ = ⊤
