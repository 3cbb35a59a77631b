-- Chains of offsets. `Names o p` says that an entry of one kind is at o and names p, or names none if p is 0: a processor
-- node its Parent, a cache its Next Level (ACPI 6.5, 5.2.30).
use Rattle.std.specs.Prelude.{◌≡◌, ◌≢◌, ◌⊎◌, ℕ, zero, suc, ◌+◌, ◌≤◌, List, [], ◌∷◌}

-- an entry of the kind is at o
abbrev pub IsAt : (ℕ → ℕ → Type 0) → ℕ → Type 0
IsAt Names o = (p : ℕ) × Names o p

-- a step from o to p: o names p, which is not 0, and an entry of the kind is there
pub record IsStep (Names : ℕ → ℕ → Type 0) (o p : ℕ) : Type 0 where
  pub names : Names o p
  pub some : p ≢ 0
  pub there : IsAt Names p

-- o names p, which is not 0, and no entry of the kind is there
pub record Dangles (Names : ℕ → ℕ → Type 0) (o p : ℕ) : Type 0 where
  pub names : Names o p
  pub some : p ≢ 0
  pub nowhere : ¬ IsAt Names p

-- whatever is named is 0, or an entry of the kind is there
abbrev pub NoneDangles : (ℕ → ℕ → Type 0) → Type 0
NoneDangles Names = (o p : ℕ) → Names o p → (p ≡ 0) ⊎ IsAt Names p

-- single steps lead from o along these offsets to one that names none
abbrev pub IsChain : (ℕ → ℕ → Type 0) → ℕ → List ℕ → Type 0
IsChain Names o [] = Names o 0
IsChain Names o (p ∷ rest) = IsStep Names o p × IsChain Names p rest

-- the chain from o on ends
abbrev pub Ends : (ℕ → ℕ → Type 0) → ℕ → Type 0
Ends Names o = (rest : List ℕ) × IsChain Names o rest

-- every chain ends
abbrev pub AllEnd : (ℕ → ℕ → Type 0) → Type 0
AllEnd Names = (o : ℕ) → IsAt Names o → Ends Names o

-- so many steps lead from o to p
abbrev pub LeadsTo : (ℕ → ℕ → Type 0) → ℕ → ℕ → ℕ → Type 0
LeadsTo Names zero o p = o ≡ p
LeadsTo Names (suc steps) o p = (next : ℕ) × IsStep Names o next × LeadsTo Names steps next p

-- `lead` steps lead from o to an offset from which `round` steps lead back to it; in all they are at most `most` steps
pub record IsCycle (Names : ℕ → ℕ → Type 0) (most o lead round : ℕ) : Type 0 where
  pub there : ℕ
  pub once : LeadsTo Names lead o there
  pub back : LeadsTo Names round there there
  pub some : 1 ≤ round
  pub fits : lead + round ≤ most

-- the chain from o on reaches a cycle within so many steps
abbrev pub GoesRound : (ℕ → ℕ → Type 0) → ℕ → ℕ → Type 0
GoesRound Names most o = (lead round : ℕ) × IsCycle Names most o lead round

-- each chain ends, or reaches a cycle within so many steps, and none does both
pub record EndOrGoRound (Names : ℕ → ℕ → Type 0) (most : ℕ) : Type 0 where
  pub either : (o : ℕ) → IsAt Names o → Ends Names o ⊎ GoesRound Names most o
  pub apart : (o : ℕ) → Ends Names o → ¬ GoesRound Names most o
