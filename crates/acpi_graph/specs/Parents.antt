-- Chains of parents, and the first node whose chain does not end.
use Rattle.std.specs.Prelude.{◌≡◌, ℕ, ◌+◌, ◌<◌, ◌≤◌, zero, suc, List, length, Option, None, Some, option_and_then, IfSome, All, slice_get}
use Rattle.acpi_graph.specs.declared.stray.Stray.{Stray}
use Rattle.acpi_graph.specs.declared.stray.Stray.TheVariants as stray

-- A list of parents has at each node's index the index of its parent, or None if it has none.

-- every parent is a node of the list
abbrev pub AreNodes : List (Option ℕ) → Type 0
AreNodes parents = All (λ parent. IfSome parent (λ node. node < length parents)) parents

-- a node's parent, if it has one
abbrev pub parent_of : List (Option ℕ) → ℕ → Option ℕ
parent_of parents node = option_and_then (λ parent. parent) (slice_get parents node)

-- the node that this many steps lead to, each from a node to its parent; None if the chain ends before
abbrev pub node_after : List (Option ℕ) → ℕ → ℕ → Option ℕ
node_after parents node zero = Some node
node_after parents node (suc steps) = option_and_then (parent_of parents) (node_after parents node steps)

-- the chain that begins at the node ends
abbrev pub Ends : List (Option ℕ) → ℕ → Type 0
Ends parents node = (steps : ℕ) × (node_after parents node steps ≡ None)

-- every chain ends
abbrev pub AllEnd : List (Option ℕ) → Type 0
AllEnd parents = (node : ℕ) → node < length parents → Ends parents node

-- after lead steps, and again a round of at least one step later, the chain is at the same node
pub record Returns (parents : List (Option ℕ)) (node lead round : ℕ) : Type 0 where
  pub moves : 1 ≤ round
  pub there : ℕ
  pub stands : node_after parents node lead ≡ Some there
  pub again : node_after parents node (lead + round) ≡ Some there

-- of all returns of the chain, lead is the lowest, and round is the lowest for it
pub record IsRound (parents : List (Option ℕ)) (node lead round : ℕ) : Type 0 where
  pub returns : Returns parents node lead round
  pub least_lead : (steps more : ℕ) → Returns parents node steps more → lead ≤ steps
  pub least_round : (more : ℕ) → Returns parents node lead more → round ≤ more

-- node is the lowest one whose chain does not end, with its cycle
pub record IsFirstStray (parents : List (Option ℕ)) (node lead round : ℕ) : Type 0 where
  pub is_node : node < length parents
  pub goes_on : ¬ Ends parents node
  pub earlier_end : (other : ℕ) → other < node → Ends parents other
  pub is_round : IsRound parents node lead round

-- what holds for a cycle, if there is one
abbrev pub IfRound : Stray → (ℕ → ℕ → ℕ → Type 0) → Type 0
IfRound stray.None P = Unit {0}
IfRound (stray.Round node lead round) P = P node lead round
