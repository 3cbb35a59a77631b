-- The marks that walks leave on the nodes of chains of parents. No public contract cites this file.
use Rattle.std.specs.Prelude.{◌≡◌, ℕ, ◌<◌, ◌≤◌, nat_lt, List, length, Option, count_by, slice_index}
use Rattle.acpi_graph.specs.Parents.{Ends}

-- The mark of a node that no walk has left is 0; any other mark is the number of the step that left it. The chain of
-- each node with such a mark ends.
pub record AreMarksOfEnded (parents : List (Option ℕ)) (marks : List ℕ) (steps : ℕ) : Type 0 where
  pub same_length : length marks ≡ length parents
  pub one_a_step : count_by (λ mark. nat_lt 0 mark) marks ≡ steps
  pub numbered : (node : ℕ) → slice_index marks node ≤ steps
  pub end : (node : ℕ) → 0 < slice_index marks node → Ends parents node
