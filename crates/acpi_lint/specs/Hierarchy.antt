-- Chains over the nodes of a PPTT that are no physical packages, by their offsets.
use Rattle.std.specs.Prelude.{◌≡◌, ℕ, ◌<◌, Bool, true, false, List, length, get_or, Contains}
use Rattle.acpi_base.specs.Chains.{Ends}
use Rattle.acpi_lint.specs.Rules.Hierarchy.{HasParent}
use Rattle.acpi_rules.specs.declared.numbered.Numbered.{Numbered}

-- a number to read lists with
abbrev pub none : Numbered
none = record { number = 0; at = 0; value = 0 }

-- no chain that begins at one of these nodes that is visited ends
pub record AreNoneOutside (nodes : List Numbered) (visited : List Bool) : Type 0 where
  pub count : length visited ≡ length nodes
  pub none : (k : ℕ) → k < length nodes → get_or visited k false ≡ true
      → ¬ Ends (HasParent nodes) (get_or nodes k none).number

-- one of the leaves is at `at` and has the ID `point`, and such a chain that ends begins there
abbrev pub IsOutsideAt : List Numbered → List Numbered → ℕ → ℕ → ℕ → Type 0
IsOutsideAt nodes leaves at other point =
    (g : Numbered) × Contains leaves g × (g.number ≡ at) × (g.value ≡ point) × Ends (HasParent nodes) at × (other ≡ 0)
