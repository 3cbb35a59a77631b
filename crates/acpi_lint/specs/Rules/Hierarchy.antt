-- Advice on the hierarchy of processors that a PPTT describes (ACPI 6.5, 5.2.30.1), of its bytes. `at` is an entry's offset from
-- the table's start.
use Rattle.std.specs.Prelude.{◌≡◌, ◌⊎◌, ℕ, List, Contains, map}
use Rattle.acpi_base.specs.Chains.{Ends}
use Rattle.acpi_rules.specs.Numbered.{IsFirst}
use Rattle.acpi_rules.specs.Rows.{IsBroken, row_said}
use Rattle.acpi_rules.specs.declared.numbered.Numbered.{Numbered}
use Rattle.acpi_lint.specs.Rules.Entries.{alone, entries_give}
use Rattle.acpi_lint.specs.declared.rows.pptt.TheConstants.{MARKED_LEAVES, OUTER_PARENTS, UNMARKED_LEAVES}
use Rattle.acpi_lint.specs.declared.rows.pptt_fields.TheConstants.{PPTT_ENTRIES}

-- the leaf with this ACPI processor ID is at `at`: it is marked, or below Revision 2, which has no marks, no node has it as its
-- Parent
abbrev pub IsLeafAt : List ℕ → ℕ → ℕ → Type 0
IsLeafAt pptt at id =
    (other : ℕ)
    × (IsBroken (row_said MARKED_LEAVES) (alone pptt) at other id
    ⊎ IsBroken (row_said UNMARKED_LEAVES) (alone pptt) at other id)

-- a number at a place as that place, with the number as its value
abbrev pub by_place : Numbered → Numbered
by_place g = record { number = g.at; at = g.at; value = g.number }

-- the offsets of the nodes that are no physical packages, with their Parents
abbrev pub outer_nodes : List ℕ → List Numbered
outer_nodes pptt = map by_place (entries_give PPTT_ENTRIES OUTER_PARENTS pptt)

-- the first of some nodes at the offset o has the Parent p
abbrev pub HasParent : List Numbered → ℕ → ℕ → Type 0
HasParent nodes o p = (f : Numbered) × IsFirst (λ g. Contains nodes g) f × (f.number ≡ o) × (f.value ≡ p)

-- a leaf with the ID `point` is in no physical package: a chain of Parents leads from it to a node whose Parent is 0, and none of
-- them is a package
abbrev pub IsNoPackage : List ℕ → ℕ → ℕ → ℕ → Type 0
IsNoPackage pptt at other point =
    IsLeafAt pptt at point × Ends (HasParent (outer_nodes pptt)) at × (other ≡ 0)
