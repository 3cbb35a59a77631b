-- Chains of nodes and of caches in a PPTT (ACPI 6.5, 5.2.30), and what is found of them: the first cycle.
use Rattle.std.specs.Prelude.{◌≡◌, ℕ, ◌<◌, Bool, true, false, Option, None, Some}
use Rattle.acpi_base.specs.Pptt.{PpttContents, PpttEntry, parent_of, next_level_of, Says, most_nodes, most_caches}
use Rattle.acpi_base.specs.Chains.{IsCycle}
use Rattle.acpi_base.specs.declared.code.Code.{Code}
use Rattle.acpi_base.specs.Faults.{NotAfter}
use Rattle.acpi_base.specs.declared.code.Code.TheVariants as code
use Rattle.acpi_base.specs.declared.witness.Witness.{Witness}
use Rattle.acpi_check.specs.declared.nodes.Chain.{Chain}
use Rattle.acpi_check.specs.declared.nodes.Chain.TheVariants as chain

-- ---- kinds of chains

-- the offset that an entry refers to, if the entry is a node of such chains
abbrev pub named_offset : Chain → PpttEntry → Option ℕ
named_offset chain.Parents = parent_of
named_offset chain.NextLevels = next_level_of

-- there is a node at o, and it refers to p
abbrev pub Names : Chain → PpttContents → ℕ → ℕ → Type 0
Names links c = Says (named_offset links) c

-- no table of this size has more nodes
abbrev pub most_of : Chain → PpttContents → ℕ
most_of chain.Parents c = most_nodes c
most_of chain.NextLevels c = most_caches c

-- the code of their cycles
abbrev pub code_of : Chain → Code
code_of chain.Parents = code.ParentCycle
code_of chain.NextLevels = code.CacheCycle

-- a reference from the offset o to p leads up, or else down
abbrev pub Leads : Bool → ℕ → ℕ → Type 0
Leads true o p = o < p
Leads false o p = p < o

-- ---- what is found

-- the cycle that is reported, under this code: it comes before all others in the order of faults
pub record IsFirstCycle (Names : ℕ → ℕ → Type 0) (most : ℕ) (fault : Code) (o lead round : ℕ) : Type 0 where
  pub cycle : IsCycle Names most o lead round
  pub least : (p l r : ℕ) → IsCycle Names most p l r → NotAfter (record { code = fault; at = o; other = lead; point = round }) (record { code = fault; at = p; other = l; point = r })

-- no chain has a cycle, or this is the fault of the cycle that is reported
abbrev pub FindsCycle : Chain → PpttContents → Option Witness → Type 0
FindsCycle links c None = (o lead round : ℕ) → ¬ IsCycle (Names links c) (most_of links c) o lead round
FindsCycle links c (Some w) = (w.code ≡ code_of links) × IsFirstCycle (Names links c) (most_of links c) (code_of links) w.at w.other w.point
