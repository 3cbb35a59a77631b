-- References between entries of a PPTT (ACPI 6.5, 5.2.30).
use Rattle.std.specs.Prelude.{ℕ, Option, Some}
use Rattle.acpi_base.specs.Chains.{IsStep}
use Rattle.acpi_base.specs.Pptt.{PpttEntry, PpttContents, parent_of, next_level_of, NamesParent, NamesNextLevel}
use Rattle.acpi_confirm.specs.Walks.{IsOnly}
use Rattle.acpi_confirm.specs.declared.pptt.Chain.{Chain}
use Rattle.acpi_confirm.specs.declared.pptt.Chain.TheVariants.{Parents, NextLevels}
use Rattle.acpi_confirm.specs.declared.pptt.chains.Linked.{Linked}

-- the offset that an entry refers to
abbrev pub named_offset : Chain → PpttEntry → Option ℕ
named_offset Parents e = parent_of e
named_offset NextLevels e = next_level_of e

-- the entry at o refers to p
abbrev pub Names : Chain → PpttContents → ℕ → ℕ → Type 0
Names Parents c = NamesParent c
Names NextLevels c = NamesNextLevel c

-- a step leads from o to this node or cache, with this reference
pub record IsStepTo (Named : ℕ → ℕ → Type 0) (o : ℕ) (next : Linked) : Type 0 where
  pub step : IsStep Named o next.at
  pub names : IsOnly (Named next.at) (Some next.names)
