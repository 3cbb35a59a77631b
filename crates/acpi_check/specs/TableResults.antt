-- The tables that are passed to a stage, and what its result on them means.
use Rattle.std.specs.Prelude.{ℕ, ◌≡◌, ◌<◌, ⊤, Result, Ok, Err}
use Rattle.acpi_base.specs.Memory.{Memory}
use Rattle.acpi_base.specs.Root.{IsRoot, IsValidRootTable}
use Rattle.acpi_base.specs.Listed.{IsListed}
use Rattle.acpi_base.specs.TableKinds.{signature_of}
use Rattle.acpi_base.specs.declared.table_kind.TableKind.{TableKind}
use Rattle.acpi_base.specs.Codes.{stage_number, stage_of}
use Rattle.acpi_base.specs.Faults.{NotAfter}
use Rattle.acpi_base.specs.declared.code.Code.{Code}
use Rattle.acpi_base.specs.declared.stage.Stage.{Stage}
use Rattle.acpi_base.specs.declared.witness.Witness.{Witness}
use Rattle.acpi_read.specs.FirstTables.{first_table}
use Rattle.acpi_read.specs.Roots.{RootValue}
use Rattle.acpi_read.specs.declared.first_tables.FirstTables.{FirstTables}
use Rattle.acpi_check.specs.declared.refusal.Refusal.{Refusal}
use Rattle.acpi_check.specs.declared.refusal.Refusal.TheVariants.{Fault, OutOfMemory}

-- ---- the tables that are passed to a stage

-- the set's root table
pub record IsRootOf (m : Memory) (p : ℕ) (root : RootValue) : Type 0 where
  pub named : IsRoot m p root.address root.width
  pub valid : IsValidRootTable m root.address root.width root.bytes

-- the first table of each kind that the set lists
pub record AreFirstTables (m : Memory) (p : ℕ) (firsts : FirstTables) : Type 0 where
  pub each : (kind : TableKind) → IsListed m p (signature_of kind) (first_table firsts kind)

-- ---- what the result of a stage on the tables that it checks means

-- w is a fault of the stage by `IsFault`, and comes after no other
pub record IsFirstOfTable (s : Stage) (IsFault : Code → ℕ → ℕ → ℕ → Type 0) (w : Witness) : Type 0 where
  pub own : stage_of w.code ≡ s
  pub fault : IsFault w.code w.at w.other w.point
  pub least : (v : Witness) → IsFault v.code v.at v.other v.point → NotAfter w v

-- What the result of a stage on its tables means: they are valid for it, or this is their first fault of the stage.
-- Stages 1 to 6 never run out of memory.
abbrev pub Finds : Stage → Type 0 → (Witness → Type 0) → Result ⊤ Refusal → Type 0
Finds s Valid IsFirst (Ok _) = Valid
Finds s Valid IsFirst (Err (Fault w)) = IsFirst w
Finds s Valid IsFirst (Err OutOfMemory) = 6 < stage_number s

-- the same if the first fault is the one that comes after no other
abbrev pub FindsFirst : Stage → Type 0 → (Code → ℕ → ℕ → ℕ → Type 0) → Result ⊤ Refusal → Type 0
FindsFirst s Valid IsFault = Finds s Valid (IsFirstOfTable s IsFault)

-- w is the overlap that is reported, under this code
pub record IsOverlap (c : Code) (IsFirst : ℕ → ℕ → ℕ → Type 0) (w : Witness) : Type 0 where
  pub code : w.code ≡ c
  pub first : IsFirst w.at w.other w.point
