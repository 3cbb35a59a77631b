-- The first fault of each code.
use Rattle.std.specs.Prelude.{◌≡◌, ◌<◌, ◌↔◌, List, AllPairs, Contains, Option, Some, None}
use Rattle.acpi_base.specs.Memory.{Memory}
use Rattle.acpi_base.specs.Policy.{PolicyValue}
use Rattle.acpi_base.specs.Codes.{code_number}
use Rattle.acpi_base.specs.Contents.{HasMadt, HasSrat}
use Rattle.acpi_base.specs.Madt.{IsFirstGsiClash}
use Rattle.acpi_base.specs.Srat.{IsFirstOverlap}
use Rattle.acpi_base.specs.Faults.{Fault, NotAfter}
use Rattle.acpi_base.specs.declared.code.Code.{Code}
use Rattle.acpi_base.specs.declared.code.Code.TheVariants as code
use Rattle.acpi_base.specs.declared.witness.Witness.{Witness}

-- w comes after no fault with this code. The two codes of overlaps have their own order: w has the lowest interrupt number
-- that two I/O APICs serve, or the lowest address that two compared ranges contain.
abbrev pub IsLeastOfCode : Code → Memory → PolicyValue → Witness → Type 0
IsLeastOfCode code.GsiClash m q w = HasMadt m q (λ madt. IsFirstGsiClash q madt w.at w.other w.point)
IsLeastOfCode code.Overlap m q w = HasSrat m q (λ srat. IsFirstOverlap q.hotplug srat w.at w.other w.point)
IsLeastOfCode c m q w = (v : Witness) → v.code ≡ c → Fault m q v → NotAfter w v

-- w is a fault of the image, and the first with its code. Whether earlier stages hold does not matter.
pub record IsFirstOfCode (m : Memory) (q : PolicyValue) (w : Witness) : Type 0 where
  pub fault : Fault m q w
  pub least : IsLeastOfCode w.code m q w

-- the image has no fault with the code, or this is the first one
abbrev pub FindsFirstOfCode : Code → Memory → PolicyValue → Option Witness → Type 0
FindsFirstOfCode c m q None = (w : Witness) → w.code ≡ c → ¬ Fault m q w
FindsFirstOfCode c m q (Some w) = (w.code ≡ c) × IsFirstOfCode m q w

-- these are the first faults of all codes that have one, in the order of the codes' numbers
pub record AreFirstFaults (m : Memory) (q : PolicyValue) (faults : List Witness) : Type 0 where
  pub all : (w : Witness) → Contains faults w ↔ IsFirstOfCode m q w
  pub rise : AllPairs (λ w v. code_number w.code < code_number v.code) faults
