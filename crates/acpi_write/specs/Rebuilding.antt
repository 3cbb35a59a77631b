-- The result of rebuilding a set, and why it is refused.
use Rattle.std.specs.Prelude.{◌≡◌, ◌≢◌, ℕ, ◌%◌}
use Rattle.acpi_base.specs.Faults.{IsFirstFault}
use Rattle.acpi_base.specs.Memory.{Memory, IsImage}
use Rattle.acpi_base.specs.Policy.{PolicyValue, with_rsdp}
use Rattle.acpi_base.specs.Statements.{IsClean, CleanTo}
use Rattle.acpi_base.specs.declared.stage.Stage.TheVariants as stage
use Rattle.acpi_write.specs.Placed.{IsPlaced, IsPlacingRefusal}
use Rattle.acpi_write.specs.Rebuilt.{rebuilt_image}
use Rattle.acpi_write.specs.SetValues.{IsSetValue}
use Rattle.acpi_write.specs.Values.{SetValue}
use Rattle.acpi_write.specs.declared.placing.RebuildFault.{RebuildFault}
use Rattle.acpi_write.specs.declared.placing.RebuildFault.TheVariants as fault
use Rattle.acpi_write.specs.declared.set_value.ValuesFault.{ValuesFault}
use Rattle.acpi_write.specs.declared.set_value.ValuesFault.TheVariants as values_fault

-- The image has a clean set with this value; the value can be placed at the base address, and the new image is its
-- rebuilt image there. A clean set has one value (`OneSetValue`), so there is one such image.
pub record IsRebuilt (m : Memory) (q : PolicyValue) (base : ℕ) (new : Memory) : Type 0 where
  pub clean : IsClean m q
  pub value : SetValue
  pub said : IsSetValue m q.rsdp value
  pub placed : IsPlaced value base
  pub image : new ≡ rebuilt_image value base

-- Why a set is not rebuilt: the base address is not a multiple of 64; or it is, and the set is not clean, and this is
-- its first fault; or the set is clean, and its value cannot be placed at the base address. Memory runs out only if
-- the base address is a multiple of 64 and the stages up to the MADT's hold.
abbrev pub IsRebuildRefusal : Memory → PolicyValue → ℕ → RebuildFault → Type 0
IsRebuildRefusal m q base fault.Unaligned = ¬ (base % 64 ≡ 0)
IsRebuildRefusal m q base (fault.NotClean w) = (base % 64 ≡ 0) × (¬ IsClean m q) × IsFirstFault m q w
IsRebuildRefusal m q base fault.Memory = (base % 64 ≡ 0) × CleanTo stage.Madt m q
IsRebuildRefusal m q base refused = (base % 64 ≡ 0) × IsClean m q × ((v : SetValue) × IsSetValue m q.rsdp v × IsPlacingRefusal v base refused)

-- the refusal of `rebuild` if `values` refuses the set
abbrev pub rebuild_fault_of : ValuesFault → RebuildFault
rebuild_fault_of (values_fault.NotClean w) = fault.NotClean w
rebuild_fault_of values_fault.Memory = fault.Memory

-- ---- laws

-- Unless memory runs out, a set that is refused at a base address is not rebuilt there, and one that is rebuilt is
-- not refused. So `rebuild`, whose contract names only these two, refuses exactly when there is a reason.
abbrev pub RefusedSetsAreNotRebuilt : Type 0
RefusedSetsAreNotRebuilt = (m : Memory) (q : PolicyValue) (base : ℕ) (new : Memory) (refused : RebuildFault) → refused ≢ fault.Memory → IsRebuildRefusal m q base refused → ¬ IsRebuilt m q base new

-- The rebuilt image of the value v at a base address is kept as a set: under the policy with the RSDP at that address
-- it is clean, has the value v, and this value can be placed at that address again, with this image as its rebuilt
-- image.
pub record IsSetKept (q : PolicyValue) (v : SetValue) (base : ℕ) : Type 0 where
  pub clean : IsClean (rebuilt_image v base) (with_rsdp q base)
  pub value : IsSetValue (rebuilt_image v base) base v
  pub again : (w : SetValue) → IsSetValue (rebuilt_image v base) base w → IsPlaced w base × (rebuilt_image w base ≡ rebuilt_image v base)

-- it is, for the value of a clean set, wherever this can be placed. That the numbers of a borrowed image fit
-- (`IsImage`) is what `Image::numbers_fit` states.
abbrev pub RebuiltSetsAreKept : Type 0
RebuiltSetsAreKept = (m : Memory) (q : PolicyValue) (v : SetValue) (base : ℕ) → IsImage m → IsClean m q → IsSetValue m q.rsdp v → IsPlaced v base → IsSetKept q v base
