-- Sets of tables that stages pass on.
use Rattle.std.specs.Prelude.{◌≡◌, ◌≢◌, ℕ, List, Option, Some, None}
use Rattle.acpi_base.specs.Memory.{Memory}
use Rattle.acpi_base.specs.Policy.{PolicyValue}
use Rattle.acpi_base.specs.Facs.{IsFacs}
use Rattle.acpi_base.specs.Fadt.{IsFadt, facs_address}
use Rattle.acpi_base.specs.Root.{HasSlot}
use Rattle.acpi_base.specs.Rsdp.{IsRsdp}
use Rattle.acpi_base.specs.Statements.{AreValidTables, IsClean}
use Rattle.acpi_base.specs.Tables.{IsTable}
use Rattle.acpi_read.specs.Fadts.{FacsValue}
use Rattle.acpi_read.specs.declared.first_tables.Listed.{Listed}
use Rattle.acpi_check.specs.TableResults.{AreFirstTables, IsRootOf}
use Rattle.acpi_check.specs.declared.set.ListedSet.{ListedSet}
use Rattle.acpi_check.specs.declared.set.CleanSet.{CleanSet}

-- ---- listed tables

-- the set that the RSDP at p leads to: its RSDP, its root table and the tables that it lists, which are all valid
pub record IsListedSetOf (m : Memory) (p : ℕ) (set : ListedSet) : Type 0 where
  pub image : set.image.now ≡ m
  pub rsdp : IsRsdp m p set.rsdp
  pub root : IsRootOf m p set.root
  pub valid : AreValidTables m p
  pub tables : AreFirstTables m p set.tables

-- the same for its own image and its RSDP's own address
abbrev pub IsListedSet : ListedSet → Type 0
IsListedSet set = IsListedSetOf set.image.now set.rsdp.address set

-- slot k of the set's root table lists this table
pub record IsListedIn (set : ListedSet) (k : ℕ) (listed : Listed) : Type 0 where
  pub slot : HasSlot set.root.bytes set.root.width k listed.address
  pub header : List ℕ
  pub table : IsTable set.image.now listed.address header listed.table

-- ---- the FADT and the FACS

-- the FACS that a FADT names, or that it names none (5.2.10)
abbrev pub IsFacsNamed : Memory → List ℕ → Option FacsValue → Type 0
IsFacsNamed m fadt None = facs_address fadt ≡ 0
IsFacsNamed m fadt (Some facs) = (facs.address ≡ facs_address fadt) × (facs.address ≢ 0) × IsFacs m facs.address facs.bytes

-- ---- all stages

-- all stages hold for the image and the policy, and this is the set
pub record IsCleanSetOf (m : Memory) (q : PolicyValue) (set : CleanSet) : Type 0 where
  pub clean : IsClean m q
  pub listed : IsListedSetOf m q.rsdp set.listed
  pub fadt : IsFadt m q.rsdp set.fadt
  pub facs : IsFacsNamed m set.fadt set.facs
