-- Advice on the slots of the root table (ACPI 6.5, 5.2.7, 5.2.8). `at` is a slot's number, `point` the address that it lists.
use Rattle.std.specs.Prelude.{◌≡◌, ◌≢◌, ℕ, ◌≤◌, ◌⊎◌, List, codes}
use Rattle.acpi_base.specs.Memory.{Memory}
use Rattle.acpi_base.specs.Root.{IsSlot}
use Rattle.acpi_base.specs.Facs.{facs_signature}
use Rattle.acpi_base.specs.TableKinds.{signature_of}
use Rattle.acpi_base.specs.Tables.{IsSigned}
use Rattle.acpi_lint.specs.Rules.Numbered.{IsLater}
use Rattle.acpi_base.specs.declared.table_kind.TableKind.{TableKind}

-- the slot lists an address that an earlier slot lists; `other` is the first of them
abbrev pub IsListedTwice : Memory → ℕ → ℕ → ℕ → ℕ → Type 0
IsListedTwice m p at other point = IsLater (IsSlot m p) at other point

-- slot k lists the address of a header with this signature
abbrev pub ListsSigned : Memory → ℕ → List ℕ → ℕ → ℕ → Type 0
ListsSigned m p signature k a = IsSlot m p k a × IsSigned m a signature

-- `Lists k a` says that slot k is one of these and lists the address a: `at` lists `point`, and `other`, the first of them,
-- lists another one
pub record IsSecond (Lists : ℕ → ℕ → Type 0) (at other point : ℕ) : Type 0 where
  pub here : Lists at point
  pub a : ℕ
  pub there : Lists other a
  pub first : (k b : ℕ) → Lists k b → other ≤ k
  pub differs : a ≢ point

-- that of the tables of a kind, of which only the first is read (5.2)
abbrev pub IsSecondTable : Memory → ℕ → ℕ → ℕ → ℕ → Type 0
IsSecondTable m p at other point = (kind : TableKind) × IsSecond (ListsSigned m p (signature_of kind)) at other point

-- the DSDT's signature (5.2.11.1)
abbrev pub dsdt_signature : List ℕ
dsdt_signature = codes "DSDT"

-- the slot lists a DSDT or a FACS, which only the FADT should name (5.2.9)
abbrev pub IsListedApart : Memory → ℕ → ℕ → ℕ → ℕ → Type 0
IsListedApart m p at other point =
    (ListsSigned m p dsdt_signature at point ⊎ ListsSigned m p facs_signature at point) × (other ≡ 0)
