-- What a pass over the slots of a root table has found so far (ACPI 6.5, 5.2.6 to 5.2.8).
use Rattle.std.specs.Prelude.{◌≡◌, ℕ, ◌<◌, Bool, true, false, List, Option, None, MatchOption}
use Rattle.acpi_base.specs.Memory.{Memory}
use Rattle.acpi_base.specs.Root.{HasSlot}
use Rattle.acpi_base.specs.TableKinds.{signature_of}
use Rattle.acpi_base.specs.Tables.{IsSigned}
use Rattle.acpi_base.specs.declared.table_kind.TableKind.{TableKind}
use Rattle.acpi_base.specs.declared.table_kind.TableKind.TheVariants as kind
use Rattle.acpi_read.specs.Roots.{RootValue}
use Rattle.acpi_read.specs.declared.first_tables.Listed.{Listed}
use Rattle.acpi_show.specs.ListedTables.{IsFirstComplete}
use Rattle.acpi_show.specs.declared.listed_tables.MetKinds.{MetKinds}

-- whether a header of a kind was met
abbrev pub is_met : MetKinds → TableKind → Bool
is_met met kind.Fadt = met.fadt
is_met met kind.Madt = met.madt
is_met met kind.Srat = met.srat
is_met met kind.Slit = met.slit
is_met met kind.Pptt = met.pptt

-- slot k lists this address, and a header of this kind is present there; or it lists no address of a header of any kind
abbrev pub IsKindIn : Memory → RootValue → ℕ → Option (ℕ × TableKind) → Type 0
IsKindIn m root k found =
    MatchOption found
    ((kind : TableKind) (a : ℕ) → HasSlot root.bytes root.width k a → ¬ IsSigned m a (signature_of kind))
    (λ here. HasSlot root.bytes root.width k here.0 × IsSigned m here.0 (signature_of here.1))

-- of the slots before k, none lists a header with the signature, and there is no table of it yet; or, if one was met, this is
-- the first one's table
abbrev pub IsFirstBefore : Memory → RootValue → ℕ → List ℕ → Bool → Option Listed → Type 0
IsFirstBefore m root k signature false found =
    ((j a : ℕ) → j < k → HasSlot root.bytes root.width j a → ¬ IsSigned m a signature) × (found ≡ None)
IsFirstBefore m root k signature true found = IsFirstComplete m root signature found
