-- The kinds of entries of a MADT: what is written for an entry has the entry's contents.
use Rattle.std.proofs.Common.{refl}
use Rattle.acpi_base.specs.Madt as said
use Rattle.acpi_base.specs.KindLayouts.{KeepKinds}
use Rattle.acpi_base.proofs.Layouts.Kinds.{keeps}
use Rattle.acpi_read.specs.Madts.{madt_bytes, local_apic_layout, io_apic_layout, override_layout, nmi_source_layout, local_nmi_layout, address_override_layout, x2apic_layout, x2apic_nmi_layout}
use Rattle.acpi_read.specs.contracts.madt.kinds.LocalApicFixedKind.TheImpl.Laws.{laid-law as local_apic_laid}
use Rattle.acpi_read.specs.contracts.madt.kinds.IoApicFixedKind.TheImpl.Laws.{laid-law as io_apic_laid}
use Rattle.acpi_read.specs.contracts.madt.kinds.OverrideFixedKind.TheImpl.Laws.{laid-law as override_laid}
use Rattle.acpi_read.specs.contracts.madt.kinds.NmiSourceFixedKind.TheImpl.Laws.{laid-law as nmi_source_laid}
use Rattle.acpi_read.specs.contracts.madt.kinds.LocalNmiFixedKind.TheImpl.Laws.{laid-law as local_nmi_laid}
use Rattle.acpi_read.specs.contracts.madt.kinds.AddressOverrideFixedKind.TheImpl.Laws.{laid-law as address_override_laid}
use Rattle.acpi_read.specs.contracts.madt.kinds.X2apicFixedKind.TheImpl.Laws.{laid-law as x2apic_laid}
use Rattle.acpi_read.specs.contracts.madt.kinds.X2apicNmiFixedKind.TheImpl.Laws.{laid-law as x2apic_nmi_laid}

-- the bytes that are written for an entry of a known type have the same contents
pub madt_kept : KeepKinds madt_bytes said.madt_kinds
madt_kept = (
  keeps local_apic_layout local_apic_laid.2 said.LocalApic madt_bytes (λ v. refl),
  (
    keeps io_apic_layout io_apic_laid.2 said.IoApic madt_bytes (λ v. refl),
    (
      keeps override_layout override_laid.2 said.Override madt_bytes (λ v. refl),
      (
        keeps nmi_source_layout nmi_source_laid.2 said.NmiSource madt_bytes (λ v. refl),
        (
          keeps local_nmi_layout local_nmi_laid.2 said.LocalNmi madt_bytes (λ v. refl),
          (
            keeps address_override_layout address_override_laid.2 said.AddressOverride madt_bytes (λ v. refl),
            (
              keeps x2apic_layout x2apic_laid.2 said.X2apic madt_bytes (λ v. refl),
              (
                keeps x2apic_nmi_layout x2apic_nmi_laid.2 said.X2apicNmi madt_bytes (λ v. refl),
                (tt),
              ),
            ),
          ),
        ),
      ),
    ),
  ),
)
