-- The kinds of entries of an SRAT: what is written for an entry has the entry's contents.
use Rattle.std.proofs.Common.{refl}
use Rattle.acpi_base.specs.Srat as said
use Rattle.acpi_base.specs.KindLayouts.{KeepKinds}
use Rattle.acpi_base.proofs.Layouts.Kinds.{keeps}
use Rattle.acpi_read.specs.Srats.{srat_bytes, apic_domain_layout, memory_range_layout, x2apic_domain_layout}
use Rattle.acpi_read.specs.contracts.srat.kinds.ApicDomainFixedKind.TheImpl.Laws.{laid-law as apic_domain_laid}
use Rattle.acpi_read.specs.contracts.srat.kinds.MemoryRangeFixedKind.TheImpl.Laws.{laid-law as memory_range_laid}
use Rattle.acpi_read.specs.contracts.srat.kinds.X2apicDomainFixedKind.TheImpl.Laws.{laid-law as x2apic_domain_laid}

-- the bytes that are written for an entry of a known type have the same contents
pub srat_kept : KeepKinds srat_bytes said.srat_kinds
srat_kept = (
  keeps apic_domain_layout apic_domain_laid.2 said.ApicDomain srat_bytes (λ v. refl),
  (
    keeps memory_range_layout memory_range_laid.2 said.MemoryRange srat_bytes (λ v. refl),
    (
      keeps x2apic_domain_layout x2apic_domain_laid.2 said.X2apicDomain srat_bytes (λ v. refl),
      (tt),
    ),
  ),
)
