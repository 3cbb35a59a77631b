-- What the first listed MADT, SRAT, SLIT and PPTT of a set say (ACPI 6.5, 5.2.12, 5.2.16, 5.2.17, 5.2.30).
use Rattle.acpi_base.specs.Memory.{Memory}
use Rattle.acpi_base.specs.Policy.{PolicyValue}
use Rattle.acpi_base.specs.Listed.{madt_signature, srat_signature, slit_signature, pptt_signature, ForListed, HasListed}
use Rattle.acpi_base.specs.Madt.{MadtContents, madt_contents}
use Rattle.acpi_base.specs.Srat.{SratContents, srat_contents}
use Rattle.acpi_base.specs.Slit.{SlitContents, slit_contents}
use Rattle.acpi_base.specs.Pptt.{PpttContents, pptt_contents}

-- ---- P holds of what the table says, if the set lists it

abbrev pub ForMadt : Memory → PolicyValue → (MadtContents → Type 0) → Type 0
ForMadt m q P = ForListed m q.rsdp madt_signature (λ whole. P (madt_contents whole))

abbrev pub ForSrat : Memory → PolicyValue → (SratContents → Type 0) → Type 0
ForSrat m q P = ForListed m q.rsdp srat_signature (λ whole. P (srat_contents whole))

abbrev pub ForSlit : Memory → PolicyValue → (SlitContents → Type 0) → Type 0
ForSlit m q P = ForListed m q.rsdp slit_signature (λ whole. P (slit_contents whole))

abbrev pub ForPptt : Memory → PolicyValue → (PpttContents → Type 0) → Type 0
ForPptt m q P = ForListed m q.rsdp pptt_signature (λ whole. P (pptt_contents whole))

-- ---- the set lists the table, and P holds of what it says

abbrev pub HasMadt : Memory → PolicyValue → (MadtContents → Type 0) → Type 0
HasMadt m q P = HasListed m q.rsdp madt_signature (λ whole. P (madt_contents whole))

abbrev pub HasSrat : Memory → PolicyValue → (SratContents → Type 0) → Type 0
HasSrat m q P = HasListed m q.rsdp srat_signature (λ whole. P (srat_contents whole))

abbrev pub HasSlit : Memory → PolicyValue → (SlitContents → Type 0) → Type 0
HasSlit m q P = HasListed m q.rsdp slit_signature (λ whole. P (slit_contents whole))

abbrev pub HasPptt : Memory → PolicyValue → (PpttContents → Type 0) → Type 0
HasPptt m q P = HasListed m q.rsdp pptt_signature (λ whole. P (pptt_contents whole))
