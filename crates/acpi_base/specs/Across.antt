-- Rules across tables (ACPI 6.5, 5.2.12, 5.2.16, 5.2.30.1): the MADT's processors in the SRAT, the interrupt numbers that
-- entries of the MADT name and those that its I/O APICs serve, and the PPTT's leaves in the MADT.
use Rattle.std.specs.Prelude.{◌≡◌, ◌≢◌, ℕ, ◌<◌, ◌≤◌, true}
use Rattle.acpi_base.specs.Number.{has_bit}
use Rattle.acpi_base.specs.Policy.{PolicyValue}
use Rattle.acpi_base.specs.Entries.{StandsWith}
use Rattle.acpi_base.specs.Madt.{MadtEntry, IoApic, MadtContents, Serves, IsEnabledProcessor, HasUid, NamesGsi, IsWhollyTyped}
use Rattle.acpi_base.specs.Srat.{SratContents, PutsIn}
use Rattle.acpi_base.specs.Pptt.{PpttEntry, Node, PpttContents}
use Rattle.acpi_base.specs.declared.policy.Processors.{Processors}
use Rattle.acpi_base.specs.declared.code.Code.{Code}
use Rattle.acpi_base.specs.declared.code.Code.TheVariants as code

-- ---- stage 16: domains (5.2.12, 5.2.16)

-- an entry of the MADT is of a processor with the number i that counts as enabled
abbrev pub IsEnabled : Processors → MadtContents → ℕ → Type 0
IsEnabled p madt i = (o : ℕ) × StandsWith madt.entries o (IsEnabledProcessor p i)

-- an enabled entry of the SRAT at o puts the processor with the number i in the domain d
abbrev pub PutsAt : SratContents → ℕ → ℕ → ℕ → Type 0
PutsAt srat o i d = StandsWith srat.entries o (PutsIn i d)

-- Stage 16: no processor that counts as enabled is put in two domains.
abbrev pub HaveOneDomain : Processors → MadtContents → SratContents → Type 0
HaveOneDomain p madt srat = (i : ℕ) → IsEnabled p madt i → (o r d f : ℕ) → PutsAt srat o i d → PutsAt srat r i f → d ≡ f

-- The fault of stage 16: the entries of the SRAT at `at` and, before it, at `other` put the processor with the number
-- `point`, which counts as enabled, in two domains.
abbrev pub DomainFault : Processors → MadtContents → SratContents → Code → ℕ → ℕ → ℕ → Type 0
DomainFault p madt srat code.TwoDomains at other point = IsEnabled p madt point × (d f : ℕ) × PutsAt srat at point d × PutsAt srat other point f × (other < at) × (d ≢ f)
DomainFault p madt srat _ at other point = ⊥

-- ---- stage 17: interrupt numbers (5.2.12)

-- the entry is an I/O APIC
abbrev pub IsIoApic : MadtEntry → Type 0
IsIoApic (IoApic v) = Unit {0}
IsIoApic _ = ⊥

-- there is an I/O APIC
abbrev pub HasIoApic : MadtContents → Type 0
HasIoApic c = (o : ℕ) × StandsWith c.entries o IsIoApic

-- an I/O APIC serves the interrupt number g
abbrev pub IsServed : PolicyValue → MadtContents → ℕ → Type 0
IsServed q c g = (o start : ℕ) × Serves q c o start g

-- Stage 17: if there is an I/O APIC, each interrupt number that an override or an NMI source names is served by one.
abbrev pub AreNamedServed : PolicyValue → MadtContents → Type 0
AreNamedServed q c = HasIoApic c → (o g : ℕ) → StandsWith c.entries o (NamesGsi g) → IsServed q c g

-- The fault of stage 17: there is an I/O APIC, and none serves the number `point` that the entry at `at` names.
abbrev pub ServedFault : PolicyValue → MadtContents → Code → ℕ → ℕ → ℕ → Type 0
ServedFault q c code.GsiNowhere at other point = HasIoApic c × StandsWith c.entries at (NamesGsi point) × (¬ IsServed q c point) × (other ≡ 0)
ServedFault q c _ at other point = ⊥

-- ---- stage 18: leaves (5.2.12, 5.2.30.1)

-- the entry is a node with this ID whose flags say that the ID is valid, bit 1, and that it is a leaf, bit 3
abbrev pub IsLeaf : ℕ → PpttEntry → Type 0
IsLeaf id (Node v) = (has_bit v.flags 1 ≡ true) × (has_bit v.flags 3 ≡ true) × (v.id ≡ id)
IsLeaf id _ = ⊥

-- a processor of the MADT, enabled or not, has this UID
abbrev pub IsUid : MadtContents → ℕ → Type 0
IsUid madt uid = (o : ℕ) × StandsWith madt.entries o (HasUid uid)

-- Stage 18: if the PPTT's Revision is at least 2 and entries of known types fill the MADT, the ID of each leaf is a UID.
abbrev pub AreLeavesKnown : MadtContents → PpttContents → Type 0
AreLeavesKnown madt pptt = 2 ≤ pptt.revision → IsWhollyTyped madt → (o id : ℕ) → StandsWith pptt.entries o (IsLeaf id) → IsUid madt id

-- The fault of stage 18: under the same conditions, the ID `point` of the leaf at `at` is no UID.
abbrev pub LeafFault : MadtContents → PpttContents → Code → ℕ → ℕ → ℕ → Type 0
LeafFault madt pptt code.LeafUnknown at other point = (2 ≤ pptt.revision) × IsWhollyTyped madt × StandsWith pptt.entries at (IsLeaf point) × (¬ IsUid madt point) × (other ≡ 0)
LeafFault madt pptt _ at other point = ⊥
