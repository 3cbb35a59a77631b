-- Processors: their numbers in a MADT, their domains in an SRAT, and the leaves of a PPTT.
use Rattle.std.specs.Prelude.{ℕ, ◌<◌, ◌↔◌, List, AllPairs, Contains, Option, Some, None, if◌then◌else◌, length, slice_index, Bool, true, false, ◌&&◌}
use Rattle.std.specs.List.{filter_map}
use Rattle.acpi_base.specs.Entries.{PlacedEntry}
use Rattle.acpi_base.specs.Madt.{MadtEntry, LocalApic, X2apic, MadtContents, Opaque}
use Rattle.acpi_base.specs.Policy.{counts_as_enabled}
use Rattle.acpi_base.specs.Srat.{SratEntry, ApicDomain, X2apicDomain, PutsIn, is_enabled}
use Rattle.acpi_base.specs.Number.{has_bit}
use Rattle.acpi_base.specs.Pptt.{PpttEntry, Node}
use Rattle.acpi_check.specs.NamedNumbers.{NamesAt}
use Rattle.acpi_check.specs.declared.processors.Key.{Key}
use Rattle.acpi_check.specs.declared.processors.Key.TheVariants as key
use Rattle.acpi_check.specs.declared.domains.Placement.{Placement}

-- ---- numbers of processors that are collected from the entries of a MADT

-- the number of the processor that an entry describes, if processors are looked up by it
abbrev pub number_of : Key → MadtEntry → Option ℕ
number_of key.Uid (LocalApic v) = Some v.uid
number_of key.Uid (X2apic v) = Some v.uid
number_of (key.Enabled p) (LocalApic v) = if counts_as_enabled p v.flags then Some v.apic_id else None
number_of (key.Enabled p) (X2apic v) = if counts_as_enabled p v.flags then Some v.x2apic_id else None
number_of _ _ = None

-- the numbers of entries, in their order
abbrev pub numbers_in : {E : Type 0} → (E → Option ℕ) → List (PlacedEntry E) → List ℕ
numbers_in read entries = filter_map (λ s. read s.entry) entries

-- the numbers rise, and are those of the processors of the MADT
pub record AreNumbers (k : Key) (c : MadtContents) (numbers : List ℕ) : Type 0 where
  pub rise : AllPairs (λ i j. i < j) numbers
  pub all : (n : ℕ) → Contains numbers n ↔ ((o : ℕ) × NamesAt (number_of k) c.entries o n)

-- ---- processors that an SRAT puts into domains

-- the processor that an enabled entry puts into a domain
abbrev pub placement_of : SratEntry → Option Placement
placement_of (ApicDomain v) =
    if is_enabled v.flags then Some (record { processor = v.apic_id; domain = v.domain }) else None
placement_of (X2apicDomain v) =
    if is_enabled v.flags then Some (record { processor = v.x2apic_id; domain = v.domain }) else None
placement_of _ = None

-- the entry puts the processor whose number has the index k among these into the domain d
abbrev pub PutsPlaced : List ℕ → ℕ → ℕ → SratEntry → Type 0
PutsPlaced numbers k d e = (k < length numbers) × PutsIn (slice_index numbers k) d e

-- ---- the leaves of a PPTT, and the entries of a MADT that are of a known type

-- the ID of a leaf node, which is valid by its flags
abbrev pub leaf_id : PpttEntry → Option ℕ
leaf_id (Node v) = if has_bit v.flags 1 && has_bit v.flags 3 then Some v.id else None
leaf_id _ = None

-- whether an entry of a MADT is of a known type
abbrev pub has_known_type : MadtEntry → Bool
has_known_type (Opaque e) = false
has_known_type _ = true
