-- The faults of a MADT.
use Rattle.std.proofs.Common.{◌≡◌, ◌≢◌, ℕ, List, length, refl}
use Rattle.acpi_base.specs.Entries.{StandsWith, AreUnused, cut_of}
use Rattle.acpi_base.specs.Madt.{MadtContents, IoApic, madt_contents, MadtFault, MadtEntryFault, Serves}
use Rattle.acpi_base.specs.Overlaps.{IsIntervalOverlap}
use Rattle.acpi_base.specs.Policy.{PolicyValue}
use Rattle.acpi_base.specs.declared.code.Code.{Code}
use Rattle.acpi_base.specs.declared.code.Code.TheVariants as code
use Rattle.acpi_confirm.specs.Madts.{ServesGsi}

pub madt_size : (madt : List ℕ) → (madt_contents madt).size ≡ length madt
unfolding madt_contents
madt_size madt = refl

pub madt_cut : (madt : List ℕ) → (madt_contents madt).cut ≡ cut_of 44 madt
unfolding madt_contents
madt_cut madt = refl

pub own_codes : (q : PolicyValue) (c : MadtContents) (fault : Code) (at other point : ℕ) → ¬ (fault ≡ code.MadtShort)
    → ¬ (fault ≡ code.MadtEntryCut) → ¬ (fault ≡ code.SecondAddressOverride)
    → MadtFault q c fault at other point ≡ (StandsWith c.entries at (MadtEntryFault q fault) × AreUnused other point)
own_codes q c code.MadtShort at other point short cut second = absurd (short refl)
own_codes q c code.MadtEntryCut at other point short cut second = absurd (cut refl)
own_codes q c code.SecondAddressOverride at other point short cut second = absurd (second refl)
own_codes q c _ at other point short cut second = refl

pub ruleset madt_codes = (madt_size, madt_cut, own_codes)

-- ---- two I/O APICs

pub serves_from : (q : PolicyValue) (c : MadtContents) (o g : ℕ) → StandsWith c.entries o (ServesGsi q g)
    → (s : ℕ) × Serves q c o s g
serves_from q c o g (IoApic v, stands, (from, below)) = (v.gsi_base, (IoApic v, stands, (refl, from, below)))
serves_from q c o g (_, stands, not) = absurd not

pub serves_gsi : (q : PolicyValue) (c : MadtContents) (o s g : ℕ) → Serves q c o s g
    → StandsWith c.entries o (ServesGsi q g)
serves_gsi q c o s g (IoApic v, stands, (base, from, below)) = (IoApic v, stands, (rw base from, rw (← base) at below))
serves_gsi q c o s g (_, stands, not) = absurd not

pub clash_of : (q : PolicyValue) (c : MadtContents) (o p g : ℕ) → o ≢ p → StandsWith c.entries o (ServesGsi q g)
    → StandsWith c.entries p (ServesGsi q g) → IsIntervalOverlap (Serves q c) o p g
clash_of q c o p g apart one other =
    let first = serves_from q c o g one in
    let second = serves_from q c p g other in
    record { s = first.0; t = second.0; one_holds = first.1; other_holds = second.1; two = apart }

pub first_serves : (q : PolicyValue) (c : MadtContents) (o p g : ℕ) → IsIntervalOverlap (Serves q c) o p g
    → StandsWith c.entries o (ServesGsi q g)
first_serves q c o p g clash = serves_gsi q c o clash.s g clash.one_holds

pub second_serves : (q : PolicyValue) (c : MadtContents) (o p g : ℕ) → IsIntervalOverlap (Serves q c) o p g
    → StandsWith c.entries p (ServesGsi q g)
second_serves q c o p g clash = serves_gsi q c p clash.t g clash.other_holds

pub are_two : (q : PolicyValue) (c : MadtContents) (o p g : ℕ) → IsIntervalOverlap (Serves q c) o p g → o ≢ p
are_two q c o p g clash = clash.two

pub ruleset gsi_clash = (clash_of, first_serves, second_serves, are_two)
