-- The interrupt numbers that I/O APICs serve: no two I/O APICs serve the same, or there is a first number and two that
-- do.
use Rattle.std.proofs.Common.{◌≡◌, ◌⊎◌, ℕ, ◌+◌, ◌^◌, ◌<◌, ◌≤◌, List, length, refl, inr, arith}
use Rattle.std.specs.Prelude.{slice_index}
use Rattle.std.specs.FinMap.{get}
use Rattle.acpi_base.specs.Number.{field}
use Rattle.acpi_base.specs.Policy.{PolicyValue, IsPolicy, inputs_of}
use Rattle.acpi_base.specs.Madt.{MadtEntry, IoApic, MadtContents, madt_entry, madt_contents, ServesFrom, Serves, AreInterruptsApart, InterruptFault, IsFirstGsiClash}
use Rattle.acpi_base.specs.declared.code.Code.{Code}
use Rattle.acpi_base.specs.declared.code.Code.TheVariants as code
use Rattle.acpi_base.proofs.Overlaps as clashes
use Rattle.acpi_base.proofs.Overlaps.{AreFiniteRanges, ranges_of_entries, apart_or_first}
use Rattle.acpi_base.proofs.Faults.Deciding.{Decided, all3, same, below, at_most}
use Rattle.acpi_base.proofs.Options.{cases_Option}
use Rattle.acpi_base.proofs.Images.PresentBytes.{field_below}
use Rattle.acpi_base.proofs.Madt.Faults.{ones, inside}
use Rattle.acpi_base.proofs.EntryOffsets.{said_with}

-- the first number that an entry serves, and the one after the last
first_gsi : MadtEntry → ℕ
first_gsi (IoApic v) = v.gsi_base
first_gsi _ = 0

end_of_gsis : PolicyValue → MadtEntry → ℕ
end_of_gsis q (IoApic v) = v.gsi_base + inputs_of q v.address
end_of_gsis q _ = 0

serves : (q : PolicyValue) (s x : ℕ) (e : MadtEntry) → ServesFrom q s x e
    → (first_gsi e ≡ s) × (s ≤ x) × (x < end_of_gsis q e)
unfolding first_gsi end_of_gsis
serves q s x (IoApic v) h = (h.0, h.1, omega (arith, h.0, h.2))
serves q s x _ h = absurd h

serves_decided : (q : PolicyValue) (s x : ℕ) (e : MadtEntry) → Decided (ServesFrom q s x e)
serves_decided q s x (IoApic v) = all3 (same v.gsi_base s) (at_most s x) (below x (s + inputs_of q v.address))
serves_decided q s x _ = inr (λ h. h)

ranges : (q : PolicyValue) (whole : List ℕ) → AreFiniteRanges (Serves q (madt_contents whole))
ranges q whole =
    ranges_of_entries (madt_contents whole).entries (ServesFrom q) first_gsi (end_of_gsis q) (ones whole) (serves q)
    (serves_decided q)

pub settled : (q : PolicyValue) (whole : List ℕ) → AreInterruptsApart q (madt_contents whole)
    ⊎ ((at other point : ℕ) × IsFirstGsiClash q (madt_contents whole) at other point)
settled q whole = apart_or_first (ranges q whole)

pub one_first : (q : PolicyValue) (whole : List ℕ) (at other point at' other' point' : ℕ)
    → IsFirstGsiClash q (madt_contents whole) at other point → IsFirstGsiClash q (madt_contents whole) at' other' point'
    → (at ≡ at') × (other ≡ other') × (point ≡ point')
one_first q whole at other point at' other' point' one two = clashes.one_first (ranges q whole) one two

pub excludes : (q : PolicyValue) (c : MadtContents) (fault : Code) (at other point : ℕ)
    → InterruptFault q c fault at other point → ¬ AreInterruptsApart q c
excludes q c code.GsiClash at other point overlap apart = apart at other point overlap
excludes q c _ at other point fault apart = fault

pub code_is : (q : PolicyValue) (c : MadtContents) (fault : Code) (at other point : ℕ)
    → InterruptFault q c fault at other point → fault ≡ code.GsiClash
code_is q c code.GsiClash at other point overlap = refl
code_is q c _ at other point fault = absurd fault

-- ---- the bounds of a fault's numbers

inputs_fit : (q : PolicyValue) → IsPolicy q → (address : ℕ) → inputs_of q address ≤ 256
unfolding inputs_of
inputs_fit q policy address =
    grind (arith, cases_Option (get q.inputs address), policy.inputs_fit address, policy.default_fits)

end_fits : (q : PolicyValue) → IsPolicy q → (e : List ℕ) → ((k : ℕ) → slice_index e k < 256)
    → end_of_gsis q (madt_entry e) < 2 ^ 33
unfolding end_of_gsis madt_entry
end_fits q policy e small = grind (arith, field_below e small 8 4, inputs_fit q policy (field e 4 4))

pub fits : (q : PolicyValue) (whole : List ℕ) → ((k : ℕ) → slice_index whole k < 256) → IsPolicy q
    → (fault : Code) (at other point : ℕ) → InterruptFault q (madt_contents whole) fault at other point
    → (at < length whole) × (other < length whole) × (point < 2 ^ 33)
unfolding madt_contents
fits q whole small policy code.GsiClash at other point overlap =
    let (e, stands, holds) = overlap.one_holds in
    let (d, also, _) = overlap.other_holds in
    let end = said_with madt_entry (λ x. end_of_gsis q x < 2 ^ 33) (end_fits q policy) 44 whole small at e stands in
    (inside whole at e stands, inside whole other d also, omega (arith, serves q overlap.s point e holds))
fits q whole small policy _ at other point fault = absurd fault
