-- The faults of a MADT are those of a table of entries.
use Rattle.std.proofs.Common.{◌≡◌, ◌≤◌, ℕ, List, refl, inl, inr, arith}
use Rattle.std.proofs.lemmas.Bool.Decides.{eqb_tells}
use Rattle.acpi_base.specs.Codes.{code_number, stage_of}
use Rattle.acpi_base.specs.Madt.{MadtEntry, IoApic, Override, AddressOverride, Opaque, madt_entry, madt_contents, IsAddressOverride, IsValidMadt, MadtEntryFault, MadtFault}
use Rattle.acpi_base.specs.Policy.{PolicyValue}
use Rattle.acpi_base.specs.declared.code.Code.{Code}
use Rattle.acpi_base.specs.declared.code.Code.TheVariants as code
use Rattle.acpi_base.specs.declared.stage.Stage.TheVariants as stage
use Rattle.acpi_base.proofs.Madt.Faults.{valid_without_fault}
use Rattle.acpi_read.specs.EntryTables.{EntryTable, entry_table, subject_of, IsAbout, AreFaults}
use Rattle.acpi_read.specs.EntryFaults.{madt_codes, madt_own_code}
use Rattle.acpi_read.specs.declared.entry_codes.Subject.TheVariants as subject

-- the MADT as a table of entries
abbrev madt_table : PolicyValue → EntryTable MadtEntry
madt_table q = entry_table 44 madt_entry (MadtEntryFault q) IsAddressOverride

pub madt_lowest : (q : PolicyValue) (c : Code) (e : MadtEntry) → MadtEntryFault q c e
    → MadtEntryFault q (madt_own_code e) e × (code_number (madt_own_code e) ≤ code_number c)
madt_lowest q code.MadtEntryLength (Opaque e) wrong = (wrong, omega arith)
madt_lowest q code.OverrideBus (Override v) wrong =
    elim (eqb_tells v.bus 0) [ inl (_, zero) ↦ absurd (wrong zero) | inr (is, _) ↦ rw is (wrong, omega arith) ]
madt_lowest q code.ReservedInti (Override v) wrong =
    elim (eqb_tells v.bus 0) [ inl (is, _) ↦ rw is (wrong, omega arith) | inr (is, some) ↦ rw is (some, omega arith) ]
madt_lowest q code.ReservedInti (IoApic v) wrong = absurd wrong
madt_lowest q code.ReservedInti (Opaque e) wrong = absurd wrong
madt_lowest q code.ReservedInti _ wrong = (wrong, omega arith)
madt_lowest q code.GsiPastEnd (IoApic v) wrong = (wrong, omega arith)
madt_lowest q _ _ wrong = absurd wrong

own : (q : PolicyValue) (c : Code) (e : MadtEntry) → MadtEntryFault q c e → subject_of madt_codes c ≡ subject.Own
own q code.MadtEntryLength e wrong = refl
own q code.OverrideBus e wrong = refl
own q code.ReservedInti e wrong = refl
own q code.GsiPastEnd e wrong = refl
own q _ e wrong = absurd wrong

single : (q : PolicyValue) (c : Code) (e : MadtEntry) → IsAddressOverride e → ¬ MadtEntryFault q c e
single q c (AddressOverride v) is wrong = (madt_lowest q c (AddressOverride v) wrong).0
single q _ _ is wrong = is

about : (q : PolicyValue) (whole : List ℕ) (c : Code) (at other point : ℕ)
    → MadtFault q (madt_contents whole) c at other point
    → (stage_of c ≡ stage.Madt)
    × IsAbout (madt_table q) whole (subject_of madt_codes c) c at other point
unfolding madt_contents
about q whole code.MadtShort at other point wrong = (refl, wrong)
about q whole code.MadtEntryCut at other point wrong = (refl, wrong)
about q whole code.MadtEntryLength at other point wrong = (refl, wrong)
about q whole code.OverrideBus at other point wrong = (refl, wrong)
about q whole code.ReservedInti at other point wrong = (refl, wrong)
about q whole code.SecondAddressOverride at other point wrong = (refl, wrong)
about q whole code.GsiPastEnd at other point wrong = (refl, wrong)
about q whole _ at other point wrong = absurd wrong.0.2

fault : (q : PolicyValue) (whole : List ℕ) (c : Code) (at other point : ℕ)
    → IsAbout (madt_table q) whole (subject_of madt_codes c) c at other point
    → MadtFault q (madt_contents whole) c at other point
unfolding madt_contents
fault q whole code.MadtShort at other point wrong = wrong
fault q whole _ at other point wrong = wrong

valid : (q : PolicyValue) (whole : List ℕ)
    → ((c : Code) (at other point : ℕ) → ¬ MadtFault q (madt_contents whole) c at other point)
    → IsValidMadt q (madt_contents whole)
valid q whole none = valid_without_fault q whole (λ c at other point own wrong. none c at other point wrong)

pub madt_faults : AreFaults stage.Madt madt_codes madt_table (λ q whole. MadtFault q (madt_contents whole))
    (λ q whole. IsValidMadt q (madt_contents whole))
madt_faults =
    record {
      cut = refl;
      own = own;
      single = single;
      about = about;
      fault = fault;
      valid = valid;
    }
