-- The faults of an SRAT are those of a table of entries.
use Rattle.std.proofs.Common.{◌≡◌, ◌≤◌, ℕ, List, refl, arith}
use Rattle.acpi_base.specs.Codes.{code_number, stage_of}
use Rattle.acpi_base.specs.Srat.{SratEntry, MemoryRange, Opaque, srat_entry, srat_contents, IsValidSrat, SratEntryFault, SratFault}
use Rattle.acpi_base.specs.declared.code.Code.{Code}
use Rattle.acpi_base.specs.declared.code.Code.TheVariants as code
use Rattle.acpi_base.specs.declared.stage.Stage.TheVariants as stage
use Rattle.acpi_base.proofs.Srat.Faults.{valid_without_fault}
use Rattle.acpi_read.specs.EntryTables.{EntryTable, entry_table, subject_of, IsAbout, AreFaults}
use Rattle.acpi_read.specs.EntryFaults.{srat_codes, srat_own_code}
use Rattle.acpi_read.specs.declared.entry_codes.Subject.TheVariants as subject

-- the SRAT as a table of entries
abbrev srat_table : EntryTable SratEntry
srat_table = entry_table 48 srat_entry SratEntryFault (λ e. ⊥)

pub srat_lowest : (c : Code) (e : SratEntry) → SratEntryFault c e
    → SratEntryFault (srat_own_code e) e × (code_number (srat_own_code e) ≤ code_number c)
srat_lowest code.SratEntryLength (Opaque e) wrong = (wrong, omega arith)
srat_lowest code.RangePastEnd (MemoryRange v) wrong = (wrong, omega arith)
srat_lowest _ _ wrong = absurd wrong

own : (c : Code) (e : SratEntry) → SratEntryFault c e → subject_of srat_codes c ≡ subject.Own
own code.SratEntryLength e wrong = refl
own code.RangePastEnd e wrong = refl
own _ e wrong = absurd wrong

about : (whole : List ℕ) (c : Code) (at other point : ℕ) → SratFault (srat_contents whole) c at other point
    → (stage_of c ≡ stage.Srat)
    × IsAbout srat_table whole (subject_of srat_codes c) c at other point
unfolding srat_contents
about whole code.SratShort at other point wrong = (refl, wrong)
about whole code.SratEntryCut at other point wrong = (refl, wrong)
about whole code.SratEntryLength at other point wrong = (refl, wrong)
about whole code.RangePastEnd at other point wrong = (refl, wrong)
about whole _ at other point wrong = absurd wrong.0.2

fault : (whole : List ℕ) (c : Code) (at other point : ℕ)
    → IsAbout srat_table whole (subject_of srat_codes c) c at other point
    → SratFault (srat_contents whole) c at other point
unfolding srat_contents
fault whole code.SratShort at other point wrong = wrong
fault whole _ at other point wrong = wrong

valid : (whole : List ℕ) → ((c : Code) (at other point : ℕ) → ¬ SratFault (srat_contents whole) c at other point)
    → IsValidSrat (srat_contents whole)
valid whole none = valid_without_fault whole (λ c at other point own wrong. none c at other point wrong)

pub srat_faults : AreFaults stage.Srat srat_codes (λ q. srat_table) (λ q whole. SratFault (srat_contents whole))
    (λ q whole. IsValidSrat (srat_contents whole))
srat_faults =
    record {
      cut = refl;
      own = λ q. own;
      single = λ q c e is. absurd is;
      about = λ q. about;
      fault = λ q. fault;
      valid = λ q. valid;
    }
