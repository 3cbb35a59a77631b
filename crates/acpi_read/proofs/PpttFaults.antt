-- The faults of a PPTT are those of a table of entries.
use Rattle.std.proofs.Common.{◌≡◌, ◌≤◌, ℕ, List, refl, arith}
use Rattle.acpi_base.specs.Codes.{code_number, stage_of}
use Rattle.acpi_base.specs.Pptt.{PpttEntry, pptt_entry, pptt_contents, IsCutPptt, PpttEntryFault, PpttFault}
use Rattle.acpi_base.specs.declared.code.Code.{Code}
use Rattle.acpi_base.specs.declared.code.Code.TheVariants as code
use Rattle.acpi_base.specs.declared.stage.Stage.TheVariants as stage
use Rattle.acpi_base.proofs.Pptt.Faults.{cut_without_fault}
use Rattle.acpi_read.specs.EntryTables.{EntryTable, entry_table, subject_of, IsAbout, AreFaults}
use Rattle.acpi_read.specs.EntryFaults.{pptt_codes, pptt_own_code}
use Rattle.acpi_read.specs.declared.entry_codes.Subject.TheVariants as subject

-- the PPTT as a table of entries
abbrev pptt_table : EntryTable PpttEntry
pptt_table = entry_table 36 pptt_entry PpttEntryFault (λ e. ⊥)

pub pptt_lowest : (c : Code) (e : PpttEntry) → PpttEntryFault c e
    → PpttEntryFault (pptt_own_code e) e × (code_number (pptt_own_code e) ≤ code_number c)
pptt_lowest code.PpttEntryLength e wrong = (wrong, omega arith)
pptt_lowest _ e wrong = absurd wrong

own : (c : Code) (e : PpttEntry) → PpttEntryFault c e → subject_of pptt_codes c ≡ subject.Own
own code.PpttEntryLength e wrong = refl
own _ e wrong = absurd wrong

about : (whole : List ℕ) (c : Code) (at other point : ℕ) → PpttFault (pptt_contents whole) c at other point
    → (stage_of c ≡ stage.Pptt)
    × IsAbout pptt_table whole (subject_of pptt_codes c) c at other point
unfolding pptt_contents
about whole code.PpttEntryCut at other point (is, no_other, no_point) = (refl, (is, (no_other, no_point)))
about whole code.PpttEntryLength at other point (wrong, no_other, no_point) = (refl, (wrong, (no_other, no_point)))
about whole _ at other point wrong = absurd wrong.0

fault : (whole : List ℕ) (c : Code) (at other point : ℕ)
    → IsAbout pptt_table whole (subject_of pptt_codes c) c at other point
    → PpttFault (pptt_contents whole) c at other point
unfolding pptt_contents
fault whole code.PpttEntryCut at other point (is, unused) = (is, unused.0, unused.1)
fault whole code.PpttEntryLength at other point (wrong, unused) = (wrong, unused.0, unused.1)
fault whole _ at other point wrong = absurd wrong.0.2

valid : (whole : List ℕ) → ((c : Code) (at other point : ℕ) → ¬ PpttFault (pptt_contents whole) c at other point)
    → IsCutPptt (pptt_contents whole)
valid whole none = cut_without_fault (pptt_contents whole) (λ c at other point own wrong. none c at other point wrong)

pub pptt_faults : AreFaults stage.Pptt pptt_codes (λ q. pptt_table) (λ q whole. PpttFault (pptt_contents whole))
    (λ q whole. IsCutPptt (pptt_contents whole))
pptt_faults =
    record {
      cut = refl;
      own = λ q. own;
      single = λ q c e is. absurd is;
      about = λ q. about;
      fault = λ q. fault;
      valid = λ q. valid;
    }
