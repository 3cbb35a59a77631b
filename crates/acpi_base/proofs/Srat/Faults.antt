-- The faults of an SRAT's entries by themselves: each can be decided, and there is none exactly if the SRAT is valid.
use Rattle.std.proofs.Common.{◌≡◌, ℕ, ◌+◌, ◌^◌, ◌≤◌, List, length, refl, inl, inr, arith}
use Rattle.std.specs.Prelude.{slice_index}
use Rattle.acpi_base.specs.Codes.{stage_of}
use Rattle.acpi_base.specs.Srat.{SratEntry, MemoryRange, Opaque, srat_kinds, SratContents, srat_entry, srat_contents, is_enabled, IsValidSratEntry, IsValidSrat, SratEntryFault, SratFault}
use Rattle.acpi_base.specs.declared.code.Code.{Code}
use Rattle.acpi_base.specs.declared.code.Code.TheVariants as code
use Rattle.acpi_base.specs.declared.stage.Stage.TheVariants as stage
use Rattle.acpi_base.proofs.Faults.Deciding.{Decided, both, all3, same, below, is_true, is_some_number, not_below}
use Rattle.acpi_base.proofs.Options.{cases_Option, none_and_some}
use Rattle.acpi_base.proofs.EntryOffsets.{cut_inside, said_inside, stands_with_decided, type_decided, unused_decided}

-- ---- an entry by itself

entry_fault_decided : (fault : Code) (e : SratEntry) → Decided (SratEntryFault fault e)
entry_fault_decided code.SratEntryLength (Opaque e) = type_decided srat_kinds (slice_index e 0)
entry_fault_decided code.RangePastEnd (MemoryRange v) =
    both (is_true (is_enabled v.flags)) (below (2 ^ 64) (v.base + v.size))
entry_fault_decided _ _ = inr (λ h. h)

valid_entry : (e : SratEntry) → ¬ SratEntryFault code.SratEntryLength e → ¬ SratEntryFault code.RangePastEnd e
    → IsValidSratEntry e
valid_entry (MemoryRange v) size past = λ enabled. not_below (2 ^ 64) (v.base + v.size) (λ more. past (enabled, more))
valid_entry (Opaque e) size past = size
valid_entry _ size past = tt

pub entry_excludes : (fault : Code) (e : SratEntry) → SratEntryFault fault e → ¬ IsValidSratEntry e
entry_excludes code.SratEntryLength (Opaque e) wrong valid = valid wrong
entry_excludes code.RangePastEnd (MemoryRange v) (enabled, past) valid = omega (arith, past, valid enabled)
entry_excludes _ _ wrong valid = wrong

-- ---- the table

pub decided : (whole : List ℕ) (fault : Code) (at other point : ℕ)
    → Decided (SratFault (srat_contents whole) fault at other point)
decided whole code.SratShort at other point =
    all3 (below (srat_contents whole).size 48) (same at 0) (unused_decided other point)
decided whole code.SratEntryCut at other point =
    both (is_some_number (srat_contents whole).cut at) (unused_decided other point)
decided whole fault at other point =
    both (stands_with_decided (srat_contents whole).entries at (SratEntryFault fault) (entry_fault_decided fault))
    (unused_decided other point)

pub valid_without_fault : (whole : List ℕ)
    → ((fault : Code) (at other point : ℕ) → stage_of fault ≡ stage.Srat
    → ¬ SratFault (srat_contents whole) fault at other point)
    → IsValidSrat (srat_contents whole)
valid_without_fault whole none =
    let c = srat_contents whole in
    record {
      long = not_below c.size 48 (λ short. none code.SratShort 0 0 0 refl (short, refl, (refl, refl)));
      filled = elim (cases_Option c.cut) [
        | inl (at, is) ↦ absurd (none code.SratEntryCut at 0 0 refl (is, (refl, refl)))
        | inr nothing ↦ nothing
      ];
      entries = λ o e stands.
          valid_entry e (λ wrong. none code.SratEntryLength o 0 0 refl ((e, stands, wrong), (refl, refl)))
          (λ wrong. none code.RangePastEnd o 0 0 refl ((e, stands, wrong), (refl, refl)));
    }

pub excludes : (c : SratContents) (fault : Code) (at other point : ℕ) → SratFault c fault at other point
    → ¬ IsValidSrat c
excludes c code.SratShort at other point (short, is, _) valid = omega (arith, short, valid.long)
excludes c code.SratEntryCut at other point (is, _) valid = none_and_some valid.filled is
excludes c fault at other point here valid =
    (let (e, stands, wrong) = here.0 in entry_excludes fault e wrong (valid.entries at e stands))

pub place : (whole : List ℕ) (fault : Code) (at other point : ℕ) → SratFault (srat_contents whole) fault at other point
    → (at ≤ length whole) × (other ≤ length whole) × (point ≤ length whole)
unfolding srat_contents
place whole code.SratShort at other point (short, is, unused) = grind (arith, unused)
place whole code.SratEntryCut at other point (is, unused) = grind (arith, cut_inside 48 whole at is, unused)
place whole fault at other point here = grind (arith, said_inside srat_entry 48 whole at here.0.0 here.0.1, here.1)
