-- Stages 6 to 18: the facts about each, if those before it hold.
use Rattle.std.proofs.Common.{◌≡◌, ℕ, ◌+◌, ◌<◌, ◌≤◌, List, length, Some, None, refl, inl, inr, arith}
use Rattle.acpi_base.specs.Memory.{Memory}
use Rattle.acpi_base.specs.Policy.{PolicyValue}
use Rattle.acpi_base.specs.Codes.{stage_number, stage_of}
use Rattle.acpi_base.specs.Listed.{madt_signature, srat_signature, slit_signature, pptt_signature, HasListed}
use Rattle.acpi_base.specs.Madt.{madt_contents, MadtFault, OverrideFault, AreInterruptsApart}
use Rattle.acpi_base.specs.Srat.{srat_contents, SratFault, AreRangesApart}
use Rattle.acpi_base.specs.Slit.{slit_contents, SlitFault}
use Rattle.acpi_base.specs.Pptt.{pptt_contents, PpttFault, ReferenceFault, ParentFault, CacheFault}
use Rattle.acpi_base.specs.Across.{DomainFault, ServedFault, LeafFault}
use Rattle.acpi_base.specs.Statements.{CleanBefore}
use Rattle.acpi_base.specs.declared.code.Code.{Code}
use Rattle.acpi_base.specs.declared.code.Code.TheVariants as code
use Rattle.acpi_base.specs.declared.stage.Stage.{Stage}
use Rattle.acpi_base.specs.declared.stage.Stage.TheVariants as stage
use Rattle.acpi_base.proofs.Faults.Deciding.{Decided}
use Rattle.acpi_base.proofs.Faults.Least.{witness}
use Rattle.acpi_base.proofs.Faults.HoldsOrFault.{AreJudged, IsJudged, HoldsOrHasFirst}
use Rattle.acpi_base.proofs.Faults.ListedTables.{for_listed, listed_judged}
use Rattle.acpi_base.proofs.Tables.Listed.{IsListedOrNone, listed_or_none, none_and_listed}
use Rattle.acpi_base.proofs.Madt.Faults as madt
use Rattle.acpi_base.proofs.Madt.Interrupts as interrupts
use Rattle.acpi_base.proofs.Madt.Overrides as overrides
use Rattle.acpi_base.proofs.Srat.Faults as srat
use Rattle.acpi_base.proofs.Srat.Ranges as ranges
use Rattle.acpi_base.proofs.Slit as slit
use Rattle.acpi_base.proofs.Pptt.Faults as pptt
use Rattle.acpi_base.proofs.Pptt.Chains as chains
use Rattle.acpi_base.proofs.Across.Domains as domains
use Rattle.acpi_base.proofs.Across.Served as served
use Rattle.acpi_base.proofs.Across.Leaves as leaves

known : (s : Stage) (m : Memory) (q : PolicyValue) (signature : List ℕ) → CleanBefore s m q → 3 < stage_number s
    → IsListedOrNone m q.rsdp signature
known s m q signature clean later =
    listed_or_none m q.rsdp signature (clean stage.Root (omega arith)) (clean stage.Tables (omega arith))

-- a statement is judged if its faults' numbers are at most some number
judged_to : {s : Stage} {Valid : Type 0} {IsFault : Code → ℕ → ℕ → ℕ → Type 0} (most : ℕ)
    → ((c : Code) (at other point : ℕ) → IsFault c at other point → (at ≤ most) × (other ≤ most) × (point ≤ most))
    → ((c : Code) (at other point : ℕ) → Decided (IsFault c at other point))
    → (((c : Code) (at other point : ℕ) → stage_of c ≡ s → ¬ IsFault c at other point) → Valid)
    → AreJudged s Valid IsFault
judged_to most place decided holds =
    record {
      bound = most + 1;
      fit = λ c at other point fault. let places = place c at other point fault in
          (omega (arith, places.0), omega (arith, places.1), omega (arith, places.2));
      decided = decided;
      holds = holds;
    }

-- or below some number
judged_below : {s : Stage} {Valid : Type 0} {IsFault : Code → ℕ → ℕ → ℕ → Type 0}
    → ((most : ℕ) × ((c : Code) (at other point : ℕ) → IsFault c at other point
    → (at < most) × (other < most) × (point < most)))
    → ((c : Code) (at other point : ℕ) → Decided (IsFault c at other point))
    → (((c : Code) (at other point : ℕ) → stage_of c ≡ s → ¬ IsFault c at other point) → Valid)
    → AreJudged s Valid IsFault
judged_below bound decided holds = record { bound = bound.0; fit = bound.1; decided = decided; holds = holds }

-- ---- stages of one table

pub madt_judged : (m : Memory) (q : PolicyValue) → CleanBefore stage.Madt m q → IsJudged stage.Madt m q
madt_judged m q clean =
    listed_judged stage.Madt m q.rsdp madt_signature _ (λ whole. MadtFault q (madt_contents whole))
    (known stage.Madt m q madt_signature clean (omega arith))
    (λ whole is. judged_to (length whole) (madt.place q whole) (madt.decided q whole)
    (madt.valid_without_fault q whole))

pub overrides_judged : (m : Memory) (q : PolicyValue) → CleanBefore stage.Overrides m q → IsJudged stage.Overrides m q
overrides_judged m q clean =
    listed_judged stage.Overrides m q.rsdp madt_signature _ (λ whole. OverrideFault (madt_contents whole))
    (known stage.Overrides m q madt_signature clean (omega arith))
    (λ whole is. judged_below (overrides.bounded whole) (overrides.decided whole) (overrides.agree_without_fault whole))

pub srat_judged : (m : Memory) (q : PolicyValue) → CleanBefore stage.Srat m q → IsJudged stage.Srat m q
srat_judged m q clean =
    listed_judged stage.Srat m q.rsdp srat_signature _ (λ whole. SratFault (srat_contents whole))
    (known stage.Srat m q srat_signature clean (omega arith))
    (λ whole is. judged_to (length whole) (srat.place whole) (srat.decided whole) (srat.valid_without_fault whole))

pub slit_judged : (m : Memory) (q : PolicyValue) → CleanBefore stage.Slit m q → IsJudged stage.Slit m q
slit_judged m q clean =
    listed_judged stage.Slit m q.rsdp slit_signature _ (λ whole. SlitFault (slit_contents whole))
    (known stage.Slit m q slit_signature clean (omega arith))
    (λ whole is. judged_to (slit_contents whole).size (slit.place (slit_contents whole))
    (slit.decided (slit_contents whole)) (slit.valid_without_fault (slit_contents whole)))

pub pptt_judged : (m : Memory) (q : PolicyValue) → CleanBefore stage.Pptt m q → IsJudged stage.Pptt m q
pptt_judged m q clean =
    listed_judged stage.Pptt m q.rsdp pptt_signature _ (λ whole. PpttFault (pptt_contents whole))
    (known stage.Pptt m q pptt_signature clean (omega arith))
    (λ whole is. judged_to (length whole) (pptt.cut_place whole) (pptt.cut_decided whole)
    (pptt.cut_without_fault (pptt_contents whole)))

pub references_judged : (m : Memory) (q : PolicyValue) → CleanBefore stage.References m q
    → IsJudged stage.References m q
references_judged m q clean =
    listed_judged stage.References m q.rsdp pptt_signature _ (λ whole. ReferenceFault (pptt_contents whole))
    (known stage.References m q pptt_signature clean (omega arith))
    (λ whole is. judged_below (pptt.references_bounded (pptt_contents whole)) (pptt.references_decided whole)
    (pptt.references_without_fault whole))

pub parents_judged : (m : Memory) (q : PolicyValue) → CleanBefore stage.Parents m q → IsJudged stage.Parents m q
parents_judged m q clean =
    listed_judged stage.Parents m q.rsdp pptt_signature _ (λ whole. ParentFault (pptt_contents whole))
    (known stage.Parents m q pptt_signature clean (omega arith))
    (λ whole is. judged_to (length whole) (chains.parents_place whole) (chains.parents_decided whole)
    (chains.parents_without_fault whole (clean stage.References (omega arith) whole is)))

pub caches_judged : (m : Memory) (q : PolicyValue) → CleanBefore stage.Caches m q → IsJudged stage.Caches m q
caches_judged m q clean =
    listed_judged stage.Caches m q.rsdp pptt_signature _ (λ whole. CacheFault (pptt_contents whole))
    (known stage.Caches m q pptt_signature clean (omega arith))
    (λ whole is. judged_to (length whole) (chains.caches_place whole) (chains.caches_decided whole)
    (chains.caches_without_fault whole (clean stage.References (omega arith) whole is)))

pub served_judged : (m : Memory) (q : PolicyValue) → CleanBefore stage.Served m q → IsJudged stage.Served m q
served_judged m q clean =
    listed_judged stage.Served m q.rsdp madt_signature _ (λ whole. ServedFault q (madt_contents whole))
    (known stage.Served m q madt_signature clean (omega arith))
    (λ whole is. judged_below (served.bounded q (madt_contents whole)) (served.decided q (madt_contents whole))
    (served.named_served_without_fault q (madt_contents whole)))

-- ---- stages of two tables

pub domains_judged : (m : Memory) (q : PolicyValue) → CleanBefore stage.Domains m q → IsJudged stage.Domains m q
domains_judged m q clean =
    listed_judged stage.Domains m q.rsdp madt_signature _
    (λ madt c at other point. HasListed m q.rsdp srat_signature
    (λ srat. DomainFault q.processors (madt_contents madt) (srat_contents srat) c at other point))
    (known stage.Domains m q madt_signature clean (omega arith))
    (λ madt is. listed_judged stage.Domains m q.rsdp srat_signature _
    (λ srat. DomainFault q.processors (madt_contents madt) (srat_contents srat))
    (known stage.Domains m q srat_signature clean (omega arith))
    (λ srat also. judged_below (domains.bounded q.processors (madt_contents madt) (srat_contents srat))
    (domains.decided q.processors (madt_contents madt) (srat_contents srat))
    (domains.one_domain_without_fault q.processors (madt_contents madt) srat)))

pub leaves_judged : (m : Memory) (q : PolicyValue) → CleanBefore stage.Leaves m q → IsJudged stage.Leaves m q
leaves_judged m q clean =
    listed_judged stage.Leaves m q.rsdp madt_signature _
    (λ madt c at other point. HasListed m q.rsdp pptt_signature
    (λ pptt. LeafFault (madt_contents madt) (pptt_contents pptt) c at other point))
    (known stage.Leaves m q madt_signature clean (omega arith))
    (λ madt is. listed_judged stage.Leaves m q.rsdp pptt_signature _
    (λ pptt. LeafFault (madt_contents madt) (pptt_contents pptt))
    (known stage.Leaves m q pptt_signature clean (omega arith))
    (λ pptt also. judged_below (leaves.bounded (madt_contents madt) (pptt_contents pptt))
    (leaves.decided (madt_contents madt) (pptt_contents pptt))
    (leaves.leaves_known_without_fault (madt_contents madt) (pptt_contents pptt))))

-- ---- stages with their own order

pub interrupts_settled : (m : Memory) (q : PolicyValue) → CleanBefore stage.Interrupts m q
    → HoldsOrHasFirst stage.Interrupts m q
interrupts_settled m q clean = from_listed (known stage.Interrupts m q madt_signature clean (omega arith))
  where
    from_listed : IsListedOrNone m q.rsdp madt_signature → HoldsOrHasFirst stage.Interrupts m q
    from_listed (None, none) = inl (λ whole is. absurd (none_and_listed none is))
    from_listed (Some whole, is) =
        elim (interrupts.settled q whole) [
          | inl apart ↦ inl (for_listed (λ bytes. AreInterruptsApart q (madt_contents bytes)) is apart)
          | inr (at, other, point, first) ↦
              inr (
                witness code.GsiClash at other point,
                record
                    { holds = record { own = refl; holds = (whole, is, first.overlap) }; least = (whole, is, first) },
              )
        ]

pub ranges_settled : (m : Memory) (q : PolicyValue) → CleanBefore stage.Ranges m q → HoldsOrHasFirst stage.Ranges m q
ranges_settled m q clean = from_listed (known stage.Ranges m q srat_signature clean (omega arith))
  where
    from_listed : IsListedOrNone m q.rsdp srat_signature → HoldsOrHasFirst stage.Ranges m q
    from_listed (None, none) = inl (λ whole is. absurd (none_and_listed none is))
    from_listed (Some whole, is) =
        elim (ranges.settled q.hotplug whole (clean stage.Srat (omega arith) whole is)) [
          | inl apart ↦ inl (for_listed (λ bytes. AreRangesApart q.hotplug (srat_contents bytes)) is apart)
          | inr (at, other, point, first, fault) ↦
              inr (
                witness code.Overlap at other point,
                record
                    { holds = record { own = refl; holds = (whole, is, fault) }; least = (whole, is, first) },
              )
        ]
