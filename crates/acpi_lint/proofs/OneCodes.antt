-- The codes that are alone in their stage.
use Rattle.std.proofs.Common.{◌≡◌, ℕ, ◌^◌, ◌<◌, List, length, Option, Some, None, Result, Ok, Err, refl, subst, inl, inr}
use Rattle.std.specs.Prelude.{⊤, IfOk, IfSome}
use Rattle.acpi_base.specs.Memory.{Memory}
use Rattle.acpi_base.specs.Across.{ServedFault, DomainFault, LeafFault}
use Rattle.acpi_base.specs.Chains.{IsCycle}
use Rattle.acpi_base.specs.Contents.{HasMadt, HasSrat}
use Rattle.acpi_base.specs.Codes.{stage_of}
use Rattle.acpi_base.specs.Faults.{Fault, FaultCondition}
use Rattle.acpi_base.specs.Listed.{madt_signature, srat_signature, IsListedTable}
use Rattle.acpi_base.specs.Madt.{MadtContents, madt_contents, OverrideFault, InterruptFault, AreInterruptsApart, IsFirstGsiClash}
use Rattle.acpi_base.specs.Policy.{PolicyValue}
use Rattle.acpi_base.specs.Pptt.{PpttContents}
use Rattle.acpi_base.specs.Srat.{SratContents, srat_contents, IsOverlap, AreRangesApart, RangeFault, IsFirstOverlap}
use Rattle.acpi_base.specs.declared.code.Code.{Code}
use Rattle.acpi_base.specs.declared.code.Code.TheVariants as code
use Rattle.acpi_base.specs.declared.policy.HotPlug.{HotPlug}
use Rattle.acpi_base.specs.declared.policy.HotPlug.TheVariants.{Counted, Apart}
use Rattle.acpi_base.specs.declared.policy.Processors.{Processors}
use Rattle.acpi_base.specs.declared.stage.Stage.TheVariants as stage
use Rattle.acpi_base.specs.declared.witness.Witness.{Witness}
use Rattle.acpi_base.proofs.Faults.ListedTables.{of_listed}
use Rattle.acpi_base.proofs.Srat.Ranges.{is_overlap}
use Rattle.acpi_check.specs.Chains.{Names, most_of, code_of, FindsCycle}
use Rattle.acpi_check.specs.TableResults as results
use Rattle.acpi_check.specs.TableResults.{Finds}
use Rattle.acpi_check.specs.declared.nodes.Chain.{Chain}
use Rattle.acpi_check.specs.declared.refusal.Refusal.{Refusal}
use Rattle.acpi_check.specs.declared.refusal.Refusal.TheVariants as refusal
use Rattle.acpi_rules.specs.Places.{IsLeast}
use Rattle.acpi_lint.specs.StageFaults.{FindsFirstAt, IsPlaceOf}
use Rattle.acpi_lint.specs.CompleteTables.{IsFound, IsLong}
use Rattle.acpi_rules.specs.declared.place.Place.{Place}
use Rattle.acpi_lint.proofs.ShortTables.{no_madt_entry, no_srat_entry}
use Rattle.acpi_lint.proofs.OfTables.{none_long}
use Rattle.acpi_lint.proofs.StageVerdicts.{place, place_not_after}

-- ---- their codes

pub one_override_clash : (c : MadtContents) (fault : Code) (at other point : ℕ) → OverrideFault c fault at other point
    → fault ≡ code.OverrideClash
one_override_clash c code.OverrideClash at other point wrong = refl
one_override_clash c _ at other point wrong = absurd wrong

pub one_two_domains : (p : Processors) (madt : MadtContents) (srat : SratContents) (fault : Code) (at other point : ℕ)
    → DomainFault p madt srat fault at other point → fault ≡ code.TwoDomains
one_two_domains p madt srat code.TwoDomains at other point wrong = refl
one_two_domains p madt srat _ at other point wrong = absurd wrong

pub one_gsi_nowhere : (q : PolicyValue) (c : MadtContents) (fault : Code) (at other point : ℕ)
    → ServedFault q c fault at other point → fault ≡ code.GsiNowhere
one_gsi_nowhere q c code.GsiNowhere at other point wrong = refl
one_gsi_nowhere q c _ at other point wrong = absurd wrong

pub one_leaf_unknown : (madt : MadtContents) (pptt : PpttContents) (fault : Code) (at other point : ℕ)
    → LeafFault madt pptt fault at other point → fault ≡ code.LeafUnknown
one_leaf_unknown madt pptt code.LeafUnknown at other point wrong = refl
one_leaf_unknown madt pptt _ at other point wrong = absurd wrong

-- ---- cycles

pub cycle_least : (links : Chain) (c : PpttContents) (w : Witness) → FindsCycle links c (Some w)
    → IsLeast (IsCycle (Names links c) (most_of links c)) (place w)
cycle_least links c w (_, first) =
    record {
      here = first.cycle;
      least = λ at other point cycle.
          place_not_after (record { code = code_of links; at = w.at; other = w.other; point = w.point })
          (record { code = code_of links; at = at; other = other; point = point }) refl
          (first.least at other point cycle);
    }

-- ---- overlaps, which have their own order

present : (m : Memory) (q : PolicyValue) (c : Code) (w : Witness) → w.code ≡ c → Fault m q w
    → FaultCondition (stage_of c) m q (record { code = c; at = w.at; other = w.other; point = w.point })
present m q c w own fault =
    let same = subst (λ (d : Code). Fault m q (record { code = d; at = w.at; other = w.other; point = w.point })) own
    fault in
    same.holds

-- the lowest interrupt number that two I/O APICs serve
pub gsi_found : (m : Memory) (q : PolicyValue) (whole : List ℕ) → IsListedTable m q.rsdp madt_signature whole
    → (verdict : Result ⊤ Refusal) (found : Option Place)
    → Finds stage.Interrupts (AreInterruptsApart q (madt_contents whole))
    (results.IsOverlap code.GsiClash (IsFirstGsiClash q (madt_contents whole))) verdict
    → IsPlaceOf verdict found → FindsFirstAt code.GsiClash m q found
gsi_found m q whole is (Ok _) None apart same = λ w own fault.
    let holds : HasMadt m q (λ madt. InterruptFault q madt code.GsiClash w.at w.other w.point) =
    present m q code.GsiClash w own fault in
    apart w.at w.other w.point
    (of_listed (λ bytes. InterruptFault q (madt_contents bytes) code.GsiClash w.at w.other w.point) is holds)
gsi_found m q whole is (Err (refusal.Fault w)) (Some p) first same =
    rw same (
      refl,
      record {
        fault = record { own = refl; holds = (whole, is, first.first.overlap) };
        least = (whole, is, first.first);
      },
    )
gsi_found m q whole is _ _ found same = absurd same

-- the lowest address in two ranges that are compared
pub overlap_found : (m : Memory) (q : PolicyValue) (whole : List ℕ) → IsListedTable m q.rsdp srat_signature whole
    → (verdict : Result ⊤ Refusal) (found : Option Place)
    → Finds stage.Ranges (AreRangesApart q.hotplug (srat_contents whole))
    (results.IsOverlap code.Overlap (IsFirstOverlap q.hotplug (srat_contents whole))) verdict
    → IsPlaceOf verdict found → IfSome found (λ p. p.point < 2 ^ 64) → FindsFirstAt code.Overlap m q found
overlap_found m q whole is (Ok _) None apart same fits = λ w own fault.
    let holds : HasSrat m q (λ srat. (w.point < 2 ^ 64) × IsOverlap q.hotplug srat w.at w.other w.point) =
    present m q code.Overlap w own fault in
    apart w.at w.other w.point
    (of_listed (λ bytes. (w.point < 2 ^ 64) × IsOverlap q.hotplug (srat_contents bytes) w.at w.other w.point) is
    holds).1
overlap_found m q whole is (Err (refusal.Fault w)) (Some p) first same fits =
    let below : w.point < 2 ^ 64 = rw same at fits in
    rw same (
      refl,
      record {
        fault = record {
          own = refl;
          holds = (whole, is, (below, is_overlap q.hotplug (srat_contents whole) w.at w.other w.point first.first));
        };
        least = (whole, is, first.first);
      },
    )
overlap_found m q whole is _ _ found same fits = absurd same

-- the same if memory may run out
pub gsi_result : (m : Memory) (q : PolicyValue) (whole : List ℕ) {X : Type 0}
    → IsListedTable m q.rsdp madt_signature whole → (verdict : Result ⊤ Refusal) (r : Result (Option Place) X)
    → Finds stage.Interrupts (AreInterruptsApart q (madt_contents whole))
    (results.IsOverlap code.GsiClash (IsFirstGsiClash q (madt_contents whole))) verdict
    → IfOk r (IsPlaceOf verdict) → IfOk r (FindsFirstAt code.GsiClash m q)
gsi_result m q whole is verdict (Ok found) finds same = gsi_found m q whole is verdict found finds same
gsi_result m q whole is verdict (Err e) finds same = tt

pub overlap_result : (m : Memory) (q : PolicyValue) (whole : List ℕ) {X : Type 0}
    → IsListedTable m q.rsdp srat_signature whole → (verdict : Result ⊤ Refusal) (r : Result (Option Place) X)
    → Finds stage.Ranges (AreRangesApart q.hotplug (srat_contents whole))
    (results.IsOverlap code.Overlap (IsFirstOverlap q.hotplug (srat_contents whole))) verdict
    → IfOk r (IsPlaceOf verdict) → IfOk r (λ found. IfSome found (λ p. p.point < 2 ^ 64))
    → IfOk r (FindsFirstAt code.Overlap m q)
overlap_result m q whole is verdict (Ok found) finds same fits = overlap_found m q whole is verdict found finds same
    fits
overlap_result m q whole is verdict (Err e) finds same fits = tt

pub no_gsi : (m : Memory) (q : PolicyValue) (found : Option (List ℕ)) → IsFound m q.rsdp madt_signature found
    → IsLong 44 found None → FindsFirstAt code.GsiClash m q None
no_gsi m q found looked long = λ w own fault.
    let holds : HasMadt m q (λ madt. InterruptFault q madt code.GsiClash w.at w.other w.point) =
    present m q code.GsiClash w own fault in
    none_long m q.rsdp madt_signature 44 (λ bytes. InterruptFault q (madt_contents bytes) code.GsiClash) found looked
    long
    (λ whole less at other point overlap. no_madt_entry whole less at overlap.one_holds.0 overlap.one_holds.1)
    w.at w.other w.point holds

pub no_overlap : (m : Memory) (q : PolicyValue) (found : Option (List ℕ)) → IsFound m q.rsdp srat_signature found
    → IsLong 48 found None → FindsFirstAt code.Overlap m q None
no_overlap m q found looked long = λ w own fault.
    let holds : HasSrat m q (λ srat. RangeFault q.hotplug srat code.Overlap w.at w.other w.point) =
    present m q code.Overlap w own fault in
    none_long m q.rsdp srat_signature 48 (λ bytes. RangeFault q.hotplug (srat_contents bytes) code.Overlap) found looked
    long (λ whole less at other point wrong. none_covered q.hotplug whole less at other point wrong.1)
    w.at w.other w.point holds
  where
    none_covered : (h : HotPlug) (whole : List ℕ) → length whole < 48 → (at other point : ℕ)
        → ¬ IsOverlap h (srat_contents whole) at other point
    none_covered Counted whole less at other point overlap =
        no_srat_entry whole less at overlap.one_holds.0 overlap.one_holds.1
    none_covered Apart whole less at other point (inl overlap) =
        no_srat_entry whole less at overlap.one_holds.0 overlap.one_holds.1
    none_covered Apart whole less at other point (inr overlap) =
        no_srat_entry whole less at overlap.one_holds.0 overlap.one_holds.1
