-- All stages: each holds or has a first fault, with a fault it does not hold, and the numbers of its faults have 64
-- bits.
use Rattle.std.proofs.Common.{◌≡◌, ℕ, zero, suc, ◌+◌, ◌<◌, ◌≤◌, sym, ◌∙◌, ap, subst, inl, inr, arith}
use Rattle.std.specs.Prelude.{◌⊎◌}
use Rattle.std.proofs.lemmas.Bool.{cases_lt}
use Rattle.acpi_base.specs.Memory.{Memory, IsImage}
use Rattle.acpi_base.specs.Policy.{PolicyValue, IsPolicy}
use Rattle.acpi_base.specs.Codes.{stage_number, stage_of}
use Rattle.acpi_base.specs.Madt.{madt_contents, IsFirstGsiClash}
use Rattle.acpi_base.specs.Srat.{srat_contents, IsFirstOverlap}
use Rattle.acpi_base.specs.Slit.{slit_contents}
use Rattle.acpi_base.specs.Pptt.{pptt_contents}
use Rattle.acpi_base.specs.Statements.{Holds, CleanBefore}
use Rattle.acpi_base.specs.Faults.{FaultCondition, FaultOfStage, IsFirstFault}
use Rattle.acpi_base.specs.Laws.{NumbersFit}
use Rattle.acpi_base.specs.declared.stage.Stage.{Stage}
use Rattle.acpi_base.specs.declared.stage.Stage.TheVariants as stage
use Rattle.acpi_base.specs.declared.witness.Witness.{Witness}
use Rattle.acpi_base.proofs.Faults.FirstStages as first
use Rattle.acpi_base.proofs.Faults.LaterStages as later
use Rattle.acpi_base.proofs.Faults.Least.{same_parts}
use Rattle.acpi_base.proofs.Faults.ListedTables.{of_listed, listed_fits}
use Rattle.acpi_base.proofs.Faults.Numbers.{same_stage, stage_from_1, stage_with_number}
use Rattle.acpi_base.proofs.Faults.Order.{same_witness}
use Rattle.acpi_base.proofs.Faults.HoldsOrFault.{IsFirstOfStage, HoldsOrHasFirst, holds_or_has_first, first_of_set}
use Rattle.acpi_base.proofs.Rsdp.Faults as rsdp
use Rattle.acpi_base.proofs.Root.Faults as root
use Rattle.acpi_base.proofs.Root.Slots.{slot_fits}
use Rattle.acpi_base.proofs.Tables.Faults as table
use Rattle.acpi_base.proofs.Fadt as fadt
use Rattle.acpi_base.proofs.Facs as facs
use Rattle.acpi_base.proofs.Madt.Faults as madt
use Rattle.acpi_base.proofs.Madt.Interrupts as interrupts
use Rattle.acpi_base.proofs.Madt.Overrides as overrides
use Rattle.acpi_base.proofs.Srat.Faults as srat
use Rattle.acpi_base.proofs.Srat.Ranges as ranges
use Rattle.acpi_base.proofs.Slit as slit
use Rattle.acpi_base.proofs.Pptt.Faults as pptt
use Rattle.acpi_base.proofs.Pptt.Chains as chains
use Rattle.acpi_base.proofs.Pptt.Fits.{references_fit}
use Rattle.acpi_base.proofs.Across.Domains as domains
use Rattle.acpi_base.proofs.Across.Served as served
use Rattle.acpi_base.proofs.Across.Leaves as leaves

pub holds_or_first : (s : Stage) (m : Memory) (q : PolicyValue) → CleanBefore s m q → HoldsOrHasFirst s m q
holds_or_first stage.Rsdp m q clean = holds_or_has_first (λ w least. least) (first.rsdp_judged m q)
holds_or_first stage.Root m q clean = holds_or_has_first (λ w least. least) (first.root_judged m q clean)
holds_or_first stage.Tables m q clean = holds_or_has_first (λ w least. least) (first.tables_judged m q clean)
holds_or_first stage.Fadt m q clean = holds_or_has_first (λ w least. least) (first.fadt_judged m q clean)
holds_or_first stage.Facs m q clean = holds_or_has_first (λ w least. least) (first.facs_judged m q clean)
holds_or_first stage.Madt m q clean = holds_or_has_first (λ w least. least) (later.madt_judged m q clean)
holds_or_first stage.Interrupts m q clean = later.interrupts_settled m q clean
holds_or_first stage.Overrides m q clean = holds_or_has_first (λ w least. least) (later.overrides_judged m q clean)
holds_or_first stage.Srat m q clean = holds_or_has_first (λ w least. least) (later.srat_judged m q clean)
holds_or_first stage.Ranges m q clean = later.ranges_settled m q clean
holds_or_first stage.Slit m q clean = holds_or_has_first (λ w least. least) (later.slit_judged m q clean)
holds_or_first stage.Pptt m q clean = holds_or_has_first (λ w least. least) (later.pptt_judged m q clean)
holds_or_first stage.References m q clean = holds_or_has_first (λ w least. least) (later.references_judged m q clean)
holds_or_first stage.Parents m q clean = holds_or_has_first (λ w least. least) (later.parents_judged m q clean)
holds_or_first stage.Caches m q clean = holds_or_has_first (λ w least. least) (later.caches_judged m q clean)
holds_or_first stage.Domains m q clean = holds_or_has_first (λ w least. least) (later.domains_judged m q clean)
holds_or_first stage.Served m q clean = holds_or_has_first (λ w least. least) (later.served_judged m q clean)
holds_or_first stage.Leaves m q clean = holds_or_has_first (λ w least. least) (later.leaves_judged m q clean)

pub excludes : (m : Memory) (q : PolicyValue) (w : Witness) (s : Stage) → FaultCondition s m q w → ¬ Holds s m q
excludes m q w stage.Rsdp fault = rsdp.excludes m q.rsdp w.code fault.0
excludes m q w stage.Root fault = root.excludes m q.rsdp w.at w.code fault.0
excludes m q w stage.Tables fault = λ valid. table.excludes m w.other w.code fault.1 (valid w.at w.other fault.0)
excludes m q w stage.Fadt fault = fadt.excludes m q.rsdp w.code w.at fault.0
excludes m q w stage.Facs fault = facs.excludes m q.rsdp w.code w.at fault.0
excludes m q w stage.Madt (whole, is, fault) =
    λ valid. madt.excludes q (madt_contents whole) w.code w.at w.other w.point fault (valid whole is)
excludes m q w stage.Interrupts (whole, is, fault) =
    λ apart. interrupts.excludes q (madt_contents whole) w.code w.at w.other w.point fault (apart whole is)
excludes m q w stage.Overrides (whole, is, fault) =
    λ agree. overrides.excludes (madt_contents whole) w.code w.at w.other w.point fault (agree whole is)
excludes m q w stage.Srat (whole, is, fault) =
    λ valid. srat.excludes (srat_contents whole) w.code w.at w.other w.point fault (valid whole is)
excludes m q w stage.Ranges (whole, is, fault) =
    λ apart. ranges.excludes q.hotplug (srat_contents whole) w.code w.at w.other w.point fault (apart whole is)
excludes m q w stage.Slit (whole, is, fault) =
    λ valid. slit.excludes (slit_contents whole) w.code w.at w.other w.point fault (valid whole is)
excludes m q w stage.Pptt (whole, is, fault) =
    λ valid. pptt.cut_excludes (pptt_contents whole) w.code w.at w.other w.point fault (valid whole is)
excludes m q w stage.References (whole, is, fault) =
    λ valid. pptt.references_excludes (pptt_contents whole) w.code w.at w.other w.point fault (valid whole is)
excludes m q w stage.Parents (whole, is, fault) =
    λ end. chains.parents_excludes whole w.code w.at w.other w.point fault (end whole is)
excludes m q w stage.Caches (whole, is, fault) =
    λ end. chains.caches_excludes whole w.code w.at w.other w.point fault (end whole is)
excludes m q w stage.Domains (whole, is, (bytes, also, fault)) =
    λ one. domains.excludes q.processors (madt_contents whole) (srat_contents bytes) w.code w.at w.other w.point fault
    (one whole is bytes also)
excludes m q w stage.Served (whole, is, fault) =
    λ all. served.excludes q (madt_contents whole) w.code w.at w.other w.point fault (all whole is)
excludes m q w stage.Leaves (whole, is, (bytes, also, fault)) =
    λ all. leaves.excludes (madt_contents whole) (pptt_contents bytes) w.code w.at w.other w.point fault
    (all whole is bytes also)

pub one_first : (s : Stage) (m : Memory) (q : PolicyValue) (w v : Witness) → IsFirstOfStage s m q w
    → IsFirstOfStage s m q v → w ≡ v
one_first stage.Interrupts m q w v one other =
    let (whole, is, first) = one.least in
    let numbers = interrupts.one_first q whole w.at w.other w.point v.at v.other v.point first
    (of_listed (λ bytes. IsFirstGsiClash q (madt_contents bytes) v.at v.other v.point) is other.least) in
    let codes = λ (u : Witness) (fault : FaultOfStage stage.Interrupts m q u). interrupts.code_is q
    (madt_contents fault.holds.0) u.code u.at u.other u.point fault.holds.2 in
    same_parts (codes w one.holds ∙ sym (codes v other.holds)) numbers.0 numbers.1 numbers.2
one_first stage.Ranges m q w v one other =
    let (whole, is, first) = one.least in
    let numbers = ranges.one_first q.hotplug whole w.at w.other w.point v.at v.other v.point first
    (of_listed (λ bytes. IsFirstOverlap q.hotplug (srat_contents bytes) v.at v.other v.point) is other.least) in
    let codes = λ (u : Witness) (fault : FaultOfStage stage.Ranges m q u). ranges.code_is q.hotplug
    (srat_contents fault.holds.0) u.code u.at u.other u.point fault.holds.2 in
    same_parts (codes w one.holds ∙ sym (codes v other.holds)) numbers.0 numbers.1 numbers.2
one_first _ m q w v one other = same_witness w v (one.least v other.holds) (other.least w one.holds)

-- ---- the numbers of a fault have 64 bits

pub fits : (m : Memory) (q : PolicyValue) (w : Witness) → IsImage m → IsPolicy q → (s : Stage) → FaultCondition s m q w
    → NumbersFit w
fits m q w image policy stage.Rsdp fault =
    let rsdp = policy.rsdp_fits in
    (omega (arith, fault.1), omega (arith, fault.2), omega (arith, fault.3))
fits m q w image policy stage.Root fault =
    (root.place_fits policy.rsdp_fits image fault.0, omega (arith, fault.1), omega (arith, fault.2))
fits m q w image policy stage.Tables fault =
    let slot = slot_fits image fault.0 in
    (slot.0, slot.1, omega (arith, fault.2))
fits m q w image policy stage.Fadt fault =
    (omega (arith, fadt.place m q.rsdp w.code w.at fault.0), omega (arith, fault.1), omega (arith, fault.2))
fits m q w image policy stage.Facs fault =
    (facs.place_fits image w.code w.at fault.0, omega (arith, fault.1), omega (arith, fault.2))
fits m q w image policy stage.Madt (whole, is, fault) =
    let (small, short) = listed_fits image is in
    let (at, other, point) = madt.place q whole w.code w.at w.other w.point fault in
    (omega arith, omega arith, omega arith)
fits m q w image policy stage.Interrupts (whole, is, fault) =
    let (small, short) = listed_fits image is in
    let (at, other, point) = interrupts.fits q whole small policy w.code w.at w.other w.point fault in
    (omega arith, omega arith, omega arith)
fits m q w image policy stage.Overrides (whole, is, fault) =
    let (small, short) = listed_fits image is in
    let (at, other, point) = overrides.fits whole small w.code w.at w.other w.point fault in
    (omega arith, omega arith, omega arith)
fits m q w image policy stage.Srat (whole, is, fault) =
    let (small, short) = listed_fits image is in
    let (at, other, point) = srat.place whole w.code w.at w.other w.point fault in
    (omega arith, omega arith, omega arith)
fits m q w image policy stage.Ranges (whole, is, fault) =
    let (small, short) = listed_fits image is in
    let (at, other, point) = ranges.fits q.hotplug whole w.code w.at w.other w.point fault in
    (omega arith, omega arith, omega arith)
fits m q w image policy stage.Slit (whole, is, fault) =
    let (small, short) = listed_fits image is in
    let size = slit.slit_size whole in
    let (at, other, point) = slit.place (slit_contents whole) w.code w.at w.other w.point fault in
    (omega arith, omega arith, omega arith)
fits m q w image policy stage.Pptt (whole, is, fault) =
    let (small, short) = listed_fits image is in
    let (at, other, point) = pptt.cut_place whole w.code w.at w.other w.point fault in
    (omega arith, omega arith, omega arith)
fits m q w image policy stage.References (whole, is, fault) =
    let (small, short) = listed_fits image is in
    let (at, other, point) = references_fit whole small w.code w.at w.other w.point fault in
    (omega arith, omega arith, omega arith)
fits m q w image policy stage.Parents (whole, is, fault) =
    let (small, short) = listed_fits image is in
    let (at, other, point) = chains.parents_place whole w.code w.at w.other w.point fault in
    (omega arith, omega arith, omega arith)
fits m q w image policy stage.Caches (whole, is, fault) =
    let (small, short) = listed_fits image is in
    let (at, other, point) = chains.caches_place whole w.code w.at w.other w.point fault in
    (omega arith, omega arith, omega arith)
fits m q w image policy stage.Domains (madt, listed, (whole, is, fault)) =
    let (small, short) = listed_fits image is in
    let (at, other, point) = domains.fits q.processors (madt_contents madt) whole small w.code w.at w.other w.point
    fault in
    (omega arith, omega arith, omega arith)
fits m q w image policy stage.Served (whole, is, fault) =
    let (small, short) = listed_fits image is in
    let (at, other, point) = served.fits q whole small w.code w.at w.other w.point fault in
    (omega arith, omega arith, omega arith)
fits m q w image policy stage.Leaves (madt, listed, (whole, is, fault)) =
    let (small, short) = listed_fits image is in
    let (at, other, point) = leaves.fits (madt_contents madt) whole small w.code w.at w.other w.point fault in
    (omega arith, omega arith, omega arith)

-- ---- all stages up to one

-- there is a first fault of a stage with a number up to n
abbrev pub HasFirst : Memory → PolicyValue → ℕ → Type 0
HasFirst m q n = (w : Witness) × IsFirstFault m q w × (stage_number (stage_of w.code) ≤ n)

-- the stages with a number below n hold
abbrev CleanBelow : Memory → PolicyValue → ℕ → Type 0
CleanBelow m q n = (s : Stage) → stage_number s < n → Holds s m q

pub clean_or_first : (m : Memory) (q : PolicyValue) (n : ℕ) → CleanBelow m q (n + 1) ⊎ HasFirst m q n
clean_or_first m q zero = inl (λ s less. absurd (omega (arith, stage_from_1 s)))
clean_or_first m q (suc n) =
    elim (clean_or_first m q n) [
      | inr (w, first, up_to) ↦ inr (w, first, omega arith)
      | inl clean ↦
          elim (stage_with_number (suc n)) [
            | inr none ↦ inl (λ s less. clean s
                (elim (cases_lt (stage_number s) (suc n)) [
                  | inl before ↦ omega arith
                  | inr more ↦
                      absurd (none s (omega arith))
                ]))
            | inl (s, number) ↦ next s number (λ t less. clean t (omega arith))
          ]
    ]
  where
    next : (s : Stage) → stage_number s ≡ suc n → CleanBefore s m q → CleanBelow m q (suc n + 1) ⊎ HasFirst m q (suc n)
    next s number clean =
        elim (holds_or_first s m q clean) [
          | inr (w, first) ↦ inr (w, first_of_set clean first, omega (arith, ap stage_number first.holds.own))
          | inl here ↦ inl (λ t less. elim (cases_lt (stage_number t) (stage_number s)) [
            | inl before ↦
                clean t before
            | inr more ↦ subst (λ (r : Stage). Holds r m q) (same_stage s t (omega arith)) here
          ])
        ]
