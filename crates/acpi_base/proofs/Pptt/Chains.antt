-- The faults of a PPTT's chains of parents and of next levels: each can be decided, and there is none exactly if all
-- chains end.
use Rattle.std.proofs.Common.{◌≡◌, ℕ, ◌≤◌, List, length, refl, inr, arith}
use Rattle.acpi_base.specs.Codes.{stage_of}
use Rattle.acpi_base.specs.Pptt.{parent_of, next_level_of, pptt_contents, NamesParent, NamesNextLevel, AreReferencesValid, DoParentsEnd, DoCachesEnd, ParentFault, CacheFault, most_nodes, most_caches, ParentsEndOrGoRound, CachesEndOrGoRound}
use Rattle.acpi_base.specs.declared.code.Code.{Code}
use Rattle.acpi_base.specs.declared.code.Code.TheVariants as code
use Rattle.acpi_base.specs.declared.stage.Stage.TheVariants as stage
use Rattle.acpi_base.proofs.Faults.Deciding.{Decided}
use Rattle.acpi_base.proofs.Chains.{ends_or_round, end_without_cycle, cycle_excludes, cycle_begins, cycle_decided}
use Rattle.acpi_base.proofs.Pptt.Places.{size_is, inside, naming, nodes_numbered, caches_numbered}

-- ---- a chain ends or reaches a cycle

pub parents_end_or_go_round : ParentsEndOrGoRound
parents_end_or_go_round whole valid = ends_or_round _ _ (naming whole parent_of) (nodes_numbered whole) valid.parents

pub caches_end_or_go_round : CachesEndOrGoRound
caches_end_or_go_round whole valid =
    ends_or_round _ _ (naming whole next_level_of) (caches_numbered whole) valid.next_levels

-- the law `chains_end_or_go_round`
pub ruleset chain_laws = (parents_end_or_go_round, caches_end_or_go_round)

-- ---- parents

pub parents_decided : (whole : List ℕ) (fault : Code) (at other point : ℕ)
    → Decided (ParentFault (pptt_contents whole) fault at other point)
parents_decided whole code.ParentCycle at other point = cycle_decided _ (naming whole parent_of) _ at other point
parents_decided whole _ at other point = inr (λ fault. fault)

pub parents_without_fault : (whole : List ℕ) → AreReferencesValid (pptt_contents whole)
    → ((fault : Code) (at other point : ℕ) → stage_of fault ≡ stage.Parents
    → ¬ ParentFault (pptt_contents whole) fault at other point) → DoParentsEnd (pptt_contents whole)
parents_without_fault whole valid none =
    end_without_cycle _ _ (naming whole parent_of) (nodes_numbered whole) valid.parents
    (λ o lead round. none code.ParentCycle o lead round refl)

pub parents_excludes : (whole : List ℕ) (fault : Code) (at other point : ℕ)
    → ParentFault (pptt_contents whole) fault at other point → ¬ DoParentsEnd (pptt_contents whole)
parents_excludes whole code.ParentCycle at other point cycle =
    cycle_excludes _ (naming whole parent_of) _ at other point cycle
parents_excludes whole _ at other point fault = λ _. fault

pub parents_place : (whole : List ℕ) (fault : Code) (at other point : ℕ)
    → ParentFault (pptt_contents whole) fault at other point
    → (at ≤ length whole) × (other ≤ length whole) × (point ≤ length whole)
parents_place whole code.ParentCycle at other point cycle =
    let begins = cycle_begins (NamesParent (pptt_contents whole)) (most_nodes (pptt_contents whole)) at other point
    cycle in
    let size = size_is whole in
    (omega (arith, inside whole at begins.1.0 begins.1.1), omega (arith, cycle.fits), omega (arith, cycle.fits))
parents_place whole _ at other point fault = absurd fault

-- ---- caches

pub caches_decided : (whole : List ℕ) (fault : Code) (at other point : ℕ)
    → Decided (CacheFault (pptt_contents whole) fault at other point)
caches_decided whole code.CacheCycle at other point = cycle_decided _ (naming whole next_level_of) _ at other point
caches_decided whole _ at other point = inr (λ fault. fault)

pub caches_without_fault : (whole : List ℕ) → AreReferencesValid (pptt_contents whole)
    → ((fault : Code) (at other point : ℕ) → stage_of fault ≡ stage.Caches
    → ¬ CacheFault (pptt_contents whole) fault at other point) → DoCachesEnd (pptt_contents whole)
caches_without_fault whole valid none =
    end_without_cycle _ _ (naming whole next_level_of) (caches_numbered whole) valid.next_levels
    (λ o lead round. none code.CacheCycle o lead round refl)

pub caches_excludes : (whole : List ℕ) (fault : Code) (at other point : ℕ)
    → CacheFault (pptt_contents whole) fault at other point → ¬ DoCachesEnd (pptt_contents whole)
caches_excludes whole code.CacheCycle at other point cycle =
    cycle_excludes _ (naming whole next_level_of) _ at other point cycle
caches_excludes whole _ at other point fault = λ _. fault

pub caches_place : (whole : List ℕ) (fault : Code) (at other point : ℕ)
    → CacheFault (pptt_contents whole) fault at other point
    → (at ≤ length whole) × (other ≤ length whole) × (point ≤ length whole)
caches_place whole code.CacheCycle at other point cycle =
    let begins = cycle_begins (NamesNextLevel (pptt_contents whole)) (most_caches (pptt_contents whole)) at other point
    cycle in
    let size = size_is whole in
    (omega (arith, inside whole at begins.1.0 begins.1.1), omega (arith, cycle.fits), omega (arith, cycle.fits))
caches_place whole _ at other point fault = absurd fault
