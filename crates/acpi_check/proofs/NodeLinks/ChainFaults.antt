-- From the cycle that is found in the chains of a PPTT to its first fault, if its references are valid.
use Rattle.std.proofs.Common.{◌≡◌, ℕ, List, Option, Some, None, refl, sym, subst, inl, inr}
use Rattle.acpi_base.specs.Chains.{AllEnd, IsCycle, EndOrGoRound}
use Rattle.acpi_base.specs.Codes.{stage_of}
use Rattle.acpi_base.specs.Faults.{NotAfter}
use Rattle.acpi_base.specs.Pptt.{PpttContents, pptt_contents, NamesParent, NamesNextLevel, AreReferencesValid, DoParentsEnd, DoCachesEnd, ParentFault, CacheFault, most_nodes, most_caches}
use Rattle.acpi_base.specs.declared.code.Code.{Code}
use Rattle.acpi_base.specs.declared.code.Code.TheVariants as code
use Rattle.acpi_base.specs.declared.stage.Stage.{Stage}
use Rattle.acpi_base.specs.declared.stage.Stage.TheVariants as stage
use Rattle.acpi_base.specs.declared.witness.Witness.{Witness}
use Rattle.acpi_base.proofs.Faults.Least.{witness}
use Rattle.acpi_base.proofs.Pptt.Chains.{parents_end_or_go_round, caches_end_or_go_round}
use Rattle.acpi_check.specs.Chains.{IsFirstCycle, FindsCycle}
use Rattle.acpi_check.specs.PassResults.{FindsFault}
use Rattle.acpi_check.specs.TableResults.{IsFirstOfTable}
use Rattle.acpi_check.specs.declared.nodes.Chain.TheVariants as chain

all_end : {Names : ℕ → ℕ → Type 0} {most : ℕ} → EndOrGoRound Names most
    → ((o lead round : ℕ) → ¬ IsCycle Names most o lead round) → AllEnd Names
all_end law none o here =
    elim (law.either o here) [
      | inl ends ↦ ends
      | inr (lead, round, cycle) ↦ absurd (none o lead round cycle)
    ]

-- if the faults are the cycles, under one code, the cycle that is reported is the first fault
first_fault : {Names : ℕ → ℕ → Type 0} {most : ℕ} (s : Stage) (fault : Code) (IsFault : Code → ℕ → ℕ → ℕ → Type 0)
    → stage_of fault ≡ s
    → ((at other point : ℕ) → IsCycle Names most at other point → IsFault fault at other point)
    → ((c : Code) (at other point : ℕ) → IsFault c at other point → (c ≡ fault) × IsCycle Names most at other point)
    → (w : Witness) → w.code ≡ fault → IsFirstCycle Names most fault w.at w.other w.point → IsFirstOfTable s IsFault w
first_fault s fault IsFault own is_fault is_cycle w is first =
    record {
      own = rw is own;
      fault = rw is (is_fault w.at w.other w.point first.cycle);
      least = least;
    }
  where
    least : (v : Witness) → IsFault v.code v.at v.other v.point → NotAfter w v
    least v wrong =
        let (same, cycle) = is_cycle v.code v.at v.other v.point wrong in
        subst (λ (c : Code). NotAfter (witness c w.at w.other w.point) v) (sym is)
        (subst (λ (c : Code). NotAfter (witness fault w.at w.other w.point) (witness c v.at v.other v.point)) (sym same)
        (first.least v.at v.other v.point cycle))

-- ---- parents

parent_cycle : (c : PpttContents) (fault : Code) (at other point : ℕ) → ParentFault c fault at other point
    → (fault ≡ code.ParentCycle) × IsCycle (NamesParent c) (most_nodes c) at other point
parent_cycle c code.ParentCycle at other point cycle = (refl, cycle)
parent_cycle c _ at other point wrong = absurd wrong

pub parents_found : (whole : List ℕ) → AreReferencesValid (pptt_contents whole) → (found : Option Witness)
    → FindsCycle chain.Parents (pptt_contents whole) found
    → FindsFault stage.Parents (DoParentsEnd (pptt_contents whole)) (ParentFault (pptt_contents whole)) found
parents_found whole valid None none = all_end (parents_end_or_go_round whole valid) none
parents_found whole valid (Some w) (is, first) =
    first_fault stage.Parents code.ParentCycle (ParentFault (pptt_contents whole)) refl (λ at other point cycle. cycle)
    (parent_cycle (pptt_contents whole)) w is first

-- ---- caches

cache_cycle : (c : PpttContents) (fault : Code) (at other point : ℕ) → CacheFault c fault at other point
    → (fault ≡ code.CacheCycle) × IsCycle (NamesNextLevel c) (most_caches c) at other point
cache_cycle c code.CacheCycle at other point cycle = (refl, cycle)
cache_cycle c _ at other point wrong = absurd wrong

pub caches_found : (whole : List ℕ) → AreReferencesValid (pptt_contents whole) → (found : Option Witness)
    → FindsCycle chain.NextLevels (pptt_contents whole) found
    → FindsFault stage.Caches (DoCachesEnd (pptt_contents whole)) (CacheFault (pptt_contents whole)) found
caches_found whole valid None none = all_end (caches_end_or_go_round whole valid) none
caches_found whole valid (Some w) (is, first) =
    first_fault stage.Caches code.CacheCycle (CacheFault (pptt_contents whole)) refl (λ at other point cycle. cycle)
    (cache_cycle (pptt_contents whole)) w is first
