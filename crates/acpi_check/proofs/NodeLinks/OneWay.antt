-- References that all lead up, or all lead down, make no cycle.
use Rattle.std.proofs.Common.{◌≡◌, ℕ, zero, suc, ◌≤◌, Bool, true, false, [], Some, subst, arith}
use Rattle.std.specs.Prelude.{◌≢◌}
use Rattle.acpi_base.specs.Chains.{IsCycle, LeadsTo}
use Rattle.acpi_base.specs.Pptt.{PpttContents, PpttEntry}
use Rattle.acpi_check.specs.Chains.{Leads, Names, named_offset}
use Rattle.acpi_check.specs.declared.nodes.Chain.{Chain}
use Rattle.acpi_check.proofs.EntryPasses.Passes.{HasPassed, all_passed}

-- what an entry at o refers to, if it is a node, is 0, or it leads this way
abbrev pub IsOneWay : Chain → Bool → ℕ → PpttEntry → Type 0
IsOneWay links up o e = (p : ℕ) → named_offset links e ≡ Some p → p ≢ 0 → Leads up o p

-- so do steps, at least one
far : (Names : ℕ → ℕ → Type 0) (up : Bool) → ((o p : ℕ) → Names o p → p ≢ 0 → Leads up o p) → (steps o p : ℕ)
    → LeadsTo Names (suc steps) o p → Leads up o p
far Names up each zero o p (next, step, same) = subst (Leads up o) same (each o next step.names step.some)
far Names true each (suc steps) o p (next, step, rest) =
    (let first = each o next step.names step.some in let later = far Names true each steps next p rest in omega arith)
far Names false each (suc steps) o p (next, step, rest) =
    (let first = each o next step.names step.some in let later = far Names false each steps next p rest in omega arith)

back : (up : Bool) (o : ℕ) → ¬ Leads up o o
back true o leads = omega arith
back false o leads = omega arith

round_again : (Names : ℕ → ℕ → Type 0) (up : Bool) → ((o p : ℕ) → Names o p → p ≢ 0 → Leads up o p) → (round o : ℕ)
    → 1 ≤ round → ¬ LeadsTo Names round o o
round_again Names up each zero o some leads = omega (arith, some)
round_again Names up each (suc steps) o some leads = back up o (far Names up each steps o o leads)

pub no_cycle : (links : Chain) (up : Bool) (c : PpttContents) → HasPassed c.entries [] (IsOneWay links up)
    → (most o lead round : ℕ) → ¬ IsCycle (Names links c) most o lead round
no_cycle links up c passed most o lead round cycle =
    round_again (Names links c) up (λ a p (e, stands, is) some. all_passed passed a e stands p is some) round
    cycle.there cycle.some cycle.back
