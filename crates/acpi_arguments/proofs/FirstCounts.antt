-- Which count of an I/O APIC wins if several are given.
use Rattle.std.proofs.Common.{◌≡◌, ℕ, ◌==◌, ◌∙◌, Bool, true, false, cond, List, [], ◌∷◌, Option, Some, None, option_map, unwrap_or, refl, ap, sym, arith}
use Rattle.std.specs.Prelude.{find}
use Rattle.std.specs.Option.{option_or}
use Rattle.std.specs.Cmp.{nat_cmp_total, unsigned_tied}
use Rattle.std.specs.FinMap.{FinMap, contains_key, get, get-empty, get-insert, insert}
use Rattle.std.specs.Ordering.{nat_cmp}
use Rattle.std.proofs.lemmas.Bool.Decides.{nat_tests}
use Rattle.acpi_base.specs.Policy.{PolicyValue, inputs_of, new_policy, with_input}
use Rattle.acpi_arguments.specs.CommandLine.{first_count, with_inputs}
use Rattle.acpi_arguments.specs.declared.policy_words.Inputs.{Inputs}

one_count_more : (q : PolicyValue) (a n address : ℕ)
    → get (with_input q a n).inputs address ≡ option_or (get q.inputs address) (cond (a == address) (Some n) None)
one_count_more q a n address = go (get q.inputs a) (get q.inputs address) refl refl
  where
    go : (here there : Option ℕ) → get q.inputs a ≡ here → get q.inputs address ≡ there
        → get (with_input q a n).inputs address ≡ option_or (get q.inputs address) (cond (a == address) (Some n) None)
    go None None e f =
        rw (e, f) (grind (arith, nat_tests, get-insert nat_cmp_total q.inputs a n address, unsigned_tied address a))
    go None (Some there) e f =
        rw (e, f) (grind (arith, nat_tests, get-insert nat_cmp_total q.inputs a n address, unsigned_tied address a))
    go (Some here) None e f = rw (e, f) (grind (arith, nat_tests))
    go (Some here) (Some there) e f = rw (e, f) refl

pub first_stands : (q : PolicyValue) (counts : List Inputs) (address : ℕ)
    → get (with_inputs q counts).inputs address ≡ option_or (get q.inputs address) (first_count counts address)
first_stands q [] address = sym (or_none (get q.inputs address))
  where
    or_none : (known : Option ℕ) → option_or known None ≡ known
    or_none None = refl
    or_none (Some n) = refl
first_stands q (first ∷ counts) address =
    first_stands (with_input q first.address first.count) counts address
    ∙ ap (λ known. option_or known (first_count counts address)) (one_count_more q first.address first.count address)
    ∙ in_turn (get q.inputs address) (first.address == address)
  where
    in_turn : (known : Option ℕ) (is : Bool)
        → option_or (option_or known (cond is (Some first.count) None)) (first_count counts address)
        ≡ option_or known (option_map (λ inputs. inputs.count)
        (cond is (Some first) (find (λ inputs. inputs.address == address) counts)))
    in_turn None true = refl
    in_turn None false = refl
    in_turn (Some n) true = refl
    in_turn (Some n) false = refl

pub only_counts : (q : PolicyValue) (counts : List Inputs)
    → with_inputs q counts ≡ record q { inputs = (with_inputs q counts).inputs }
only_counts q [] = refl
only_counts q (first ∷ counts) =
    only_counts (with_input q first.address first.count) counts
    ∙ same_others (contains_key q.inputs first.address)
    (with_inputs (with_input q first.address first.count) counts).inputs
  where
    same_others : (b : Bool) (inputs : FinMap nat_cmp ℕ)
        → record (cond b q (record q { inputs = insert q.inputs first.address first.count }))
        { inputs = inputs } ≡ record q { inputs = inputs }
    same_others true inputs = refl
    same_others false inputs = refl

pub inputs_stand : (default_inputs address : ℕ) (counts : List Inputs)
    → inputs_of (with_inputs (new_policy 0 default_inputs) counts) address ≡ unwrap_or (first_count counts address)
    default_inputs
unfolding inputs_of
inputs_stand default_inputs address counts =
    let q = with_inputs (new_policy 0 default_inputs) counts in
    let default : q.default_inputs ≡ default_inputs = ap (λ (p : PolicyValue). p.default_inputs)
    (only_counts (new_policy 0 default_inputs) counts) in
    let count : get q.inputs address ≡ first_count counts address =
    first_stands (new_policy 0 default_inputs) counts address
    ∙ ap (λ known. option_or known (first_count counts address)) (get-empty nat_cmp address) in
    rw (count, default) refl
