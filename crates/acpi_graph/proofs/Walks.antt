-- The walks from each node in turn, and the marks that they leave.
use Rattle.std.proofs.Common.{◌≡◌, ◌≢◌, ℕ, ◌+◌, ◌-◌, ◌<◌, ◌≤◌, suc, List, length, get_or, set, Option, None, Some, inl, inr, arith, sym, ◌∙◌, ap, subst, replicate}
use Rattle.std.specs.Prelude.{count_by, nat_lt, cond, option_and_then}
use Rattle.std.proofs.lemmas.Bool.{cases_lt, cases_eq, lt-ltb}
use Rattle.std.proofs.lemmas.List.{get_or-set_same, get_or-set_other, get_or-replicate, get_or_past, length-set, length-replicate}
use Rattle.std.proofs.lemmas.List.Sums.{sum_by-set, count_by-le-length}
use Rattle.acpi_graph.specs.Parents.{AreNodes, parent_of, node_after, Ends, IsRound, IsFirstStray, IfRound}
use Rattle.std.proofs.lemmas.List.Folds.{sum_by-replicate}
use Rattle.std.proofs.Math.Nat.{mul-zero}
use Rattle.acpi_graph.specs.declared.stray.Stray.{Stray}
use Rattle.acpi_graph.specs.declared.stray.Stray.TheVariants as stray
use Rattle.acpi_graph.specs.Walks.{AreMarksOfEnded}
use Rattle.acpi_graph.proofs.Chains.{parent_is_node, ends_before, ends_later}
use Rattle.acpi_graph.proofs.Rounds.{never_ends, is_round}

-- the node that the walk left after it had taken so many steps
pub record Left (parents : List (Option ℕ)) (marks : List ℕ) (start base taken : ℕ) : Type 0 where
  pub there : ℕ
  pub stands : node_after parents start taken ≡ Some there
  pub mark : get_or marks there 0 ≡ suc (base + taken)

-- What the marks say in a walk from start that began when base steps had been taken, and now steps.
pub record Trail (parents : List (Option ℕ)) (marks : List ℕ) (start base steps : ℕ) : Type 0 where
  pub same_length : length marks ≡ length parents
  pub one_a_step : count_by (λ mark. nat_lt 0 mark) marks ≡ steps
  pub from_base : base ≤ steps
  pub numbered : (node : ℕ) → get_or marks node 0 ≤ steps
  pub settled : (node : ℕ) → 0 < get_or marks node 0 → get_or marks node 0 ≤ base → Ends parents node
  pub own : (node : ℕ) → base < get_or marks node 0
      → node_after parents start (get_or marks node 0 - suc base) ≡ Some node
  pub left : (taken : ℕ) → base + taken < steps → Left parents marks start base taken

-- the walk is at a node
pub record StandsAt (parents : List (Option ℕ)) (start base steps node : ℕ) : Type 0 where
  pub is_node : node < length parents
  pub stands : node_after parents start (steps - base) ≡ Some node

pub begin : (parents : List (Option ℕ)) (marks : List ℕ) (start steps : ℕ) → AreMarksOfEnded parents marks steps
    → Trail parents marks start steps steps
begin parents marks start steps s = record {
  same_length = s.same_length;
  one_a_step = s.one_a_step;
  from_base = omega arith;
  numbered = s.numbered;
  settled = λ node marked _. s.end node marked;
  own = λ node above. absurd (let upto : get_or marks node 0 ≤ steps = s.numbered node in omega arith);
  left = λ taken below. absurd (omega arith);
}

-- the walk leaves a node that has no mark
pub mark_more : (parents : List (Option ℕ)) (marks : List ℕ) (start base steps node : ℕ)
    → Trail parents marks start base steps
    → StandsAt parents start base steps node → get_or marks node 0 ≡ 0
    → Trail parents (set marks node (suc steps)) start base (suc steps)
mark_more parents marks start base steps node t at blank = record {
  same_length = length-set marks node (suc steps) ∙ t.same_length;
  one_a_step = counted;
  from_base = let low : base ≤ steps = t.from_base in omega arith;
  numbered = λ other. elim (cases_eq other node) [
    | inl same ↦ rw same (rw here (omega arith))
    | inr differ ↦ rw (elsewhere other differ) (let upto : get_or marks other 0 ≤ steps = t.numbered other in
        omega arith)
  ];
  settled = λ other marked old. elim (cases_eq other node) [
    | inl same ↦
        let mark : get_or (set marks node (suc steps)) other 0 ≡ suc steps = rw same here in
        let low : base ≤ steps = t.from_base in
        absurd (omega arith)
    | inr differ ↦ t.settled other (subst (λ m. 0 < m) (elsewhere other differ) marked)
        (subst (λ m. m ≤ base) (elsewhere other differ) old)
  ];
  own = λ other above. elim (cases_eq other node) [
    | inl same ↦
        let mark : get_or (set marks node (suc steps)) other 0 ≡ suc steps = rw same here in
        let taken : get_or (set marks node (suc steps)) other 0 - suc base ≡ steps - base = omega arith in
        ap (node_after parents start) taken ∙ at.stands ∙ ap Some (sym same)
    | inr differ ↦ subst (λ m. node_after parents start (m - suc base) ≡ Some other) (sym (elsewhere other differ))
        (t.own other (subst (λ m. base < m) (elsewhere other differ) above))
  ];
  left = λ taken below. elim (cases_lt (base + taken) steps) [
    | inl before ↦
        let left : Left parents marks start base taken = t.left taken before in
        let mark : get_or marks left.there 0 ≡ suc (base + taken) = left.mark in
        let differ : left.there ≢ node = λ same.
        let none : get_or marks left.there 0 ≡ 0 = rw same blank in
        omega arith in
        record { there = left.there; stands = left.stands; mark = elsewhere left.there differ ∙ left.mark }
    | inr now ↦
        let low : base ≤ steps = t.from_base in
        let all : taken ≡ steps - base = omega arith in
        let sum : steps ≡ base + taken = omega arith in
        record { there = node; stands = ap (node_after parents start) all ∙ at.stands; mark = here ∙ ap suc sum }
  ];
}
  where
    inside : node < length marks
    inside = let is : node < length parents = at.is_node in let same : length marks ≡ length parents = t.same_length in
        omega arith

    here : get_or (set marks node (suc steps)) node 0 ≡ suc steps
    here = get_or-set_same marks node (suc steps) 0 inside

    elsewhere : (other : ℕ) → other ≢ node → get_or (set marks node (suc steps)) other 0 ≡ get_or marks other 0
    elsewhere other differ = get_or-set_other marks node other (suc steps) 0 differ

    counted : count_by (λ mark. nat_lt 0 mark) (set marks node (suc steps)) ≡ suc steps
    counted =
        let more = sum_by-set (λ mark. cond (nat_lt 0 mark) 1 0) marks node (suc steps) 0 inside in
        let before : count_by (λ mark. nat_lt 0 mark) marks ≡ steps = t.one_a_step in
        let blank_counts : cond {A = ℕ} (nat_lt 0 (get_or marks node 0)) 1 0 ≡ 0 =
        ap (λ (mark : ℕ). cond {A = ℕ} (nat_lt 0 mark) 1 0) blank in
        let mark_counts : cond {A = ℕ} (nat_lt 0 (suc steps)) 1 0 ≡ 1 =
        ap (λ b. cond {A = ℕ} b 1 0) (lt-ltb 0 (suc steps) (omega arith)) in
        omega (arith, more)

-- the same for the step as the code counts it
pub leaves : (parents : List (Option ℕ)) (marks : List ℕ) (start base steps node next : ℕ)
    → Trail parents marks start base steps
    → StandsAt parents start base steps node → get_or marks node 0 ≡ 0 → next ≡ steps + 1
    → Trail parents (set marks node (steps + 1)) start base next
leaves parents marks start base steps node next t at blank counted =
    let one_more : suc steps ≡ steps + 1 = omega arith in
    let same : suc steps ≡ next = omega arith in
    subst (λ m. Trail parents (set marks node m) start base next) one_more
    (subst (λ n. Trail parents (set marks node (suc steps)) start base n) same
    (mark_more parents marks start base steps node t at blank))

pub room_left : (parents : List (Option ℕ)) (marks : List ℕ) (start base steps node : ℕ)
    → Trail parents marks start base steps
    → StandsAt parents start base steps node → get_or marks node 0 ≡ 0 → steps < length parents
room_left parents marks start base steps node t at blank =
    let more : Trail parents (set marks node (suc steps)) start base (suc steps) =
    mark_more parents marks start base steps node t at blank in
    let same : length (set marks node (suc steps)) ≡ length parents = more.same_length in
    let counted : count_by (λ mark. nat_lt 0 mark) (set marks node (suc steps)) ≡ suc steps = more.one_a_step in
    let upto : count_by (λ mark. nat_lt 0 mark) (set marks node (suc steps)) ≤ length (set marks node (suc steps)) =
    count_by-le-length (λ mark. nat_lt 0 mark) (set marks node (suc steps)) in
    omega arith

pub steps_within : (parents : List (Option ℕ)) (marks : List ℕ) (start base steps : ℕ)
    → Trail parents marks start base steps → steps ≤ length parents
steps_within parents marks start base steps t =
    let same : length marks ≡ length parents = t.same_length in
    let counted : count_by (λ mark. nat_lt 0 mark) marks ≡ steps = t.one_a_step in
    let upto : count_by (λ mark. nat_lt 0 mark) marks ≤ length marks =
    count_by-le-length (λ mark. nat_lt 0 mark) marks in
    omega arith

pub stands_on : (parents : List (Option ℕ)) (start base steps node next parent : ℕ) → AreNodes parents → base ≤ steps
    → StandsAt parents start base steps node → next ≡ steps + 1 → parent_of parents node ≡ Some parent
    → StandsAt parents start base next parent
stands_on parents start base steps node next parent nodes low at counted up =
    let one_more : next - base ≡ suc (steps - base) = omega arith in
    record {
      is_node = parent_is_node parents nodes node parent up;
      stands = ap (node_after parents start) one_more ∙ ap (option_and_then (parent_of parents)) at.stands ∙ up;
    }

pub root_ends : (parents : List (Option ℕ)) (start base steps node : ℕ) → StandsAt parents start base steps node
    → parent_of parents node ≡ None → Ends parents start
root_ends parents start base steps node at root =
    (suc (steps - base), ap (option_and_then (parent_of parents)) at.stands ∙ root)

-- the walk has come to a node that an earlier walk has left
pub settled_ends : (parents : List (Option ℕ)) (marks : List ℕ) (start base steps node : ℕ)
    → Trail parents marks start base steps
    → StandsAt parents start base steps node → 0 < get_or marks node 0 → get_or marks node 0 ≤ base → Ends parents start
settled_ends parents marks start base steps node t at marked old =
    ends_before parents start (steps - base) node at.stands (t.settled node marked old)

pub settle : (parents : List (Option ℕ)) (marks : List ℕ) (start base steps : ℕ) → Trail parents marks start base steps
    → Ends parents start → AreMarksOfEnded parents marks steps
settle parents marks start base steps t ends = record {
  same_length = t.same_length;
  one_a_step = t.one_a_step;
  numbered = t.numbered;
  end = λ node marked. elim (cases_lt base (get_or marks node 0)) [
    | inl own ↦ ends_later parents start (get_or marks node 0 - suc base) node (t.own node own) ends
    | inr old ↦ t.settled node marked old
  ];
}

left_once : (parents : List (Option ℕ)) (marks : List ℕ) (start base steps : ℕ) → Trail parents marks start base steps
    → (i j : ℕ) → i < j → base + j < steps → node_after parents start i ≢ node_after parents start j
left_once parents marks start base steps t i j before below same =
    let first : Left parents marks start base i = t.left i (omega arith) in
    let second : Left parents marks start base j = t.left j below in
    let first_mark : get_or marks first.there 0 ≡ suc (base + i) = first.mark in
    let second_mark : get_or marks second.there 0 ≡ suc (base + j) = second.mark in
    let some : Some first.there ≡ Some second.there = sym first.stands ∙ same ∙ second.stands in
    let one : first.there ≡ second.there = cc in
    let marks_alike : get_or marks first.there 0 ≡ get_or marks second.there 0 = ap (λ node. get_or marks node 0) one in
    omega arith

-- the walk has come to a node that it has left itself
pub round_found : (parents : List (Option ℕ)) (marks : List ℕ) (start base steps node lead round : ℕ)
    → Trail parents marks start base steps
    → StandsAt parents start base steps node → lead + suc base ≡ get_or marks node 0
    → round + get_or marks node 0 ≡ suc steps
    → IsRound parents start lead round
round_found parents marks start base steps node lead round t at lead_is round_is =
    let low : base ≤ steps = t.from_base in
    let upto : get_or marks node 0 ≤ steps = t.numbered node in
    let lead_at : get_or marks node 0 - suc base ≡ lead = omega arith in
    let round_at : lead + round ≡ steps - base = omega arith in
    is_round parents start lead round
    (record {
      moves = omega arith;
      there = node;
      stands = subst (λ k. node_after parents start k ≡ Some node) lead_at (t.own node (omega arith));
      again = ap (node_after parents start) round_at ∙ at.stands;
    })
    (λ i j before below. left_once parents marks start base steps t i j before (omega arith))

-- if the chains of all nodes before it end, a cycle of this walk is the first
pub first_stray_found : (parents : List (Option ℕ)) (start : ℕ) (found : Stray) → start < length parents
    → ((node : ℕ) → node < start → Ends parents node)
    → IfRound found (λ node lead round. (node ≡ start) × IsRound parents start lead round
    × (lead + round ≤ length parents))
    → IfRound found (IsFirstStray parents)
first_stray_found parents start stray.None is_node earlier round = tt
first_stray_found parents start (stray.Round node lead round) is_node earlier found =
    subst (λ n. IsFirstStray parents n lead round) (sym found.0)
    (record {
      is_node = is_node;
      goes_on = never_ends parents start lead round found.1.returns;
      earlier_end = earlier;
      is_round = found.1;
    })

no_mark : (parents : List (Option ℕ)) (marks : List ℕ) → marks ≡ replicate (length parents) 0 → (node : ℕ)
    → get_or marks node 0 ≡ 0
no_mark parents marks blank node = elim (cases_lt node (length parents)) [
  | inl inside ↦ rw blank (get_or-replicate (length parents) node 0 0 inside)
  | inr past ↦
      let len : length marks ≡ length parents = ap length blank ∙ length-replicate (length parents) 0 in
      get_or_past marks node 0 (omega arith)
]

pub fresh : (parents : List (Option ℕ)) (marks : List ℕ) → marks ≡ replicate (length parents) 0
    → AreMarksOfEnded parents marks 0
fresh parents marks blank = record {
  same_length = ap length blank ∙ length-replicate (length parents) 0;
  one_a_step = rw blank (sum_by-replicate (λ mark. cond (nat_lt 0 mark) 1 0) (length parents) 0
      ∙ mul-zero (length parents));
  numbered = λ node. let none : get_or marks node 0 ≡ 0 = no_mark parents marks blank node in omega arith;
  end = λ node marked. absurd (let none : get_or marks node 0 ≡ 0 = no_mark parents marks blank node in omega arith);
}
