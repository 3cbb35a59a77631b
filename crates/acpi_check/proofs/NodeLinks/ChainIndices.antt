-- From the first cycle of indices to that of the offsets that the indices represent.
use Rattle.std.proofs.Common.{◌≡◌, ℕ, zero, suc, ◌+◌, ◌<◌, ◌≤◌, List, length, get_or, Option, Some, refl, sym, ◌∙◌, ap, subst, inl, inr, arith}
use Rattle.std.specs.Prelude.{◌↔◌, slice_index}
use Rattle.std.proofs.lemmas.Bool.{cases_order, cases_lt, cases_eq}
use Rattle.std.proofs.lemmas.List.{get_or_default}
use Rattle.std.proofs.lemmas.List.Elements.{Contains-get_or}
use Rattle.std.proofs.lemmas.Option.{same_Some, slice_get-get_or}
use Rattle.acpi_base.specs.Chains.{IsAt, IsStep, LeadsTo, IsCycle}
use Rattle.acpi_base.specs.Faults.{NotAfter}
use Rattle.acpi_base.specs.declared.code.Code.{Code}
use Rattle.acpi_base.proofs.Chains.{IsNumbered, pigeonhole, cycle_begins}
use Rattle.acpi_base.proofs.Faults.Least.{witness}
use Rattle.acpi_base.proofs.Options.{cases_Option}
use Rattle.acpi_graph.specs.Parents as graph
use Rattle.acpi_graph.specs.Parents.{AreNodes, parent_of, node_after, Returns, IsFirstStray, IfRound}
use Rattle.acpi_graph.specs.declared.stray.Stray.{Stray}
use Rattle.acpi_graph.specs.declared.stray.Stray.TheVariants as stray
use Rattle.acpi_graph.proofs.Chains.{node_after-add, went_on}
use Rattle.acpi_graph.proofs.Rounds.{never_ends}
use Rattle.acpi_check.specs.Chains.{IsFirstCycle}
use Rattle.acpi_check.specs.ChainIndices.{AreIndexed, IsCycleResult}

-- the offset at an index
abbrev at : List ℕ → ℕ → ℕ
at offsets i = slice_index offsets i

one_index : {Names : ℕ → ℕ → Type 0} {offsets : List ℕ} {parents : List (Option ℕ)} → AreIndexed Names offsets parents
    → (i j : ℕ) → i < length offsets → j < length offsets → at offsets i ≡ at offsets j → i ≡ j
one_index are i j within also same = grind (arith, cases_order i j, are.rising i j 0, are.rising j i 0, same)

indexed : {Names : ℕ → ℕ → Type 0} {offsets : List ℕ} {parents : List (Option ℕ)} → AreIndexed Names offsets parents
    → (o : ℕ) → IsAt Names o → (i : ℕ) × (i < length offsets) × (at offsets i ≡ o)
indexed {Names} {offsets} are o here =
    let (i, within, is) = (are.all o).1 here in
    (i, within, get_or_default offsets i 0 o within ∙ is)

there : {Names : ℕ → ℕ → Type 0} {offsets : List ℕ} {parents : List (Option ℕ)} → AreIndexed Names offsets parents
    → (i : ℕ) → i < length offsets → IsAt Names (at offsets i)
there {Names} {offsets} are i within = (are.all (at offsets i)).0 (Contains-get_or offsets i 0 within)

-- a step from an offset leads to the offset of its parent
step_up : {Names : ℕ → ℕ → Type 0} {offsets : List ℕ} {parents : List (Option ℕ)} → AreIndexed Names offsets parents
    → (i p : ℕ) → i < length offsets → IsStep Names (at offsets i) p
    → (j : ℕ) × (parent_of parents i ≡ Some j) × (j < length offsets) × (at offsets j ≡ p)
step_up {Names} {offsets} {parents} are i p within step =
    elim (cases_Option (parent_of parents i)) [
      | inr none ↦
          elim (rw none at (are.named i p within step.names)) [
            | inl none ↦ absurd (step.some none)
            | inr nowhere ↦ absurd (nowhere ((are.all p).1 step.there))
          ]
      | inl (j, is) ↦ let place = rw is at (are.named i p within step.names) in (j, is, place.1, place.2)
    ]

step_down : {Names : ℕ → ℕ → Type 0} {offsets : List ℕ} {parents : List (Option ℕ)} → AreIndexed Names offsets parents
    → (i j : ℕ) → i < length offsets → parent_of parents i ≡ Some j
    → (j < length offsets) × IsStep Names (at offsets i) (at offsets j)
step_down {Names} {offsets} {parents} are i j within is =
    let (p, names) = there are i within in
    let (some, below, place) = rw is at (are.named i p within names) in
    (below, rw place (record { names = names; some = some; there = rw (← place) (there are j below) }))

after_first : (parents : List (Option ℕ)) (i j k : ℕ) → parent_of parents i ≡ Some j
    → node_after parents i (suc k) ≡ node_after parents j k
after_first parents i j k is =
    let sum : 1 + k ≡ suc k = omega arith in
    subst (λ (n : ℕ). node_after parents i n ≡ node_after parents j k) sum (node_after-add parents i 1 j is k)

-- so many steps lead to the offset of the index that so many parents lead to
leads_up : {Names : ℕ → ℕ → Type 0} {offsets : List ℕ} {parents : List (Option ℕ)} → AreIndexed Names offsets parents
    → (k i p : ℕ) → i < length offsets → LeadsTo Names k (at offsets i) p
    → (j : ℕ) × (node_after parents i k ≡ Some j) × (j < length offsets) × (at offsets j ≡ p)
leads_up are zero i p within leads = (i, refl, within, leads)
leads_up {Names} {offsets} {parents} are (suc k) i p within (next, step, leads) =
    let (j, parent, below, is) = step_up are i next within step in
    let (end, after_j, inside, place) = leads_up are k j p below (rw is leads) in
    (end, after_first parents i j k parent ∙ after_j, inside, place)

leads_down : {Names : ℕ → ℕ → Type 0} {offsets : List ℕ} {parents : List (Option ℕ)} → AreIndexed Names offsets parents
    → (k i j : ℕ) → i < length offsets → node_after parents i k ≡ Some j
    → (j < length offsets) × LeadsTo Names k (at offsets i) (at offsets j)
leads_down {Names} {offsets} {parents} are zero i j within is =
    (omega (arith, same_Some i j is), ap (at offsets) (same_Some i j is))
leads_down {Names} {offsets} {parents} are (suc k) i j within is =
    let (next, parent) = went_on parents i 1 (suc k) j (omega arith) is in
    let (below, step) = step_down are i next within parent in
    let (inside, leads) = leads_down are k next j below (sym (after_first parents i next k parent) ∙ is) in
    (inside, (at offsets next, step, leads))

returns : {Names : ℕ → ℕ → Type 0} {offsets : List ℕ} {parents : List (Option ℕ)} → AreIndexed Names offsets parents
    → (most i lead round : ℕ) → i < length offsets → IsCycle Names most (at offsets i) lead round
    → Returns parents i lead round
returns {Names} {offsets} {parents} are most i lead round within c =
    let (j, stands, inside, place) = leads_up are lead i c.there within c.once in
    let (k, again, below, same) = leads_up are round j c.there inside (rw place c.back) in
    let one = one_index are k j below inside (same ∙ sym place) in
    record {
      moves = c.some;
      there = j;
      stands = stands;
      again =
          node_after-add parents i lead j stands round ∙ again ∙ ap Some one;
    }

-- a return of indices is a cycle of offsets
cycle : {Names : ℕ → ℕ → Type 0} {offsets : List ℕ} {parents : List (Option ℕ)} → AreIndexed Names offsets parents
    → (most i lead round : ℕ) → i < length offsets → lead + round ≤ most → Returns parents i lead round
    → IsCycle Names most (at offsets i) lead round
cycle {Names} {offsets} {parents} are most i lead round within fits r =
    let (inside, once) = leads_down are lead i r.there within r.stands in
    record {
      there = at offsets r.there;
      once = once;
      back = (leads_down are round r.there r.there inside
          (sym (node_after-add parents i lead r.there r.stands round) ∙ r.again)).1;
      some = r.moves;
      fits = fits;
    }

-- ---- what `first_stray` requires and finds

pub are_nodes : {Names : ℕ → ℕ → Type 0} {offsets : List ℕ} {parents : List (Option ℕ)}
    → AreIndexed Names offsets parents → AreNodes parents
are_nodes {Names} {offsets} {parents} are k d below =
    elim (cases_Option (get_or parents k d)) [
      | inr none ↦ rw none tt
      | inl (j, is) ↦
          let parent : parent_of parents k ≡ Some j = rw (slice_get-get_or parents k d below) is in
          rw is (omega (arith, are.count, (step_down are k j (omega (arith, below, are.count)) parent).0))
    ]

none_round : {Names : ℕ → ℕ → Type 0} {offsets : List ℕ} {parents : List (Option ℕ)} → AreIndexed Names offsets parents
    → (most : ℕ) → graph.AllEnd parents → (o lead round : ℕ) → ¬ IsCycle Names most o lead round
none_round {Names} {offsets} {parents} are most end o lead round c =
    let (i, within, is) = indexed are o (cycle_begins Names most o lead round c) in
    never_ends parents i lead round (returns are most i lead round within (rw is c))
    (end i (omega (arith, within, are.count)))

pub room : {Names : ℕ → ℕ → Type 0} {offsets : List ℕ} {parents : List (Option ℕ)} {most : ℕ}
    → AreIndexed Names offsets parents → IsNumbered Names most → length offsets ≤ most
room {Names} {offsets} {parents} {most} are numbered =
    elim (cases_lt most (length offsets)) [
      | inr fits ↦ fits
      | inl more ↦
          let (i, j, less, within, same) = pigeonhole most (λ k. numbered.number (at offsets k))
          (λ k within. numbered.below (at offsets k) (there are k (omega arith))) in
          let one = numbered.apart (at offsets i) (at offsets j) (there are i (omega arith)) (there are j (omega arith))
          same in
          absurd (omega (arith, one, are.rising i j 0 less (omega arith)))
    ]

-- the first stray index is the cycle of offsets that is reported
first_cycle : {Names : ℕ → ℕ → Type 0} {offsets : List ℕ} {parents : List (Option ℕ)} → AreIndexed Names offsets parents
    → (most : ℕ) → length offsets ≤ most → (fault : Code) (node lead round : ℕ)
    → IsFirstStray parents node lead round → lead + round ≤ length parents
    → IsFirstCycle Names most fault (at offsets node) lead round
first_cycle {Names} {offsets} {parents} are most fits fault node lead round first within =
    record {
      cycle = cycle are most node lead round inside (omega (arith, are.count, within, fits))
          first.is_round.returns;
      least = least;
    }
  where
    inside : node < length offsets
    inside = omega (arith, are.count, first.is_node)

    at_index : (i l r : ℕ) → i < length offsets → Returns parents i l r
        → NotAfter (witness fault (at offsets node) lead round) (witness fault (at offsets i) l r)
    at_index i l r below other =
        elim (cases_order node i) [
          | inr (inl less) ↦ inl (are.rising node i 0 less below)
          | inr (inr more) ↦ absurd (never_ends parents i l r other (first.earlier_end i more))
          | inl same ↦
              let here : Returns parents node l r = rw same other in
              inr (
                ap (at offsets) same,
                inr (
                  refl,
                  elim (cases_eq lead l) [
                    | inl is ↦ inr (is, first.is_round.least_round r (rw is here))
                    | inr differs ↦ inl (omega (arith, differs, first.is_round.least_lead l r here))
                  ],
                ),
              )
        ]

    least : (p l r : ℕ) → IsCycle Names most p l r
        → NotAfter (witness fault (at offsets node) lead round) (witness fault p l r)
    least p l r other =
        let (i, below, is) = indexed are p (cycle_begins Names most p l r other) in
        rw (← is) (at_index i l r below (returns are most i l r below (rw is other)))

-- what `first_stray` finds about the indices holds for the offsets
pub is_found : {Names : ℕ → ℕ → Type 0} {offsets : List ℕ} {parents : List (Option ℕ)} {most : ℕ}
    → AreIndexed Names offsets parents → IsNumbered Names most → (fault : Code) (found : Stray)
    → ((found ≡ stray.None) ↔ graph.AllEnd parents) → IfRound found (IsFirstStray parents)
    → IfRound found (λ node lead round. lead + round ≤ length parents)
    → IsCycleResult Names most fault offsets found
is_found {most = most} are numbered fault stray.None none first within = none_round are most (none.0 refl)
is_found {Names} {offsets} {parents} {most} are numbered fault (stray.Round node lead round) none first within =
    first_cycle are most (room are numbered) fault node lead round first within
