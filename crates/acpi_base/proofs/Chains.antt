-- Chains of offsets: each ends or reaches a cycle, none does both, and both can be decided.
use Rattle.std.proofs.Common.{◌≡◌, ℕ, zero, suc, ◌+◌, ◌-◌, ◌<◌, ◌≤◌, List, [], ◌∷◌, refl, sym, ◌∙◌, ap, subst, inl, inr, arith}
use Rattle.std.specs.Prelude.{◌⊎◌, ◌≢◌}
use Rattle.std.proofs.lemmas.Bool.{cases_eq, cases_lt}
use Rattle.acpi_base.specs.Chains.{IsAt, IsStep, NoneDangles, IsChain, Ends, AllEnd, LeadsTo, IsCycle, GoesRound, EndOrGoRound}
use Rattle.acpi_base.proofs.Faults.Deciding.{Decided, decided_as, both, all3, same, differs, at_most}
use Rattle.acpi_base.proofs.Faults.Least.{least_below}

-- at most one offset is named from an offset, and whether one is can be decided
pub record IsNaming (Names : ℕ → ℕ → Type 0) : Type 0 where
  pub one : (o p q : ℕ) → Names o p → Names o q → p ≡ q
  pub decide : (o : ℕ) → Decided (IsAt Names o)

-- each entry of the kind has its own number, below `most`
pub record IsNumbered (Names : ℕ → ℕ → Type 0) (most : ℕ) : Type 0 where
  pub number : ℕ → ℕ
  pub below : (o : ℕ) → IsAt Names o → number o < most
  pub apart : (o p : ℕ) → IsAt Names o → IsAt Names p → number o ≡ number p → o ≡ p

-- ---- of n + 1 numbers below n two are equal

-- f at i, with the number after the last in the place of n
moved : (f : ℕ → ℕ) (n i : ℕ) → Decided (f i ≡ n) → ℕ
moved f n i (inl is) = f (suc n)
moved f n i (inr other) = f i

moved_is : (f : ℕ → ℕ) (n i : ℕ) (d : Decided (f i ≡ n))
    → ((f i ≡ n) × (moved f n i d ≡ f (suc n))) ⊎ ((f i ≢ n) × (moved f n i d ≡ f i))
unfolding moved
moved_is f n i (inl is) = inl (is, refl)
moved_is f n i (inr other) = inr (other, refl)

pub pigeonhole : (n : ℕ) (f : ℕ → ℕ) → ((i : ℕ) → i ≤ n → f i < n) → (i j : ℕ) × (i < j) × (j ≤ n) × (f i ≡ f j)
pigeonhole zero f below = absurd (omega (arith, below 0 (omega arith)))
pigeonhole (suc n) f below =
    elim (least_below (λ i. f i ≡ f (suc n)) (λ i. same (f i) (f (suc n))) (suc n)) [
      | inr (i, inside, least) ↦ (i, suc n, inside, omega arith, least.holds)
      | inl new ↦
          let is = λ (i : ℕ). moved_is f n i (same (f i) n) in
          let (i, j, less, within, repeats) = pigeonhole n (λ i. moved f n i (same (f i) n))
          (λ i within. grind (arith, is i, below i, below (suc n), new i)) in
          (i, j, less, omega arith, grind (arith, is i, is j, new i, new j))
    ]

-- ---- a chain ends, or goes on

-- the offset that o names, or 0 if no entry of the kind is there
named : (Names : ℕ → ℕ → Type 0) (o : ℕ) → Decided (IsAt Names o) → ℕ
named Names o (inl here) = here.0
named Names o (inr none) = 0

is_named : (Names : ℕ → ℕ → Type 0) (o : ℕ) (d : Decided (IsAt Names o)) → IsAt Names o → Names o (named Names o d)
unfolding named
is_named Names o (inl there) here = there.1
is_named Names o (inr none) here = absurd (none here)

-- the offset that so many steps from o lead to, if there are so many
after : (Names : ℕ → ℕ → Type 0) → IsNaming Names → ℕ → ℕ → ℕ
after Names naming o zero = o
after Names naming o (suc n) = named Names (after Names naming o n) (naming.decide (after Names naming o n))

-- each of the first n offsets leads to the next one by a step
abbrev AreSteps : (ℕ → ℕ → Type 0) → (ℕ → ℕ) → ℕ → Type 0
AreSteps Names at n = (k : ℕ) → k < n → IsStep Names (at k) (at (suc k))

leads_along : (Names : ℕ → ℕ → Type 0) (at : ℕ → ℕ) (n : ℕ) → AreSteps Names at n → (steps i j : ℕ) → i + steps ≡ j
    → j ≤ n → LeadsTo Names steps (at i) (at j)
leads_along Names at n each zero i j sum within = ap at (omega arith)
leads_along Names at n each (suc steps) i j sum within =
    (at (suc i), each i (omega arith), leads_along Names at n each steps (suc i) j (omega arith) within)

ends_before : (Names : ℕ → ℕ → Type 0) (at : ℕ → ℕ) (n : ℕ) → AreSteps Names at n → Ends Names (at n)
    → Ends Names (at 0)
ends_before Names at zero each ends = ends
ends_before Names at (suc n) each (rest, chain) =
    ends_before Names at n (λ k less. each k (omega arith)) (at (suc n) ∷ rest, (each n (omega arith), chain))

ends_or_leads : (Names : ℕ → ℕ → Type 0) (naming : IsNaming Names) → NoneDangles Names → (o : ℕ) → IsAt Names o
    → (n : ℕ)
    → Ends Names o ⊎ (IsAt Names (after Names naming o n) × AreSteps Names (after Names naming o) n)
unfolding after
ends_or_leads Names naming valid o here zero = inr (here, λ k less. absurd (omega arith))
ends_or_leads Names naming valid o here (suc n) =
    elim (ends_or_leads Names naming valid o here n) [
      | inl ends ↦ inl ends
      | inr (there, each) ↦ next there each (is_named Names (at n) (naming.decide (at n)) there)
    ]
  where
    at : ℕ → ℕ
    at = after Names naming o

    more : AreSteps Names at n → IsStep Names (at n) (at (suc n)) → AreSteps Names at (suc n)
    more each step k less =
        elim (cases_lt k n) [
          | inl before ↦ each k before
          | inr last ↦ (let is : n ≡ k = omega arith in subst (λ (i : ℕ). IsStep Names (at i) (at (suc i))) is step)
        ]

    next : IsAt Names (at n) → AreSteps Names at n → Names (at n) (at (suc n))
        → Ends Names o ⊎ (IsAt Names (at (suc n)) × AreSteps Names at (suc n))
    next there each names =
        elim (cases_eq (at (suc n)) 0) [
          | inl none ↦ inl (ends_before Names at n each ([], subst (Names (at n)) none names))
          | inr some ↦
              elim (valid (at n) (at (suc n)) names) [
                | inl none ↦ absurd (some none)
                | inr above ↦ inr (above, more each (record { names = names; some = some; there = above }))
              ]
        ]

goes_round : (Names : ℕ → ℕ → Type 0) (most : ℕ) → IsNumbered Names most → (at : ℕ → ℕ) → IsAt Names (at 0)
    → AreSteps Names at most → GoesRound Names most (at 0)
goes_round Names most numbered at here each =
    let (i, j, less, within, repeats) = pigeonhole most (λ k. numbered.number (at k))
    (λ k within. numbered.below (at k) (stands k within)) in
    let is : at j ≡ at i = sym (numbered.apart (at i) (at j) (stands i (omega arith)) (stands j within) repeats) in
    let back = leads_along Names at most each (j - i) i j (omega arith) within in (
      i,
      j - i,
      record {
        there = at i;
        once = leads_along Names at most each i 0 i (omega arith) (omega arith);
        back = subst (LeadsTo Names (j - i) (at i)) is back;
        some = omega arith;
        fits = omega arith;
      },
    )
  where
    stands : (k : ℕ) → k ≤ most → IsAt Names (at k)
    stands zero within = here
    stands (suc k) within = (each k (omega arith)).there

pub ends_or_goes_round : (Names : ℕ → ℕ → Type 0) (most : ℕ) → IsNaming Names → IsNumbered Names most
    → NoneDangles Names
    → (o : ℕ) → IsAt Names o → Ends Names o ⊎ GoesRound Names most o
unfolding after
ends_or_goes_round Names most naming numbered valid o here =
    elim (ends_or_leads Names naming valid o here most) [
      | inl ends ↦ inl ends
      | inr (there, each) ↦ inr (goes_round Names most numbered (after Names naming o) here each)
    ]

pub end_without_cycle : (Names : ℕ → ℕ → Type 0) (most : ℕ) → IsNaming Names → IsNumbered Names most → NoneDangles Names
    → ((o lead round : ℕ) → ¬ IsCycle Names most o lead round) → AllEnd Names
end_without_cycle Names most naming numbered valid none o here =
    elim (ends_or_goes_round Names most naming numbered valid o here) [
      | inl ends ↦ ends
      | inr (lead, round, cycle) ↦ absurd (none o lead round cycle)
    ]

-- ---- a chain that reaches a cycle does not end

never_ends : (Names : ℕ → ℕ → Type 0) → IsNaming Names → (rest : List ℕ) (lead round o there : ℕ)
    → LeadsTo Names lead o there → LeadsTo Names (suc round) there there → ¬ IsChain Names o rest
never_ends Names naming [] zero round o there once back last =
    back.1.some (naming.one there back.0 0 back.1.names (rw once at last))
never_ends Names naming [] (suc lead) round o there once back last =
    once.1.some (naming.one o once.0 0 once.1.names last)
never_ends Names naming (q ∷ rest) zero round o there once back (step, chain) =
    let is = naming.one there back.0 q back.1.names (rw once at step.names) in
    never_ends Names naming rest round round q there (subst (λ (x : ℕ). LeadsTo Names round x there) is back.2) back
    chain
never_ends Names naming (q ∷ rest) (suc lead) round o there once back (step, chain) =
    let is = naming.one o once.0 q once.1.names step.names in
    never_ends Names naming rest lead round q there (subst (λ (x : ℕ). LeadsTo Names lead x there) is once.2) back chain

pub cycle_excludes_end : (Names : ℕ → ℕ → Type 0) → IsNaming Names → (most o lead round : ℕ)
    → IsCycle Names most o lead round → ¬ Ends Names o
cycle_excludes_end Names naming most o lead zero cycle ends = omega (arith, cycle.some)
cycle_excludes_end Names naming most o lead (suc round) cycle (rest, chain) =
    never_ends Names naming rest lead round o cycle.there cycle.once cycle.back chain

pub cycle_begins : (Names : ℕ → ℕ → Type 0) (most o lead round : ℕ) → IsCycle Names most o lead round → IsAt Names o
cycle_begins Names most o zero zero cycle = absurd (omega (arith, cycle.some))
cycle_begins Names most o zero (suc round) cycle = (cycle.back.0, rw cycle.once cycle.back.1.names)
cycle_begins Names most o (suc lead) round cycle = (cycle.once.0, cycle.once.1.names)

pub cycle_excludes : (Names : ℕ → ℕ → Type 0) → IsNaming Names → (most o lead round : ℕ)
    → IsCycle Names most o lead round → ¬ AllEnd Names
cycle_excludes Names naming most o lead round cycle end =
    cycle_excludes_end Names naming most o lead round cycle (end o (cycle_begins Names most o lead round cycle))

pub ends_or_round : (Names : ℕ → ℕ → Type 0) (most : ℕ) → IsNaming Names → IsNumbered Names most → NoneDangles Names
    → EndOrGoRound Names most
ends_or_round Names most naming numbered valid =
    record {
      either = ends_or_goes_round Names most naming numbered valid;
      apart = λ o ends round. cycle_excludes_end Names naming most o round.0 round.1 round.2 ends;
    }

-- ---- what can be decided

pub names_decided : (Names : ℕ → ℕ → Type 0) → IsNaming Names → (o p : ℕ) → Decided (Names o p)
names_decided Names naming o p =
    elim (naming.decide o) [
      | inr none ↦ inr (λ names. none (p, names))
      | inl (q, here) ↦ decided_as (λ is. subst (Names o) is here) (λ names. naming.one o q p here names) (same q p)
    ]

step_decided : (Names : ℕ → ℕ → Type 0) → IsNaming Names → (o : ℕ) → Decided ((p : ℕ) × IsStep Names o p)
step_decided Names naming o =
    elim (naming.decide o) [
      | inr none ↦ inr (λ h. none (h.0, h.1.names))
      | inl (p, names) ↦
          decided_as (λ h. (p, record { names = names; some = h.0; there = h.1 }))
          (λ h. subst (λ (q : ℕ). (q ≢ 0) × IsAt Names q) (naming.one o h.0 p h.1.names names) (h.1.some, h.1.there))
          (both (differs p 0) (naming.decide p))
    ]

leads_to_one : (Names : ℕ → ℕ → Type 0) → IsNaming Names → (n o p q : ℕ) → LeadsTo Names n o p → LeadsTo Names n o q
    → p ≡ q
leads_to_one Names naming zero o p q one other = sym one ∙ other
leads_to_one Names naming (suc n) o p q one other =
    let is = naming.one o one.0 other.0 one.1.names other.1.names in
    leads_to_one Names naming n other.0 p q (subst (λ (x : ℕ). LeadsTo Names n x p) is one.2) other.2

leads_decided : (Names : ℕ → ℕ → Type 0) → IsNaming Names → (n o : ℕ) → Decided ((p : ℕ) × LeadsTo Names n o p)
leads_decided Names naming zero o = inl (o, refl)
leads_decided Names naming (suc n) o =
    elim (step_decided Names naming o) [
      | inr none ↦ inr (λ h. none (h.1.0, h.1.1))
      | inl (next, step) ↦
          decided_as (λ h. (h.0, (next, step, h.1)))
          (λ h. (h.0, subst (λ (x : ℕ). LeadsTo Names n x h.0) (naming.one o h.1.0 next h.1.1.names step.names) h.1.2))
          (leads_decided Names naming n next)
    ]

leads_to_decided : (Names : ℕ → ℕ → Type 0) → IsNaming Names → (n o p : ℕ) → Decided (LeadsTo Names n o p)
leads_to_decided Names naming n o p =
    elim (leads_decided Names naming n o) [
      | inr none ↦ inr (λ h. none (p, h))
      | inl (q, leads) ↦
          decided_as (λ is. subst (LeadsTo Names n o) is leads) (λ h. leads_to_one Names naming n o q p leads h)
          (same q p)
    ]

pub cycle_decided : (Names : ℕ → ℕ → Type 0) → IsNaming Names → (most o lead round : ℕ)
    → Decided (IsCycle Names most o lead round)
cycle_decided Names naming most o lead round =
    elim (leads_decided Names naming lead o) [
      | inr none ↦ inr (λ cycle. none (cycle.there, cycle.once))
      | inl (p, once) ↦
          decided_as (λ h. record { there = p; once = once; back = h.0; some = h.1; fits = h.2 })
          (λ cycle. (
            subst (λ (x : ℕ). LeadsTo Names round x x)
                (leads_to_one Names naming lead o cycle.there p cycle.once once) cycle.back,
            cycle.some,
            cycle.fits,
          ))
          (all3 (leads_to_decided Names naming round p p) (at_most 1 round) (at_most (lead + round) most))
    ]
