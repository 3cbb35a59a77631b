-- Walks along chains, such as those over nodes that are no physical packages: where they lead, and whether they end.
use Rattle.std.proofs.Common.{◌≡◌, ◌≢◌, ℕ, zero, suc, ◌<◌, ◌≤◌, ◌⊎◌, Bool, true, false, List, [], ◌∷◌, length, get_or, set, refl, sym, ◌∙◌, subst, inl, inr, arith}
use Rattle.std.proofs.lemmas.Bool.{cases_eq}
use Rattle.std.proofs.lemmas.List.{get_or-set_other, length-set}
use Rattle.acpi_base.specs.Chains.{IsAt, IsChain, Ends}

-- an offset names one at most
abbrev pub NamesOne : (ℕ → ℕ → Type 0) → Type 0
NamesOne Names = (o p q : ℕ) → Names o p → Names o q → p ≡ q

-- the chain from o on ends after so many steps
abbrev pub EndsAfter : (ℕ → ℕ → Type 0) → ℕ → ℕ → Type 0
EndsAfter Names o n = (rest : List ℕ) × IsChain Names o rest × (length rest ≡ n)

-- if the chain from o on ends, that from p on does, after no more steps; and after fewer
abbrev pub Leads : (ℕ → ℕ → Type 0) → ℕ → ℕ → Type 0
Leads Names o p = (n : ℕ) → EndsAfter Names o n → (m : ℕ) × (m ≤ n) × EndsAfter Names p m

abbrev pub LeadsOn : (ℕ → ℕ → Type 0) → ℕ → ℕ → Type 0
LeadsOn Names o p = (n : ℕ) → EndsAfter Names o n → (m : ℕ) × (m < n) × EndsAfter Names p m

one_step : (Names : ℕ → ℕ → Type 0) → NamesOne Names → (o p : ℕ) → Names o p → p ≢ 0 → LeadsOn Names o p
one_step Names one o p names some n ([], last, is) = absurd (some (one o p 0 names last))
one_step Names one o p names some n (q ∷ rest, (step, chain), is) = (
  length rest,
  omega (arith, is),
  (
    rest,
    subst (λ (x : ℕ). IsChain Names x rest)
        (one o q p step.names names) chain,
    refl,
  ),
)

leads_then : (Names : ℕ → ℕ → Type 0) (o p q : ℕ) → Leads Names o p → LeadsOn Names p q → Leads Names o q
leads_then Names o p q first second n ends =
    let (m, upto, more) = first n ends in
    let (l, less, last) = second m more in
    (l, omega (arith, upto, less), last)

leads_on_then : (Names : ℕ → ℕ → Type 0) (o p q : ℕ) → LeadsOn Names o p → LeadsOn Names p q → LeadsOn Names o q
leads_on_then Names o p q first second n ends =
    let (m, upto, more) = first n ends in
    let (l, less, last) = second m more in
    (l, omega (arith, upto, less), last)

ends_too : (Names : ℕ → ℕ → Type 0) (o p : ℕ) → Leads Names o p → Ends Names o → Ends Names p
ends_too Names o p leads (rest, chain) =
    let (m, upto, (others, more, _)) = leads (length rest) (rest, chain, refl) in
    (others, more)

ends_on : (Names : ℕ → ℕ → Type 0) (o p : ℕ) → LeadsOn Names o p → Ends Names o → Ends Names p
ends_on Names o p leads (rest, chain) =
    let (m, upto, (others, more, _)) = leads (length rest) (rest, chain, refl) in
    (others, more)

-- a chain that comes back does not end
never : (Names : ℕ → ℕ → Type 0) (o : ℕ) → LeadsOn Names o o → (most n : ℕ) → n < most → ¬ EndsAfter Names o n
never Names o back zero n below ends = omega (arith, below)
never Names o back (suc most) n below ends =
    let (m, less, more) = back n ends in never Names o back most m (omega (arith, less, below)) more

no_return : (Names : ℕ → ℕ → Type 0) (o : ℕ) → LeadsOn Names o o → ¬ Ends Names o
no_return Names o back (rest, chain) = never Names o back (suc (length rest)) (length rest) (omega arith)
    (rest, chain, refl)

pub nowhere : (Names : ℕ → ℕ → Type 0) (o : ℕ) → ((p : ℕ) → ¬ Names o p) → ¬ Ends Names o
nowhere Names o none ([], last) = none 0 last
nowhere Names o none (p ∷ rest, (step, chain)) = none p step.names

begins : (Names : ℕ → ℕ → Type 0) (o : ℕ) → Ends Names o → IsAt Names o
begins Names o ([], last) = (0, last)
begins Names o (p ∷ rest, (step, chain)) = (p, step.names)

ends_before : (Names : ℕ → ℕ → Type 0) (o p : ℕ) → Names o p → p ≢ 0 → Ends Names p → Ends Names o
ends_before Names o p names some (rest, chain) =
    (p ∷ rest, (record { names = names; some = some; there = begins Names p (rest, chain) }, chain))

-- ---- a walk from `start`, which is at `here`; it has marked the offsets that it was at

pub record IsWalk (Names : ℕ → ℕ → Type 0) (offsets : List ℕ) (visited : List Bool) (start here : ℕ) : Type 0 where
  pub count : length visited ≡ length offsets
  pub back : Ends Names here → Ends Names start
  pub leads : Leads Names start here
  pub marks : (k : ℕ) → k < length offsets → get_or visited k false ≡ true
      → (¬ Ends Names (get_or offsets k 0)) ⊎ LeadsOn Names (get_or offsets k 0) here

-- no chain from an offset that is marked ends
abbrev pub NoneEnds : (ℕ → ℕ → Type 0) → List ℕ → List Bool → Type 0
NoneEnds Names offsets visited =
    (k : ℕ) → k < length offsets → get_or visited k false ≡ true → ¬ Ends Names (get_or offsets k 0)

pub walk_on : (Names : ℕ → ℕ → Type 0) (offsets : List ℕ) (visited : List Bool) (start here next index : ℕ)
    → NamesOne Names → IsWalk Names offsets visited start here → index < length offsets → get_or offsets index 0 ≡ here
    → Names here next → next ≢ 0 → IsWalk Names offsets (set visited index true) start next
walk_on Names offsets visited start here next index one walk within is names some =
    record {
      count = length-set visited index true ∙ walk.count;
      back = λ ends. walk.back (ends_before Names here next names some ends);
      leads = leads_then Names start here next walk.leads step;
      marks = λ k inside marked.
          elim (cases_eq k index) [
            | inl same ↦ inr (rw same (subst (λ (o : ℕ). LeadsOn Names o next) (sym is) step))
            | inr differ ↦
                elim (walk.marks k inside (sym (get_or-set_other visited index k true false differ) ∙ marked)) [
                  | inl not ↦ inl not
                  | inr on ↦ inr (leads_on_then Names (get_or offsets k 0) here next on step)
                ]
          ];
    }
  where
    step : LeadsOn Names here next
    step = one_step Names one here next names some

-- the chain from where it is ends at a root
pub walk_ends : (Names : ℕ → ℕ → Type 0) (offsets : List ℕ) (visited : List Bool) (start here : ℕ)
    → IsWalk Names offsets visited start here → Names here 0 → Ends Names start
walk_ends Names offsets visited start here walk names = walk.back ([], names)

-- it does not end, so those from the marked offsets don't either
pub walk_stops : (Names : ℕ → ℕ → Type 0) (offsets : List ℕ) (visited : List Bool) (start here : ℕ)
    → IsWalk Names offsets visited start here → ¬ Ends Names here
    → (¬ Ends Names start) × NoneEnds Names offsets visited
walk_stops Names offsets visited start here walk none = (
  λ ends. none (ends_too Names start here walk.leads ends),
  λ k within marked ends.
      elim (walk.marks k within marked) [
        | inl not ↦ not ends
        | inr on ↦ none (ends_on Names (get_or offsets k 0) here on ends)
      ],
)

-- it was there before
pub walked_before : (Names : ℕ → ℕ → Type 0) (offsets : List ℕ) (visited : List Bool) (start here index : ℕ)
    → IsWalk Names offsets visited start here → index < length offsets → get_or offsets index 0 ≡ here
    → get_or visited index false ≡ true → ¬ Ends Names here
walked_before Names offsets visited start here index walk within is marked =
    elim (walk.marks index within marked) [
      | inl not ↦ subst (λ (o : ℕ). ¬ Ends Names o) is not
      | inr on ↦ no_return Names here (subst (λ (o : ℕ). LeadsOn Names o here) is on)
    ]

-- ---- relations that are the same

pub ends_as : {A B : ℕ → ℕ → Type 0} → ((o p : ℕ) → A o p → B o p) → (o : ℕ) (rest : List ℕ) → IsChain A o rest
    → IsChain B o rest
ends_as same o [] last = same o 0 last
ends_as {A} {B} same o (p ∷ rest) (step, chain) = (
  record { names = same o p step.names; some = step.some; there = (step.there.0, same p step.there.0 step.there.1) },
  ends_as same p rest chain,
)
