-- Least elements: what can be decided holds of nothing, or of a first one, in the order of one number, of several, or
-- of witnesses.
use Rattle.std.proofs.Common.{◌≡◌, ℕ, zero, suc, ◌+◌, ◌<◌, ◌≤◌, length, refl, sym, ◌∙◌, subst, inl, inr, arith}
use Rattle.std.specs.Prelude.{◌⊎◌}
use Rattle.std.proofs.lemmas.Bool.{cases_lt, cases_order}
use Rattle.acpi_base.specs.Codes.{all_codes, code_number}
use Rattle.acpi_base.specs.Faults.{NotAfter}
use Rattle.acpi_base.specs.declared.code.Code.{Code}
use Rattle.acpi_base.specs.declared.witness.Witness.{Witness}
use Rattle.acpi_base.proofs.Faults.Deciding.{Decided}
use Rattle.acpi_base.proofs.Faults.Numbers.{code_below, code_with_number, same_code}

-- P holds of k, and of no number below
pub record IsLeast (P : ℕ → Type 0) (k : ℕ) : Type 0 where
  pub holds : P k
  pub none_below : (j : ℕ) → j < k → ¬ P j

pub least_below : (P : ℕ → Type 0) → ((k : ℕ) → Decided (P k)) → (n : ℕ)
    → ((k : ℕ) → k < n → ¬ P k) ⊎ ((k : ℕ) × (k < n) × IsLeast P k)
least_below P decide zero = inl (λ k below. absurd (omega arith))
least_below P decide (suc n) = more P n (least_below P decide n) (decide n)
  where
    more : (P : ℕ → Type 0) (n : ℕ) → ((k : ℕ) → k < n → ¬ P k) ⊎ ((k : ℕ) × (k < n) × IsLeast P k) → Decided (P n)
        → ((k : ℕ) → k < suc n → ¬ P k) ⊎ ((k : ℕ) × (k < suc n) × IsLeast P k)
    more P n (inr (k, below, least)) _ = inr (k, omega arith, least)
    more P n (inl none) (inl here) = inr (n, omega arith, record { holds = here; none_below = none })
    more P n (inl none) (inr not_here) =
        inl (λ k below. elim (cases_lt k n) [
          | inl less ↦ none k less
          | inr last ↦
              subst (λ x. ¬ P x) (omega arith) not_here
        ])

pub some_below : (n : ℕ) (P : ℕ → Type 0) → ((k : ℕ) → Decided (P k)) → Decided ((k : ℕ) × (k < n) × P k)
some_below n P decide =
    elim (least_below P decide n) [
      | inl none ↦ inr (λ h. none h.0 h.1 h.2)
      | inr (k, inside, least) ↦ inl (k, inside, least.holds)
    ]

pub bounded : (f : ℕ → ℕ) (n : ℕ) → (most : ℕ) × ((k : ℕ) → k < n → f k < most)
bounded f zero = (0, λ k below. absurd (omega arith))
bounded f (suc n) = more f n (bounded f n)
  where
    more : (f : ℕ → ℕ) (n : ℕ) → (most : ℕ) × ((k : ℕ) → k < n → f k < most)
        → (most : ℕ) × ((k : ℕ) → k < suc n → f k < most)
    more f n rest = (rest.0 + f n + 1, λ k below. grind (arith, cases_lt k n, rest.1 k))

-- P holds of x, and of nothing that comes before x
pub record IsFirstInOrder {X : Type 0} (Order : X → X → Type 0) (P : X → Type 0) (x : X) : Type 0 where
  pub holds : P x
  pub least : (y : X) → P y → Order x y

abbrev pub NoneOrFirst : {X : Type 0} → (X → X → Type 0) → (X → Type 0) → Type 0
NoneOrFirst {X = X} Order P = ((x : X) → ¬ P x) ⊎ ((x : X) × IsFirstInOrder Order P x)

-- the order by a number, and if it is the same by another order
abbrev pub ByNumber : {X : Type 0} → (X → ℕ) → (X → X → Type 0) → X → X → Type 0
ByNumber f Later x y = (f x < f y) ⊎ ((f x ≡ f y) × Later x y)

-- P holds of something with that number
abbrev At : {X : Type 0} → (X → ℕ) → (X → Type 0) → ℕ → X → Type 0
At f P k x = P x × (f x ≡ k)

pub first_by : {X : Type 0} (f : X → ℕ) (Later : X → X → Type 0) (P : X → Type 0) (n : ℕ) → ((x : X) → P x → f x < n)
    → ((k : ℕ) → NoneOrFirst Later (At f P k)) → NoneOrFirst (ByNumber f Later) P
first_by {X} f Later P n below each =
    elim (least_below (λ k. (x : X) × At f P k x) somewhere n) [
      | inl none ↦ inl (λ x here. none (f x) (below x here) (x, (here, refl)))
      | inr (k, inside, least) ↦
          elim (each k) [
            | inl none ↦ absurd (none least.holds.0 least.holds.1)
            | inr (x, first) ↦
                inr (
                  x,
                  record {
                    holds = first.holds.0;
                    least =
                        λ y here. after k x first y (least.none_below (f y)) here;
                  },
                )
          ]
    ]
  where
    somewhere : (k : ℕ) → Decided ((x : X) × At f P k x)
    somewhere k = elim (each k) [ inl none ↦ inr (λ h. none h.0 h.1) | inr (x, first) ↦ inl (x, first.holds) ]

    after : (k : ℕ) (x : X) → IsFirstInOrder Later (At f P k) x → (y : X) → (f y < k → ¬ ((z : X) × At f P (f y) z))
        → P y → ByNumber f Later x y
    after k x first y none here = grind (arith, cases_order (f x) (f y), first.holds.1, first.least y, none)

pub first_at : {X : Type 0} (f : X → ℕ) (P : X → Type 0) (n : ℕ) → ((x : X) → P x → f x < n)
    → ((k : ℕ) → Decided ((x : X) × At f P k x)) → NoneOrFirst (λ x y. f x ≤ f y) P
first_at {X} f P n below decide =
    elim (first_by f (λ _ _. Unit {0}) P n below each) [
      | inl none ↦ inl none
      | inr (x, first) ↦ inr (x, record { holds = first.holds; least = λ y here. omega (arith, first.least y here) })
    ]
  where
    each : (k : ℕ) → NoneOrFirst (λ _ _. Unit {0}) (At f P k)
    each k =
        elim (decide k) [
          | inl (x, here) ↦ inr (x, record { holds = here; least = λ _ _. tt })
          | inr none ↦ inl (λ x here. none (x, here))
        ]

abbrev pub witness : Code → ℕ → ℕ → ℕ → Witness
witness c at other point = record { code = c; at = at; other = other; point = point }

pub same_parts : {c d : Code} {a b a' b' a'' b'' : ℕ} → c ≡ d → a ≡ b → a' ≡ b' → a'' ≡ b''
    → witness c a a' a'' ≡ witness d b b' b''
same_parts code at other point = cc

-- the order of witnesses, from its last number on
abbrev ByPoint : Witness → Witness → Type 0
ByPoint w v = w.point ≤ v.point

abbrev ByOther : Witness → Witness → Type 0
ByOther = ByNumber (λ w. w.other) ByPoint

abbrev ByCode : Witness → Witness → Type 0
ByCode = ByNumber (λ w. code_number w.code) ByOther

-- P of a witness with one, two, three or four of its numbers given
abbrev AtPlace : (Witness → Type 0) → ℕ → Witness → Type 0
AtPlace P a = At (λ w. w.at) P a

abbrev WithCode : (Witness → Type 0) → ℕ → ℕ → Witness → Type 0
WithCode P a c = At (λ w. code_number w.code) (AtPlace P a) c

abbrev WithOther : (Witness → Type 0) → ℕ → ℕ → ℕ → Witness → Type 0
WithOther P a c o = At (λ w. w.other) (WithCode P a c) o

abbrev WithPoint : (Witness → Type 0) → ℕ → ℕ → ℕ → ℕ → Witness → Type 0
WithPoint P a c o p = At (λ w. w.point) (WithOther P a c o) p

decide_numbers : (P : Witness → Type 0) → ((w : Witness) → Decided (P w)) → (a c o p : ℕ)
    → Decided ((w : Witness) × WithPoint P a c o p w)
decide_numbers P decide a c o p =
    elim (code_with_number c) [
      | inr none ↦ inr (λ h. none h.0.code h.1.0.0.1)
      | inl (code, number) ↦
          elim (decide (witness code a o p)) [
            | inl here ↦ inl (witness code a o p, ((((here, refl), number), refl), refl))
            | inr fails ↦
                inr
                (λ h. fails (subst P (same_parts (same_code h.0.code code (h.1.0.0.1 ∙ sym number)) h.1.0.0.0.1 h.1.0.1
                h.1.1) h.1.0.0.0.0))
          ]
    ]

pub first_witness : (P : Witness → Type 0) (n : ℕ) → ((w : Witness) → P w → (w.at < n) × (w.other < n) × (w.point < n))
    → ((w : Witness) → Decided (P w)) → NoneOrFirst NotAfter P
first_witness P n below decide =
    first_by (λ w. w.at) ByCode P n (λ w here. (below w here).0)
    (λ a. first_by (λ w. code_number w.code) ByOther (AtPlace P a) (suc (length all_codes))
    (λ w _. omega (arith, code_below w.code))
    (λ c. first_by (λ w. w.other) ByPoint (WithCode P a c) n (λ w here. (below w here.0.0).1)
    (λ o. first_at (λ w. w.point) (WithOther P a c o) n (λ w here. (below w here.0.0.0).2)
    (decide_numbers P decide a c o))))
