-- What can be decided, and what follows if it does not hold.
use Rattle.std.proofs.Common.{◌≡◌, ℕ, ◌<◌, ◌≤◌, Option, Some, None, refl, ap, subst, inl, inr, arith}
use Rattle.std.proofs.lemmas.Option.{none-some, same_Some}
use Rattle.std.specs.Prelude.{◌⊎◌, ◌≢◌, Bool, true, false}
use Rattle.std.proofs.lemmas.Bool.{cases_lt, cases_eq, cases_Bool, both_ways}
use Rattle.acpi_base.proofs.Options.{cases_Option, none_and_some, same_value}

-- P holds or does not
abbrev pub Decided : Type 0 → Type 0
Decided P = P ⊎ ¬ P

pub decided_as : {A B : Type 0} → (A → B) → (B → A) → Decided A → Decided B
decided_as to from (inl a) = inl (to a)
decided_as to from (inr fails) = inr (λ b. fails (from b))

pub both : {A B : Type 0} → Decided A → Decided B → Decided (A × B)
both (inl a) (inl b) = inl (a, b)
both (inr fails) _ = inr (λ h. fails h.0)
both _ (inr fails) = inr (λ h. fails h.1)

pub all3 : {A B C : Type 0} → Decided A → Decided B → Decided C → Decided (A × B × C)
all3 a b c = decided_as (λ h. (h.0, h.1.0, h.1.1)) (λ h. (h.0, (h.1, h.2))) (both a (both b c))

pub all4 : {A B C D : Type 0} → Decided A → Decided B → Decided C → Decided D → Decided (A × B × C × D)
all4 a b c d = decided_as (λ h. (h.0, h.1.0, h.1.1, h.1.2)) (λ h. (h.0, (h.1, h.2, h.3))) (both a (all3 b c d))

pub all5 : {A B C D E : Type 0} → Decided A → Decided B → Decided C → Decided D → Decided E
    → Decided (A × B × C × D × E)
all5 a b c d e =
    decided_as (λ h. (h.0, h.1.0, h.1.1, h.1.2, h.1.3)) (λ h. (h.0, (h.1, h.2, h.3, h.4))) (both a (all4 b c d e))

pub either : {A B : Type 0} → Decided A → Decided B → Decided (A ⊎ B)
either (inl a) _ = inl (inl a)
either _ (inl b) = inl (inr b)
either (inr a) (inr b) = inr (λ h. elim h [ inl x ↦ a x | inr y ↦ b y ])

pub below : (a b : ℕ) → Decided (a < b)
below a b = elim (cases_lt a b) [ inl less ↦ inl less | inr more ↦ inr (λ less. omega arith) ]

pub at_most : (a b : ℕ) → Decided (a ≤ b)
at_most a b = elim (cases_lt b a) [ inl more ↦ inr (λ most. omega arith) | inr most ↦ inl most ]

pub same : (a b : ℕ) → Decided (a ≡ b)
same a b = cases_eq a b

pub differs : (a b : ℕ) → Decided (a ≢ b)
differs a b = elim (cases_eq a b) [ inl is ↦ inr (λ other. other is) | inr other ↦ inl other ]

pub negated : {A : Type 0} → Decided A → Decided (¬ A)
negated (inl a) = inr (λ fails. fails a)
negated (inr fails) = inl fails

pub is_true : (b : Bool) → Decided (b ≡ true)
is_true b = elim (cases_Bool b) [ inl t ↦ inl t | inr f ↦ inr (λ t. both_ways b f t) ]

pub is_false : (b : Bool) → Decided (b ≡ false)
is_false b = elim (cases_Bool b) [ inl t ↦ inr (λ f. both_ways b f t) | inr f ↦ inl f ]

pub is_none : {X : Type 0} (o : Option X) → Decided (o ≡ None)
is_none None = inl refl
is_none (Some x) = inr (λ none. none_and_some none refl)

pub is_some : {X : Type 0} (o : Option X) → Decided ((x : X) × (o ≡ Some x))
is_some (Some x) = inl (x, refl)
is_some None = inr (λ h. none-some h.0 h.1)

pub is_some_number : (o : Option ℕ) (k : ℕ) → Decided (o ≡ Some k)
is_some_number None k = inr (λ is. none-some k is)
is_some_number (Some j) k = decided_as (λ is. ap Some is) (λ is. same_Some j k is) (same j k)

pub is_some_with : {X : Type 0} (o : Option X) (P : X → Type 0) → ((x : X) → Decided (P x))
    → Decided ((x : X) × (o ≡ Some x) × P x)
is_some_with o P decide =
    elim (cases_Option o) [
      | inr none ↦ inr (λ h. none_and_some none h.1)
      | inl (x, is) ↦
          elim (decide x) [
            | inl holds ↦ inl (x, is, holds)
            | inr fails ↦ inr (λ h. fails (subst P (same_value h.0 x h.1 is) h.2))
          ]
    ]

pub not_below : (a b : ℕ) → ¬ (a < b) → b ≤ a
not_below a b fails = elim (cases_lt a b) [ inl less ↦ absurd (fails less) | inr most ↦ most ]

pub not_other : (a b : ℕ) → ¬ (a ≢ b) → a ≡ b
not_other a b fails = elim (cases_eq a b) [ inl is ↦ is | inr other ↦ absurd (fails other) ]

pub not_false : (b : Bool) → ¬ (b ≡ false) → b ≡ true
not_false b fails = elim (cases_Bool b) [ inl t ↦ t | inr f ↦ absurd (fails f) ]

pub not_none : {X : Type 0} (o : Option X) → ¬ (o ≡ None) → (x : X) × (o ≡ Some x)
not_none o fails = elim (cases_Option o) [ inl some ↦ some | inr none ↦ absurd (fails none) ]
