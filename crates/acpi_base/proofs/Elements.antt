-- The elements of a list.
use Rattle.std.proofs.Common.{◌≡◌, ℕ, zero, suc, ◌+◌, ◌<◌, List, [], ◌∷◌, map, refl, sym, ap, subst, inl, inr, arith}
use Rattle.std.specs.Prelude.{◌⊎◌, Contains}
use Rattle.acpi_base.proofs.Faults.Deciding.{Decided}

pub first_element : {X : Type 0} (x : X) (xs : List X) → Contains (x ∷ xs) x
first_element x xs = (zero, omega arith, refl)

pub later_element : {X : Type 0} (x y : X) (xs : List X) → Contains xs y → Contains (x ∷ xs) y
later_element x y xs (k, below, is) = (suc k, omega arith, is)

pub first_or_later : {X : Type 0} (x y : X) (xs : List X) → Contains (x ∷ xs) y → (x ≡ y) ⊎ Contains xs y
first_or_later x y xs (zero, below, is) = inl is
first_or_later x y xs (suc k, below, is) = inr (k, omega arith, is)

pub no_element : {X : Type 0} (y : X) → ¬ Contains [] y
no_element y (k, below, is) = omega arith

pub element_of_map : {X Y : Type 0} (f : X → Y) (xs : List X) (y : Y) → Contains (map f xs) y
    → (x : X) × Contains xs x × (f x ≡ y)
element_of_map f [] y h = absurd (no_element y h)
element_of_map f (x ∷ xs) y h =
    elim (first_or_later (f x) y (map f xs) h) [
      | inl is ↦ (x, first_element x xs, is)
      | inr later ↦ let found = element_of_map f xs y later in (found.0, later_element x found.0 xs found.1, found.2)
    ]

pub bounded : {X : Type 0} (f : X → ℕ) (xs : List X) → (most : ℕ) × ((x : X) → Contains xs x → f x < most)
bounded f [] = (0, λ x h. absurd (no_element x h))
bounded f (x ∷ xs) =
    let rest = bounded f xs in (
      f x + 1 + rest.0,
      λ y h. elim (first_or_later x y xs h) [
        | inl is ↦ omega (arith, ap f is)
        | inr later ↦
            omega (arith, rest.1 y later)
      ],
    )

pub element_decided : {X : Type 0} (xs : List X) (P : X → Type 0) → ((x : X) → Decided (P x))
    → Decided ((x : X) × Contains xs x × P x)
element_decided [] P decide = inr (λ h. no_element h.0 h.1)
element_decided (x ∷ xs) P decide =
    elim (decide x) [
      | inl here ↦ inl (x, first_element x xs, here)
      | inr fails ↦
          elim (element_decided xs P decide) [
            | inl (y, later, holds) ↦ inl (y, later_element x y xs later, holds)
            | inr none ↦ inr (λ h. elim (first_or_later x h.0 xs h.1) [
              | inl is ↦
                  fails (subst P (sym is) h.2)
              | inr later ↦ none (h.0, later, h.2)
            ])
          ]
    ]
