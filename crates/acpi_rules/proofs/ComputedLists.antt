-- Tests of the elements of a list and lists for each element, by computing, for examples.
use Rattle.std.proofs.Common.{ℕ, List, [], ◌∷◌, ◌++◌, Bool, inl, inr, refl, sym, subst}
use Rattle.std.specs.Prelude.{◌==◌, ◌&&◌, ◌||◌, Contains, nat_lt, nat_le}
use Rattle.std.specs.Bool.{Decides}
use Rattle.std.specs.List.{list_all, list_any}
use Rattle.std.proofs.lemmas.Bool.{leb-true, le-leb}
use Rattle.std.proofs.lemmas.Bool.Decides.{Decides-and, Decides-eqb, Decides-ltb, Decides-or}
use Rattle.std.proofs.lemmas.List.Elements.{Contains-append_left, Contains-append_right, Contains-append_cases}
use Rattle.acpi_base.proofs.Elements.{first_element, first_or_later, later_element, no_element}
use Rattle.acpi_rules.specs.Numbered.{IsNoLater}
use Rattle.acpi_rules.specs.declared.numbered.Numbered.{Numbered}
use Rattle.acpi_rules.specs.declared.place.Place.{Place}

-- ---- tests of all elements

pub decides_all : {X : Type 0} (p : X → Bool) (P : X → Type 0) → ((x : X) → Decides (p x) (P x)) → (xs : List X)
    → Decides (list_all p xs) ((x : X) → Contains xs x → P x)
decides_all p P each [] = (λ passes x listed. absurd (no_element x listed), λ all. refl)
decides_all {X} p P each (u ∷ xs) =
    let rest = decides_all p P each xs in
    let both = Decides-and (p u) (list_all p xs) (each u) rest in (
      λ passes x listed.
          let parts = both.0 passes in
          elim (first_or_later u x xs listed) [
            | inl same ↦ subst P same parts.0
            | inr later ↦ parts.1 x later
          ],
      λ all. both.1 (all u (first_element u xs), λ x later. all x (later_element u x xs later)),
    )

pub decides_any : {X : Type 0} (p : X → Bool) (P : X → Type 0) → ((x : X) → Decides (p x) (P x)) → (xs : List X)
    → Decides (list_any p xs) ((x : X) × Contains xs x × P x)
decides_any p P each [] = (λ passes. absurd cc, λ (x, listed, is). absurd (no_element x listed))
decides_any {X} p P each (u ∷ xs) =
    let rest = decides_any p P each xs in
    let either = Decides-or (p u) (list_any p xs) (each u) rest in (
      λ passes. elim (either.0 passes) [
        | inl here ↦ (u, first_element u xs, here)
        | inr (x, listed, is) ↦ (x, later_element u x xs listed, is)
      ],
      λ (x, listed, is). either.1
          (elim (first_or_later u x xs listed) [
            | inl same ↦ inl (subst P (sym same) is)
            | inr later ↦ inr (x, later, is)
          ]),
    )

-- ---- lists for each element

abbrev pub over : {X Y : Type 0} → (X → List Y) → List X → List Y
over f [] = []
over f (x ∷ xs) = f x ++ over f xs

pub over_has : {X Y : Type 0} (f : X → List Y) (xs : List X) (x : X) (y : Y) → Contains xs x → Contains (f x) y
    → Contains (over f xs) y
over_has f [] x y listed within = absurd (no_element x listed)
over_has {X} f (u ∷ xs) x y listed within =
    elim (first_or_later u x xs listed) [
      | inl same ↦
          Contains-append_left (f u) (over f xs) y (subst (λ (z : X). Contains (f z) y) (sym same) within)
      | inr later ↦ Contains-append_right (f u) (over f xs) y (over_has f xs x y later within)
    ]

pub over_from : {X Y : Type 0} (f : X → List Y) (xs : List X) (y : Y) → Contains (over f xs) y
    → (x : X) × Contains xs x × Contains (f x) y
over_from f [] y listed = absurd (no_element y listed)
over_from f (u ∷ xs) y listed =
    elim (Contains-append_cases (f u) (over f xs) y listed) [
      | inl here ↦ (u, first_element u xs, here)
      | inr later ↦
          let (x, rest, within) = over_from f xs y later in (x, later_element u x xs rest, within)
    ]

-- ---- places, and their order

-- this place is among these
abbrev pub IsAmong : List Place → ℕ → ℕ → ℕ → Type 0
IsAmong ps at other point = Contains ps (record { at = at; other = other; point = point })

abbrev pub no_later : Numbered → Numbered → Bool
no_later f h = nat_lt f.at h.at || ((f.at == h.at) && nat_le f.value h.value)

pub decides_no_later : (f h : Numbered) → Decides (no_later f h) (IsNoLater f h)
decides_no_later f h =
    Decides-or (nat_lt f.at h.at) _ (Decides-ltb f.at h.at)
    (Decides-and (f.at == h.at) _ (Decides-eqb f.at h.at) (leb-true f.value h.value, le-leb f.value h.value))
