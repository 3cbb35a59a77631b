-- Lists in which keys rise: made by adding what has the next key, and the first element with a property.
use Rattle.std.proofs.Common.{◌≡◌, ◌≢◌, ℕ, ◌+◌, ◌<◌, ◌≤◌, List, [], ◌∷◌, ◌++◌, length, get_or, sym, ap, subst, ◌∙◌, inl, inr, arith}
use Rattle.std.specs.Prelude.{◌⊎◌, AllPairs, Contains}
use Rattle.std.proofs.Math.ListN.{get_or-append}
use Rattle.std.proofs.Math.Seq.{get_or-append_seam}
use Rattle.std.proofs.lemmas.Bool.{cases_lt, cases_eq, cases_order}
use Rattle.std.proofs.lemmas.List.{get_or_default, length-append}
use Rattle.std.proofs.lemmas.List.Elements.{Contains-append_left, Contains-push, Contains-push_cases, Contains-get_or}
use Rattle.acpi_base.proofs.Elements.{no_element}

-- these are all with P whose keys are below n, and their keys rise
pub record IsUpTo {X : Type 0} (P : X → Type 0) (key : X → ℕ) (n : ℕ) (xs : List X) : Type 0 where
  pub listed : (x : X) → Contains xs x → P x × (key x < n)
  pub all : (x : X) → P x → key x < n → Contains xs x
  pub rise : AllPairs (λ x y. key x < key y) xs

pub none_below : {X : Type 0} (P : X → Type 0) (key : X → ℕ) (n : ℕ) → ((x : X) → P x → n ≤ key x)
    → IsUpTo P key n []
none_below P key n above =
    record {
      listed = λ x here. absurd (no_element x here);
      all = λ x holds below. absurd (omega (arith, above x holds, below));
      rise = λ i j d before within. absurd (omega (arith, within));
    }

pub none_until : {X : Type 0} {P : X → Type 0} {key : X → ℕ} {n : ℕ} {xs : List X} (next : ℕ) → IsUpTo P key n xs
    → n ≤ next → ((x : X) → P x → n ≤ key x → ¬ (key x < next)) → IsUpTo P key next xs
none_until {key = key} {n = n} next before upto none =
    record {
      listed = λ x here. (let (holds, below) = before.listed x here in (holds, omega (arith, below, upto)));
      all = λ x holds below. elim (cases_lt (key x) n) [
        | inl less ↦ before.all x holds less
        | inr from ↦ absurd (none x holds from below)
      ];
      rise = before.rise;
    }

pub none_next : {X : Type 0} {P : X → Type 0} {key : X → ℕ} {n : ℕ} {xs : List X} → IsUpTo P key n xs
    → ((x : X) → P x → key x ≢ n) → IsUpTo P key (n + 1) xs
none_next {key = key} {n = n} before none =
    none_until (n + 1) before (omega arith) (λ x holds from below. none x holds (omega (arith, from, below)))

pub rise_more : {X : Type 0} (key : X → ℕ) (xs : List X) (y : X) → AllPairs (λ x z. key x < key z) xs
    → ((x : X) → Contains xs x → key x < key y) → AllPairs (λ x z. key x < key z) (xs ++ y ∷ [])
rise_more {X} key xs y rise below i j d before within =
    let inside : i < length xs = omega (arith, before, within, length-append xs (y ∷ [])) in
    let first : get_or (xs ++ y ∷ []) i d ≡ get_or xs i d = get_or-append xs (y ∷ []) d i inside in
    elim (cases_lt j (length xs)) [
      | inl early ↦
          rw (first, get_or-append xs (y ∷ []) d j early) (rise i j d before early)
      | inr late ↦
          let last : j ≡ length xs = omega (arith, late, within, length-append xs (y ∷ [])) in
          rw (first, last, get_or-append_seam xs y [] d) (below (get_or xs i d) (Contains-get_or xs i d inside))
    ]

pub one_next : {X : Type 0} {P : X → Type 0} {key : X → ℕ} {n : ℕ} {xs : List X} (y : X) → IsUpTo P key n xs → P y
    → key y ≡ n → ((x : X) → P x → key x ≡ n → x ≡ y) → IsUpTo P key (n + 1) (xs ++ y ∷ [])
one_next {X} {P} {key} {n} {xs} y before holds next one =
    record {
      listed = λ x here. elim (Contains-push_cases xs y x here) [
        | inl early ↦ (let (holds, below) = before.listed x early in (holds, omega arith))
        | inr same ↦ rw (← same) (holds, omega (arith, next))
      ];
      all = λ x also below. elim (cases_eq (key x) n) [
        | inl same ↦ rw (one x also same) (Contains-push xs y)
        | inr differs ↦ Contains-append_left xs (y ∷ []) x (before.all x also (omega (arith, differs, below)))
      ];
      rise = rise_more key xs y before.rise (λ x here. omega (arith, (before.listed x here).1, next));
    }

-- ---- the first with P

-- if none before i has P, one with P is the one at i, or has a greater key
pub at_or_behind : {X : Type 0} (key : X → ℕ) (P : X → Type 0) (xs : List X) (i : ℕ) (d t : X)
    → AllPairs (λ x y. key x < key y) xs → i < length xs → ((j : ℕ) → j < i → ¬ P (get_or xs j d)) → Contains xs t
    → P t → (t ≡ get_or xs i d) ⊎ (key (get_or xs i d) < key t)
at_or_behind {X} key P xs i d t rise within passed (j, inside, is) holds =
    let there : get_or xs j d ≡ t = get_or_default xs j d t inside ∙ is in
    elim (cases_order i j) [
      | inl same ↦ inl (sym there ∙ ap (λ (k : ℕ). get_or xs k d) (sym same))
      | inr (inl before) ↦ inr
          (subst (λ (x : X). key (get_or xs i d) < key x) there (rise i j d before inside))
      | inr (inr behind) ↦ absurd (passed j behind (subst P (sym there) holds))
    ]

pub none_such : {X : Type 0} (P : X → Type 0) (xs : List X) (i : ℕ) (d t : X) → length xs ≤ i
    → ((j : ℕ) → j < i → ¬ P (get_or xs j d)) → Contains xs t → ¬ P t
none_such P xs i d t end passed (j, inside, is) holds =
    passed j (omega (arith, inside, end)) (subst P (sym (get_or_default xs j d t inside ∙ is)) holds)
