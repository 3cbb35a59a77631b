-- Lists of entries whose bytes are joined, one by one.
use Rattle.std.proofs.Common.{◌≡◌, ℕ, suc, ◌+◌, ◌<◌, ◌≤◌, List, [], ◌∷◌, ◌++◌, length, get_or, take, drop, map, flat_map, refl, sym, ap, subst, ◌∙◌, arith, append_assoc, append-nil, length-append, length-drop}
use Rattle.std.specs.Prelude.{Result, Ok, Err, OnOk}
use Rattle.std.specs.List.{All}
use Rattle.acpi_base.proofs.Layouts.RoundTrip.{length-number_bytes}
use Rattle.std.proofs.lemmas.List.{drop_more, drop_all, take_all, take_more, length-replicate}
use Rattle.std.proofs.lemmas.List.Elements.{All-push}

pub joined_more : {X : Type 0} (f : X → List ℕ) (xs : List X) (i : ℕ) (x : X) → i < length xs → x ≡ get_or xs i x
    → flat_map f (drop i xs) ≡ f x ++ flat_map f (drop (i + 1) xs)
joined_more f xs i x h e = ap (flat_map f) (drop_more xs i x h ∙ ap (λ y. y ∷ drop (i + 1) xs) (sym e))

pub joined_all : {X : Type 0} (f : X → List ℕ) (xs : List X) (i : ℕ) → length xs ≤ i → flat_map f (drop i xs) ≡ []
joined_all f xs i h = ap (flat_map f) (drop_all i xs h)

pub all_more : {X : Type 0} (P : X → Type 0) (xs : List X) (i : ℕ) (x : X) → i < length xs → x ≡ get_or xs i x
    → All P (take i xs) → P x → All P (take (i + 1) xs)
all_more P xs i x h e before holds =
    subst (All P) (sym (take_more xs i x h ∙ ap (λ y. take i xs ++ y ∷ []) (sym e)))
    (All-push P (take i xs) x before holds)

pub all_of : {X : Type 0} (P : X → Type 0) (xs : List X) (i : ℕ) → length xs ≤ i → All P (take i xs) → All P xs
all_of P xs i h all = subst (All P) (take_all i xs h) all

pub appended_more : {X : Type 0} (f : X → List ℕ) (xs : List X) (i : ℕ) (x : X) → i < length xs → x ≡ get_or xs i x
    → (before after all : List ℕ) → after ≡ before ++ f x → before ++ flat_map f (drop i xs) ≡ all
    → after ++ flat_map f (drop (i + 1) xs) ≡ all
appended_more f xs i x h e before after all added was =
    rw added (rw append_assoc (rw (← joined_more f xs i x h e) was))

pub appended_all : {X : Type 0} (f : X → List ℕ) (xs : List X) (i : ℕ) → length xs ≤ i → (after all : List ℕ)
    → after ++ flat_map f (drop i xs) ≡ all → after ≡ all
appended_all f xs i h after all was =
    sym (append-nil after) ∙ ap (λ (bs : List ℕ). after ++ bs) (sym (joined_all f xs i h)) ∙ was

pub joined_values : {X V : Type 0} (f : V → List ℕ) (value : X → V) (xs : List X)
    → flat_map f (map value xs) ≡ flat_map (λ x. f (value x)) xs
joined_values f value [] = refl
joined_values f value (x ∷ xs) = ap (λ (bs : List ℕ). f (value x) ++ bs) (joined_values f value xs)

pub ruleset bodies = (joined_values, append_assoc)

pub ruleset encoded_sizes = (joined_values, length-append, length-number_bytes, length-drop)

pub ruleset entry_sizes = (length-append, length-number_bytes, length-replicate)

pub ruleset entry_lists = (joined_more, joined_all, all_more, all_of, append_assoc, length-append)

pub on_ok : {T E : Type 0} (result : Result T E) (P : Type 0) → P → OnOk result P
on_ok (Ok x) P holds = holds
on_ok (Err e) P holds = tt
