-- What is read of texts, one after another: arguments `ADDRESS=COUNT`, and names of rules.
use Rattle.std.proofs.Common.{◌≡◌, ℕ, ◌+◌, ◌<◌, ◌≤◌, ◌++◌, List, [], ◌∷◌, length, get_or, drop, map, cond, false, Option, Some, None, option_map, append_assoc, append-nil, refl, sym, ap, ◌∙◌}
use Rattle.std.specs.Prelude.{Result, Ok, Err, OnOk, fold, is_err, is_ok}
use Rattle.std.proofs.lemmas.Bool.{false≢true}
use Rattle.std.proofs.lemmas.List.{drop_more, drop_all}
use Rattle.acpi_arguments.specs.Words.{all_read}

-- what is read of one more text is added before that of the texts after it
pub one_more : {S T : Type 0} (step : S → T → S) (read : List ℕ → Option T) (s : S) (text : List ℕ)
    (texts : List (List ℕ))
    (first : T) → read text ≡ Some first
    → option_map (fold step s) (all_read read (text ∷ texts)) ≡ option_map (fold step (step s first))
    (all_read read texts)
one_more {S} {T} step read s text texts first e = rw e (given (all_read read texts))
  where
    given : (rest : Option (List T))
        → option_map (fold step s) (option_map (λ rest. first ∷ rest) rest) ≡ option_map (fold step
        (step s first)) rest
    given None = refl
    given (Some rest) = refl

pub one_wrong : {S T : Type 0} (step : S → T → S) (read : List ℕ → Option T) (s : S) (text : List ℕ)
    (texts : List (List ℕ)) → read text ≡ None
    → option_map (fold step s) (all_read read (text ∷ texts)) ≡ None
one_wrong step read s text texts e = rw e refl

-- what is made of the texts from an index on, with this made of those before it
abbrev pub made_from : {B S T : Type 0} → (S → T → S) → (List ℕ → Option T) → (B → List ℕ) → List B → ℕ → S → Option S
made_from step read text words i s = option_map (fold step s) (all_read read (map text (drop i words)))

-- it is what those after the index give with what is read of the text at the index
pub read_more : {B S T : Type 0} (step : S → T → S) (read : List ℕ → Option T) (text : B → List ℕ)
    (words : List B) (i : ℕ)
    (word : B) (first : T) → i < length words → read (text (get_or words i word)) ≡ Some first
    → (s new : S) (all : Option S) → new ≡ step s first → made_from step read text words i s ≡ all
    → made_from step read text words (i + 1) new ≡ all
read_more step read text words i word first h e s new all added was =
    let here = one_more step read s (text (get_or words i word)) (map text (drop (i + 1) words)) first e in
    let left = ap (λ rest. option_map (fold step s) (all_read read (map text rest))) (drop_more words i word h) in
    rw added (sym here ∙ sym left ∙ was)

pub read_all : {B S T : Type 0} (step : S → T → S) (read : List ℕ → Option T) (text : B → List ℕ)
    (words : List B) (i : ℕ)
    → length words ≤ i → (s : S) (all : Option S) → made_from step read text words i s ≡ all → all ≡ Some s
read_all step read text words i h s all was =
    sym was ∙ ap (λ rest. option_map (fold step s) (all_read read (map text rest))) (drop_all i words h)

pub read_wrong : {B S T : Type 0} (step : S → T → S) (read : List ℕ → Option T) (text : B → List ℕ)
    (words : List B) (i : ℕ)
    (word : B) → i < length words → read (text (get_or words i word)) ≡ None → (s : S) (all : Option S)
    → made_from step read text words i s ≡ all → all ≡ None
read_wrong step read text words i word h e s all was =
    sym was ∙ ap (λ rest. option_map (fold step s) (all_read read (map text rest))) (drop_more words i word h)
    ∙ one_wrong step read s (text (get_or words i word)) (map text (drop (i + 1) words)) e

-- ---- the elements, one after another

abbrev pub with_last : {T : Type 0} → List T → T → List T
with_last xs x = xs ++ x ∷ []

all_at_the_end : {T : Type 0} (xs ys : List T) → fold with_last xs ys ≡ xs ++ ys
all_at_the_end xs [] = sym (append-nil xs)
all_at_the_end xs (y ∷ ys) = all_at_the_end (xs ++ y ∷ []) ys ∙ append_assoc xs (y ∷ []) ys

-- all elements that are read, added one after another to none, are those that are read
pub all_added : {T : Type 0} (read : Option (List T)) → option_map (fold with_last []) read ≡ read
all_added None = refl
all_added (Some xs) = ap Some (all_at_the_end [] xs)

pub kept_if_ok : {T E X : Type 0} (result : Result T E) (a b : X) → is_err result ≡ false
    → cond (is_ok result) a b ≡ a
kept_if_ok (Ok x) a b ok = refl
kept_if_ok (Err e) a b ok = absurd (false≢true (sym ok))

pub present : {T E : Type 0} (result : Result T E) (P : Type 0) → is_err result ≡ false → OnOk result P → P
present (Ok x) P ok holds = holds
present (Err e) P ok holds = absurd (false≢true (sym ok))
