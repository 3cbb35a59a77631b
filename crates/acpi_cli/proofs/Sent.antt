-- What is written by one write after another.
use Rattle.std.proofs.Common.{◌≡◌, ◌+◌, ◌-◌, ℕ, List, ◌++◌, length, take, drop, Option, Some, None, sym, ap, ◌∙◌, arith, append_assoc}
use Rattle.std.specs.Io.KnownBytes.{Appends}
use Rattle.std.proofs.lemmas.List.{take_rest, drop-take, take-take, take-append-drop}

prefix_and_more : (xs : List ℕ) (w n : ℕ) → take w xs ++ take n (take (length xs - w) (drop w xs)) ≡ take (w + n) xs
prefix_and_more xs w n =
    let rest : take n (take (length xs - w) (drop w xs)) ≡ drop w (take (w + n) xs) =
    ap (take n) (take_rest xs w) ∙ sym (drop-take w n xs) in
    let prefix : take w xs ≡ take w (take (w + n) xs) = sym (take-take w (w + n) xs (omega arith)) in
    ap (λ (f : List ℕ). f ++ take n (take (length xs - w) (drop w xs))) prefix
    ∙ ap (λ (r : List ℕ). take w (take (w + n) xs) ++ r) rest ∙ take-append-drop w (take (w + n) xs)

pub sent_more : (before middle after : Option (List ℕ)) (xs : List ℕ) (w n : ℕ) → Appends before middle (take w xs)
    → Appends middle after (take n (take (length xs - w) (drop w xs))) → Appends before after (take (w + n) xs)
sent_more None middle after xs w n first second = tt
sent_more (Some b) None after xs w n first second = absurd first
sent_more (Some b) (Some m) None xs w n first second = absurd second
sent_more (Some b) (Some m) (Some a) xs w n first second =
    second ∙ ap (λ (l : List ℕ). l ++ take n (take (length xs - w) (drop w xs))) first
    ∙ append_assoc b (take w xs) (take n (take (length xs - w) (drop w xs)))
    ∙ ap (λ (l : List ℕ). b ++ l) (prefix_and_more xs w n)
