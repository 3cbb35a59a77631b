-- Which arguments are `ADDRESS=COUNT`.
use Rattle.std.proofs.Common.{◌≡◌, ◌<◌, ◌∙◌, ◌++◌, ℕ, Bool, true, false, List, [], ◌∷◌, Option, Some, None, cond, zero, suc, drop, get_or, length, option_map, codes, append_assoc, refl, ap, sym, subst, true≢false, inl, inr, arith}
use Rattle.std.specs.Prelude.{nat_eq}
use Rattle.std.specs.Char.{is_digit}
use Rattle.std.specs.List.{after_first, before_first, list_all, position_or_len, starts_with}
use Rattle.std.proofs.lemmas.Bool.{and_parts, cases_lt}
use Rattle.std.proofs.lemmas.Option.{cond_some, none-some, option_and_then_some, same_Some}
use Rattle.std.proofs.lemmas.Bool.Decides.{Decides-eqb}
use Rattle.std.proofs.lemmas.List.{drop_all}
use Rattle.std.proofs.lemmas.List.Folds.{list_all_at}
use Rattle.std.proofs.lemmas.List.Sums.{passes_at_first, split_at_first}
use Rattle.std.proofs.lemmas.Slice.Eq.{starts_is}
use Rattle.clap.proofs.CutLemmas.{Lacks, after_first-at, before_first-at}
use Rattle.acpi_arguments.specs.Words.{count_word, hex_word, inputs_word, is_equals_sign, number_word}
use Rattle.acpi_arguments.specs.declared.policy_words.Inputs.{Inputs}

-- ---- a hex address has no `=`

pub lacks : (test : ℕ → Bool) (c : ℕ) (text : List ℕ) → test c ≡ false → list_all test text ≡ true → Lacks c text
lacks test c text fails all i inside is =
    let not_all : list_all test text ≡ false = list_all_at test text i 0 inside (rw is fails) in
    true≢false (sym all ∙ not_all)

number_lacks : (text : List ℕ) (a : ℕ) → number_word 16 8 text ≡ Some a → Lacks 61 text
number_lacks text a e =
    lacks (λ c. is_digit c 16) 61 text refl
    (and_parts _ (list_all (λ c. is_digit c 16) text) (and_parts _ _ (cond_some _ _ _ e).0).1).1

prefixed_lacks : (text : List ℕ) → Lacks 61 text → Lacks 61 (48 ∷ 120 ∷ text)
prefixed_lacks text lacks zero inside = λ e. absurd (omega arith)
prefixed_lacks text lacks (suc zero) inside = λ e. absurd (omega arith)
prefixed_lacks text lacks (suc (suc i)) inside = lacks i (omega arith)

address_lacks : (address : List ℕ) (a : ℕ) → hex_word 8 address ≡ Some a → Lacks 61 address
address_lacks address a = go (starts_with nat_eq address (codes "0x")) refl
  where
    go : (prefixed : Bool) → starts_with nat_eq address (codes "0x") ≡ prefixed
        → number_word 16 8 (cond prefixed (drop 2 address) address) ≡ Some a → Lacks 61 address
    go false is e = number_lacks address a e
    go true is e =
        let whole : address ≡ 48 ∷ 120 ∷ drop 2 address = (starts_is Decides-eqb address (codes "0x") _ refl).0 is in
        subst (Lacks 61) (sym whole) (prefixed_lacks (drop 2 address) (number_lacks (drop 2 address) a e))

-- ---- an address, a `=` and a count

by_parts : (word address count : List ℕ) (a n : ℕ) → before_first is_equals_sign word ≡ address
    → after_first is_equals_sign word ≡ count
    → hex_word 8 address ≡ Some a → count_word count ≡ Some n
    → inputs_word word ≡ Some (record { address = a; count = n })
by_parts word address count a n before after is_address is_count = rw (before, after, is_address, is_count) refl

pub spelled : (address count : List ℕ) (a n : ℕ) → hex_word 8 address ≡ Some a → count_word count ≡ Some n
    → inputs_word (address ++ codes "=" ++ count) ≡ Some (record { address = a; count = n })
spelled address count a n is_address is_count =
    let lacks = address_lacks address a is_address in
    ap inputs_word (append_assoc address (codes "=") count)
    ∙ by_parts (address ++ 61 ∷ count) address count a n (before_first-at 61 address count lacks)
    (after_first-at 61 address count lacks) is_address is_count

-- what is read is an address, a `=` and a count
pub record Spelling (word : List ℕ) (inputs : Inputs) : Type 0 where
  pub address : List ℕ
  pub count : List ℕ
  pub is : word ≡ address ++ codes "=" ++ count
  pub is_address : hex_word 8 address ≡ Some inputs.address
  pub is_count : count_word count ≡ Some inputs.count

has_equals : (word : List ℕ) (n : ℕ) → count_word (after_first is_equals_sign word) ≡ Some n
    → position_or_len is_equals_sign word < length word
has_equals word n e = elim (cases_lt (position_or_len is_equals_sign word) (length word)) [
  | inl inside ↦ inside
  | inr behind ↦
      let empty : after_first is_equals_sign word ≡ [] = drop_all _ word (omega arith) in
      let none : count_word [] ≡ Some n = ap count_word (sym empty) ∙ e in
      absurd (cc)
]

parts : (word : List ℕ) → position_or_len is_equals_sign word < length word
    → word ≡ before_first is_equals_sign word ++ codes "=" ++ after_first is_equals_sign word
parts word inside =
    let here : get_or word (position_or_len is_equals_sign word) 0 ≡ 61 =
    (Decides-eqb _ 61).0 (passes_at_first is_equals_sign word 0 inside) in
    split_at_first is_equals_sign word 0 inside
    ∙ ap (λ byte. before_first is_equals_sign word ++ byte ∷ after_first is_equals_sign word) here
    ∙ sym (append_assoc (before_first is_equals_sign word) (codes "=") (after_first is_equals_sign word))

pub made_of : {A B P : Type 0} (f : A → B) (o : Option A) (y : B) → option_map f o ≡ Some y
    → ((x : A) → o ≡ Some x → f x ≡ y → P) → P
made_of f None y e made = absurd (none-some y e)
made_of f (Some x) y e made = made x refl (same_Some (f x) y e)

pub spelling : (word : List ℕ) (inputs : Inputs) → inputs_word word ≡ Some inputs → Spelling word inputs
spelling word inputs e =
    option_and_then_some _ (hex_word 8 (before_first is_equals_sign word)) inputs e (λ a is_address e.
    made_of _ (count_word (after_first is_equals_sign word)) inputs e (λ n is_count e. record {
      address = before_first is_equals_sign word;
      count = after_first is_equals_sign word;
      is = parts word (has_equals word n is_count);
      is_address = is_address ∙ ap (λ (i : Inputs). Some i.address) e;
      is_count = is_count ∙ ap (λ (i : Inputs). Some i.count) e;
    }))
