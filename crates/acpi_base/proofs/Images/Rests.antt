-- The bytes from an address on, up to the first one that is not present, and the first run from there on.
use Rattle.std.proofs.Common.{◌≡◌, ℕ, ◌+◌, ◌-◌, ◌<◌, ◌≤◌, inl, inr, cond, List, [], ◌∷◌, length, get_or, take, drop, Some, None, IsSome, is_some, refl, sym, ap, ◌∙◌, arith, length-drop, slice_get, Option, MatchOption}
use Rattle.std.specs.Prelude.{nat_lt, min, IfSome}
use Rattle.std.proofs.lemmas.Bool.{cases_lt}
use Rattle.std.proofs.lemmas.Bool.Decides.{nat_tests}
use Rattle.std.proofs.lemmas.List.{get_or-drop, drop_all, drop-drop, drop-take, length-take-le, take-take}
use Rattle.acpi_base.specs.Image.Segments.{IsGap, IsRest, IsRunAt}
use Rattle.acpi_base.specs.Memory.{run_of}
use Rattle.acpi_base.specs.Image.Runs.{Run, end_of, lookup, memory_of}
use Rattle.acpi_base.specs.Text.WrittenText.{IsEmptyFrom, IsFirstFrom, IsNextRun}
use Rattle.acpi_base.proofs.Images.RunBytes.{present_none, present_at, byte_of_memory_of}
use Rattle.acpi_base.proofs.Images.ByteRuns.{run_of-from_each, run_of-split, run_of-take, run_of_none}

-- ---- the rest of a segment

pub rest_of_run : (rs : List Run) (a : ℕ) (r : Run) (bytes : List ℕ) → IsRunAt rs a r
    → bytes ≡ drop (a - r.base) r.bytes → IsRest rs a bytes
rest_of_run rs a r bytes reached is =
    let from = reached.begins in
    let count : length bytes ≡ end_of r - a = ap length is ∙ omega (arith, from, length-drop (a - r.base) r.bytes) in
    record {
      present = run_of-from_each (lookup rs) a (length bytes) bytes refl (λ k l.
          let place : a + k - r.base ≡ (a - r.base) + k = omega (arith, from) in
          reached.further (a + k) (omega arith) (omega (arith, count, l))
          ∙ present_at r (a + k) (omega (arith, from)) (omega (arith, count, l))
          ∙ ap Some (ap (λ (j : ℕ). get_or r.bytes j 0) place ∙ sym (get_or-drop (a - r.base) r.bytes k 0)
          ∙ ap (λ (bs : List ℕ). get_or bs k 0) (sym is)));
      none_behind = elim (cases_lt a (end_of r)) [
        | inl within ↦ reached.further (a + length bytes) (omega arith) (omega (arith, count, within))
            ∙ present_none r (a + length bytes) (inr (omega (arith, count, within)))
        | inr past ↦
            let here : a + length bytes ≡ a = omega (arith, count, past) in
            ap (lookup rs) here ∙ reached.here ∙ present_none r a (inr past)
      ];
    }

pub no_rest : (rs : List Run) (a : ℕ) → lookup rs a ≡ None → IsRest rs a []
unfolding run_of
no_rest rs a none = record {
  present = refl;
  none_behind = (let here : a + 0 ≡ a = omega arith in ap (lookup rs) here ∙ none);
}

pub rest_in : (store : List ℕ) (start len far k : ℕ) → start + len ≤ length store → k ≡ min far len
    → take (len - k) (drop (start + k) store) ≡ drop far (take len (drop start store))
rest_in store start len far k fits is =
    let long = length-drop start store in
    let count = length-take-le len (drop start store) (omega arith) in
    elim (cases_lt len far) [
      | inl past ↦
          let all : len - k ≡ 0 = omega arith in
          ap (λ (n : ℕ). take n (drop (start + k) store)) all
          ∙ sym (drop_all far (take len (drop start store)) (omega arith))
      | inr within ↦
          let same : k ≡ far = omega arith in
          let parts : far + (len - far) ≡ len = omega arith in
          ap (λ (n : ℕ). take (len - n) (drop (start + n) store)) same
          ∙ ap (take (len - far)) (sym (drop-drop far start store))
          ∙ sym (drop-take far (len - far) (drop start store))
          ∙ ap (λ (n : ℕ). drop far (take n (drop start store))) parts
    ]

pub rest_first : (rs : List Run) (a : ℕ) (bytes : List ℕ) → IsRest rs a bytes → slice_get bytes 0 ≡ lookup rs a
rest_first rs a [] rest = (let here : a + 0 ≡ a = omega arith in sym (sym (ap (lookup rs) here) ∙ rest.none_behind))
rest_first rs a (b ∷ bs) rest = grind (arith, run_of-split (lookup rs) a (length bs) (b ∷ bs) rest.present)

pub windows_of_rest : (rs : List Run) (a : ℕ) (bytes : List ℕ) → IsRest rs a bytes → (n : ℕ)
    → run_of (lookup rs) a n ≡ cond (nat_lt (length bytes) n) None (Some (take n bytes))
windows_of_rest rs a bytes rest n =
    elim (cases_lt (length bytes) n) [
      | inl short ↦ grind (arith, nat_tests, run_of_none (lookup rs) a n (length bytes) short rest.none_behind)
      | inr within ↦ grind (arith, nat_tests, run_of-take (lookup rs) a (length bytes) n bytes rest.present within)
    ]

module _ (rs : List Run) (a : ℕ) (store : List ℕ) (start len : ℕ) (fits : start + len ≤ length store)
    (rest : IsRest rs a (take len (drop start store))) where
  count : length (take len (drop start store)) ≡ len
  count = (let long = length-drop start store in length-take-le len (drop start store) (omega arith))

  pub part_short : (n : ℕ) → len < n → None ≡ run_of (lookup rs) a n
  part_short n short =
      sym (run_of_none (lookup rs) a n (length (take len (drop start store))) (omega (arith, count)) rest.none_behind)

  pub part_present : (n : ℕ) → n ≤ len → Some (take n (drop start store)) ≡ run_of (lookup rs) a n
  part_present n within =
      sym (run_of-take (lookup rs) a (length (take len (drop start store))) n (take len (drop start store)) rest.present
      (omega (arith, count)) ∙ ap Some (take-take n len (drop start store) within))

-- ---- the run that begins there

-- what has the first address with a byte, from an address on
first_at : (rs : List Run) (a base : ℕ) → (a ≤ base) × IsSome (lookup rs base) × IsGap rs a base
    → IsFirstFrom (memory_of rs) a base
first_at rs a base first = record {
  from_there = first.0;
  none_before = λ x l m. byte_of_memory_of rs x ∙ first.2 x l m;
  present = ap is_some (byte_of_memory_of rs base) ∙ first.1;
}

pub first_of : (rs : List Run) (a : ℕ) (found : Option ℕ)
    → (found ≡ None → (x : ℕ) → a ≤ x → lookup rs x ≡ None)
    → IfSome found (λ base. (a ≤ base) × IsSome (lookup rs base) × IsGap rs a base)
    → MatchOption found (IsEmptyFrom (memory_of rs) a) (IsFirstFrom (memory_of rs) a)
first_of rs a None none some = λ x from. byte_of_memory_of rs x ∙ none refl x from
first_of rs a (Some base) none some = first_at rs a base some

pub next_of : (rs : List Run) (a base : ℕ) (bytes : List ℕ) → (a ≤ base) × IsSome (lookup rs base) × IsGap rs a base
    → IsRest rs base bytes → IsNextRun (memory_of rs) a base bytes
next_of rs a base bytes first rest = record {
  first = first_at rs a base first;
  present = (λ i. run_of (λ x. byte_of_memory_of rs x i) base (length bytes)) ∙ rest.present;
  none_behind = byte_of_memory_of rs (base + length bytes) ∙ rest.none_behind;
}
