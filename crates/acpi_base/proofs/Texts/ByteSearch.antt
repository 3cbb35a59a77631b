-- The first index of a byte in a text, found in blocks of 64 bytes.
use Rattle.std.proofs.Common.{◌≡◌, ◌≢◌, ◌+◌, ◌-◌, ◌<◌, ◌≤◌, ℕ, List, inl, inr, eqb, not, get_or, length, take, drop, false, refl, ap, ◌∙◌, arith}
use Rattle.std.specs.List.{prefix_len, before_first}
use Rattle.std.specs.Simd.Lanes.{chunk}
use Rattle.std.proofs.lemmas.Bool.{cases_lt, eqb-false, eqb-true, eq-eqb}
use Rattle.std.proofs.lemmas.Bool.Decides.{eqb_tells}
use Rattle.std.proofs.lemmas.List.{get_or-drop}
use Rattle.std.proofs.lemmas.List.Sums.{position_or_len_is}
use Rattle.std.proofs.lemmas.Simd.{run_in_chunk_fails, run_in_chunk_stops}

-- the byte does not occur before the index
abbrev pub HasNoneBefore : ℕ → List ℕ → ℕ → Type 0
HasNoneBefore byte text at = (k : ℕ) → k < at → get_or text k 0 ≢ byte

pub none_in_block : (byte : ℕ) (text : List ℕ) (at before : ℕ) → HasNoneBefore byte text at → at + 64 ≤ length text
    → before ≡ prefix_len (λ x. not (eqb x byte)) (chunk at 64 text) → HasNoneBefore byte text (at + before)
none_in_block byte text at before none room e k l =
    elim (cases_lt k at) [
      | inl below ↦ none k below
      | inr from ↦ eqb-false (get_or text k 0) byte
          (run_in_chunk_fails (λ x. eqb x byte) text at 64 before 0 room e k from l)
    ]

pub found_in_block : (byte : ℕ) (text : List ℕ) (at before : ℕ) → at + 64 ≤ length text
    → before ≡ prefix_len (λ x. not (eqb x byte)) (chunk at 64 text) → before < 64 → get_or text (at + before) 0 ≡ byte
found_in_block byte text at before room e l =
    eqb-true (get_or text (at + before) 0) byte (run_in_chunk_stops (λ x. eqb x byte) text at 64 before 0 room e l)

pub none_in_whole_block : (byte : ℕ) (text : List ℕ) (at before : ℕ) → HasNoneBefore byte text at
    → at + 64 ≤ length text → before ≡ prefix_len (λ x. not (eqb x byte)) (chunk at 64 text) → 64 ≤ before
    → HasNoneBefore byte text (at + 64)
none_in_whole_block byte text at before none room e whole k l =
    none_in_block byte text at before none room e k (omega arith)

pub none_behind : (byte : ℕ) (text : List ℕ) (at before : ℕ) → HasNoneBefore byte text at
    → HasNoneBefore byte (drop at text) before → HasNoneBefore byte text (at + before)
none_behind byte text at before none behind k l =
    elim (cases_lt k at) [
      | inl below ↦ none k below
      | inr from ↦
          let place : at + (k - at) ≡ k = omega arith in
          (λ is. behind (k - at) (omega arith) (get_or-drop at text (k - at) 0 ∙ ap (λ i. get_or text i 0) place ∙ is))
    ]

pub before_byte : (byte index : ℕ) (text : List ℕ) → index ≤ length text → HasNoneBefore byte text index
    → (index < length text → get_or text index 0 ≡ byte) → take index text ≡ before_first (λ b. eqb b byte) text
before_byte byte index text within before found =
    rw (position_or_len_is (λ b. eqb b byte) text index 0 within not_before
    (λ l. eq-eqb (get_or text index 0) byte (found l))) refl
  where
    not_before : (k : ℕ) → k < index → eqb (get_or text k 0) byte ≡ false
    not_before k l =
        elim (eqb_tells (get_or text k 0) byte) [ inl (_, is) ↦ absurd (before k l is) | inr (not, _) ↦ not ]
