-- Offsets as bits of words.
use Rattle.std.proofs.Common.{◌≡◌, ℕ, ◌/◌, ◌%◌, ◌^◌, ◌<◌, ◌≤◌, List, length, set, bit_and, bit_or, nat_eq, ap, inl, inr, arith}
use Rattle.std.specs.Prelude.{◌⊎◌, ◌↔◌, MatchBool, slice_index}
use Rattle.std.specs.Int.{bit_at}
use Rattle.std.proofs.lemmas.Bool.{cases_eq, cases_Bool}
use Rattle.std.proofs.lemmas.Bool.Decides.{nat_tests}
use Rattle.std.proofs.lemmas.List.{get_or_past, get_or-set_same, get_or-set_other}
use Rattle.std.proofs.lemmas.Nat.Bits.{bit_at-zero, shr_and_one, bit_at_or, bit_at-lt, bit_at-pow_same, bit_at-pow_other}
use Rattle.acpi_check.specs.BitSets.{HasBit}

pub same_bits : (old new : List ℕ) → ((i : ℕ) → slice_index new i ≡ slice_index old i) → (o : ℕ)
    → HasBit new o ↔ HasBit old o
same_bits old new same o = (λ is. rw same at is, λ is. rw same is)

set_here : (w k i : ℕ) → (bit_at (bit_or w (2 ^ k)) i ≡ 1) ↔ ((i ≡ k) ⊎ (bit_at w i ≡ 1))
set_here w k i =
    elim (cases_eq i k) [
      | inl same ↦ (
        λ is. inl same,
        λ either. rw same (omega (arith, bit_at_or w (2 ^ k) k, bit_at-pow_same k, bit_at-lt w k)),
      )
      | inr other ↦ (
        λ is. inr (omega (arith, is, bit_at_or w (2 ^ k) i, bit_at-pow_other k i other)),
        λ either. elim either [
          | inl same ↦ absurd (other same)
          | inr is ↦ omega (arith, is, bit_at_or w (2 ^ k) i, bit_at-pow_other k i other)
        ],
      )
    ]

tested : (n : ℕ) → MatchBool (nat_eq n 1) (n ≡ 1) (¬ (n ≡ 1))
tested n =
    elim (cases_Bool (nat_eq n 1)) [
      | inl is ↦ rw is (grind (arith, nat_tests, is))
      | inr is ↦ rw is (λ same. grind (arith, nat_tests, is, same))
    ]

pub bit_read : (words : List ℕ) (o w : ℕ) → w ≡ slice_index words (o / 64)
    → MatchBool (nat_eq (bit_and (w / 2 ^ (o % 64)) 1) 1) (HasBit words o) (¬ HasBit words o)
bit_read words o w is =
    rw (is, shr_and_one (slice_index words (o / 64)) (o % 64)) (tested (bit_at (slice_index words (o / 64)) (o % 64)))

pub none_behind : (words : List ℕ) (o : ℕ) → length words ≤ o / 64 → ¬ HasBit words o
none_behind words o past is =
    omega (
      arith,
      is,
      ap (λ w. bit_at w (o % 64)) (get_or_past words (o / 64) 0 past),
      bit_at-zero (o % 64),
    )

pub bit_added : (words : List ℕ) (offset w : ℕ) → offset / 64 < length words → w ≡ slice_index words (offset / 64)
    → (o : ℕ) → HasBit (set words (offset / 64) (bit_or w (2 ^ (offset % 64)))) o ↔ ((o ≡ offset) ⊎ HasBit words o)
bit_added words offset w within was o =
    elim (cases_eq (o / 64) (offset / 64)) [
      | inl same ↦ rw (same, get_or-set_same words (offset / 64) word 0 within, ← was)
          (let here = set_here w (offset % 64) (o % 64) in (
            λ is. elim (here.0 is) [ inl bit ↦ inl (omega (arith, same, bit)) | inr old ↦ inr old ],
            λ either. here.1 (elim either [ inl is ↦ inl (omega (arith, is)) | inr old ↦ inr old ]),
          ))
      | inr other ↦ rw (get_or-set_other words (offset / 64) (o / 64) word 0 other) (
        λ is. inr is,
        λ either. elim either [ inl is ↦ absurd (other (ap (λ x. x / 64) is)) | inr old ↦ old ],
      )
    ]
  where
    word : ℕ
    word = bit_or w (2 ^ (offset % 64))
