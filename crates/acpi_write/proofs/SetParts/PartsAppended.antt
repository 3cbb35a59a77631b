-- The parts of a set, appended one after another to the bytes of memory.
use Rattle.std.proofs.Common.{◌≡◌, ℕ, zero, suc, ◌+◌, ◌-◌, ◌<◌, ◌≤◌, List, [], ◌∷◌, ◌++◌, length, get_or, Option, None, refl, sym, ap, ◌∙◌, subst, inl, inr, arith, length-append}
use Rattle.std.specs.Prelude.{IsSome, replicate, unwrap_or}
use Rattle.std.specs.FinMap.{empty, get-empty}
use Rattle.std.specs.List.{All}
use Rattle.std.specs.Ordering.{nat_cmp}
use Rattle.std.proofs.Math.Seq.{get_or-append_right}
use Rattle.std.proofs.lemmas.Bool.{cases_lt}
use Rattle.std.proofs.lemmas.List.{get_or-replicate, get_or_append_left, get_or_default, length-replicate, same_lists}
use Rattle.acpi_base.specs.Memory.{Memory, byte_of, with_bytes}
use Rattle.acpi_base.proofs.Images.RunBytes.{byte_of-with_bytes_within, byte_of-with_bytes_outside}
use Rattle.acpi_write.specs.Placed.{IsPlaced}
use Rattle.acpi_write.specs.Rebuilt.{aligned_address, block_places, option_list, part_lengths, part_places, rebuilt_image}
use Rattle.acpi_write.specs.SetBytes.{AllBytesAreOne, AreAllBytes}
use Rattle.acpi_write.specs.SetWriting.{EndsBelow, IsPart}
use Rattle.acpi_write.specs.Values.{SetValue}
use Rattle.acpi_write.proofs.NewSets.NewImage.{aligned_from}
use Rattle.acpi_write.proofs.SetParts.PartLengths.{parts_some}
use Rattle.acpi_write.proofs.SetParts.PartsInOrder.{IsPartialSet, all_put, next_part, none_so_far, place_count}

-- ---- bytes after all others of an image

no_bytes : (a : ℕ) → AreAllBytes empty a []
no_bytes a = record {
  each = λ k h. absurd (omega arith);
  before = λ x h. get-empty nat_cmp x;
  behind = λ x h. get-empty nat_cmp x;
  last = λ k e. absurd (cc);
}

-- the bytes before, zeros, and bytes at a place
abbrev pub appended_at : ℕ → List ℕ → ℕ → List ℕ → List ℕ
appended_at a old place part = old ++ (replicate (place - a - length old) 0 ++ part)

length-appended_at : (a : ℕ) (old : List ℕ) (place : ℕ) (part : List ℕ) → a + length old ≤ place
    → a + length (appended_at a old place part) ≡ place + length part
length-appended_at a old place part behind =
    let gap = place - a - length old in
    omega (
      arith,
      behind,
      length-append old (replicate gap 0 ++ part),
      length-append (replicate gap 0) part,
      length-replicate {A = ℕ} gap 0,
    )

byte_appended : (m : Memory) (a : ℕ) (old : List ℕ) (place : ℕ) (part : List ℕ) (k : ℕ) → AreAllBytes m a old
    → a + length old ≤ place → k < length (appended_at a old place part)
    → get_or (appended_at a old place part) k 0 ≡ unwrap_or (byte_of (with_bytes m place part) (a + k)) 0
byte_appended m a old place part k all behind below =
    let gap = place - a - length old in
    let zeros : List ℕ = replicate gap 0 in
    let total = length-appended_at a old place part behind in
    let count : length zeros ≡ gap = length-replicate {A = ℕ} gap 0 in
    let or_zero : Option ℕ → ℕ = λ o. unwrap_or o 0 in
    elim (cases_lt k (length old)) [
      | inl early ↦ get_or_append_left old (zeros ++ part) 0 k early ∙ all.each k early
          ∙ sym (ap or_zero (byte_of-with_bytes_outside m place part (a + k) (inl (omega (arith, early, behind)))))
      | inr late ↦
          let skip = get_or-append_right old (zeros ++ part) k 0 late in
          elim (cases_lt (k - length old) gap) [
            | inl between ↦ skip
                ∙ get_or_append_left zeros part 0 (k - length old) (omega (arith, between, count))
                ∙ get_or-replicate gap (k - length old) 0 0 between
                ∙ sym (ap or_zero
                (byte_of-with_bytes_outside m place part (a + k) (inl (omega (arith, late, between, behind)))
                ∙ all.behind (a + k) (omega (arith, late))))
            | inr inside ↦ skip
                ∙ get_or-append_right zeros part (k - length old) 0 (omega (arith, inside, count))
                ∙ ap (λ (i : ℕ). get_or part i 0)
                (omega (arith, late, inside, behind, count))
                ∙ sym (ap or_zero
                (byte_of-with_bytes_within m place part (a + k) (omega (arith, late, inside, behind))
                (omega (arith, below, total))))
          ]
    ]

all_appended : (m : Memory) (a : ℕ) (old : List ℕ) (place : ℕ) (part : List ℕ) → AreAllBytes m a old
    → a + length old ≤ place → 0 < length part
    → AreAllBytes (with_bytes m place part) a (appended_at a old place part)
all_appended m a old place part all behind some =
    let total = length-appended_at a old place part behind in
    record {
      each = λ k h. byte_appended m a old place part k all behind h;
      before = λ x h. byte_of-with_bytes_outside m place part x (inl (omega (arith, h, behind))) ∙ all.before x h;
      behind = λ x h. byte_of-with_bytes_outside m place part x (inr (omega (arith, h, total)))
          ∙ all.behind x (omega (arith, h, total, behind));
      last = λ k e. subst IsSome (sym (byte_of-with_bytes_within m place part (a + k) (omega (arith, e, total, some))
          (omega (arith, e, total)))) refl;
    }

-- what comes after all others is not before their end
place_behind : (m : Memory) (a : ℕ) (bytes : List ℕ) (place : ℕ) → AreAllBytes m a bytes → a ≤ place
    → EndsBelow m place → a + length bytes ≤ place
place_behind m a bytes place all from ends = elim (cases_lt place (a + length bytes)) [
  | inr is ↦ is
  | inl past ↦
      let k = length bytes - 1 in
      let none : IsSome {T = ℕ} None =
      subst IsSome (ends (a + k) (omega (arith, past))) (all.last k (omega (arith, past, from)))
      in absurd (cc)
]

-- ---- the parts of a set

from_base : (a : ℕ) (lengths : List ℕ) (k : ℕ) → k < length lengths → a ≤ get_or (block_places a lengths) k 0
unfolding block_places
from_base a [] k below = absurd (omega arith)
from_base a (n ∷ rest) zero below = omega arith
from_base a (n ∷ rest) (suc k) below =
    omega (arith, aligned_from (a + n), from_base (aligned_address (a + n)) rest k (omega (arith, below)))

-- these are all bytes of an image that has the first k parts
pub record AreFirstParts (bytes : List ℕ) (found : List ℕ) (v : SetValue) (base k : ℕ) : Type 0 where
  pub image : Memory
  pub so_far : IsPartialSet image found v base k
  pub all : AreAllBytes image base bytes

pub no_parts : (bytes found : List ℕ) (v : SetValue) (base : ℕ) → IsPlaced v base → found ≡ part_places v base
    → bytes ≡ [] → AreFirstParts bytes found v base 0
no_parts bytes found v base placed is none = record {
  image = empty;
  so_far = none_so_far v base empty found placed is refl;
  all = subst (AreAllBytes empty base) (sym none) (no_bytes base);
}

pub behind_parts : (bytes found : List ℕ) (v : SetValue) (base k : ℕ) (part : List ℕ) → found ≡ part_places v base
    → k < length found → IsPart v found k part → AreFirstParts bytes found v base k
    → base + length bytes ≤ get_or found k 0
behind_parts bytes found v base k part is below own so_far =
    let next = next_part so_far.image found v base k part is below own so_far.so_far in
    let from = from_base base (part_lengths v) k (omega (arith, below, place_count v base found is)) in
    let same = ap (λ (xs : List ℕ). get_or xs k 0) is in
    place_behind so_far.image base bytes (get_or found k 0) so_far.all (omega (arith, from, same)) next.behind

pub part_some : (found : List ℕ) (v : SetValue) (base k : ℕ) (part : List ℕ) → found ≡ part_places v base
    → k < length found → All (λ bytes. 0 < length bytes) (option_list v.facs) → IsPart v found k part → 0 < length part
part_some found v base k part is below facs own =
    omega (arith, own.count, parts_some v facs k 0 (omega (arith, below, place_count v base found is)))

pub next_appended : (bytes found : List ℕ) (v : SetValue) (base k : ℕ) (part new : List ℕ)
    → found ≡ part_places v base → k < length found → IsPart v found k part → 0 < length part
    → AreFirstParts bytes found v base k → new ≡ appended_at base bytes (get_or found k 0) part
    → AreFirstParts new found v base (k + 1)
next_appended bytes found v base k part new is below own some so_far put =
    let next = next_part so_far.image found v base k part is below own so_far.so_far in
    let behind = behind_parts bytes found v base k part is below own so_far in
    record {
      image = with_bytes so_far.image (get_or found k 0) part;
      so_far = next.further _ refl;
      all = subst (AreAllBytes (with_bytes so_far.image (get_or found k 0) part) base) (sym put)
          (all_appended so_far.image base bytes (get_or found k 0) part so_far.all behind some);
    }

pub all_parts : (bytes found : List ℕ) (v : SetValue) (base k : ℕ) → found ≡ part_places v base → length found ≤ k
    → AreFirstParts bytes found v base k → AreAllBytes (rebuilt_image v base) base bytes
all_parts bytes found v base k is past so_far =
    subst (λ (m : Memory). AreAllBytes m base bytes) (all_put so_far.image found v base k is past so_far.so_far)
    so_far.all

-- ---- one list of all bytes

no_longer : (m : Memory) (a : ℕ) (bytes others : List ℕ) → AreAllBytes m a bytes → AreAllBytes m a others
    → length others ≤ length bytes
no_longer m a bytes others one other = elim (cases_lt (length bytes) (length others)) [
  | inr is ↦ is
  | inl more ↦
      let k = length others - 1 in
      let none : IsSome {T = ℕ} None =
      subst IsSome (one.behind (a + k) (omega (arith, more))) (other.last k (omega (arith, more)))
      in absurd (cc)
]

pub all_bytes_are_one : AllBytesAreOne
all_bytes_are_one m a bytes others one other =
    let count : length bytes ≡ length others =
    omega (arith, no_longer m a bytes others one other, no_longer m a others bytes other one) in
    same_lists bytes others count (λ k d h.
    get_or_default bytes k d 0 h ∙ one.each k h ∙ sym (other.each k (omega (arith, h, count)))
    ∙ get_or_default others k 0 d (omega (arith, h, count)))
