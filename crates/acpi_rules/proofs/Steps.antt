-- The structures of a series, one step at a time.
use Rattle.std.proofs.Common.{◌≡◌, ℕ, zero, suc, ◌-◌, ◌≤◌, Bool, List, length, take, drop, min, Option, Some, None, refl, sym, inl, inr, arith}
use Rattle.std.proofs.lemmas.Bool.Decides.{nat_tests}
use Rattle.std.proofs.lemmas.Bool.{cases_lt}
use Rattle.std.proofs.lemmas.List.{length-take-le, drop_all}
use Rattle.std.proofs.lemmas.Option.{cond_some}
use Rattle.std.proofs.Math.Nat.{min-eq_left, min-eq_right}
use Rattle.std.specs.Option.{option_map, MatchOption}
use denote.Ref.{Bor}
use Rattle.acpi_rules.specs.Series.{first_bytes, first_structure, size_in}
use Rattle.acpi_rules.specs.Walks.{structures_from, cut_from, IsLast, IsNext}
use Rattle.acpi_rules.specs.declared.series.Shape.{Shape}

-- a structure that the bytes begin with has at least one byte, and fits them
pub record BeginsWith (left e : List ℕ) : Type 0 where
  pub long : 1 ≤ length e
  pub fits : length e ≤ length left
  pub run : take (length e) left ≡ e

pub begins : (s : Shape) (left e : List ℕ) → first_structure s left ≡ Some e → BeginsWith left e
unfolding first_bytes
begins s left e is =
    let parts = cond_some _ _ _ is in
    let count = length-take-le (size_in s left) left in
    record {
      long = grind (arith, nat_tests, count);
      fits = grind (arith, nat_tests, count);
      run = grind (arith, nat_tests, count);
    }

pub none_said : (s : Shape) (counted : Bool) (n end at : ℕ) (left : List ℕ) → n ≡ 0 → IsLast s counted n end at left
unfolding structures_from cut_from
none_said s counted zero end at left is = record { none = refl; cut = refl }
none_said s counted (suc n) end at left is = absurd (omega (arith, is))

is_last : (s : Shape) (counted : Bool) (n end at : ℕ) (left : List ℕ) → 1 ≤ n → first_structure s left ≡ None
    → IsLast s counted n end at left
unfolding structures_from cut_from
is_last s counted zero end at left some none = absurd (omega (arith, some))
is_last s counted (suc n) end at left some none = record { none = rw none refl; cut = rw none refl }

is_next : (s : Shape) (counted : Bool) (n end at : ℕ) (left e : List ℕ) → 1 ≤ n → first_structure s left ≡ Some e
    → IsNext s counted n end at left e
unfolding structures_from cut_from
is_next s counted zero end at left e some is = absurd (omega (arith, some))
is_next s counted (suc n) end at left e some is =
    let parts = begins s left e is in
    let less : suc n - 1 ≡ n = omega arith in
    record {
      some = some;
      long = parts.long;
      fits = parts.fits;
      first = rw (is, less) refl;
      cut = rw (is, less) refl;
    }

-- the structure that the bytes begin with, or none, decides what is left
pub last_or_next : (s : Shape) (counted : Bool) (n end at : ℕ) (left : List ℕ) (found : Option (Bor (List ℕ))) → 1 ≤ n
    → option_map (λ e. e.now) found ≡ first_structure s left
    → MatchOption found (IsLast s counted n end at left) (λ e. IsNext s counted n end at left e.now)
last_or_next s counted n end at left None some is = is_last s counted n end at left some (sym is)
last_or_next s counted n end at left (Some e) some is = is_next s counted n end at left e.now some (sym is)

-- the bytes from an offset on, which are none behind the end
pub drop_within : (start : ℕ) (bytes : List ℕ) → drop (min start (length bytes)) bytes ≡ drop start bytes
drop_within start bytes =
    elim (cases_lt (length bytes) start) [
      | inl past ↦
          let least : min start (length bytes) ≡ length bytes = min-eq_right (omega (arith, past)) in
          rw (least, drop_all (length bytes) bytes (omega arith), drop_all start bytes (omega (arith, past))) refl
      | inr within ↦ rw (min-eq_left within) refl
    ]
