-- A pass over the entries of a MADT to test whether all are of known types.
use Rattle.std.proofs.Common.{◌≡◌, ◌≤◌, true, false, true≢false, List, [], ◌∷◌, length, Option, Some, None, Bool, refl, sym, ◌∙◌, subst, ℕ}
use Rattle.std.specs.Prelude.{MatchBool, not}
use Rattle.std.specs.Option.{is_some}
use Rattle.std.proofs.lemmas.Option.{none-some}
use Rattle.acpi_base.specs.Entries.{PlacedEntry, Stands}
use Rattle.acpi_base.specs.Madt.{MadtEntry, MadtContents, Opaque, madt_contents, IsWhollyTyped}
use Rattle.acpi_check.specs.Processors.{has_known_type}
use Rattle.acpi_check.proofs.EntryPasses.Passes.{HasPassed, next_stands, all_passed}

-- the pass has these entries left, and those before them are of known types
abbrev pub IsAt : MadtContents → List (PlacedEntry MadtEntry) → Type 0
IsAt madt left = HasPassed madt.entries left (λ o e. has_known_type e ≡ true)

opaque : (e : MadtEntry) → has_known_type e ≡ false → (bytes : List ℕ) × (e ≡ Opaque bytes)
opaque (Opaque bytes) is = (bytes, refl)
opaque _ is = absurd (true≢false is)

pub stops : (madt : MadtContents) (s : PlacedEntry MadtEntry) (left : List (PlacedEntry MadtEntry))
    → IsAt madt (s ∷ left) → has_known_type s.entry ≡ false → ¬ IsWhollyTyped madt
stops madt s left here untyped typed =
    let (bytes, is) = opaque s.entry untyped in
    typed.typed s.offset bytes (subst (Stands madt.entries s.offset) is (next_stands here))

pub ends : (whole : List ℕ) → 44 ≤ length whole → (madt_contents whole).cut ≡ None → IsAt (madt_contents whole) []
    → IsWhollyTyped (madt_contents whole)
unfolding madt_contents
ends whole long filled here =
    record {
      long = long;
      filled = filled;
      typed =
          λ o e stands. true≢false (sym (all_passed here o (Opaque e) stands));
    }

-- if there is a cut, not all are known
pub filled_or_not : (whole : List ℕ) (cut : Option ℕ) (b : Bool) → 44 ≤ length whole → IsAt (madt_contents whole) []
    → cut ≡ (madt_contents whole).cut → is_some cut ≡ not b
    → MatchBool b (IsWhollyTyped (madt_contents whole)) (¬ IsWhollyTyped (madt_contents whole))
filled_or_not whole None true long here is none = ends whole long (sym is) here
filled_or_not whole (Some at) false long here is some = λ typed. none-some at (sym typed.filled ∙ sym is)
filled_or_not whole None false long here is none = absurd cc
filled_or_not whole (Some at) true long here is some = absurd cc
