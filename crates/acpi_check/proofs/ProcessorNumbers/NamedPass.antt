-- A pass over the entries of a table, each of which names a number or none: it stops at the first that is not known.
use Rattle.std.proofs.Common.{ℕ, List, [], ◌∷◌, Option, sym, ◌∙◌, ap, inl, inr, arith}
use Rattle.std.proofs.lemmas.Option.{same_Some}
use Rattle.acpi_base.specs.Codes.{code_number}
use Rattle.acpi_base.specs.Entries.{PlacedEntry, Stands}
use Rattle.acpi_base.specs.Faults.{NotAfter}
use Rattle.acpi_base.specs.declared.code.Code.{Code}
use Rattle.acpi_base.specs.declared.witness.Witness.{Witness}
use Rattle.acpi_base.proofs.Elements.{first_element, later_element}
use Rattle.acpi_base.proofs.Faults.Order.{not_after}
use Rattle.acpi_check.specs.NamedNumbers.{AreAmong, IsKnown, IsUnknown, NamesAt, IsFirstUnknown}
use Rattle.acpi_check.proofs.EntryPasses.Passes.{HasPassed, before_or_behind, next_stands, all_passed}

-- the pass has these entries left, and the numbers that those before them name are known
abbrev pub IsAt : {E : Type 0} → (ℕ → Type 0) → (E → Option ℕ) → List (PlacedEntry E) → List (PlacedEntry E) → Type 0
IsAt Known read entries left = HasPassed entries left (λ o e. IsKnown Known (read e))

-- the pass stops at the first number that is not known
pub stops : {E : Type 0} (Known : ℕ → Type 0) (read : E → Option ℕ) {entries : List (PlacedEntry E)} {s : PlacedEntry E}
    {left : List (PlacedEntry E)} → IsAt Known read entries (s ∷ left)
    → (fault : Code) (w : Witness) → IsUnknown Known fault s.offset (read s.entry) w
    → IsFirstUnknown Known read fault entries w
stops {E} Known read {entries} {s} {left} here fault w own =
    record {
      code = own.code;
      other = own.other;
      names = (s.entry, rw own.at (next_stands here), own.names);
      unknown = own.unknown;
      first = first;
    }
  where
    first : (o n : ℕ) → NamesAt read entries o n → ¬ Known n
        → NotAfter w (record { code = fault; at = o; other = 0; point = n })
    first o n (e, stands, is) unknown =
        elim (before_or_behind here o e stands) [
          | inl (_, known) ↦ absurd (unknown (known n is))
          | inr (inr behind) ↦ inl (omega (arith, own.at))
          | inr (inl (same, entry)) ↦
              let one = same_Some w.point n (sym own.names ∙ ap read (sym entry) ∙ is) in
              not_after w (record { code = fault; at = o; other = 0; point = n })
              (inr (own.at ∙ sym same, omega (arith, ap code_number own.code))) own.other one
        ]

pub ends : {E : Type 0} (Known : ℕ → Type 0) (read : E → Option ℕ) {entries : List (PlacedEntry E)}
    → IsAt Known read entries [] → (o n : ℕ) → NamesAt read entries o n → Known n
ends Known read here o n (e, stands, is) = all_passed here o e stands n is

-- ---- entries among others

pub next_among : {E : Type 0} {s : PlacedEntry E} {left all : List (PlacedEntry E)} → AreAmong (s ∷ left) all
    → Stands all s.offset s.entry
next_among {s = s} {left = left} among = among.listed s.offset s.entry (first_element s left)

pub others_among : {E : Type 0} {s : PlacedEntry E} {left all : List (PlacedEntry E)} → AreAmong (s ∷ left) all
    → AreAmong left all
others_among {s = s} {left = left} among =
    record { listed = λ o e stands. among.listed o e (later_element s (record { offset = o; entry = e }) left stands) }
