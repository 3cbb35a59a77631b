-- A loop that adds offsets to a set.
use Rattle.std.proofs.Common.{◌≡◌, ℕ, ◌+◌, ◌<◌, ◌≤◌, List, length, get_or, sym, ◌∙◌, subst, inl, inr, arith}
use Rattle.std.specs.Prelude.{◌↔◌, Contains, true}
use Rattle.std.proofs.lemmas.Bool.{cases_order}
use Rattle.std.proofs.lemmas.List.{get_or_default}
use Rattle.acpi_check.specs.BitSets.{IsIn, Adds}
use Rattle.acpi_check.specs.declared.bit_set.BitSet.{BitSet}

-- o is one of the first i offsets
abbrev IsBefore : List ℕ → ℕ → ℕ → Type 0
IsBefore offsets i o = (j : ℕ) × (j < i) × (j < length offsets) × (get_or offsets j o ≡ o)

-- the first i offsets are in the set, and no others
abbrev pub AreAdded : List ℕ → ℕ → BitSet → Type 0
AreAdded offsets i s = (o : ℕ) → IsIn s o ↔ IsBefore offsets i o

pub none_added : (offsets : List ℕ) (s : BitSet) → ((o : ℕ) → ¬ IsIn s o) → AreAdded offsets 0 s
none_added offsets s none = λ o. (λ is. absurd (none o is), λ (j, below, inside, at). absurd (omega arith))

pub one_added : (offsets : List ℕ) (i h : ℕ) (old new : BitSet) → i < length offsets → get_or offsets i h ≡ h
    → Adds true h old new → AreAdded offsets i old → AreAdded offsets (i + 1) new
one_added offsets i h old new within here adds before = λ o. (
  λ is. elim ((adds o).0 is) [
    | inl same ↦ rw same (i, omega arith, within, here)
    | inr was ↦ (let (j, below, inside, at) = (before o).0 was in (j, omega arith, inside, at))
  ],
  λ (j, below, inside, at). elim (cases_order j i) [
    | inl same ↦ (adds o).1 (inl
        (sym at ∙ subst (λ (k : ℕ). get_or offsets k o ≡ h) (sym same) (get_or_default offsets i o h within ∙ here)))
    | inr (inl less) ↦ (adds o).1 (inr ((before o).1 (j, less, inside, at)))
    | inr (inr more) ↦ absurd (omega arith)
  ],
)

pub all_added : (offsets : List ℕ) (i : ℕ) (s : BitSet) → length offsets ≤ i → AreAdded offsets i s
    → (o : ℕ) → IsIn s o ↔ Contains offsets o
all_added offsets i s past are = λ o. (
  λ is. (let (j, below, inside, at) = (are o).0 is in (j, inside, at)),
  λ (j, inside, at). (are o).1 (j, omega arith, inside, at),
)
