-- Whether anything is picked from the entries of a table.
use Rattle.std.proofs.Common.{◌≡◌, ℕ, List, [], ◌∷◌, Option, Some, None, Bool, true, false, refl, subst, inl, inr}
use Rattle.std.specs.Option.{is_some}
use Rattle.std.specs.Prelude.{◌↔◌, Contains, IsTrue, not}
use denote.Ref.{Bor}
use Rattle.acpi_base.specs.Entries.{PlacedEntry, StandsWith}
use Rattle.acpi_base.proofs.Elements.{first_element, later_element, first_or_later, no_element}
use Rattle.acpi_read.specs.declared.typed_entries.EntryAt.{EntryAt}
use Rattle.acpi_check.specs.CollectedValues.{Picks}
use Rattle.acpi_lint.specs.Places.{PicksFirst}

-- something is given for an entry exactly if this holds for it
abbrev GivesWhere : {S T : Type 0} → (S → Option T → Type 0) → (S → Type 0) → Type 0
GivesWhere {S} {T} Gives Is = (s : S) (picked : Option T) → Gives s picked → IsTrue (is_some picked) ↔ Is s

any_picked : {S T : Type 0} (Gives : S → Option T → Type 0) (Is : S → Type 0) (entries : List S) (found : Option T)
    → PicksFirst Gives entries found → GivesWhere Gives Is
    → IsTrue (is_some found) ↔ ((s : S) × Contains entries s × Is s)
unfolding PicksFirst
any_picked Gives Is [] found is each =
    rw is (λ some. absurd cc, λ (s, here, holds). absurd (no_element s here))
any_picked {S} Gives Is (s ∷ left) None (none, more) each = (
  λ some. absurd cc,
  λ (t, here, holds).
      elim (first_or_later s t left here) [
        | inl same ↦
            let given : IsTrue false = (each s None none).1 (rw same holds) in
            absurd cc
        | inr later ↦ (any_picked Gives Is left None more each).1 (t, later, holds)
      ],
)
any_picked Gives Is (s ∷ left) (Some value) (inl gives) each = (
  λ some. (s, first_element s left, (each s (Some value) gives).0 refl),
  λ any. refl,
)
any_picked Gives Is (s ∷ left) (Some value) (inr (none, more)) each = (
  λ some.
      let (t, here, holds) = (any_picked Gives Is left (Some value) more each).0 refl in
      (t, later_element s t left here, holds),
  λ any. refl,
)

-- whether anything is picked from the entries of a table, by what a call returns for each
pub any_of_entries : {E Said T : Type 0} (value : E → Said) {Answers : Bor (EntryAt E) → Option T → Type 0}
    (Is : Said → Type 0) {said entries : List (PlacedEntry Said)} (found : Option T)
    → PicksFirst (Picks value Answers) said found → said ≡ entries
    → ((at : Bor (EntryAt E)) (picked : Option T) → Answers at picked
    → IsTrue (is_some picked) ↔ Is (value at.now.entry))
    → IsTrue (is_some found) ↔ ((o : ℕ) × StandsWith entries o Is)
any_of_entries {E} {Said} {T} value {Answers} Is {said} {entries} found picks same each =
    let any = any_picked (Picks value Answers) (λ s. Is s.entry) entries found (rw same at picks) where_given in (
      λ some. (let (s, here, holds) = any.0 some in (s.offset, (s.entry, here, holds))),
      λ (o, (e, here, holds)). any.1 (record { offset = o; entry = e }, here, holds),
    )
  where
    where_given : GivesWhere (Picks value Answers) (λ (s : PlacedEntry Said). Is s.entry)
    where_given s picked (at, is, answers) =
        subst (λ (t : PlacedEntry Said). IsTrue (is_some picked) ↔ Is t.entry) is (each at picked answers)

-- nothing of a kind is there, if not anything is
pub none_there : {Q : ℕ → Type 0} (any : Bool) → IsTrue any ↔ ((o : ℕ) × Q o) → IsTrue (not any) ↔ ((o : ℕ) → ¬ Q o)
none_there true tells = (λ none. absurd cc, λ none. (let (o, holds) = tells.0 refl in absurd (none o holds)))
none_there false tells = (λ yes. λ o holds. absurd (let there = tells.1 (o, holds) in cc), λ none. refl)
