-- A walk over the entries of a table.
use Rattle.std.proofs.Common.{◌≡◌, ℕ, ◌+◌, ◌<◌, ◌≤◌, List, [], ◌∷◌, length, drop, Option, Some, None, refl, ap, ◌∙◌, sym, subst, inl, inr, arith, length-drop}
use Rattle.std.specs.Prelude.{◌⊎◌}
use Rattle.std.proofs.lemmas.List.{nil_from_length}
use Rattle.std.proofs.lemmas.Option.{same_Some}
use denote.Ref.{Bor}
use Rattle.std.specs.Option.{option_map, MatchOption}
use Rattle.acpi_base.specs.Entries.{PlacedEntry, Stands, first_entry, entries_of}
use Rattle.acpi_base.proofs.Elements.{first_element, later_element, first_or_later, no_element}
use Rattle.acpi_base.proofs.Options.{none_and_some}
use Rattle.acpi_base.proofs.EntryOffsets.{entry_within}
use Rattle.acpi_base.proofs.EntrySteps as step
use Rattle.acpi_confirm.specs.Walks.{IsThere, IsEnd, IsNext, IsOnWay}

-- ---- a step of the walk

pub is_end : (start : ℕ) (whole : List ℕ) → first_entry (drop start whole) ≡ None → IsEnd start whole
is_end start whole none = (let end = step.is_end start whole none in record { none = end.none; end = end.end })

pub is_next : (start : ℕ) (whole e : List ℕ) → first_entry (drop start whole) ≡ Some e → IsNext start whole e
is_next start whole e is =
    let next = step.is_next start whole e is in
    let least = next.entry.least in
    record {
      entry = next.entry;
      fits = omega (arith, next.fits, length-drop start whole);
      first = next.first;
      end = next.end;
    }

-- ---- the walk

nothing_behind : first_entry [] ≡ None
unfolding first_entry
nothing_behind = refl

pub is_past : (start : ℕ) (whole : List ℕ) → length whole ≤ start → IsEnd start whole
is_past start whole past =
    is_end start whole (ap first_entry (nil_from_length (drop start whole) (omega (arith, length-drop start whole)))
    ∙ nothing_behind)

pub end_or_next : (start : ℕ) (whole : List ℕ) (found : Option (Bor (List ℕ)))
    → option_map (λ entry. entry.now) found ≡ first_entry (drop start whole)
    → MatchOption found (IsEnd start whole) (λ entry. IsNext start whole entry.now)
end_or_next start whole None is = is_end start whole (sym is)
end_or_next start whole (Some e) is = is_next start whole e.now (sym is)

pub at_first : (first : ℕ) (whole : List ℕ) (at : ℕ) → IsOnWay first first whole at
at_first first whole at = record { same = λ e. (λ h. h, λ h. h) }

pub at_next : (first start : ℕ) (whole : List ℕ) (at : ℕ) (e : List ℕ) → IsOnWay first start whole at
    → IsNext start whole e → start < at → IsOnWay first (start + length e) whole at
at_next first start whole at e way next before =
    record {
      same = λ d. (
        λ stands. elim (first_or_later _ _ _ (rw next.first at ((way.same d).0 stands))) [
          | inl is ↦ absurd (omega (arith, ap (λ (s : PlacedEntry (List ℕ)). s.offset) is))
          | inr later ↦ later
        ],
        λ later. (way.same d).1 (rw next.first (later_element _ _ _ later)),
      );
    }

none_before : (start : ℕ) (whole : List ℕ) (at : ℕ) (e : List ℕ) → at < start → ¬ Stands (entries_of start whole) at e
none_before start whole at e before stands = absurd (omega (arith, entry_within start whole at e stands))

pub none_there : (first start : ℕ) (whole : List ℕ) (at : ℕ) → IsOnWay first start whole at → IsEnd start whole
    → IsThere (entries_of first whole) at None
none_there first start whole at way end =
    record {
      is = λ e. (
        λ stands. absurd (no_element _ (rw end.none at ((way.same e).0 stands))),
        λ some. absurd (none_and_some refl some),
      );
    }

pub passed_there : (first start : ℕ) (whole : List ℕ) (at : ℕ) → IsOnWay first start whole at → at < start
    → IsThere (entries_of first whole) at None
passed_there first start whole at way before =
    record {
      is = λ e. (
        λ stands. absurd (none_before start whole at e before ((way.same e).0 stands)),
        λ some. absurd (none_and_some refl some),
      );
    }

-- the next entry is at the offset itself, or none
pub is_there : (first start : ℕ) (whole : List ℕ) (at : ℕ) (found : Option (Bor (List ℕ))) → start ≡ at
    → IsOnWay first start whole at → MatchOption found (IsEnd start whole) (λ entry. IsNext start whole entry.now)
    → IsThere (entries_of first whole) at (option_map (λ entry. entry.now) found)
is_there first start whole at None here way end = none_there first start whole at way end
is_there first start whole at (Some e) here way next =
    let entries = record { offset = start; entry = e.now } ∷ entries_of (start + length e.now) whole in
    record {
      is = λ d. (
        λ stands. elim (first_or_later _ _ _ (rw next.first at ((way.same d).0 stands))) [
          | inl is ↦ ap (λ (s : PlacedEntry (List ℕ)). Some s.entry) is
          | inr later ↦ let least =
              next.entry.least in absurd (none_before (start + length e.now) whole at d (omega arith) later)
        ],
        λ is. (way.same d).1 (rw next.first
            (rw (← same_Some _ _ is, ← here) (first_element _ _))),
      );
    }

pub ruleset walking = (at_first, at_next, is_past, end_or_next, none_there)

-- ---- a search

-- from the start on there are the same entries as in the complete table, except for some for which `No` holds
pub record IsOver (No : List ℕ → Type 0) (first start : ℕ) (whole : List ℕ) : Type 0 where
  pub listed : (o : ℕ) (e : List ℕ) → Stands (entries_of start whole) o e → Stands (entries_of first whole) o e
  pub passed : (o : ℕ) (e : List ℕ) → Stands (entries_of first whole) o e → Stands (entries_of start whole) o e ⊎ No e

pub over_next : (No : List ℕ → Type 0) (first start : ℕ) (whole e : List ℕ) → IsOver No first start whole
    → IsNext start whole e → No e → IsOver No first (start + length e) whole
over_next No first start whole e over next passes =
    record {
      listed = λ o d later. over.listed o d (rw next.first (later_element _ _ _ later));
      passed = λ o d stands. elim (over.passed o d stands) [
        | inr passed ↦ inr passed
        | inl left ↦
            elim (first_or_later _ _ _ (rw next.first at left)) [
              | inl is ↦ inr (subst No (ap (λ (s : PlacedEntry (List ℕ)). s.entry) is) passes)
              | inr later ↦ inl later
            ]
      ];
    }

pub over_all : (No : List ℕ → Type 0) (first start : ℕ) (whole : List ℕ) → IsOver No first start whole
    → IsEnd start whole → (o : ℕ) (e : List ℕ) → Stands (entries_of first whole) o e → No e
over_all No first start whole over end o e stands =
    elim (over.passed o e stands) [ inl left ↦ absurd (no_element _ (rw end.none at left)) | inr passed ↦ passed ]
