-- Entries that give keys values: if no two give one key a value, no key is given two values.
use Rattle.std.proofs.Common.{◌≡◌, ℕ, ◌<◌, List, [], ◌∷◌, length, get_or, sym, ◌∙◌, ap, inl, inr}
use Rattle.std.specs.Prelude.{⊤, None, Bool, true, false, slice_set}
use Rattle.std.proofs.lemmas.Bool.{true≢false}
use Rattle.std.proofs.lemmas.List.{get_or-set_same, get_or-set_other}
use Rattle.acpi_base.specs.Entries.{PlacedEntry, StandsWith}
use Rattle.acpi_base.proofs.Elements.{first_or_later, no_element}
use Rattle.acpi_base.proofs.Faults.Deciding.{same}
use Rattle.acpi_check.specs.FirstSeen.{FindsOther}
use Rattle.acpi_check.proofs.EntryPasses.RisingKeys.{gives_of}

-- the key is marked
abbrev pub IsSeen : List Bool → ℕ → Type 0
IsSeen seen k = get_or seen k false ≡ true

-- the entries give values to keys that are not marked, each to another one
unfoldable pub DifferFrom : {E : Type 0} → (ℕ → ℕ → E → Type 0) → List Bool → List (PlacedEntry E) → Type 0
DifferFrom Gives seen [] = ⊤
DifferFrom Gives seen (s ∷ left) =
    (now : List Bool) × ((k : ℕ) → IsSeen seen k → IsSeen now k)
    × ((k d : ℕ) → Gives k d s.entry → (IsSeen seen k → ⊥) × IsSeen now k) × DifferFrom Gives now left

-- ---- the pass

-- the keys of all entries differ if those of the entries left do, from one another and from those marked
pub record DoDifferTo {E : Type 0} (Gives : ℕ → ℕ → E → Type 0) (all left : List (PlacedEntry E))
    (seen : List Bool) : Type 0 where
  pub all_differ : DifferFrom Gives seen left → (first : List Bool) × DifferFrom Gives first all

pub begins : {E : Type 0} {Gives : ℕ → ℕ → E → Type 0} (all : List (PlacedEntry E)) (seen : List Bool)
    → DoDifferTo Gives all all seen
begins all seen = record { all_differ = λ differ. (seen, differ) }

pub without : {E : Type 0} {Gives : ℕ → ℕ → E → Type 0} {all left : List (PlacedEntry E)} {s : PlacedEntry E}
    {seen : List Bool} → DoDifferTo Gives all (s ∷ left) seen → ((k d : ℕ) → ¬ Gives k d s.entry)
    → DoDifferTo Gives all left seen
unfolding DifferFrom
without {seen = seen} before none =
    record {
      all_differ = λ differ. before.all_differ (seen, (λ k h. h), (λ k d gives. absurd (none k d gives)), differ);
    }

still_seen : (seen : List Bool) (key k : ℕ) → key < length seen → IsSeen seen k → IsSeen (slice_set seen key true) k
still_seen seen key k inside is =
    elim (same k key) [
      | inl here ↦ rw here (get_or-set_same seen key true false inside)
      | inr other ↦ get_or-set_other seen key k true false other ∙ is
    ]

-- the next entry gives a value to this key alone
pub with_one : {E : Type 0} {Gives : ℕ → ℕ → E → Type 0} {all left : List (PlacedEntry E)} {s : PlacedEntry E}
    {seen : List Bool} (key : ℕ) → DoDifferTo Gives all (s ∷ left) seen → key < length seen
    → get_or seen key false ≡ false
    → ((k d : ℕ) → Gives k d s.entry → k ≡ key) → DoDifferTo Gives all left (slice_set seen key true)
unfolding DifferFrom
with_one {seen = seen} key before inside new is =
    record {
      all_differ = λ differ. before.all_differ (
        slice_set seen key true,
        (λ k h. still_seen seen key k inside h),
        (λ k d gives. (
          (λ h. true≢false (sym h ∙ ap (λ (j : ℕ). get_or seen j false) (is k d gives) ∙ new)),
          rw (is k d gives) (get_or-set_same seen key true false inside),
        )),
        differ,
      );
    }

-- ---- all entries

not_seen : {E : Type 0} (Gives : ℕ → ℕ → E → Type 0) (entries : List (PlacedEntry E)) (seen : List Bool) (o k d : ℕ)
    → DifferFrom Gives seen entries → StandsWith entries o (Gives k d) → IsSeen seen k → ⊥
unfolding DifferFrom
not_seen Gives [] seen o k d differ (e, stands, gives) is =
    absurd (no_element (record { offset = o; entry = e }) stands)
not_seen Gives (s ∷ left) seen o k d (now, more, own, rest) (e, stands, gives) is =
    elim (first_or_later s (record { offset = o; entry = e }) left stands) [
      | inl here ↦ (own k d (gives_of Gives s o e k d here gives)).0 is
      | inr later ↦ not_seen Gives left now o k d rest (e, later, gives) (more k is)
    ]

one_value : {E : Type 0} (Gives : ℕ → ℕ → E → Type 0)
    → ((e : E) (k l d h : ℕ) → Gives k d e → Gives l h e → (k ≡ l) × (d ≡ h)) → (entries : List (PlacedEntry E))
    (seen : List Bool) → DifferFrom Gives seen entries → FindsOther Gives entries None
unfolding DifferFrom
one_value Gives one [] seen differ o p k d h (e, stands, gives) other =
    absurd (no_element (record { offset = o; entry = e }) stands)
one_value Gives one (s ∷ left) seen (now, more, own, rest) o p k d h (e, stands, gives) (b, also, gives_too) =
    elim (first_or_later s (record { offset = o; entry = e }) left stands) [
      | inl is ↦
          elim (first_or_later s (record { offset = p; entry = b }) left also) [
            | inl is_too ↦
                (one s.entry k k d h (gives_of Gives s o e k d is gives) (gives_of Gives s p b k h is_too gives_too)).1
            | inr later ↦
                absurd (not_seen Gives left now p k h rest (b, later, gives_too)
                (own k d (gives_of Gives s o e k d is gives)).1)
          ]
      | inr later ↦
          elim (first_or_later s (record { offset = p; entry = b }) left also) [
            | inl is_too ↦
                absurd (not_seen Gives left now o k d rest (e, later, gives)
                (own k h (gives_of Gives s p b k h is_too gives_too)).1)
            | inr later_too ↦
                one_value Gives one left now rest o p k d h (e, later, gives) (b, later_too, gives_too)
          ]
    ]

pub ends : {E : Type 0} {Gives : ℕ → ℕ → E → Type 0} {entries : List (PlacedEntry E)} {seen : List Bool}
    → ((e : E) (k l d h : ℕ) → Gives k d e → Gives l h e → (k ≡ l) × (d ≡ h)) → DoDifferTo Gives entries [] seen
    → FindsOther Gives entries None
unfolding DifferFrom
ends {Gives = Gives} {entries = entries} one before =
    let (first, differ) = before.all_differ tt in one_value Gives one entries first differ
