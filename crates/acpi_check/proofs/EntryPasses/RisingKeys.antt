-- Entries that give keys values: if the keys rise, no key is given two values.
use Rattle.std.proofs.Common.{◌≡◌, ℕ, ◌+◌, ◌<◌, ◌≤◌, List, [], ◌∷◌, ◌∙◌, ap, sym, subst, inl, inr, arith}
use Rattle.std.specs.Prelude.{⊤, None}
use Rattle.acpi_base.specs.Entries.{PlacedEntry, Stands, StandsWith}
use Rattle.acpi_base.proofs.Elements.{first_or_later, no_element}
use Rattle.acpi_check.specs.FirstSeen.{FindsOther}

-- the keys to which entries give values rise from this number on
unfoldable pub RiseFrom : {E : Type 0} → (ℕ → ℕ → E → Type 0) → ℕ → List (PlacedEntry E) → Type 0
RiseFrom Gives least [] = ⊤
RiseFrom Gives least (s ∷ left) =
    (next : ℕ) × (least ≤ next) × ((k d : ℕ) → Gives k d s.entry → (least ≤ k) × (k < next)) × RiseFrom Gives next left

-- ---- the pass

-- the keys of all entries rise if those of the entries left do, from this number on
pub record DoRiseTo {E : Type 0} (Gives : ℕ → ℕ → E → Type 0) (all left : List (PlacedEntry E))
    (least : ℕ) : Type 0 where
  pub all_rise : RiseFrom Gives least left → RiseFrom Gives 0 all

pub begins : {E : Type 0} {Gives : ℕ → ℕ → E → Type 0} (all : List (PlacedEntry E)) → DoRiseTo Gives all all 0
begins all = record { all_rise = λ rise. rise }

pub without : {E : Type 0} {Gives : ℕ → ℕ → E → Type 0} {all left : List (PlacedEntry E)} {s : PlacedEntry E}
    {least : ℕ} → DoRiseTo Gives all (s ∷ left) least → ((k d : ℕ) → ¬ Gives k d s.entry)
    → DoRiseTo Gives all left least
unfolding RiseFrom
without {least = least} before none =
    record { all_rise = λ rise. before.all_rise (least, omega arith, (λ k d gives. absurd (none k d gives)), rise) }

-- the next entry gives values to keys below this number alone
pub with_some : {E : Type 0} {Gives : ℕ → ℕ → E → Type 0} {all left : List (PlacedEntry E)} {s : PlacedEntry E}
    {least : ℕ} (next : ℕ) → DoRiseTo Gives all (s ∷ left) least → least ≤ next
    → ((k d : ℕ) → Gives k d s.entry → (least ≤ k) × (k < next)) → DoRiseTo Gives all left next
unfolding RiseFrom
with_some next before up own = record { all_rise = λ rise. before.all_rise (next, up, own, rise) }

-- the next entry gives a value to this key alone
pub with_one : {E : Type 0} {Gives : ℕ → ℕ → E → Type 0} {all left : List (PlacedEntry E)} {s : PlacedEntry E}
    {least : ℕ} (key : ℕ) → DoRiseTo Gives all (s ∷ left) least → least ≤ key
    → ((k d : ℕ) → Gives k d s.entry → k ≡ key) → DoRiseTo Gives all left (key + 1)
with_one key before from is =
    with_some (key + 1) before (omega (arith, from))
    (λ k d gives. (omega (arith, from, is k d gives), omega (arith, is k d gives)))

-- ---- all entries

pub gives_of : {E : Type 0} (Gives : ℕ → ℕ → E → Type 0) (s : PlacedEntry E) (o : ℕ) (e : E) (k d : ℕ)
    → s ≡ record { offset = o; entry = e } → Gives k d e → Gives k d s.entry
gives_of {E} Gives s o e k d is gives = subst (λ (t : PlacedEntry E). Gives k d t.entry) (sym is) gives

not_below : {E : Type 0} (Gives : ℕ → ℕ → E → Type 0) (entries : List (PlacedEntry E)) (least o k d : ℕ)
    → RiseFrom Gives least entries → StandsWith entries o (Gives k d) → least ≤ k
unfolding RiseFrom
not_below Gives [] least o k d rise (e, stands, gives) =
    absurd (no_element (record { offset = o; entry = e }) stands)
not_below Gives (s ∷ left) least o k d (next, up, own, rest) (e, stands, gives) =
    elim (first_or_later s (record { offset = o; entry = e }) left stands) [
      | inl is ↦ (own k d (gives_of Gives s o e k d is gives)).0
      | inr later ↦ omega (arith, up, not_below Gives left next o k d rest (e, later, gives))
    ]

-- entries that give one key values are one entry
same_entry : {E : Type 0} (Gives : ℕ → ℕ → E → Type 0) (entries : List (PlacedEntry E)) (least : ℕ)
    → RiseFrom Gives least entries → (o p k d h : ℕ) (e b : E) → Stands entries o e → Gives k d e → Stands entries p b
    → Gives k h b → (o ≡ p) × (e ≡ b)
unfolding RiseFrom
same_entry Gives [] least rise o p k d h e b stands gives also gives_too =
    absurd (no_element (record { offset = o; entry = e }) stands)
same_entry Gives (s ∷ left) least (next, up, own, rest) o p k d h e b stands gives also gives_too =
    elim (first_or_later s (record { offset = o; entry = e }) left stands) [
      | inl is ↦
          elim (first_or_later s (record { offset = p; entry = b }) left also) [
            | inl is_too ↦
                let same = sym is ∙ is_too in
                (ap (λ t. t.offset) same, ap (λ t. t.entry) same)
            | inr later ↦
                absurd (omega (
                  arith,
                  not_below Gives left next p k h rest (b, later, gives_too),
                  (own k d (gives_of Gives s o e k d is gives)).1,
                ))
          ]
      | inr later ↦
          elim (first_or_later s (record { offset = p; entry = b }) left also) [
            | inl is_too ↦
                absurd (omega (
                  arith,
                  not_below Gives left next o k d rest (e, later, gives),
                  (own k h (gives_of Gives s p b k h is_too gives_too)).1,
                ))
            | inr later_too ↦ same_entry Gives left next rest o p k d h e b later gives later_too gives_too
          ]
    ]

pub ends_apart : {E : Type 0} {Gives : ℕ → ℕ → E → Type 0} {entries : List (PlacedEntry E)} {least : ℕ}
    → DoRiseTo Gives entries [] least → (o p k d h : ℕ) → StandsWith entries o (Gives k d)
    → StandsWith entries p (Gives k h) → o ≡ p
unfolding RiseFrom
ends_apart {Gives = Gives} {entries = entries} before o p k d h (e, stands, gives) (b, also, gives_too) =
    (same_entry Gives entries 0 (before.all_rise tt) o p k d h e b stands gives also gives_too).0

pub ends : {E : Type 0} {Gives : ℕ → ℕ → E → Type 0} {entries : List (PlacedEntry E)} {least : ℕ}
    → ((e : E) (k l d h : ℕ) → Gives k d e → Gives l h e → (k ≡ l) × (d ≡ h)) → DoRiseTo Gives entries [] least
    → FindsOther Gives entries None
unfolding RiseFrom
ends {Gives = Gives} {entries = entries} one before o p k d h (e, stands, gives) (b, also, gives_too) =
    let same = (same_entry Gives entries 0 (before.all_rise tt) o p k d h e b stands gives also gives_too).1 in
    (one b k k d h (subst (Gives k d) same gives) gives_too).1
