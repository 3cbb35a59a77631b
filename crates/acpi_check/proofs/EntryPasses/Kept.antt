-- What is kept of the entries of a table, in their order: its keys are the entries' offsets, so they rise.
use Rattle.std.proofs.Common.{◌≡◌, ℕ, zero, suc, ◌+◌, ◌<◌, ◌≤◌, List, [], ◌∷◌, length, take, drop, map, Option, Some, None, ◌∙◌, ap, inl, inr, arith}
use Rattle.std.specs.Prelude.{◌&&◌, All, AllPairs, Contains, slice_index, nat_le}
use Rattle.std.specs.List.{cons_option, filter_map}
use Rattle.std.proofs.Math.ListN.{get_or-map}
use Rattle.std.proofs.lemmas.Bool.{and_parts, leb-true}
use Rattle.std.proofs.lemmas.List.{length-take-le, length-map}
use Rattle.std.proofs.lemmas.List.Elements.{All-nil, All-cons}
use Rattle.std.proofs.lemmas.List.Kept.{AllPairs-cons}
use Rattle.std.proofs.lemmas.Option.{cond_some}
use Rattle.acpi_base.specs.Entries.{PlacedEntry, first_entry, entries_from, entries_of, entries_read_by}
use Rattle.acpi_base.specs.Madt.{MadtEntry, madt_entry, madt_contents}
use Rattle.acpi_base.specs.Srat.{SratEntry, srat_entry, srat_contents}
use Rattle.acpi_base.specs.Pptt.{pptt_entry, pptt_contents}
use Rattle.acpi_base.proofs.Options.{cases_Option}
use Rattle.acpi_base.proofs.Elements.{first_element, later_element, first_or_later, no_element}
use Rattle.acpi_base.proofs.EntryOffsets.{entry_within, said_from}

-- ---- elements of lists

pub map_has : {X Y : Type 0} (f : X → Y) (xs : List X) (x : X) → Contains xs x → Contains (map f xs) (f x)
map_has f xs x (k, below, is) = (k, omega (arith, length-map xs f), get_or-map f xs k x ∙ ap f is)

pub kept_has : {X Y : Type 0} (h : X → Option Y) (xs : List X) (x : X) (y : Y) → Contains xs x → h x ≡ Some y
    → Contains (filter_map h xs) y
kept_has h [] x y listed is = absurd (no_element x listed)
kept_has h (u ∷ xs) x y listed is =
    elim (first_or_later u x xs listed) [
      | inl same ↦ rw (ap h same ∙ is) (first_element y (filter_map h xs))
      | inr later ↦
          let rest = kept_has h xs x y later is in
          elim (h u) as (λ o. Contains (cons_option o (filter_map h xs)) y) [
            | None ↦ rest
            | Some v ↦
                later_element v y (filter_map h xs) rest
          ]
    ]

pub kept_from : {X Y : Type 0} (h : X → Option Y) (xs : List X) (y : Y) → Contains (filter_map h xs) y
    → (x : X) × Contains xs x × (h x ≡ Some y)
kept_from {X} h [] y listed = absurd (no_element y listed)
kept_from {X} h (u ∷ xs) y listed =
    elim (cases_Option (h u)) [
      | inr none ↦ later (kept_from h xs y (rw none at listed))
      | inl (v, is) ↦
          elim (first_or_later v y (filter_map h xs) (rw is at listed)) [
            | inl same ↦ (u, first_element u xs, is ∙ ap Some same)
            | inr rest ↦ later (kept_from h xs y rest)
          ]
    ]
  where
    later : (x : X) × Contains xs x × (h x ≡ Some y) → (x : X) × Contains (u ∷ xs) x × (h x ≡ Some y)
    later (x, rest, is) = (x, later_element u x xs rest, is)

-- ---- offsets rise

-- the entries are at rising offsets, from `low` on
abbrev pub AreRising : {E : Type 0} → ℕ → List (PlacedEntry E) → Type 0
AreRising low [] = Unit {0}
AreRising low (s ∷ rest) = (low ≤ s.offset) × AreRising (suc s.offset) rest

rising_from_less : {E : Type 0} (low high : ℕ) (entries : List (PlacedEntry E)) → low ≤ high
    → AreRising high entries → AreRising low entries
rising_from_less low high [] less rises = tt
rising_from_less low high (s ∷ rest) less rises = (omega (arith, rises.0), rises.1)

first_least : (left e : List ℕ) → first_entry left ≡ Some e → 2 ≤ length e
unfolding first_entry
first_least left e is =
    let parts = cond_some (nat_le 2 (length left) && nat_le 2 (slice_index left 1) && nat_le (slice_index left 1)
    (length left)) (take (slice_index left 1) left) e is in
    grind (arith, and_parts, leb-true, length-take-le, parts.0, parts.1)

rising_from : {E : Type 0} (read : List ℕ → E) (n offset : ℕ) (left : List ℕ)
    → AreRising offset (entries_read_by read (entries_from n offset left))
unfolding entries_from
rising_from read zero offset left = tt
rising_from read (suc n) offset left =
    elim (cases_Option (first_entry left)) [
      | inr none ↦ rw none tt
      | inl (e, is) ↦ rw is (
        omega arith,
        rising_from_less (suc offset) (offset + length e) _
            (omega (arith, first_least left e is)) (rising_from read n (offset + length e) (drop (length e) left)),
      )
    ]

pub rising : {E : Type 0} (read : List ℕ → E) (first : ℕ) (whole : List ℕ)
    → AreRising first (entries_read_by read (entries_of first whole))
unfolding entries_of
rising read first whole = rising_from read (length whole) first (drop first whole)

pub madt_rising : (whole : List ℕ) → AreRising 44 (madt_contents whole).entries
unfolding madt_contents
madt_rising whole = rising madt_entry 44 whole

pub srat_rising : (whole : List ℕ) → AreRising 48 (srat_contents whole).entries
unfolding srat_contents
srat_rising whole = rising srat_entry 48 whole

pub pptt_rising : (whole : List ℕ) → AreRising 36 (pptt_contents whole).entries
unfolding pptt_contents
pptt_rising whole = rising pptt_entry 36 whole

inside : {E : Type 0} (read : List ℕ → E) (first : ℕ) (whole : List ℕ) (s : PlacedEntry E)
    → Contains (entries_read_by read (entries_of first whole)) s → s.offset < length whole
inside read first whole s listed =
    let (bytes, here, _) = said_from read (entries_of first whole) s.offset s.entry listed in
    omega (arith, entry_within first whole s.offset bytes here)

pub madt_inside : (whole : List ℕ) (s : PlacedEntry MadtEntry) → Contains (madt_contents whole).entries s
    → s.offset < length whole
unfolding madt_contents
madt_inside whole s listed = inside madt_entry 44 whole s listed

pub srat_inside : (whole : List ℕ) (s : PlacedEntry SratEntry) → Contains (srat_contents whole).entries s
    → s.offset < length whole
unfolding srat_contents
srat_inside whole s listed = inside srat_entry 48 whole s listed

-- ---- keys rise

-- what is kept of an entry has the entry's offset as its key
abbrev pub AreKeyed : {E Y : Type 0} → (PlacedEntry E → Option Y) → (Y → ℕ) → Type 0
AreKeyed {E} {Y} h key = (s : PlacedEntry E) (y : Y) → h s ≡ Some y → key y ≡ s.offset

keys_from : {E Y : Type 0} (h : PlacedEntry E → Option Y) (key : Y → ℕ) → AreKeyed h key
    → (low : ℕ) (entries : List (PlacedEntry E)) → AreRising low entries → All (λ y. low ≤ key y) (filter_map h entries)
keys_from h key keyed low [] rises = All-nil (λ y. low ≤ key y)
keys_from h key keyed low (s ∷ rest) rises =
    let later = keys_from h key keyed low rest
    (rising_from_less low (suc s.offset) rest (omega (arith, rises.0)) rises.1) in
    elim (cases_Option (h s)) [
      | inr none ↦ rw none later
      | inl (y, is) ↦ rw is (All-cons (λ x. low ≤ key x) y (filter_map h rest) (omega (arith, rises.0, keyed s y is))
          later)
    ]

pub keys_rise : {E Y : Type 0} (h : PlacedEntry E → Option Y) (key : Y → ℕ) → AreKeyed h key
    → (low : ℕ) (entries : List (PlacedEntry E)) → AreRising low entries
    → AllPairs (λ x y. key x < key y) (filter_map h entries)
keys_rise h key keyed low [] rises = λ i j d before below. absurd (omega arith)
keys_rise h key keyed low (s ∷ rest) rises =
    let later = keys_rise h key keyed (suc s.offset) rest rises.1 in
    elim (cases_Option (h s)) [
      | inr none ↦ rw none later
      | inl (y, is) ↦
          let above = keys_from h key keyed (suc s.offset) rest rises.1 in
          rw is (AllPairs-cons (λ x z. key x < key z) y (filter_map h rest)
          (λ k d below. omega (arith, keyed s y is, above k d below)) later)
    ]
