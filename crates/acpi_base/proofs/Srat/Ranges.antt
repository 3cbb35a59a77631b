-- The ranges of addresses of an SRAT: no two that are compared contain one address, or there is a first address and two
-- that do.
use Rattle.std.proofs.Common.{◌≡◌, ◌⊎◌, ℕ, ◌+◌, ◌^◌, ◌<◌, ◌≤◌, List, length, refl, inl, inr, arith}
use Rattle.std.proofs.lemmas.Bool.{cases_lt}
use Rattle.acpi_base.specs.Overlaps.{IsIntervalOverlap, AreApart, IsFirstIntervalOverlap}
use Rattle.acpi_base.specs.Entries.{Stands}
use Rattle.acpi_base.specs.Srat.{SratEntry, MemoryRange, MemoryValue, SratContents, srat_entry, srat_contents, is_enabled, is_hot_pluggable, IsAny, IsHotPluggable, IsNotHotPluggable, CoversFrom, Covers, IsValidSrat, IsValidSratEntry, IsOverlap, AreRangesApart, RangeFault, IsFirstOverlap}
use Rattle.acpi_base.specs.declared.policy.HotPlug.{HotPlug}
use Rattle.acpi_base.specs.declared.policy.HotPlug.TheVariants.{Counted, Apart}
use Rattle.acpi_base.specs.declared.code.Code.{Code}
use Rattle.acpi_base.specs.declared.code.Code.TheVariants as code
use Rattle.acpi_base.proofs.Overlaps as clashes
use Rattle.acpi_base.proofs.Overlaps.{AreFiniteRanges, ranges_of_entries, apart_or_first}
use Rattle.acpi_base.proofs.Faults.Deciding.{Decided, all5, same, below, at_most, is_true, is_false}
use Rattle.acpi_base.proofs.EntryOffsets.{AreOnes, one_said, said_inside}

-- ---- ranges of one kind

-- the first address of a range, and the one after the last
first_address : SratEntry → ℕ
first_address (MemoryRange v) = v.base
first_address _ = 0

end_of_range : SratEntry → ℕ
end_of_range (MemoryRange v) = v.base + v.size
end_of_range _ = 0

covers : (P : MemoryValue → Type 0) (s x : ℕ) (e : SratEntry) → CoversFrom P s x e
    → (first_address e ≡ s) × (s ≤ x) × (x < end_of_range e)
unfolding first_address end_of_range
covers P s x (MemoryRange v) h = (h.2, h.3, omega (arith, h.2, h.4))
covers P s x _ h = absurd h

covers_decided : (P : MemoryValue → Type 0) → ((v : MemoryValue) → Decided (P v)) → (s x : ℕ) (e : SratEntry)
    → Decided (CoversFrom P s x e)
covers_decided P decide s x (MemoryRange v) =
    all5 (is_true (is_enabled v.flags)) (decide v) (same v.base s) (at_most s x) (below x (s + v.size))
covers_decided P decide s x _ = inr (λ h. h)

pub ones : (whole : List ℕ) → AreOnes (srat_contents whole).entries
unfolding srat_contents
ones whole = one_said srat_entry 48 whole

ranges : (P : MemoryValue → Type 0) → ((v : MemoryValue) → Decided (P v)) → (whole : List ℕ)
    → AreFiniteRanges (Covers P (srat_contents whole))
ranges P decide whole =
    ranges_of_entries (srat_contents whole).entries (CoversFrom P) first_address end_of_range (ones whole) (covers P)
    (covers_decided P decide)

all_ranges : (whole : List ℕ) → AreFiniteRanges (Covers IsAny (srat_contents whole))
all_ranges whole = ranges IsAny (λ v. inl tt) whole

hot_ranges : (whole : List ℕ) → AreFiniteRanges (Covers IsHotPluggable (srat_contents whole))
hot_ranges whole = ranges IsHotPluggable (λ v. is_true (is_hot_pluggable v.flags)) whole

other_ranges : (whole : List ℕ) → AreFiniteRanges (Covers IsNotHotPluggable (srat_contents whole))
other_ranges whole = ranges IsNotHotPluggable (λ v. is_false (is_hot_pluggable v.flags)) whole

covered_below : (P : MemoryValue → Type 0) (s x : ℕ) (e : SratEntry) → IsValidSratEntry e → CoversFrom P s x e
    → x < 2 ^ 64
covered_below P s x (MemoryRange v) valid h = omega (arith, valid h.0, h.2, h.4)
covered_below P s x _ valid h = absurd h

clash_below : (P : MemoryValue → Type 0) (c : SratContents) → IsValidSrat c → (at other point : ℕ)
    → IsIntervalOverlap (Covers P c) at other point → point < 2 ^ 64
clash_below P c valid at other point overlap =
    let (e, stands, h) = overlap.one_holds in
    covered_below P overlap.s point e (valid.entries at e stands) h

inside : (whole : List ℕ) (o : ℕ) (e : SratEntry) → Stands (srat_contents whole).entries o e → o < length whole
unfolding srat_contents
inside whole = said_inside srat_entry 48 whole

-- ---- ranges that are compared

-- an overlap that is reported
abbrev FirstOverlap : HotPlug → SratContents → Type 0
FirstOverlap h c = (at other point : ℕ) × IsFirstOverlap h c at other point

-- the first clash of the ranges of one kind
abbrev FirstOf : (MemoryValue → Type 0) → SratContents → Type 0
FirstOf P c = (at other point : ℕ) × IsFirstIntervalOverlap (Covers P c) at other point

joined : (c : SratContents) → AreApart (Covers IsNotHotPluggable c) ⊎ FirstOf IsNotHotPluggable c
    → AreApart (Covers IsHotPluggable c) ⊎ FirstOf IsHotPluggable c
    → AreRangesApart Apart c ⊎ FirstOverlap Apart c
joined c (inl none) (inl neither) =
    inl (λ o p x overlap. elim overlap [ inl overlap ↦ none o p x overlap | inr overlap ↦ neither o p x overlap ])
joined c (inr (at, other, point, first)) (inl none) =
    inr (at, other, point, inl (first, λ o p x overlap. absurd (none o p x overlap)))
joined c (inl none) (inr (at, other, point, first)) =
    inr (at, other, point, inr (first, λ o p x overlap. absurd (none o p x overlap)))
joined c (inr (at, other, point, first)) (inr (at', other', point', first')) =
    elim (cases_lt point' point) [
      | inl less ↦ inr (at', other', point', inr (first', λ o p x overlap. omega (arith, first.least o p x overlap)))
      | inr most ↦ inr (at, other, point, inl (first, λ o p x overlap. omega (arith, first'.least o p x overlap)))
    ]

apart_or_overlap : (h : HotPlug) (whole : List ℕ) → AreRangesApart h (srat_contents whole)
    ⊎ FirstOverlap h (srat_contents whole)
apart_or_overlap Counted whole = apart_or_first (all_ranges whole)
apart_or_overlap Apart whole =
    joined (srat_contents whole) (apart_or_first (other_ranges whole)) (apart_or_first (hot_ranges whole))

pub is_overlap : (h : HotPlug) (c : SratContents) (at other point : ℕ) → IsFirstOverlap h c at other point
    → IsOverlap h c at other point
is_overlap Counted c at other point first = first.overlap
is_overlap Apart c at other point (inl (first, _)) = inl first.overlap
is_overlap Apart c at other point (inr (first, _)) = inr first.overlap

of_kind : {Q : Type 0} (h : HotPlug) (c : SratContents) (at other point : ℕ) → IsOverlap h c at other point
    → ((P : MemoryValue → Type 0) → IsIntervalOverlap (Covers P c) at other point → Q) → Q
of_kind Counted c at other point overlap from = from IsAny overlap
of_kind Apart c at other point (inl overlap) from = from IsNotHotPluggable overlap
of_kind Apart c at other point (inr overlap) from = from IsHotPluggable overlap

pub is_fault : (h : HotPlug) (c : SratContents) → IsValidSrat c → (at other point : ℕ)
    → IsFirstOverlap h c at other point → RangeFault h c code.Overlap at other point
is_fault h c valid at other point first =
    let overlap = is_overlap h c at other point first in
    (of_kind h c at other point overlap (λ P overlap. clash_below P c valid at other point overlap), overlap)

pub settled : (h : HotPlug) (whole : List ℕ) → IsValidSrat (srat_contents whole)
    → AreRangesApart h (srat_contents whole)
    ⊎ ((at other point : ℕ) × IsFirstOverlap h (srat_contents whole) at other point
    × RangeFault h (srat_contents whole) code.Overlap at other point)
settled h whole valid =
    elim (apart_or_overlap h whole) [
      | inl apart ↦ inl apart
      | inr (at, other, point, first) ↦
          inr (at, other, point, first, is_fault h (srat_contents whole) valid at other point first)
    ]

pub one_first : (h : HotPlug) (whole : List ℕ) (at other point at' other' point' : ℕ)
    → IsFirstOverlap h (srat_contents whole) at other point → IsFirstOverlap h (srat_contents whole) at' other' point'
    → (at ≡ at') × (other ≡ other') × (point ≡ point')
one_first Counted whole at other point at' other' point' one two = clashes.one_first (all_ranges whole) one two
one_first Apart whole at other point at' other' point' (inl one) (inl two) =
    clashes.one_first (other_ranges whole) one.0 two.0
one_first Apart whole at other point at' other' point' (inr one) (inr two) =
    clashes.one_first (hot_ranges whole) one.0 two.0
one_first Apart whole at other point at' other' point' (inl one) (inr two) =
    absurd (omega (arith, one.1 at' other' point' two.0.overlap, two.1 at other point one.0.overlap))
one_first Apart whole at other point at' other' point' (inr one) (inl two) =
    absurd (omega (arith, one.1 at' other' point' two.0.overlap, two.1 at other point one.0.overlap))

pub excludes : (h : HotPlug) (c : SratContents) (fault : Code) (at other point : ℕ)
    → RangeFault h c fault at other point → ¬ AreRangesApart h c
excludes h c code.Overlap at other point (below, overlap) apart = apart at other point overlap
excludes h c _ at other point fault apart = fault

pub code_is : (h : HotPlug) (c : SratContents) (fault : Code) (at other point : ℕ) → RangeFault h c fault at other point
    → fault ≡ code.Overlap
code_is h c code.Overlap at other point overlap = refl
code_is h c _ at other point fault = absurd fault

pub fits : (h : HotPlug) (whole : List ℕ) (fault : Code) (at other point : ℕ)
    → RangeFault h (srat_contents whole) fault at other point
    → (at < length whole) × (other < length whole) × (point < 2 ^ 64)
fits h whole code.Overlap at other point (below, overlap) =
    of_kind h (srat_contents whole) at other point overlap
    (λ P overlap. (
      inside whole at overlap.one_holds.0 overlap.one_holds.1,
      inside whole other overlap.other_holds.0 overlap.other_holds.1,
      below,
    ))
fits h whole _ at other point fault = absurd fault
