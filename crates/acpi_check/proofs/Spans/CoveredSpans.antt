-- The spans that are collected from the entries of an SRAT are the addresses of its enabled ranges, and their first
-- overlaps, by kinds of ranges, give the one that is reported.
use Rattle.std.proofs.Common.{◌≡◌, ℕ, ◌+◌, ◌<◌, ◌≤◌, Bool, true, false, not, cond, nat_lt, List, map, Option, Some, None, refl, inl, inr, arith}
use Rattle.std.specs.Prelude.{◌↔◌, ◌&&◌}
use Rattle.std.proofs.lemmas.Bool.{and_parts, cases_lt, lt-ltb, le-ltb}
use Rattle.std.proofs.lemmas.Option.{none-some}
use Rattle.acpi_base.specs.Srat.{SratEntry, MemoryRange, MemoryValue, SratContents, srat_contents, is_enabled, is_hot_pluggable, IsAny, IsHotPluggable, IsNotHotPluggable, CoversFrom, Covers}
use Rattle.acpi_base.specs.declared.policy.HotPlug.TheVariants.{Counted, Apart}
use Rattle.acpi_graph.specs.declared.clash.Clash.{Clash}
use Rattle.acpi_graph.specs.declared.clash.Clash.TheVariants as clash
use Rattle.acpi_graph.specs.declared.span.Span.{Span}
use Rattle.acpi_check.specs.RangeSpans.{AreSpansOf, HasLowPoint, IsOverlapResult, IsRangesResult, earlier_clash, SpanValue, span_value, span_from, covered_span, spans_of}
use Rattle.acpi_check.proofs.Spans.EntrySpans.{are_spans, from_is, from_some}
use Rattle.acpi_check.proofs.EntryPasses.Kept.{srat_rising}

-- ---- ranges of one kind

-- the test selects the ranges of the kind
abbrev pub Tests : (MemoryValue → Bool) → (MemoryValue → Type 0) → Type 0
Tests counts P = (v : MemoryValue) → (counts v ≡ true) ↔ P v

where_some : (b : Bool) (o : Option SpanValue) (v : SpanValue) → cond b o None ≡ Some v → (b ≡ true) × (o ≡ Some v)
where_some true o v is = (refl, is)
where_some false o v is = absurd (none-some v is)

named : (counts : MemoryValue → Bool) (o : ℕ) (e : SratEntry) (v : SpanValue) → covered_span counts o e ≡ Some v
    → v.name ≡ o
named counts o (MemoryRange v) span is = grind (arith, from_is, is)
named counts o _ span is = absurd cc

covers : (counts : MemoryValue → Bool) (P : MemoryValue → Type 0) → Tests counts P → (o s x : ℕ) (e : SratEntry)
    → CoversFrom P s x e ↔ ((v : SpanValue) × (covered_span counts o e ≡ Some v) × (v.start ≡ s) × (s ≤ x)
    × (x < v.end))
covers counts P tests o s x (MemoryRange v) = (
  λ h. rw (h.0, (tests v).1 h.1) (from_some v.base (v.base + v.size) o s x h.2 h.3 (omega (arith, h.2, h.4))),
  λ h. let kind = where_some (is_enabled v.flags && counts v) (span_from v.base (v.base + v.size) o) h.0 h.1 in
      let made = from_is v.base (v.base + v.size) o h.0 kind.1 in
      grind (arith, and_parts, kind.0, made, h.2, h.3, h.4, (tests v).0),
)
covers counts P tests o s x _ = (λ h. absurd h, λ h. absurd (none-some h.0 h.1))

-- the spans of a kind that are collected from all entries are the ranges of this kind
pub covered_spans : (counts : MemoryValue → Bool) (P : MemoryValue → Type 0) → Tests counts P
    → (whole : List ℕ) (spans : List Span)
    → map span_value spans ≡ spans_of (covered_span counts) (srat_contents whole).entries
    → AreSpansOf (Covers P (srat_contents whole)) spans
covered_spans counts P tests whole spans is =
    are_spans (CoversFrom P) (covered_span counts) (record { named = named counts; covers = covers counts P tests }) 48
    _ (srat_rising whole) spans is

pub tests_any : Tests (λ v. true) IsAny
tests_any v = (λ _. tt, λ _. refl)

pub tests_hot : Tests (λ v. is_hot_pluggable v.flags) IsHotPluggable
tests_hot v = (λ is. is, λ is. is)

pub tests_other : Tests (λ v. not (is_hot_pluggable v.flags)) IsNotHotPluggable
tests_other v =
    elim (is_hot_pluggable v.flags) as (λ b. (not b ≡ true) ↔ (b ≡ false)) [
      | true ↦
          (λ is. absurd cc, λ is. absurd cc)
      | false ↦ (λ _. refl, λ _. refl)
    ]

-- ---- ranges that are compared

pub counted : (c : SratContents) (found : Clash) → IsOverlapResult (Covers IsAny c) found
    → IsRangesResult Counted c found
counted c clash.None is = is
counted c (clash.At first second point) is = is

pub apart : (c : SratContents) (others hots : Clash) → IsOverlapResult (Covers IsNotHotPluggable c) others
    → IsOverlapResult (Covers IsHotPluggable c) hots → IsRangesResult Apart c (earlier_clash others hots)
apart c clash.None clash.None none neither =
    λ o p x overlap. elim overlap [ inl clash ↦ none o p x clash | inr clash ↦ neither o p x clash ]
apart c clash.None (clash.At a b x) none first = inr (first, λ o p y clash. absurd (none o p y clash))
apart c (clash.At a b x) clash.None first none = inl (first, λ o p y clash. absurd (none o p y clash))
apart c (clash.At a b x) (clash.At a' b' x') first hot_first =
    elim (cases_lt x' x) [
      | inl less ↦ rw (lt-ltb x' x less) (inr (hot_first, λ o p y clash. omega (arith, less, first.least o p y clash)))
      | inr most ↦ rw (le-ltb x' x most) (inl (first, λ o p y clash. omega (arith, most, hot_first.least o p y clash)))
    ]

pub earlier_low : (others hots : Clash) → HasLowPoint others → HasLowPoint hots
    → HasLowPoint (earlier_clash others hots)
earlier_low clash.None hots none low = low
earlier_low (clash.At a b x) clash.None low none = low
earlier_low (clash.At a b x) (clash.At a' b' x') low hot_low =
    elim (nat_lt x' x) as (λ d. HasLowPoint (cond d (clash.At a' b' x') (clash.At a b x))) [
      | true ↦ hot_low
      | false ↦ low
    ]
