-- Ranges of one kind as spans, and their first overlap.
use Rattle.std.specs.Prelude.{Bool, true, not, ◌≡◌, ℕ, ◌+◌, ◌^◌, ◌<◌, ◌&&◌, ◌↔◌, List, All, Contains, Option, Some, None, nat_lt, if◌then◌else◌}
use Rattle.std.specs.List.{filter_map}
use Rattle.acpi_base.specs.Srat.{MemoryValue, is_hot_pluggable, IsAny, IsHotPluggable, IsNotHotPluggable, SratEntry, MemoryRange, SratContents, is_enabled, AreRangesApart, IsFirstOverlap}
use Rattle.acpi_base.specs.Overlaps.{AreApart, IsFirstIntervalOverlap}
use Rattle.acpi_base.specs.Entries.{PlacedEntry}
use Rattle.acpi_base.specs.Madt.{MadtEntry, IoApic}
use Rattle.acpi_base.specs.Policy.{PolicyValue, inputs_of}
use Rattle.acpi_base.specs.declared.policy.HotPlug.{HotPlug}
use Rattle.acpi_graph.specs.Spans.{NamesDiffer, HasNumber, IfAt}
use Rattle.acpi_graph.specs.declared.clash.Clash.{Clash}
use Rattle.acpi_graph.specs.declared.clash.Clash.TheVariants as clash
use Rattle.acpi_graph.specs.declared.span.Span.{Span}
use Rattle.acpi_check.specs.declared.range_kind.RangeKind.{RangeKind}
use Rattle.acpi_check.specs.declared.range_kind.RangeKind.TheVariants as kind

-- ---- the ranges of each kind

-- whether a range is of the kind
abbrev pub counts : RangeKind → MemoryValue → Bool
counts kind.Any v = true
counts kind.HotPluggable v = is_hot_pluggable v.flags
counts kind.NotHotPluggable v = not (is_hot_pluggable v.flags)

-- the range is of the kind
abbrev pub IsOfKind : RangeKind → MemoryValue → Type 0
IsOfKind kind.Any v = IsAny v
IsOfKind kind.HotPluggable v = IsHotPluggable v
IsOfKind kind.NotHotPluggable v = IsNotHotPluggable v

-- ---- the contents of a table's entries, collected for a search: ranges as spans, and their first overlap

-- ---- spans that represent ranges

-- a span of the list has the id o, begins at s and contains x
pub record HasSpan (spans : List Span) (o s x : ℕ) : Type 0 where
  pub span : Span
  pub listed : Contains spans span
  pub name : span.name ≡ o
  pub start : span.start ≡ s
  pub holds : HasNumber span x

-- the spans are the ranges of the relation, each with its entry's offset as its id
pub record AreSpansOf (HoldsAt : ℕ → ℕ → ℕ → Type 0) (spans : List Span) : Type 0 where
  pub names : NamesDiffer spans
  pub covers : (o s x : ℕ) → HoldsAt o s x ↔ HasSpan spans o s x

-- each span begins at a number of 64 bits
abbrev pub BeginLow : List Span → Type 0
BeginLow spans = All (λ span. span.start < 2 ^ 64) spans

-- the point of an overlap, if there is one, has 64 bits
abbrev pub HasLowPoint : Clash → Type 0
HasLowPoint found = IfAt found (λ first second point. point < 2 ^ 64)

-- what is found about these ranges: that no number is in two, or their first overlap
abbrev pub IsOverlapResult : (ℕ → ℕ → ℕ → Type 0) → Clash → Type 0
IsOverlapResult HoldsAt clash.None = AreApart HoldsAt
IsOverlapResult HoldsAt (clash.At first second point) = IsFirstIntervalOverlap HoldsAt first second point

-- of two overlaps the one with the lower point, and if both have one point the first
abbrev pub earlier_clash : Clash → Clash → Clash
earlier_clash clash.None hot = hot
earlier_clash other clash.None = other
earlier_clash (clash.At first second point) (clash.At hot_first hot_second hot_point) =
    if nat_lt hot_point point then clash.At hot_first hot_second hot_point else clash.At first second point

-- what is found about the ranges of an SRAT: that they do not overlap where they must not, or the overlap that is
-- reported
abbrev pub IsRangesResult : HotPlug → SratContents → Clash → Type 0
IsRangesResult h c clash.None = AreRangesApart h c
IsRangesResult h c (clash.At first second point) = IsFirstOverlap h c first second point

-- ---- how they are collected

-- the contents of a span
pub record SpanValue : Type 0 where
  pub start : ℕ
  pub end : ℕ
  pub name : ℕ

abbrev pub span_value : Span → SpanValue
span_value span = record { start = span.start; end = span.end; name = span.name }

-- the numbers from `start` on and below `end`, if there are any
abbrev pub span_from : ℕ → ℕ → ℕ → Option SpanValue
span_from start end name = if nat_lt start end then Some (record { start = start; end = end; name = name }) else None

-- the interrupt numbers that an entry at the offset o serves
abbrev pub served_span : PolicyValue → ℕ → MadtEntry → Option SpanValue
served_span q o (IoApic v) = span_from v.gsi_base (v.gsi_base + inputs_of q v.address) o
served_span q o _ = None

-- the addresses that an entry at the offset o covers, if it is an enabled range and counts
abbrev pub covered_span : (MemoryValue → Bool) → ℕ → SratEntry → Option SpanValue
covered_span counts o (MemoryRange v) = if is_enabled v.flags && counts v then span_from v.base (v.base + v.size) o else None
covered_span counts o _ = None

-- the spans of entries, in their order
abbrev pub spans_of : {E : Type 0} → (ℕ → E → Option SpanValue) → List (PlacedEntry E) → List SpanValue
spans_of read entries = filter_map (λ s. read s.offset s.entry) entries
