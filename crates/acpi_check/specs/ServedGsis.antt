-- The interrupt numbers that entries of a MADT name, and the spans of those that are served.
use Rattle.std.specs.Prelude.{ℕ, ◌<◌, ◌≤◌, List, AllPairs, Contains, length, slice_index_or, Option, Some, None}
use Rattle.acpi_base.specs.Madt.{MadtEntry, Override, NmiSource}
use Rattle.acpi_graph.specs.Spans.{HasNumber}
use Rattle.acpi_graph.specs.declared.span.Span.{Span}

-- the interrupt number that an override or an NMI source names
abbrev pub named_gsi : MadtEntry → Option ℕ
named_gsi (Override v) = Some v.gsi
named_gsi (NmiSource v) = Some v.gsi
named_gsi _ = None

-- the number is in a span of the list
pub record IsInSpans (spans : List Span) (g : ℕ) : Type 0 where
  pub span : Span
  pub listed : Contains spans span
  pub holds : HasNumber span g

-- the spans begin in rising order
abbrev pub DoStartsRise : List Span → Type 0
DoStartsRise spans = AllPairs (λ a b. a.start ≤ b.start) spans

-- and end in rising order too
abbrev pub DoRise : List Span → Type 0
DoRise spans = AllPairs (λ a b. (a.start ≤ b.start) × (a.end ≤ b.end)) spans

-- the spans before a place end at the number or before it, and those from there on end after it
pub record IsPlaceOf (spans : List Span) (g place : ℕ) : Type 0 where
  pub ended : (k : ℕ) (d : Span) → k < place → k < length spans → (slice_index_or spans k d).end ≤ g
  pub later : (k : ℕ) (d : Span) → place ≤ k → k < length spans → g < (slice_index_or spans k d).end
