-- Spans that are collected from the entries of a table represent the ranges of the entries.
use Rattle.std.proofs.Common.{◌≡◌, ℕ, ◌<◌, ◌≤◌, List, map, Option, Some, sym, ◌∙◌, ap, subst, arith}
use Rattle.std.specs.Prelude.{◌↔◌, AllPairs}
use Rattle.std.proofs.Math.ListN.{get_or-map}
use Rattle.std.proofs.lemmas.Bool.Decides.{nat_tests}
use Rattle.std.proofs.lemmas.List.{length-map}
use Rattle.std.proofs.lemmas.Option.{cond_some}
use Rattle.acpi_base.specs.Entries.{PlacedEntry, Stands, StandsWith}
use Rattle.acpi_base.proofs.Elements.{element_of_map}
use Rattle.acpi_graph.specs.Spans.{NamesDiffer}
use Rattle.acpi_graph.specs.declared.span.Span.{Span}
use Rattle.acpi_check.proofs.EntryPasses.Kept.{AreRising, map_has, kept_has, kept_from, keys_rise}
use Rattle.acpi_check.specs.RangeSpans.{HasSpan, AreSpansOf, SpanValue, span_value, span_from, spans_of}

-- ---- what is collected

names_differ : (spans : List Span) → AllPairs (λ v w. v.name < w.name) (map span_value spans) → NamesDiffer spans
names_differ spans rise i j d before below =
    grind (
      arith,
      rise i j (span_value d) before (omega (arith, length-map spans span_value)),
      get_or-map span_value spans i d,
      get_or-map span_value spans j d,
    )

-- `read` gives for an entry the span of the range that `Says` says, with the entry's offset as its id
pub record IsRead {E : Type 0} (Says : ℕ → ℕ → E → Type 0) (read : ℕ → E → Option SpanValue) : Type 0 where
  pub named : (o : ℕ) (e : E) (v : SpanValue) → read o e ≡ Some v → v.name ≡ o
  pub covers : (o s x : ℕ) (e : E)
      → Says s x e ↔ ((v : SpanValue) × (read o e ≡ Some v) × (v.start ≡ s) × (s ≤ x) × (x < v.end))

-- the spans of entries are the ranges of the entries
pub are_spans : {E : Type 0} (Says : ℕ → ℕ → E → Type 0) (read : ℕ → E → Option SpanValue) → IsRead Says read
    → (low : ℕ) (entries : List (PlacedEntry E)) → AreRising low entries
    → (spans : List Span) → map span_value spans ≡ spans_of read entries
    → AreSpansOf (λ o s x. StandsWith entries o (Says s x)) spans
are_spans {E} Says read is_read low entries rises spans is =
    record {
      names = names_differ spans (rw is
          (keys_rise kept (λ v. v.name) (λ t v gives. is_read.named t.offset t.entry v gives) low entries rises));
      covers = λ o s x. (has o s x, from o s x);
    }
  where
    kept : PlacedEntry E → Option SpanValue
    kept t = read t.offset t.entry

    has : (o s x : ℕ) → StandsWith entries o (Says s x) → HasSpan spans o s x
    has o s x (e, stands, says) =
        let (v, gives, start, least, below) = (is_read.covers o s x e).0 says in
        let (span, listed, value) = element_of_map span_value spans v
        (rw is (kept_has kept entries (record { offset = o; entry = e }) v stands gives)) in
        record {
          span = span;
          listed = listed;
          name = ap (λ (w : SpanValue). w.name) value ∙ is_read.named o e v gives;
          start = ap (λ (w : SpanValue). w.start) value ∙ start;
          holds = record { from_start = grind (arith, value, start, least); below_end = grind (arith, value, below) };
        }

    from : (o s x : ℕ) → HasSpan spans o s x → StandsWith entries o (Says s x)
    from o s x h =
        let (t, listed, gives) = kept_from kept entries (span_value h.span)
        (rw (← is) (map_has span_value spans h.span h.listed)) in
        let place : t.offset ≡ o = sym (is_read.named t.offset t.entry (span_value h.span) gives) ∙ h.name in
        let says = (is_read.covers t.offset s x t.entry).1 (
          span_value h.span,
          gives,
          h.start,
          omega (arith, h.start, h.holds),
          h.holds.below_end,
        ) in
        (t.entry, subst (λ (k : ℕ). Stands entries k t.entry) place listed, says)

-- ---- spans

pub from_is : (start end name : ℕ) (v : SpanValue) → span_from start end name ≡ Some v
    → (start < end) × (v.start ≡ start) × (v.end ≡ end) × (v.name ≡ name)
from_is start end name v is = grind (arith, nat_tests, cond_some, is)

pub from_some : (start end name s x : ℕ) → start ≡ s → s ≤ x → x < end
    → (v : SpanValue) × (span_from start end name ≡ Some v) × (v.start ≡ s) × (s ≤ x) × (x < v.end)
from_some start end name s x begins least below =
    (record { start = start; end = end; name = name }, grind (arith, nat_tests), begins, least, below)
