-- The spans that are collected from the entries of a MADT are the interrupt numbers that its I/O APICs serve.
use Rattle.std.proofs.Common.{◌≡◌, ℕ, ◌+◌, ◌<◌, ◌≤◌, List, map, None, Some, refl, sym, ap, ◌∙◌, arith}
use Rattle.std.specs.Prelude.{◌↔◌}
use Rattle.std.proofs.lemmas.Option.{none-some}
use Rattle.acpi_base.specs.Madt.{MadtEntry, IoApic, madt_contents, ServesFrom, Serves}
use Rattle.acpi_base.specs.Policy.{PolicyValue, inputs_of}
use Rattle.acpi_graph.specs.declared.span.Span.{Span}
use Rattle.acpi_check.specs.RangeSpans.{AreSpansOf, SpanValue, span_value, served_span, spans_of}
use Rattle.acpi_check.proofs.Spans.EntrySpans.{are_spans, from_is, from_some}
use Rattle.acpi_check.proofs.EntryPasses.Kept.{madt_rising}

named : (q : PolicyValue) (o : ℕ) (e : MadtEntry) (v : SpanValue) → served_span q o e ≡ Some v → v.name ≡ o
named q o (IoApic v) span is = (from_is v.gsi_base (v.gsi_base + inputs_of q v.address) o span is).3
named q o _ span is = absurd cc

covers : (q : PolicyValue) (o s x : ℕ) (e : MadtEntry)
    → ServesFrom q s x e ↔ ((v : SpanValue) × (served_span q o e ≡ Some v) × (v.start ≡ s) × (s ≤ x) × (x < v.end))
covers q o s x (IoApic v) = (
  λ h. from_some v.gsi_base (v.gsi_base + inputs_of q v.address) o s x h.0 h.1 (omega (arith, h.0, h.2)),
  λ h. let made = from_is v.gsi_base (v.gsi_base + inputs_of q v.address) o h.0 h.1 in
      (omega (arith, made, h.2), h.3, omega (arith, made, h.2, h.4)),
)
covers q o s x _ = (λ h. absurd h, λ h. absurd (none-some h.0 h.1))

-- ---- the span of one entry

pub in_span : (q : PolicyValue) (o s x : ℕ) (e : MadtEntry) (span : Span) → Some (span_value span) ≡ served_span q o e
    → ServesFrom q s x e → (span.start ≤ x) × (x < span.end)
in_span q o s x e span is serves =
    let (v, found, begins, least, below) = (covers q o s x e).0 serves in
    let same : v ≡ span_value span = cc in
    (omega (arith, ap (λ (w : SpanValue). w.start) same, begins, least), rw same at below)

pub serves_span : (q : PolicyValue) (o x : ℕ) (e : MadtEntry) (span : Span)
    → Some (span_value span) ≡ served_span q o e → span.start ≤ x → x < span.end → ServesFrom q span.start x e
serves_span q o x e span is least below =
    (covers q o span.start x e).1 (span_value span, sym is, refl, least, below)

pub no_span : (q : PolicyValue) (o s x : ℕ) (e : MadtEntry) → None ≡ served_span q o e → ¬ ServesFrom q s x e
no_span q o s x e none serves =
    let (v, found, _, _, _) = (covers q o s x e).0 serves in
    none-some v (none ∙ found)

-- ---- all of them

pub served_spans : (q : PolicyValue) (whole : List ℕ) (spans : List Span)
    → map span_value spans ≡ spans_of (served_span q) (madt_contents whole).entries
    → AreSpansOf (Serves q (madt_contents whole)) spans
served_spans q whole spans is =
    are_spans (ServesFrom q) (served_span q) (record { named = named q; covers = covers q }) 44 _ (madt_rising whole)
    spans is
