-- From the first overlap of spans to that of the ranges that the spans represent.
use Rattle.std.proofs.Common.{◌≡◌, ℕ, ◌^◌, ◌<◌, List, refl, sym, ◌∙◌, arith}
use Rattle.std.specs.Prelude.{◌↔◌, Contains}
use Rattle.std.proofs.lemmas.List.Elements.{All-contains}
use Rattle.acpi_base.specs.Overlaps.{IsIntervalOverlap, AreApart, IsFirstIntervalOverlap}
use Rattle.acpi_graph.specs.Spans as graph
use Rattle.acpi_graph.specs.Spans.{HasNumber, LiesInTwo, IsClear, IfAt}
use Rattle.acpi_graph.specs.declared.clash.Clash.{Clash}
use Rattle.acpi_graph.specs.declared.clash.Clash.TheVariants as overlap
use Rattle.acpi_graph.specs.declared.span.Span.{Span}
use Rattle.acpi_check.specs.RangeSpans.{AreSpansOf, BeginLow, HasLowPoint, IsOverlapResult}

lies_in_two : {HoldsAt : ℕ → ℕ → ℕ → Type 0} (spans : List Span) → AreSpansOf HoldsAt spans → (o p x : ℕ)
    → IsIntervalOverlap HoldsAt o p x → LiesInTwo spans x
lies_in_two spans are o p x c =
    let one = (are.covers o c.s x).0 c.one_holds in
    let other = (are.covers p c.t x).0 c.other_holds in
    record {
      one = one.span;
      other = other.span;
      one_listed = one.listed;
      other_listed = other.listed;
      two = λ same. c.two (sym one.name ∙ same ∙ other.name);
      one_holds = one.holds;
      other_holds = other.holds;
    }

pub apart : {HoldsAt : ℕ → ℕ → ℕ → Type 0} (spans : List Span) → AreSpansOf HoldsAt spans → IsClear spans
    → AreApart HoldsAt
apart spans are clear o p x c = clear x (lies_in_two spans are o p x c)

pub first_clash : {HoldsAt : ℕ → ℕ → ℕ → Type 0} (spans : List Span) → AreSpansOf HoldsAt spans
    → (first second point : ℕ) → graph.IsFirstClash spans first second point
    → IsFirstIntervalOverlap HoldsAt first second point
first_clash {HoldsAt} spans are first second point found =
    let two = found.two in
    record {
      overlap = record {
        s = two.earlier.start;
        t = two.later.start;
        one_holds = rw (← two.earlier_name) (holds two.earlier two.earlier_listed two.earlier_holds);
        other_holds = rw (← two.later_name) (holds two.later two.later_listed two.later_holds);
        two = two.two;
      };
      in_order = grind (arith, two.in_order, two.earlier_name, two.later_name);
      others_after = λ p u here a b. let other = (are.covers p u point).0 here in
          grind (
            arith,
            two.others_after other.span other.listed other.holds,
            other.name,
            other.start,
            a,
            b,
            two.later_name,
          );
      least = λ o p x c. found.least x (lies_in_two spans are o p x c);
    }
  where
    holds : (span : Span) → Contains spans span → HasNumber span point → HoldsAt span.name span.start point
    holds span listed inside =
        (are.covers span.name span.start point).1
        (record { span = span; listed = listed; name = refl; start = refl; holds = inside })

-- two spans that share a number share the start of the later one: so the lowest number that two share has 64 bits if
-- spans begin at such numbers
pub low_point : (spans : List Span) → BeginLow spans → (found : Clash) → IfAt found (graph.IsFirstClash spans)
    → HasLowPoint found
low_point spans low overlap.None first = tt
low_point spans low (overlap.At a b point) first =
    let two = first.two in
    let shared : LiesInTwo spans two.later.start = record {
      one = two.earlier;
      other = two.later;
      one_listed = two.earlier_listed;
      other_listed = two.later_listed;
      two = λ same. two.two (sym two.earlier_name ∙ same ∙ two.later_name);
      one_holds = grind (arith, two.in_order, two.earlier_holds, two.later_holds);
      other_holds = record { from_start = omega arith; below_end = two.later.not_empty };
    } in
    let begins = All-contains (λ (span : Span). span.start < 2 ^ 64) spans two.later low two.later_listed in
    omega (arith, begins, first.least two.later.start shared)

pub is_found : {HoldsAt : ℕ → ℕ → ℕ → Type 0} (spans : List Span) → AreSpansOf HoldsAt spans → (found : Clash)
    → ((found ≡ overlap.None) ↔ IsClear spans) → IfAt found (graph.IsFirstClash spans) → IsOverlapResult HoldsAt found
is_found spans are overlap.None none first = apart spans are (none.0 refl)
is_found spans are (overlap.At a b point) none first = first_clash spans are a b point first
