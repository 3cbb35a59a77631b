use Rattle.std.proofs.Common.{◌≡◌, List, subst, sym, refl, true≢false, IsPermutation, AllPairs}
use Rattle.acpi_graph.specs.declared.clash.Clash.{Clash}
use Rattle.acpi_graph.specs.declared.clash.Clash.TheVariants as clash
use Rattle.acpi_graph.specs.declared.span.Span.{Span}
use Rattle.acpi_graph.specs.Spans.{NamesDiffer, ComesBefore, IsClear, IfAt, IsFirstClash}
use Rattle.acpi_graph.proofs.SortedSpans.{in_order, sorted_in_order, names_permuted, clear_permuted, first_clash_permuted, point_shared}
use Rattle.acpi_graph.proofs.clash.first_clash.Goals as goal

found_permuted : (xs ys : List Span) (found : Clash) → IsPermutation xs ys → IfAt found (IsFirstClash ys)
    → IfAt found (IsFirstClash xs)
found_permuted xs ys clash.None moved first = tt
found_permuted xs ys (clash.At first second point) moved found =
    first_clash_permuted xs ys first second point moved found

none_where_clear : (xs : List Span) (found : Clash) → IfAt found (IsFirstClash xs) → IsClear xs → found ≡ clash.None
none_where_clear xs clash.None first clear = refl
none_where_clear xs (clash.At first second point) found clear =
    absurd (clear point (point_shared xs first second point found))

pub first_overlap-requires-clause-names : goal.first_overlap-requires-clause-names
first_overlap-requires-clause-names c =
    let sorted = c.sort_unless_sorted.new.items.items in
    subst NamesDiffer (sym c.deref.ensures.value)
    (names_permuted c.args.spans.items sorted c.sort_unless_sorted.ensures.permutation c.requires)

pub first_overlap-requires-clause-order : goal.first_overlap-requires-clause-order
first_overlap-requires-clause-order c =
    let sorted = c.sort_unless_sorted.new.items.items in
    subst (AllPairs ComesBefore) (sym c.deref.ensures.value) (in_order sorted
    (names_permuted c.args.spans.items sorted c.sort_unless_sorted.ensures.permutation c.requires)
    c.in_ok-sort_unless_sorted.ensures.sorted)

pub returns-clause-none : goal.returns-clause-none
returns-clause-none c =
    let moved : IsPermutation c.args.spans.items c.deref.result.now =
    subst (IsPermutation c.args.spans.items) (sym c.deref.ensures.value) c.sort_unless_sorted.ensures.permutation in (
      (λ none. clear_permuted c.args.spans.items c.deref.result.now moved (c.first_overlap.ensures.none none)),
      none_where_clear c.args.spans.items c.first_overlap.result.0
          (found_permuted c.args.spans.items c.deref.result.now c.first_overlap.result.0 moved
          c.first_overlap.ensures.first),
    )

pub returns-clause-first : goal.returns-clause-first
returns-clause-first c =
    let moved : IsPermutation c.args.spans.items c.deref.result.now =
    subst (IsPermutation c.args.spans.items) (sym c.deref.ensures.value) c.sort_unless_sorted.ensures.permutation in
    found_permuted c.args.spans.items c.deref.result.now c.first_overlap.result.0 moved c.first_overlap.ensures.first

pub returns-in_err-sort_unless_sorted-clause-in_order : goal.returns-in_err-sort_unless_sorted-clause-in_order
returns-in_err-sort_unless_sorted-clause-in_order c =
    λ ordered. absurd (true≢false (sym (c.in_err-sort_unless_sorted.ensures.in_order
    (sorted_in_order c.args.spans.items ordered))))
