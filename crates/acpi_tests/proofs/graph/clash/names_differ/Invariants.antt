use Rattle.std.proofs.Common.{ℕ, ◌<◌, ◌≢◌, get_or}
use Rattle.acpi_graph.specs.declared.span.Span.{Span}
use Rattle.acpi_tests.proofs.graph.clash.names_differ.Given as goal

abbrev pub invariant-loop-later : goal.invariant-loop-later
invariant-loop-later l = (i j : ℕ) (d : Span) → i < j → j < l.later
    → (get_or l.spans i d).name ≢ (get_or l.spans j d).name

abbrev pub invariant-loop-earlier : goal.invariant-loop-earlier
invariant-loop-earlier l = (i : ℕ) (d : Span) → i < l.earlier
    → (get_or l.spans i d).name ≢ (get_or l.spans l.later d).name
