use Rattle.std.proofs.Common.{ℕ, ◌<◌, get_or}
use Rattle.acpi_graph.specs.declared.span.Span.{Span}
use Rattle.acpi_tests.proofs.graph.clash.names_rise.Given as goal

abbrev pub invariant-loop-later : goal.invariant-loop-later
invariant-loop-later l = (i j : ℕ) (d : Span) → i < j → j < l.later
    → (get_or l.spans i d).name < (get_or l.spans j d).name
