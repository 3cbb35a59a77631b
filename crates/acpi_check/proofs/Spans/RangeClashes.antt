-- From the numbers that two I/O APICs serve, or the addresses in two ranges, to the first fault of a set.
use Rattle.std.proofs.Common.{◌≡◌, ℕ, List, ap, map, arith}
use Rattle.acpi_base.specs.Codes.{stage_of}
use Rattle.acpi_base.specs.Memory.{Memory}
use Rattle.acpi_base.specs.Policy.{PolicyValue}
use Rattle.acpi_base.specs.Listed.{madt_signature, IsListedTable, srat_signature}
use Rattle.acpi_base.specs.Madt.{madt_contents, IsFirstGsiClash, InterruptFault}
use Rattle.acpi_base.specs.Statements.{CleanBefore}
use Rattle.acpi_base.specs.Faults.{IsFirstFault}
use Rattle.acpi_base.specs.declared.code.Code.TheVariants as code
use Rattle.acpi_base.specs.declared.stage.Stage.TheVariants as stage
use Rattle.acpi_base.specs.declared.witness.Witness.{Witness}
use Rattle.acpi_base.specs.Srat.{srat_contents, Covers, IsFirstOverlap, RangeFault}
use Rattle.acpi_base.proofs.Faults.HoldsOrFault.{first_of_set}
use Rattle.acpi_base.proofs.Srat.Ranges.{is_fault}
use Rattle.acpi_graph.specs.declared.span.Span.{Span}
use Rattle.acpi_check.specs.TableResults.{IsOverlap}
use Rattle.acpi_check.specs.RangeSpans.{AreSpansOf, span_value, covered_span, spans_of, counts, IsOfKind}
use Rattle.acpi_check.specs.declared.range_kind.RangeKind.{RangeKind}
use Rattle.acpi_check.specs.declared.range_kind.RangeKind.TheVariants as kind
use Rattle.acpi_check.proofs.Spans.CoveredSpans.{Tests, tests_any, tests_hot, tests_other, covered_spans}

-- the first clash of the I/O APICs is the first fault of the set
pub gsi_clash_first : (m : Memory) (q : PolicyValue) → CleanBefore stage.Interrupts m q → (whole : List ℕ)
    → IsListedTable m q.rsdp madt_signature whole
    → (w : Witness) → IsOverlap code.GsiClash (IsFirstGsiClash q (madt_contents whole)) w
    → IsFirstFault m q w × (stage_of w.code ≡ stage.Interrupts)
gsi_clash_first m q clean whole is w found = (
  first_of_set clean (record {
    holds = record { own = own; holds = (whole, is, fault) };
    least = (whole, is, found.first);
  }),
  own,
)
  where
    own : stage_of w.code ≡ stage.Interrupts
    own = ap stage_of found.code

    fault : InterruptFault q (madt_contents whole) w.code w.at w.other w.point
    fault = rw found.code found.first.overlap

tests : (k : RangeKind) → Tests (counts k) (IsOfKind k)
tests kind.Any = tests_any
tests kind.HotPluggable = tests_hot
tests kind.NotHotPluggable = tests_other

pub kind_spans : (k : RangeKind) (whole : List ℕ) (spans : List Span)
    → map span_value spans ≡ spans_of (covered_span (counts k)) (srat_contents whole).entries
    → AreSpansOf (Covers (IsOfKind k) (srat_contents whole)) spans
kind_spans k = covered_spans (counts k) (IsOfKind k) (tests k)

-- the first overlap of them is the first fault of the set
pub overlap_first : (m : Memory) (q : PolicyValue) → CleanBefore stage.Ranges m q → (whole : List ℕ)
    → IsListedTable m q.rsdp srat_signature whole
    → (w : Witness) → IsOverlap code.Overlap (IsFirstOverlap q.hotplug (srat_contents whole)) w
    → IsFirstFault m q w × (stage_of w.code ≡ stage.Ranges)
overlap_first m q clean whole is w found = (
  first_of_set clean (record {
    holds = record { own = own; holds = (whole, is, fault) };
    least = (whole, is, found.first);
  }),
  own,
)
  where
    own : stage_of w.code ≡ stage.Ranges
    own = ap stage_of found.code

    fault : RangeFault q.hotplug (srat_contents whole) w.code w.at w.other w.point
    fault = rw found.code (is_fault q.hotplug (srat_contents whole) (clean stage.Srat (omega arith) whole is) w.at
        w.other w.point found.first)
