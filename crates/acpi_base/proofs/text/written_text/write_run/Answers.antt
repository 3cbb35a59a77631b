use Rattle.std.proofs.Common.{◌∙◌, ◌++◌, List, sym, ap, vec_items, append_assoc}
use Rattle.std.specs.Slice.Iter.{chunks_rest}
use Rattle.std.specs.Prelude.{ℕ, length, min}
use Rattle.acpi_base.specs.Text.WrittenText.{rows, row_count, text_of, line_with_lf, row}
use Rattle.acpi_base.proofs.Texts.Written.Rows.{rows_next}
use Rattle.acpi_base.proofs.text.written_text.write_run.Goals as goal

pub loop-row-preserved : goal.loop-row-preserved
loop-row-preserved c =
    let rest = chunks_rest c.loop-row.row-iterator in
    let later = chunks_rest c.next.new.self in
    let step = c.in-Some.ensures.steps in
    let size = c.loop-row.invariant.size in
    record {
      size = step.0 ∙ size;
      text =
          ap (λ (t : List ℕ). t ++ text_of (rows (row_count later) later)) c.in_ok-write_row.ensures
          ∙ append_assoc (vec_items c.loop-row.text) (line_with_lf (row c.in-Some.row.now))
          (text_of (rows (row_count later) later))
          ∙ ap (λ (t : List ℕ). vec_items c.loop-row.text ++ t)
          (sym (rows_next rest c.in-Some.row.now later step.1.0
          (step.1.1 ∙ ap (λ (n : ℕ). min n (length rest)) size) step.1.2))
          ∙ c.loop-row.invariant.text;
    }
