use Rattle.std.proofs.Common.{◌≡◌, ◌++◌, vec_items}
use Rattle.std.specs.Slice.Iter.{chunks_rest, chunks_size}
use Rattle.acpi_base.specs.Text.WrittenText.{rows, row_count, text_of}
use Rattle.acpi_base.proofs.text.written_text.write_run.Given as goal

-- what is written, and what is still to come
abbrev pub invariant-loop-row : goal.invariant-loop-row
invariant-loop-row l = record {
  size : chunks_size l.row-iterator ≡ 16;
  text : vec_items l.text ++ text_of (rows (row_count (chunks_rest l.row-iterator)) (chunks_rest l.row-iterator))
      ≡ vec_items l.initial.text ++ text_of (rows (row_count l.bytes) l.bytes);
}
