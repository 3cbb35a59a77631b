use Rattle.std.proofs.Common.{◌≡◌, Ok, inl, inr, ◌++◌, ◌-◌, ◌<◌, ℕ, suc, List, length, take, drop, ap, sym, subst, ◌∙◌, add-one, arith}
use Rattle.std.proofs.lemmas.Bool.Decides.{nat_tests}
use Rattle.std.proofs.lemmas.List.{drop-drop, length-drop, length-take-le}
use Rattle.std.proofs.lemmas.Slice.{between_to_end}
use Rattle.acpi_base.specs.Text.ImageText.{on_ok, read_line}
use Rattle.acpi_base.specs.Text.TextMachine.{run}
use Rattle.acpi_base.specs.Text.LineBuffers.{state_with, byte_count}
use Rattle.acpi_base.specs.Text.Lines.{Refuses, judged, told}
use Rattle.acpi_base.specs.Text.TextMemory.{IsPlacedData}
use Rattle.acpi_base.proofs.Texts.Rows.{IsReadOn, met_before, row_refused, rows_passed, taken_within}
use Rattle.acpi_base.proofs.Texts.LineBuffers.{line_passed, line_refused, short_bounds}
use Rattle.acpi_base.proofs.Texts.PlacedData.{found_here, goes_on_behind, goes_on_last}
use Rattle.acpi_base.proofs.text.image_text.line_buffer.LineBuffer.end_lines.Goals as goal

pub returns-in-Err-end_line-clause-err : goal.returns-in-Err-end_line-clause-err
returns-in-Err-end_line-clause-err c =
    let at = subst (λ s. IsReadOn c.args.self.now c.args.piece.now s c.lines.rest.now)
    (sym (c.end_rows.ensures.none (c.in-Ok.is ∙ ap Ok (omega arith)))) c.lines.invariant in
    let f = c.end_rows.new.self in
    let text = c.lines.rest.now in
    let n = c.first_index.result in
    let stop = told c.end_line.new.self.parser.image c.in-Err-end_line.fault in
    let left = c.split_at.ensures.back_len in
    let some : 0 < length c.split_at.result.1.now = grind (arith, nat_tests, c.is_empty.ensures, c.if-is_empty.false) in
    let low : n < length text = omega arith in
    let refused = subst (λ part. Refuses (on_ok (judged f.parser) (λ r. read_line r (f.line.items ++ part) 1)) stop)
    c.split_at.ensures.front c.in-Err-end_line.ensures.err in
    elim (line_refused f.parser f.parser.image f.line.items text n stop at.valid.short low
    c.first_index.ensures.before (c.first_index.ensures.found low) refused) [
      | inl memory ↦ inl memory
      | inr stopped ↦ inr (sym at.run ∙ stopped)
    ]

pub returns-in-Err-end_line-clause-memory : goal.returns-in-Err-end_line-clause-memory
returns-in-Err-end_line-clause-memory c empty memory =
    let at = subst (λ s. IsReadOn c.args.self.now c.args.piece.now s c.lines.rest.now)
    (sym (c.end_rows.ensures.none (c.in-Ok.is ∙ ap Ok (omega arith)))) c.lines.invariant in
    let f = c.end_rows.new.self in
    let text = c.lines.rest.now in
    let n = c.first_index.result in
    let left = c.split_at.ensures.back_len in
    let some : 0 < length c.split_at.result.1.now = grind (arith, nat_tests, c.is_empty.ensures, c.if-is_empty.false) in
    let low : n < length text = omega arith in
    let placed = subst (λ line. IsPlacedData (judged f.parser) line 1) c.split_at.ensures.front
    (c.in-Err-end_line.ensures.memory (at.whole empty) memory) in
    (at.on empty).found (found_here (judged f.parser) text n low c.first_index.ensures.before
    (c.first_index.ensures.found low) placed)

pub returns-then-is_empty-clause-whole : goal.returns-then-is_empty-clause-whole
returns-then-is_empty-clause-whole c empty =
    let at = subst (λ s. IsReadOn c.args.self.now c.args.piece.now s c.lines.rest.now)
    (sym (c.end_rows.ensures.none (c.in-Ok.is ∙ ap Ok (omega arith)))) c.lines.invariant in
    let text = c.lines.rest.now in
    let left = c.split_at.ensures.back_len in
    let none : length c.split_at.result.1.now ≡ 0 = grind (arith, nat_tests, c.is_empty.ensures, c.if-is_empty.true) in
    goes_on_last (judged c.args.self.now.parser) (judged c.end_rows.new.self.parser) c.args.piece.now text
    (at.on empty) (λ k l. c.first_index.ensures.before k (omega arith))

pub lines-preserved : goal.lines-preserved
lines-preserved c =
    let at = subst (λ s. IsReadOn c.args.self.now c.args.piece.now s c.lines.rest.now)
    (sym (c.end_rows.ensures.none (c.in-Ok.is ∙ ap Ok (omega arith)))) c.lines.invariant in
    let f = c.end_rows.new.self in
    let next = c.end_line.new.self in
    let text = c.lines.rest.now in
    let n = c.first_index.result in
    let after = c.split_at.result.1.now in
    let left = c.split_at.ensures.back_len in
    let some : 0 < length after = grind (arith, nat_tests, c.is_empty.ensures, c.if-is_empty.false) in
    let low : n < length text = omega arith in
    let valid = c.in_default.ensures.valid in
    let fits = (short_bounds (length next.line.items) (byte_count next) valid.short).1 in
    let rest : List ℕ = take (length after - 1) (drop 1 after) in
    let behind : rest ≡ drop (suc n) text = between_to_end after 1 (length after) (omega arith)
    ∙ ap (drop 1) c.split_at.ensures.back ∙ drop-drop 1 n text ∙ ap (λ k. drop k text) (add-one n) in
    let read = ap (λ part. on_ok (judged f.parser) (λ r. read_line r (f.line.items ++ part) 1))
    (sym c.split_at.ensures.front)
    ∙ c.in_default.ensures.ok in
    let rest_count : length rest ≡ length text - suc n = ap length behind ∙ length-drop (suc n) text in
    let part_count : length c.split_at.result.0.now ≡ n = ap length c.split_at.ensures.front
    ∙ length-take-le n text (omega arith) in
    let line_count = c.in_default.ensures.count in
    let so_far = at.count in
    record {
      valid = valid;
      run = ap (λ line. run (state_with (judged next.parser) line) rest) c.in_default.ensures.line
          ∙ sym (line_passed f.parser next.parser f.parser.image next.parser.image
          f.line.items text n rest at.valid.short low c.first_index.ensures.before
          (c.first_index.ensures.found low) read (omega arith) behind)
          ∙ at.run;
      count = omega arith;
      whole = λ empty. c.in_default.ensures.line;
      on = λ empty. goes_on_behind (judged c.args.self.now.parser) (judged f.parser) (judged next.parser)
          c.args.piece.now text n rest (at.on empty) low c.first_index.ensures.before
          (c.first_index.ensures.found low)
          (ap (λ line. on_ok (judged f.parser) (λ r. read_line r (line ++ take n text) 1))
          (sym (at.whole empty)) ∙ read) behind;
    }

pub returns-in-Err-clause-err : goal.returns-in-Err-clause-err
returns-in-Err-clause-err c =
    met_before c.args.self.now c.lines.self c.args.piece.now c.lines.rest.now _ c.lines.invariant c.in-Err.ensures.err

pub returns-in-Err-clause-memory : goal.returns-in-Err-clause-memory
returns-in-Err-clause-memory c empty memory =
    row_refused c.args.self.now c.lines.self c.args.piece.now c.lines.rest.now c.lines.invariant empty
    (c.in-Err.ensures.memory memory)

pub lines-preserved-then-taken-gt0 : goal.lines-preserved-then-taken-gt0
lines-preserved-then-taken-gt0 c =
    let text = c.lines.rest.now in
    let got = c.in-Ok.ensures in
    let within = taken_within text c.in-Ok.taken got.ok in
    subst (IsReadOn c.args.self.now c.args.piece.now c.end_rows.new.self)
    (sym (between_to_end text c.in-Ok.taken (length text) (omega (arith, within))))
    (rows_passed c.args.self.now c.lines.self c.end_rows.new.self c.args.piece.now text c.in-Ok.taken c.lines.invariant
    got.ok got.valid c.end_rows.ensures.line (got.whole c.if-taken-gt0.true) got.count)
