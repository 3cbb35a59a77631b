use Rattle.std.proofs.Common.{ℕ, length-take, ◌+◌, ◌<◌, ◌≤◌, length, take, refl, sym, subst, ap, ◌∙◌, arith}
use Rattle.std.specs.Prelude.{Err}
use Rattle.std.specs.Io.KnownBytes.{Consumes}
use Rattle.std.proofs.KnownBytes.{Consumes-nil}
use Rattle.std.proofs.lemmas.List.{take-append-le}
use Rattle.acpi_base.specs.declared.text.TextFault.{TextFault}
use Rattle.acpi_base.specs.Text.TextMachine.{run}
use Rattle.acpi_base.specs.Text.LineBuffers.{buffer_state}
use Rattle.acpi_base.specs.Text.TextReading.{CountsRead}
use Rattle.acpi_base.proofs.Texts.Judging.{HasReturned, nothing_brought, more_brought, brought_fits, returned_whole, count_whole, stopped_in_buffer, returned_fault, count_fault, count_read, returned_read}
use Rattle.acpi_base.proofs.text.image_text.read_image.Goals as goal

pub pieces-init : goal.pieces-init
pieces-init g c = record {
  brought = nothing_brought _ _ c.new-buffer.ensures.state (Consumes-nil _);
  valid = c.new-buffer.ensures.valid;
  counted = c.new-buffer.ensures.count;
  count = refl;
}

pub overflow_sub-total : goal.overflow_sub-total
overflow_sub-total g c =
    let fits = brought_fits c.pieces.buffer c.pieces.total c.pieces.invariant.valid c.pieces.invariant.counted in
    omega arith

pub returns-in_default-clause-text : goal.returns-in_default-clause-text
returns-in_default-clause-text g c =
    let b = c.pieces.buffer in
    let fits = brought_fits b c.pieces.total c.pieces.invariant.valid c.pieces.invariant.counted in
    let before = g.R.Read.remaining c.args.reader.now.inner in
    let middle = g.R.Read.remaining c.pieces.reader.inner in
    let left = g.R.Read.remaining c.read.new.self.inner in
    let returned = returned_read before middle left b.parser b.parser.image b.line.items c.pieces.total
    c.pieces.invariant.brought fits c.in_default.ensures.bytes in
    subst (λ (fault : TextFault). HasReturned before left (Err fault)) (sym c.first_fault.ensures) returned

pub returns-in_default-clause-count : goal.returns-in_default-clause-count
returns-in_default-clause-count g c =
    subst (CountsRead c.args.reader.now.failures c.read.new.self.failures) (sym c.first_fault.ensures)
    (count_read c.pieces.buffer.parser.image _ c.pieces.reader.failures _ c.pieces.invariant.count
    c.in_default.ensures.err)

pub returns-then-count-eq0-clause-text : goal.returns-then-count-eq0-clause-text
returns-then-count-eq0-clause-text g c =
    let fits = brought_fits c.pieces.buffer c.pieces.total c.pieces.invariant.valid c.pieces.invariant.counted in
    let bytes = c.in-Ok.ensures.bytes in
    let consumed = subst (Consumes _ _) (ap (λ n. take n c.read.new.buffer) c.if-count-eq0.true) bytes.0 in
    let some : 0 < length c.read.new.buffer =
    omega (arith, length-take {A = ℕ}, c.read.auto.buffer, c.min-room.ensures) in
    returned_whole _ _ _ _ _ c.finish.result c.pieces.invariant.brought fits consumed
    (bytes.1 c.if-count-eq0.true some) c.finish.ensures.ok c.finish.ensures.err

pub returns-then-count-eq0-clause-count : goal.returns-then-count-eq0-clause-count
returns-then-count-eq0-clause-count g c =
    count_whole _ _ _ _ _ _ c.finish.result c.pieces.invariant.brought
    (c.in-Ok.ensures.ok ∙ c.pieces.invariant.count) c.finish.ensures.err

pub returns-in-Err-clause-text : goal.returns-in-Err-clause-text
returns-in-Err-clause-text g c =
    let state = buffer_state c.pieces.buffer in
    let fits = brought_fits c.pieces.buffer c.pieces.total c.pieces.invariant.valid c.pieces.invariant.counted in
    let bound : c.in-Ok.count ≤ length c.read.new.buffer = c.in-Ok.ensures.bound.0 in
    let long = sym c.in-Ok.ensures.bound.1 in
    let room : c.pieces.total + c.in-Ok.count ≤ 67108865 =
    omega (arith, length-take {A = ℕ}, c.read.auto.buffer, c.min-room.ensures) in
    returned_fault _ _ _ state c.pieces.total c.in-Ok.count (take c.in-Ok.count c.read.new.buffer)
    c.first_fault-in-Err.result c.pieces.invariant.brought c.in-Ok.ensures.bytes.0 long room
    (stopped_in_buffer state c.in-Ok.count c.read.new.buffer _ _ c.first_fault-in-Err.result bound
    c.first_fault-in-Err.ensures c.in-Err.ensures.err)

pub returns-in-Err-clause-count : goal.returns-in-Err-clause-count
returns-in-Err-clause-count g c =
    let state = buffer_state c.pieces.buffer in
    let bound : c.in-Ok.count ≤ length c.read.new.buffer = c.in-Ok.ensures.bound.0 in
    count_fault _ _ _ state c.pieces.total _ _ (take c.in-Ok.count c.read.new.buffer) c.first_fault-in-Err.result
    c.pieces.invariant.brought c.in-Ok.ensures.bytes.0 (c.in-Ok.ensures.ok ∙ c.pieces.invariant.count)
    (stopped_in_buffer state c.in-Ok.count c.read.new.buffer _ _ c.first_fault-in-Err.result bound
    c.first_fault-in-Err.ensures c.in-Err.ensures.err)

pub pieces-preserved : goal.pieces-preserved
pieces-preserved g c =
    let bound : c.in-Ok.count ≤ length c.read.new.buffer = c.in-Ok.ensures.bound.0 in
    let long = sym c.in-Ok.ensures.bound.1 in
    let piece = take-append-le c.in-Ok.count c.read.new.buffer _ bound in
    let taken = ap (run (buffer_state c.pieces.buffer)) (sym piece) ∙ c.in_default-take.ensures.ok in
    let more = c.in_default-take.ensures.count in
    let same = ap length piece in
    let so_far = c.pieces.invariant.counted in
    record {
      brought = more_brought _ _ _ (buffer_state c.pieces.buffer) (buffer_state c.take.new.self) c.pieces.total
          c.in-Ok.count (c.pieces.total + c.in-Ok.count) (take c.in-Ok.count c.read.new.buffer)
          c.pieces.invariant.brought c.in-Ok.ensures.bytes.0 long taken refl;
      valid = c.in_default-take.ensures.valid;
      counted = omega arith;
      count = c.in-Ok.ensures.ok ∙ c.pieces.invariant.count;
    }
