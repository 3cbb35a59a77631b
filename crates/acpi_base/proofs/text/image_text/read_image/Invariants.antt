use Rattle.std.proofs.Common.{◌≡◌, ◌-◌}
use Rattle.acpi_base.specs.Text.LineBuffers.{HasRead, IsLineBuffer, buffer_state, byte_count}
use Rattle.acpi_base.proofs.text.image_text.read_image.Given as goal

-- what the reader has brought was read and counted, and no read has failed
abbrev pub invariant-pieces : goal.invariant-pieces
invariant-pieces g l = record {
  brought : HasRead (g.R.Read.remaining l.initial.reader.inner) (g.R.Read.remaining l.reader.inner)
      (buffer_state l.buffer) l.total;
  valid : IsLineBuffer l.buffer;
  counted : byte_count l.buffer ≡ l.total;
  count : l.reader.failures ≡ l.initial.reader.failures;
}

abbrev pub decreases-pieces : goal.decreases-pieces
decreases-pieces g l = 67108865 - l.total
