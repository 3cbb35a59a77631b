use Rattle.std.proofs.Common.{length-drop, length-take, arith, ◌∙◌}
use Rattle.acpi_cli.proofs.Sent.{sent_more}
use Rattle.acpi_cli.proofs.devices.write_all.Goals as goal

pub loop-written-preserved : goal.loop-written-preserved
loop-written-preserved g c =
    record {
      prefix =
          let taken = c.in_ok-written.ensures.bound in
          omega (arith, simp (length-take, length-drop) at taken);
      out = sent_more _ _ _ c.args.bytes.now c.loop-written.written c.in_ok-written.field-0 c.loop-written.invariant.out
          c.in_ok-written.ensures.bytes;
      uncounted = c.in_ok-written.ensures.ok ∙ c.loop-written.invariant.uncounted;
    }
