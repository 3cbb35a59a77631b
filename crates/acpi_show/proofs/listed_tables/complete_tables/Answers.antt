use Rattle.std.proofs.Common.{◌<◌, arith}
use Rattle.acpi_base.specs.TableKinds.{signature_of}
use Rattle.acpi_read.specs.FirstTables.{first_listed}
use Rattle.acpi_show.specs.SlotPass.{is_met}
use Rattle.acpi_show.proofs.ListedTables.{all_slots, no_slot}
use Rattle.acpi_show.proofs.listed_tables.complete_tables.Goals as goal

pub loop-k-init : goal.loop-k-init
loop-k-init c = λ kind.
    no_slot c.args.image.now c.args.root.now (signature_of kind) (is_met c.new-met.result kind)
    (first_listed c.new-tables.result kind) (c.new-met.ensures kind) (c.new-tables.ensures kind)

pub loop-k-preserved : goal.loop-k-preserved
loop-k-preserved c = λ kind. c.take_slot.ensures kind (c.loop-k.invariant kind)

pub returns : goal.returns
returns c =
    record {
      each = λ kind. all_slots c.args.image.now c.args.root.now c.loop-k.k (signature_of kind)
          (is_met c.loop-k.met kind) (first_listed c.loop-k.tables kind)
          (λ j a slot. let below : j < c.slots-k-end.result = (c.slots-k-end.ensures.inside j).1 slot.inside in
          omega arith) (c.loop-k.invariant kind);
    }
