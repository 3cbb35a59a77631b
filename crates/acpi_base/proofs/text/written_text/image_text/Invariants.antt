use Rattle.std.proofs.Common.{◌-◌, ◌^◌, vec_items}
use Rattle.acpi_base.specs.Memory.{IsImage}
use Rattle.acpi_base.proofs.Texts.Written.WrittenRuns.{IsWrittenTo}
use Rattle.acpi_base.proofs.text.written_text.image_text.Given as goal

-- all that is present before `from` is written
abbrev pub invariant-loop-base : goal.invariant-loop-base
invariant-loop-base l = record {
  image : IsImage l.image;
  written : IsWrittenTo (vec_items l.text) l.image l.from;
}

abbrev pub decreases-loop-base : goal.decreases-loop-base
decreases-loop-base l = 2 ^ 64 - l.from
