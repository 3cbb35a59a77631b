use Rattle.std.proofs.Common.{◌-◌, ◌^◌, ◌≤◌}
use Rattle.acpi_base.specs.Image.Lent.{AreParts, runs_of_parts}
use Rattle.acpi_base.specs.Image.Segments.{IsValid, end_in}
use Rattle.acpi_base.proofs.Images.Lent.{IsCopiedTo}
use Rattle.acpi_base.proofs.image.parts.Parts.copied.Given as goal

-- all that is present before `from` is copied
abbrev pub invariant-loop-base : goal.invariant-loop-base
invariant-loop-base l = record {
  parts : AreParts l.self;
  valid : IsValid l.all;
  end : end_in l.all ≤ l.from;
  same : IsCopiedTo (runs_of_parts l.self) l.all l.from;
}

abbrev pub decreases-loop-base : goal.decreases-loop-base
decreases-loop-base l = 2 ^ 64 - l.from
