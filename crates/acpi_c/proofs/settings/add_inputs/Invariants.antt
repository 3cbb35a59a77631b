use Rattle.std.proofs.Common.{◌≡◌, None, drop}
use Rattle.acpi_c.specs.Settings.{inputs_refusal, with_inputs}
use Rattle.acpi_c.proofs.settings.add_inputs.Given as goal

-- The numbers that are left are in range. Added to the policy so far, they give what all numbers give.
abbrev pub invariant-loop-own : goal.invariant-loop-own
invariant-loop-own l =
    record {
      in_range : inputs_refusal l.own-index (drop l.own-index l.inputs) ≡ None;
      so_far : with_inputs l.policy (drop l.own-index l.inputs) ≡ with_inputs l.initial.policy l.inputs;
    }
