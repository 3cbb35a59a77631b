use Rattle.std.proofs.Common.{◌≡◌, drop, map, option_map}
use Rattle.acpi_arguments.specs.CommandLine.{with_inputs}
use Rattle.acpi_arguments.specs.Words.{all_inputs}
use Rattle.acpi_arguments.proofs.policy_words.read_inputs.Given as goal

-- the arguments that are left give the policy so far what all arguments give the first one
abbrev pub invariant-loop-word : goal.invariant-loop-word
invariant-loop-word l = record {
  goes_on : option_map (with_inputs l.policy) (all_inputs (map (λ text. text.now) (drop l.word-index l.words)))
      ≡ option_map (with_inputs l.initial.policy) (all_inputs (map (λ text. text.now) l.words));
}
