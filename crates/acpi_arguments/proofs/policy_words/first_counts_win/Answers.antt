use Rattle.acpi_arguments.proofs.FirstCounts.{inputs_stand, only_counts}
use Rattle.acpi_arguments.proofs.policy_words.first_counts_win.Goals as goal

pub returns : goal.returns
returns c = record { inputs = inputs_stand; others = only_counts }
