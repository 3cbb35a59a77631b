use Rattle.acpi_arguments.proofs.Spellings.{spelled, spelling}
use Rattle.acpi_arguments.proofs.policy_words.inputs_are_address_and_count.Goals as goal

pub returns : goal.returns
returns c = record {
  read = spelled;
  only = λ word inputs e. let s = spelling word inputs e in (s.address, s.count, s.is, s.is_address, s.is_count);
}
