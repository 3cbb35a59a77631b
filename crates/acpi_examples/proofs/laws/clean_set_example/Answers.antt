use Rattle.acpi_examples.proofs.CleanSet.{is_image, is_policy, is_clean}
use Rattle.acpi_examples.proofs.laws.clean_set_example.Goals as goal

pub returns : goal.returns
returns c = record { image = is_image; policy = is_policy; clean = is_clean }
