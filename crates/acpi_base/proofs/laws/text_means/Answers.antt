use Rattle.acpi_base.proofs.Texts.GoodTexts.{text_is_good, good_is_text}
use Rattle.acpi_base.proofs.laws.text_means.Goals as goal

pub returns : goal.returns
returns c = record { means = λ bytes m. (text_is_good bytes m, good_is_text bytes m) }
