use Rattle.acpi_base.proofs.Texts.GoodTexts.{good_or_refused, good_not_refused, one_image, one_refusal}
use Rattle.acpi_base.proofs.Texts.Judging.{refusals_are_own}
use Rattle.acpi_base.proofs.laws.text_or_fault.Goals as goal

pub returns : goal.returns
returns c = record {
  either = good_or_refused;
  apart = good_not_refused;
  image = one_image;
  fault = one_refusal;
  own = refusals_are_own;
}
