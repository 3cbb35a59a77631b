use Rattle.acpi_arguments.proofs.PlainLines.{check_words_asked, confirm_words_asked, find_words_asked, lint_words_asked, rebuild_words_asked, show_words_asked}
use Rattle.acpi_arguments.proofs.words.plain_lines_are_read.Goals as goal

pub returns : goal.returns
returns c = record {
  find = find_words_asked;
  check = check_words_asked;
  lint = lint_words_asked;
  confirm = confirm_words_asked;
  rebuild = rebuild_words_asked;
  show = show_words_asked;
}
