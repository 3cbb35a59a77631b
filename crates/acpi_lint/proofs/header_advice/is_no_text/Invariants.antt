use Rattle.acpi_lint.proofs.HeaderTexts.{IsScanned}
use Rattle.acpi_lint.proofs.header_advice.is_no_text.Given as goal

-- no byte before this one shows that it is no text; `is_odd` says whether one of them is not printable
abbrev pub invariant-loop-byte : goal.invariant-loop-byte
invariant-loop-byte l = IsScanned l.text l.byte-index l.is_odd
