-- The numbers that represent a result.
use Rattle.std.specs.Prelude.{ℕ, ◌++◌, Bool, true, false, List, [], ◌∷◌, length, take, drop, map, Option, Some, None, Result, Ok, Err}
use Rattle.acpi_base.specs.Codes.{code_number, stage_number, stage_of}
use Rattle.acpi_lint.specs.Rules.Rows.{rule_number}
use Rattle.acpi_lint.specs.declared.rule.Advice.{Advice}
use Rattle.acpi_base.specs.declared.verdict.Verdict.{Verdict}
use Rattle.acpi_base.specs.declared.verdict.Verdict.TheVariants.{Yes, No}
use Rattle.acpi_base.specs.declared.witness.Witness.{Witness}
use Rattle.acpi_c.specs.Kinds.{kind_number}
use Rattle.acpi_c.specs.declared.answer.Answer.{Answer}
use Rattle.acpi_c.specs.declared.answer.Finding.{Finding}
use Rattle.acpi_c.specs.declared.kind.AnswerKind.{AnswerKind}
use Rattle.acpi_c.specs.declared.kind.AnswerKind.TheVariants as kind
use Rattle.acpi_c.specs.declared.refusal.Refusal.{Refusal}
use Rattle.acpi_c.specs.declared.refusal.Refusal.TheVariants as refusal

-- a kind without numbers: the other numbers are 0
abbrev pub plain_answer : AnswerKind → Answer
plain_answer kind = record { kind = kind_number kind; stage = 0; code = 0; at = 0; other = 0; point = 0 }

-- `at` is the index or the line of what is refused, and `other` the address that is covered twice
abbrev pub refusal_answer : Refusal → Answer
refusal_answer refusal.OutOfMemory = plain_answer kind.OutOfMemory
refusal_answer refusal.Size = plain_answer kind.BadSize
refusal_answer refusal.DefaultInputs = plain_answer kind.BadDefaultInputs
refusal_answer refusal.HotPlug = plain_answer kind.BadHotPlug
refusal_answer refusal.Processors = plain_answer kind.BadProcessors
refusal_answer (refusal.Inputs index) = record (plain_answer kind.BadInputs) { at = index }
refusal_answer refusal.Stage = plain_answer kind.BadStage
refusal_answer refusal.Code = plain_answer kind.BadCode
refusal_answer (refusal.PiecePastEnd index) = record (plain_answer kind.PiecePastEnd) { at = index }
refusal_answer (refusal.PiecesOverlap index address) = record (plain_answer kind.PiecesOverlap) { at = index; other = address }
refusal_answer (refusal.BadLine line) = record (plain_answer kind.BadLine) { at = line }
refusal_answer (refusal.NoAddress line) = record (plain_answer kind.NoAddress) { at = line }
refusal_answer (refusal.TextOverlap address) = record (plain_answer kind.TextOverlap) { other = address }
refusal_answer (refusal.TextPastEnd line) = record (plain_answer kind.TextPastEnd) { at = line }
refusal_answer refusal.TextTooLong = plain_answer kind.TextTooLong
refusal_answer refusal.Unaligned = plain_answer kind.Unaligned
refusal_answer refusal.TableTooLong = plain_answer kind.TableTooLong
refusal_answer refusal.PastEnd = plain_answer kind.PastEnd
refusal_answer refusal.NeedsLow = plain_answer kind.NeedsLow

-- a fault's stage and code are numbers
abbrev pub check_answer : Result Verdict Refusal → Answer
check_answer (Ok Yes) = plain_answer kind.Yes
check_answer (Ok (No w)) =
    record {
      kind = kind_number kind.No;
      stage = stage_number (stage_of w.code);
      code = code_number w.code;
      at = w.at;
      other = w.other;
      point = w.point;
    }
check_answer (Err r) = refusal_answer r

abbrev pub confirm_answer : Result Bool Refusal → Answer
confirm_answer (Ok true) = plain_answer kind.Yes
confirm_answer (Ok false) = plain_answer kind.No
confirm_answer (Err r) = refusal_answer r

-- `at` is the RSDP's address
abbrev pub find_answer : Result (Option ℕ) Refusal → Answer
find_answer (Ok (Some p)) = record (plain_answer kind.Yes) { at = p }
find_answer (Ok None) = plain_answer kind.No
find_answer (Err r) = refusal_answer r

-- yes if there is no fault
abbrev pub kind_of_faults : List Witness → AnswerKind
kind_of_faults [] = kind.Yes
kind_of_faults (w ∷ rest) = kind.No

-- `at` is the number of faults, and `other` that of the findings of advice
abbrev pub lint_answer : Result (List Witness × List Advice) Refusal → Answer
lint_answer (Ok found) =
    record (plain_answer (kind_of_faults found.0)) { at = length found.0; other = length found.1 }
lint_answer (Err r) = refusal_answer r

-- ---- findings

abbrev pub fault_finding : Witness → Finding
fault_finding w = record { number = code_number w.code; at = w.at; other = w.other; point = w.point }

abbrev pub advice_finding : Advice → Finding
advice_finding a = record { number = rule_number a.rule; at = a.at; other = a.other; point = a.point }

-- the faults, followed by the advice
abbrev pub all_findings : List Witness → List Advice → List Finding
all_findings faults advice = map fault_finding faults ++ map advice_finding advice

-- the caller's array: the first of these are written to it, as many as fit, and the rest of it does not change
abbrev pub written_over : {X : Type 0} → List X → List X → List X
written_over found room = take (length room) found ++ drop (length found) room

-- nothing is written if the call is refused
abbrev pub written : Result (List Witness × List Advice) Refusal → List Finding → List Finding
written (Ok found) room = written_over (all_findings found.0 found.1) room
written (Err r) room = room

-- ---- bytes that are made for the caller, unless the set has a fault

-- `at` is the number of bytes; a fault is as in a check
abbrev pub made_answer : Result (Result (List ℕ) Witness) Refusal → Answer
made_answer (Ok (Ok bytes)) = record (plain_answer kind.Yes) { at = length bytes }
made_answer (Ok (Err w)) = check_answer (Ok (No w))
made_answer (Err r) = refusal_answer r

-- nothing is written for a fault, nor if the call is refused
abbrev pub made_written : Result (Result (List ℕ) Witness) Refusal → List ℕ → List ℕ
made_written (Ok (Ok bytes)) room = written_over bytes room
made_written (Ok (Err w)) room = room
made_written (Err r) room = room
