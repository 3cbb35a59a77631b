-- The faults of a listed table: each can be decided, and there is none exactly if the table is valid.
use Rattle.std.proofs.Common.{◌≡◌, ℕ, List, length, arith, refl, inr}
use Rattle.std.proofs.lemmas.List.{take-take}
use Rattle.acpi_base.specs.Memory.{Memory}
use Rattle.acpi_base.specs.Signature.{has_signature}
use Rattle.acpi_base.specs.Tables.{IsTable, table_frame, IsValidTable, TableFault}
use Rattle.acpi_base.specs.Codes.{stage_of}
use Rattle.acpi_base.specs.declared.code.Code.{Code}
use Rattle.acpi_base.specs.declared.code.Code.TheVariants as code
use Rattle.acpi_base.specs.declared.frame.Question.TheVariants as question
use Rattle.acpi_base.specs.declared.stage.Stage.TheVariants as stage
use Rattle.acpi_base.proofs.Frames.{header_is, stands_wrong}
use Rattle.acpi_base.proofs.Faults.Deciding.{Decided}
use Rattle.acpi_base.proofs.Frames as frame

pub signed_table : (m : Memory) (a : ℕ) (header whole signature : List ℕ) → IsTable m a header whole
    → length signature ≡ 4 → has_signature whole signature ≡ has_signature header signature
unfolding has_signature
signed_table m a header whole signature table four =
    grind (arith, header_is table (omega arith), take-take)

pub decided : (m : Memory) (a : ℕ) (c : Code) → Decided (TableFault m a c)
decided m a code.TableHeaderOut = frame.decided table_frame m a question.Header
decided m a code.TableLength = frame.decided table_frame m a question.Length
decided m a code.TableOut = frame.decided table_frame m a question.Bytes
decided m a code.TableSum = frame.decided table_frame m a question.Sum
decided m a _ = inr (λ fault. fault)

pub valid_without_fault : (m : Memory) (a : ℕ) → ((c : Code) → stage_of c ≡ stage.Tables → ¬ TableFault m a c)
    → IsValidTable m a
valid_without_fault m a none =
    frame.valid_without_fault table_frame m a (none code.TableHeaderOut refl) (none code.TableLength refl)
    (none code.TableOut refl) (none code.TableSum refl)

pub excludes : (m : Memory) (a : ℕ) (c : Code) → TableFault m a c → ¬ IsValidTable m a
excludes m a code.TableHeaderOut fault valid = stands_wrong question.Header fault valid.frame
excludes m a code.TableLength fault valid = stands_wrong question.Length fault valid.frame
excludes m a code.TableOut fault valid = stands_wrong question.Bytes fault valid.frame
excludes m a code.TableSum fault valid = stands_wrong question.Sum fault valid.frame valid.zero_sum
excludes m a _ fault valid = absurd fault
