-- What the program does with its arguments, and its exit status.
use Rattle.std.specs.Prelude.{ℕ, Result, Ok, Err, ◌≡◌, ◌⊎◌, List, Option, Some, None}
use Rattle.std.specs.Io.KnownBytes.{Keeps}
use Rattle.acpi_base.specs.Memory.{Memory}
use Rattle.acpi_base.specs.Codes.{stage_number}
use Rattle.acpi_base.specs.declared.stage.Stage.{Stage}
use Rattle.acpi_arguments.specs.Topics.{topic_text}
use Rattle.acpi_arguments.specs.declared.topic.Topic.{Topic}
use Rattle.acpi_arguments.specs.CommandLine.{Asked, check, confirm, find, lint, rebuild, show}
use Rattle.acpi_cli.specs.declared.outcome.Outcome.{Outcome}
use Rattle.acpi_cli.specs.declared.outcome.Outcome.TheVariants as outcome
use Rattle.acpi_cli.specs.declared.outcome.RunFault.{RunFault}
use Rattle.acpi_cli.specs.declared.outcome.RunFault.TheVariants as run
use Rattle.acpi_cli.specs.Commands.{Device, HasNotFailed, ReportsCheck, ReportsConfirm, ReportsFound, ReportsLint, ReportsRebuild, ReportsShown, Runs, WritesOutput}

-- ---- the exit status for what a command function returns

abbrev pub exit_status : Result Outcome RunFault → ℕ
exit_status (Ok outcome.Yes) = 0
exit_status (Ok outcome.No) = 1
exit_status (Err (run.Image fault)) = 3
exit_status (Err run.Memory) = 4
exit_status (Err run.Device) = 4

-- ---- what the program does with its arguments

-- what is reported on an image by a command function that does what the arguments give
abbrev pub ReportsAsked : Asked → Memory → List ℕ → Outcome → Type 0
ReportsAsked (check given policy last) m bytes returned =
    (stage : Stage) × (stage_number stage ≡ last) × ReportsCheck given policy stage m bytes returned
ReportsAsked (lint allowed given policy strict) m bytes returned = ReportsLint allowed given policy strict m bytes returned
ReportsAsked (confirm given policy w) m bytes returned = ReportsConfirm given policy w m bytes returned
ReportsAsked (rebuild given policy base) m bytes returned = ReportsRebuild given policy base m bytes returned
ReportsAsked (show given anyway) m bytes returned = ReportsShown anyway given m bytes returned
ReportsAsked find m bytes returned = ReportsFound m bytes returned

-- nothing was read from the device or written to it
abbrev pub IsUntouched : Device → Type 0
IsUntouched device = Keeps device.bytes_before device.bytes_after × HasNotFailed device

-- What the program does. If its arguments give a job, a command function does it, and the exit status is that of the command
-- function's result. If they give none, it reads and writes nothing, and the exit status is 2, or 4 if memory ran out.
abbrev pub Obeys : Option Asked → Device → Device → ℕ → Type 0
Obeys (Some what) input output status =
    (result : Result Outcome RunFault) × Runs (ReportsAsked what) input output result × (status ≡ exit_status result)
Obeys None input output status = IsUntouched input × IsUntouched output × ((status ≡ 2) ⊎ (status ≡ 4))

-- a text is written, with its exit status, unless memory runs out or the writer fails
abbrev pub Prints : Topic → Device → ℕ → Type 0
Prints topic output status =
    (result : Result Outcome RunFault) × WritesOutput output (topic_text topic) outcome.Yes result × (status ≡ exit_status result)

-- What the program does, whatever its arguments ask for. If it is a text, it reads nothing and writes the text.
abbrev pub Serves : Option Topic → Option Asked → Device → Device → ℕ → Type 0
Serves (Some topic) asked input output status = IsUntouched input × Prints topic output status
Serves None asked input output status = Obeys asked input output status
