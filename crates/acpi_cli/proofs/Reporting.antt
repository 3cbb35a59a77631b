-- A command function that reads an image, makes its report and writes it does what is asked.
use Rattle.std.proofs.Common.{◌≡◌, ℕ, List, inl, inr}
use Rattle.std.specs.Prelude.{IfOk, IfErr, Result, Ok, Err}
use Rattle.acpi_base.specs.Memory.{Memory}
use Rattle.acpi_cli.specs.Commands.{Device, ReadsImage, Runs, WritesNothing, WritesOutput}
use Rattle.acpi_cli.specs.declared.devices.Output.{Output}
use Rattle.acpi_cli.specs.declared.outcome.Outcome.{Outcome}
use Rattle.acpi_cli.specs.declared.outcome.RunFault.{RunFault}
use Rattle.acpi_cli.specs.declared.outcome.RunFault.TheVariants as run

pub ran : (Reports : Memory → List ℕ → Outcome → Type 0) (input output : Device) (m : Memory)
    {Error : Type 0} (result : Result Outcome RunFault) (made : Result Output Error)
    → ReadsImage input m → IfOk made (λ o. Reports m o.bytes.items o.outcome)
    → IfOk made (λ o. WritesOutput output o.bytes.items o.outcome result)
    → IfErr made (λ _. (result ≡ Err run.Memory) × WritesNothing output)
    → Runs Reports input output result
ran Reports input output m result (Ok o) reads reports writes fails =
    inl (m, o.bytes.items, o.outcome, reads, reports, writes)
ran Reports input output m result (Err e) reads reports writes fails =
    inr (run.Memory, fails.0, record { text = reads.text; read = reads.read; valid = reads.valid }, fails.1)
