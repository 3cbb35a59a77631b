-- From the arguments to the exit status.
use Rattle.std.proofs.Common.{◌≡◌, ℕ, List, [], Option, Some, None, Err, refl, sym, inl, inr, arith}
use Rattle.std.specs.Prelude.{IsSome, Result}
use Rattle.std.specs.Io.KnownBytes.{Consumes, Keeps}
use Rattle.acpi_base.specs.Memory.{Memory}
use Rattle.acpi_arguments.specs.CommandLine.{Asked, Does, DoesAsked, check, confirm, find, lint, rebuild, show}
use Rattle.acpi_arguments.specs.declared.words.Job.{Job}
use Rattle.acpi_arguments.specs.declared.words.Job.TheVariants.{Check, Confirm, Find, Lint, Rebuild, Show}
use Rattle.acpi_arguments.specs.declared.words.WordFault.TheVariants as fault
use Rattle.acpi_cli.specs.Commands.{Device, Reads, ReportsJob, Runs}
use Rattle.acpi_cli.specs.Program.{exit_status, IsUntouched, Obeys, ReportsAsked}
use Rattle.acpi_cli.specs.declared.outcome.Outcome.{Outcome}
use Rattle.acpi_cli.specs.declared.outcome.RunFault.{RunFault}
use Rattle.acpi_cli.specs.declared.outcome.RunFault.TheVariants as run

reports_asked : (what : Asked) (job : Job) → Does what job → (m : Memory) (bytes : List ℕ) (returned : Outcome)
    → ReportsJob job m bytes returned → ReportsAsked what m bytes returned
reports_asked (check rsdp policy last) (Check given present stage) does m bytes returned reports =
    (stage, does.2, rw (sym does.0, sym does.1) reports)
reports_asked (lint rules rsdp policy strict) (Lint allowed given present is_strict) does m bytes returned reports =
    rw (sym does.0, sym does.1, sym does.2, sym does.3) reports
reports_asked (confirm rsdp policy w) (Confirm given present witness) does m bytes returned reports =
    rw (sym does.0, sym does.1, sym does.2) reports
reports_asked (rebuild rsdp policy base) (Rebuild given present at) does m bytes returned reports =
    rw (sym does.0, sym does.1, sym does.2) reports
reports_asked (show rsdp anyway) (Show given is_anyway) does m bytes returned reports =
    rw (sym does.0, sym does.1) reports
reports_asked find Find does m bytes returned reports = reports
reports_asked _ _ does m bytes returned reports = absurd does

pub obeyed : (a : Option Asked) (job : Job) (input output : Device) (result : Result Outcome RunFault) (status : ℕ)
    → DoesAsked a job
    → Runs (ReportsJob job) input output result → status ≡ exit_status result → Obeys a input output status
obeyed None job input output result status does runs e = absurd does
obeyed (Some what) job input output result status does runs e = elim runs [
  | inl ended ↦
      let reports = reports_asked what job does ended.0 ended.1 ended.2 ended.4 in
      (result, inl (ended.0, ended.1, ended.2, ended.3, reports, ended.5), e)
  | inr gave_up ↦ (result, inr gave_up, e)
]

pub refused : (a : Option Asked) (input output : Device) (status : ℕ) → (IsSome a → fault.Words ≡ fault.Memory)
    → IsUntouched input → IsUntouched output
    → status ≡ 2 → Obeys a input output status
refused None input output status asks nothing_read nothing_written e = (nothing_read, nothing_written, inl e)
refused (Some what) input output status asks nothing_read nothing_written e =
    let same = asks refl in absurd (cc)

pub keeps_all : (bytes : Option (List ℕ)) → Keeps bytes bytes
keeps_all None = tt
keeps_all (Some xs) = refl

consumes_nothing : (before after : Option (List ℕ)) → Keeps before after → Consumes before after []
consumes_nothing None after keeps = keeps
consumes_nothing (Some xs) None keeps = absurd keeps
consumes_nothing (Some xs) (Some ys) keeps = sym keeps

-- if memory runs out before anything is read, a command function may do the same
pub starved : (a : Option Asked) (input output : Device) (status : ℕ) → IsUntouched input → IsUntouched output
    → status ≡ 4 → Obeys a input output status
starved None input output status nothing_read nothing_written e = (nothing_read, nothing_written, inr e)
starved (Some what) input output status nothing_read nothing_written e =
    let reads : Reads input [] = record
    { consumed = consumes_nothing input.bytes_before input.bytes_after nothing_read.0; bounded = omega arith } in (
      Err run.Memory,
      inr (
        run.Memory,
        refl,
        record { text = []; read = reads; valid = nothing_read.1 },
        nothing_written,
      ),
      e,
    )
