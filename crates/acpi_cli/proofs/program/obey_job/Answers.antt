use Rattle.std.proofs.Common.{refl}
use Rattle.acpi_cli.proofs.Statuses.{keeps_all, obeyed, starved}
use Rattle.acpi_cli.proofs.program.obey_job.Goals as goal

pub returns-in-Ok : goal.returns-in-Ok
returns-in-Ok g c =
    obeyed _ c.in-Ok.job _ _ c.do_job-result.result _ c.in-Ok.ensures.job c.do_job-result.ensures c.status_of.ensures

pub returns-in-Err-Memory : goal.returns-in-Err-Memory
returns-in-Err-Memory g c = starved _ _ _ _ (keeps_all _, refl) (keeps_all _, refl) c.refuse_memory.ensures
