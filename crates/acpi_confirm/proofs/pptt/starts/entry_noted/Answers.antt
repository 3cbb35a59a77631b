use Rattle.acpi_confirm.proofs.Starts.{there_ahead}
use Rattle.acpi_confirm.proofs.pptt.starts.entry_noted.Goals as goal

pub returns-in-Some-clause-there : goal.returns-in-Some-clause-there
returns-in-Some-clause-there c =
    let (behind, noted) = c.in-Some.ensures in
    there_ahead c.args.pptt.now c.in-Some.start c.args.at _ (c.requires.stand c.in-Some.start noted) behind
    c.entry_at.ensures.there
