use Rattle.std.proofs.lemmas.Bool.{false≢true}
use Rattle.acpi_confirm.proofs.ListedTables.{test_of_facs}
use Rattle.acpi_confirm.proofs.facs.is_facs_fault.Goals as goal

pub returns-in-Some : goal.returns-in-Some
returns-in-Some c =
    let test = test_of_facs c.args.witness.now.code c.args.witness.now.at c.in-Some.ensures.found c.has_fault.ensures in
    (λ yes. (test.0 yes, c.if-witness-ne0.false, c.if-witness-ne0-2.false), λ fault. test.1 fault.0)

pub returns-in-None : goal.returns-in-None
returns-in-None c = (λ yes. absurd (false≢true yes), λ fault. absurd (c.in-None.ensures.found fault.0.0 fault.0.1))
