use Rattle.std.proofs.Common.{inl, inr}
use Rattle.std.proofs.lemmas.Bool.{false≢true}
use Rattle.acpi_confirm.proofs.ListedTables.{test_of_fadt}
use Rattle.acpi_confirm.proofs.fadt.is_fadt_fault.Goals as goal

pub returns-in-Some : goal.returns-in-Some
returns-in-Some c =
    let test = test_of_fadt c.in-Some.ensures.found c.has_fault.ensures in
    (λ yes. (test.0 yes, c.if-witness-ne0.false, c.if-witness-ne0-2.false), λ fault. test.1 fault.0)

pub returns-in-None : goal.returns-in-None
returns-in-None c = (
  λ yes. absurd (false≢true yes),
  λ fault. elim fault.0 [
    | inl none ↦ absurd (c.in_default.not-NoFadt none.1)
    | inr here ↦ absurd (c.in-None.ensures.found here.0 here.1)
  ],
)
