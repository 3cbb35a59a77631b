use Rattle.std.proofs.Common.{inl, inr, refl}
use Rattle.acpi_base.specs.Policy.{with_rsdp}
use Rattle.acpi_base.specs.declared.verdict.Verdict.TheVariants.{No}
use Rattle.acpi_cli.specs.Commands.{shown_policy}
use Rattle.acpi_cli.proofs.show.show_output.Goals as goal

pub returns-in-Err : goal.returns-in-Err
returns-in-Err c =
    let found = c.in-Err.ensures (with_rsdp shown_policy c.in-Some.address) refl in
    inr (
      refl,
      inl (record {
        address = c.in-Some.address;
        rsdp = c.in-Some.ensures.some;
        reported = No c.in-Err.fault;
        judged = (found.0, found.1);
        line = c.in_ok-bytes-in-Err.ensures;
        outcome = refl;
      }),
    )

pub returns : goal.returns
returns c = inl (
  refl,
  (
    c.in-Some.address,
    c.in-Some.ensures.some,
    (c.in-Ok.ensures (with_rsdp shown_policy c.in-Some.address) refl).0,
  ),
)
