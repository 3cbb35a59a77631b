use Rattle.std.proofs.Common.{rules, sym, ap, ◌∙◌}
use Rattle.std.specs.Prelude.{Some}
use Rattle.std.proofs.lemmas.Option.{same_Some}
use Rattle.acpi_base.specs.contracts.code.Code.{the_type}
use denote.Enum.Bare.{same_true, true_same}
use Rattle.acpi_lint.proofs.table_at.TableAt.has_fault.Goals as goal

pub returns-in-Some : goal.returns-in-Some
returns-in-Some c =
    let fault = c.in-Some.fault in
    let code = c.args.code in (
      λ yes. c.in-Some.is ∙ ap Some (same_true the_type (search rules) fault code (sym c.eq.ensures ∙ yes)),
      λ is. c.eq.ensures ∙ true_same the_type fault code (same_Some _ _ (sym c.in-Some.is ∙ is)),
    )
