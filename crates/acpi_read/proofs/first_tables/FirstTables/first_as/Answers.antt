use Rattle.std.proofs.Common.{List, ℕ, sym, ap, ◌∙◌}
use Rattle.std.specs.Prelude.{is_some}
use Rattle.acpi_base.specs.Signature.{has_signature}
use Rattle.acpi_base.specs.TableKinds.{signature_of}
use Rattle.acpi_read.specs.FirstTables.{first_listed, first_table}
use Rattle.acpi_read.proofs.FirstsKept.{first_of_none, some_of_map}
use Rattle.acpi_read.proofs.first_tables.FirstTables.first_as.Goals as goal

pub returns-then-is_some : goal.returns-then-is_some
returns-then-is_some c = λ kind.
    first_of_none c.args.table.now c.in_ok-kind.kind kind (first_table c.args.self.now)
    (ap (λ (bytes : List ℕ). has_signature bytes (signature_of c.in_ok-kind.kind)) (sym c.bytes.ensures.bytes)
    ∙ c.in_ok-kind.ensures) (some_of_map _ (first_listed c.args.self.now c.in_ok-kind.kind)
    ∙ ap is_some (sym c.listed.ensures) ∙ some_of_map _ c.listed.result ∙ sym c.is_some.ensures ∙ c.if-is_some.true)
