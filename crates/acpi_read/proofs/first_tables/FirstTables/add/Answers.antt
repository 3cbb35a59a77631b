use Rattle.std.proofs.Common.{refl, sym, ap, ◌∙◌}
use Rattle.std.specs.Prelude.{◌&&◌}
use Rattle.acpi_base.specs.Signature.{has_signature}
use Rattle.acpi_base.specs.TableKinds.{signature_of}
use Rattle.acpi_read.specs.FirstTables.{first_listed}
use Rattle.acpi_read.proofs.FirstsKept.{first_kept, is_none_of_map}
use Rattle.acpi_read.proofs.first_tables.FirstTables.add.Goals as goal

pub returns-in_err-kind-clause-tables : goal.returns-in_err-kind-clause-tables
returns-in_err-kind-clause-tables c = λ kind.
    let before = first_listed c.args.self.now kind in
    let has = has_signature c.args.listed.table (signature_of kind) in
    rw (ap (λ none. has && none) (sym (is_none_of_map (λ first. first.table) before)) ∙ c.in_err-kind.ensures kind) refl

pub returns-clause-tables : goal.returns-clause-tables
returns-clause-tables c = λ kind.
    first_kept c.args.listed c.in_ok-kind.kind kind (first_listed c.args.self.now) (first_listed c.keep.new.self)
    c.in_ok-kind.ensures.0 c.in_ok-kind.ensures.1 c.keep.ensures.kept c.keep.ensures.others
