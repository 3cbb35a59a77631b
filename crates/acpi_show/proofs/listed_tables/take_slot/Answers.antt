use Rattle.std.proofs.Common.{sym, ◌∙◌}
use Rattle.acpi_base.specs.TableKinds.{signature_of}
use Rattle.acpi_read.specs.FirstTables.{first_listed}
use Rattle.acpi_show.specs.SlotPass.{is_met}
use Rattle.acpi_show.proofs.ListedTables.{next_unsigned, next_met, next_new}
use Rattle.acpi_show.proofs.listed_tables.take_slot.Goals as goal

pub returns-in_default : goal.returns-in_default
returns-in_default c = λ kind.
    next_unsigned c.args.image.now c.args.root.now c.args.k (signature_of kind) (is_met c.args.met.now kind)
    (first_listed c.args.tables.now kind) (c.in_default.ensures kind)

pub returns-then-has : goal.returns-then-has
returns-then-has c = λ kind.
    next_met c.args.image.now c.args.root.now c.args.k c.in-Some.address c.in-Some.kind kind (is_met c.args.met.now)
    (first_listed c.args.tables.now kind) c.in-Some.ensures.0 c.in-Some.ensures.1 (sym c.has.ensures ∙ c.if-has.true)

pub returns : goal.returns
returns c = λ kind.
    let here = c.in-Some.ensures in
    next_new c.args.image.now c.args.root.now c.args.k c.in-Some.address c.in-Some.kind kind (is_met c.args.met.now)
    (is_met c.add.new.self) (first_listed c.args.tables.now kind) (first_listed c.add_complete.new.tables kind) here.0
    here.1 (sym c.has.ensures ∙ c.if-has.false) c.add.ensures.met c.add.ensures.others
    (c.add_complete.ensures.same_kind kind) (c.add_complete.ensures.others kind)
