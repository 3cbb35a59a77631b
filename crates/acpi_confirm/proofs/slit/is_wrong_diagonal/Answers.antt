use Rattle.std.proofs.Common.{◌≡◌, ◌≢◌, arith}
use Rattle.std.proofs.lemmas.Bool.Decides.{nat_tests}
use Rattle.acpi_base.specs.Slit.{slit_contents, distance}
use Rattle.acpi_confirm.proofs.Cells.{test_of_cell}
use Rattle.acpi_confirm.proofs.slit.is_wrong_diagonal.Goals as goal

pub returns : goal.returns
returns c =
    test_of_cell (slit_contents c.args.slit.now) c.args.at
    (λ i j. (i ≡ j) × (distance (slit_contents c.args.slit.now) i j ≢ 10)) _ c.cell_at.result c.is_some_and.result
    c.cell_at.ensures c.is_some_and.ensures
    (λ cell says here. let is = here.says in grind (arith, nat_tests))
