use Rattle.std.proofs.Common.{leb, leb-true, rules}
use Rattle.std.proofs.lemmas.Bool.{leb-false}
use Rattle.std.proofs.lemmas.List.Sorted.{IsPartitionPoint-from_clause, IsPartitionedBy-leb}
use Rattle.acpi_base.specs.Image.Runs.{Run}
use Rattle.acpi_base.proofs.Images.LentRuns.{bases_rise}
use Rattle.acpi_base.proofs.image.lent.place.Goals as goal

pub returns-clause-place : goal.returns-clause-place
returns-clause-place c =
    let rs = c.args.runs.now in
    let parted = IsPartitionedBy-leb (λ (r : Run). r.base) rs c.args.address
    (λ i j r l h. bases_rise rs i j r c.requires.apart l h) in
    let point = IsPartitionPoint-from_clause (λ (r : Run). leb r.base c.args.address) _ _
    c.partition_point.ensures.partitioned parted (λ a r q k. search rules) in
    (λ k d l h. leb-true _ _ (point.0 k d l h), λ k d l h. leb-false _ _ (point.1 k d l h))
