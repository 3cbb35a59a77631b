use Rattle.std.proofs.Common.{leb, leb-true, rules}
use Rattle.std.proofs.lemmas.Bool.{leb-false}
use Rattle.std.proofs.lemmas.List.Sorted.{IsPartitionPoint-from_clause, IsPartitionedBy-leb}
use Rattle.acpi_base.specs.Image.Pieces.{Piece}
use Rattle.acpi_base.proofs.Images.Searches.{bases_rise}
use Rattle.acpi_base.proofs.image.segments.Segments.place.Goals as goal

pub returns-clause-place : goal.returns-clause-place
returns-clause-place c =
    let ps = c.args.self.now.ended.items in
    let parted = IsPartitionedBy-leb (λ (p : Piece). p.0) ps c.args.address
    (λ i j p l h. bases_rise ps i j p c.requires.apart l h) in
    let point = IsPartitionPoint-from_clause (λ (p : Piece). leb p.0 c.args.address) _ _
    (rw c.deref.ensures.value at c.partition_point.ensures.partitioned) parted (λ a r q k. search rules) in
    (λ k d l h. leb-true _ _ (point.0 k d l h), λ k d l h. leb-false _ _ (point.1 k d l h))
