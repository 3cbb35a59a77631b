use Rattle.std.proofs.Common.{◌≡◌}
use Rattle.std.proofs.lemmas.Result.{IfErr-at_err}
use Rattle.acpi_base.specs.declared.image.ImageFault.TheVariants as fault
use Rattle.acpi_write.proofs.SetParts.PartsInOrder.{never_refused}
use Rattle.acpi_write.proofs.set_writing.put.Goals.{in-Memory, in_default-matches}
use Rattle.acpi_write.proofs.set_writing.put.Goals as goal

pub prove-unreachable-requires : goal.prove-unreachable-requires
prove-unreachable-requires c =
    let none = never_refused c.args.image.now c.args.place c.args.bytes.now c.requires.behind c.requires.inside in
    let memory = IfErr-at_err (λ x. x ≡ fault.Memory) c.in-Err.is (rw none at c.add.ensures.refused) in
    elim c.match-matches.branch [
      | in-Memory w ↦ absurd (cc)
      | in_default-matches w ↦ w.in_default-matches.not-Memory memory
    ]
