-- Sets of listed tables.
use Rattle.std.proofs.Common.{ℕ, sym, subst}
use Rattle.acpi_base.specs.Memory.{Memory}
use Rattle.acpi_check.specs.StageSets.{IsListedSet, IsListedSetOf}
use Rattle.acpi_check.specs.declared.set.ListedSet.{ListedSet}

pub listed_itself : {m : Memory} {p : ℕ} (set : ListedSet) → IsListedSetOf m p set → IsListedSet set
listed_itself {m} {p} set is =
    subst (λ (a : ℕ). IsListedSetOf set.image.now a set) (sym is.rsdp.address)
    (subst (λ (n : Memory). IsListedSetOf n p set) (sym is.image) is)
