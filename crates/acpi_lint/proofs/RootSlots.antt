-- Slots of a root table that are 0, and the root table of a set.
use Rattle.std.proofs.Common.{◌≢◌, ℕ, ◌+◌, ◌*◌, ◌<◌, List, Option, Some, None}
use Rattle.acpi_base.specs.Memory.{Memory}
use Rattle.acpi_base.specs.Number.{field}
use Rattle.acpi_base.proofs.Root.Named.{of_root}
use Rattle.acpi_read.specs.Roots.{RootValue}
use Rattle.acpi_rules.specs.Places.{FindsLeast}
use Rattle.acpi_lint.specs.Rules.RootAdvice.{OfRoot}
use Rattle.acpi_lint.specs.Slots.{IsRootOf}
use Rattle.acpi_rules.specs.declared.place.Place.{Place}
use Rattle.acpi_rules.proofs.LeastPlaces.{least_as}

-- no slot below n is 0
abbrev pub AreUsedBelow : List ℕ → ℕ → ℕ → Type 0
AreUsedBelow whole d n = (k : ℕ) → k < n → field whole (36 + d * k) d ≢ 0

-- what is found in the root table is found in the set
pub found_in_root : (P : List ℕ → ℕ → ℕ → ℕ → ℕ → Type 0) {m : Memory} {p : ℕ} (root : RootValue) (found : Option Place)
    → IsRootOf m p (Some root)
    → FindsLeast (P root.bytes root.width) found → FindsLeast (OfRoot P m p) found
found_in_root P {m} {p} root found is least =
    least_as found
    (λ at other point holds. record {
      r = root.address;
      d = root.width;
      whole = root.bytes;
      root = is.named;
      table = is.table;
      holds = holds;
    })
    (λ at other point of.
    of_root (λ d whole. P whole d at other point) of.root is.named of.table is.table of.holds) least

pub none_without_root : (P : List ℕ → ℕ → ℕ → ℕ → ℕ → Type 0) {m : Memory} {p : ℕ} → IsRootOf m p None
    → FindsLeast (OfRoot P m p) None
none_without_root P none = λ at other point of.
    none (record { address = of.r; width = of.d; bytes = of.whole })
    (record { named = of.root; table = of.table })
