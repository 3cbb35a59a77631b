-- Examples of advice on distances of a SLIT: each rule broken, and kept (ACPI 6.5, 5.2.17).
use Rattle.std.specs.Prelude.{ℕ, [], ◌∷◌}
use Rattle.acpi_base.specs.Slit.{SlitContents}
use Rattle.acpi_lint.specs.Rules.SlitAdvice.{IsRemoteAsLocal, IsSlitDiffers}
use Rattle.acpi_examples.specs.Advice.{IsKept}
use Rattle.acpi_examples.specs.Slits.{low_diagonal, said_slit, two_localities}

-- a SLIT of two localities with these distances from 0 to 1 and from 1 to 0
abbrev pub two_distances : ℕ → ℕ → SlitContents
two_distances there back = said_slit 48 2 (10 ∷ there ∷ back ∷ 10 ∷ [])

-- ---- what they state

-- 10 from locality 1 to 0; not so 11 and 9
pub record AreRemotesLocal : Type 0 where
  pub back : IsRemoteAsLocal (two_distances 11 10) 46 1 0
  pub others : IsKept (IsRemoteAsLocal (two_distances 11 9))

-- 21 from locality 0 to 1 and 20 back; not so if both are 20, whatever the diagonal
pub record AreDistances : Type 0 where
  pub differ : IsSlitDiffers two_localities 0x2d 0x2e 0
  pub agree : IsKept (IsSlitDiffers low_diagonal)

-- all of them
pub record IsSlitAdvised : Type 0 where
  pub distances : AreDistances
  pub local : AreRemotesLocal
