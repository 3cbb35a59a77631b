-- The examples of advice on distances of a SLIT, by computing.
use Rattle.std.proofs.Common.{◌≡◌, ◌≢◌, ℕ, zero, suc, ◌<◌, refl, arith}
use Rattle.acpi_base.specs.Slit.{distance}
use Rattle.acpi_examples.specs.AdviceSlit.{two_distances, AreDistances, AreRemotesLocal, IsSlitAdvised}
use Rattle.acpi_examples.specs.Slits.{low_diagonal}

far : (i j : ℕ) → i < 2 → j < 2 → i ≢ j → distance (two_distances 11 9) i j ≢ 10
far zero zero row column differ is = differ refl
far zero (suc zero) row column differ is = omega (arith, is)
far (suc zero) zero row column differ is = omega (arith, is)
far (suc zero) (suc zero) row column differ is = differ refl
far (suc (suc i)) j row column differ is = omega (arith, row)
far i (suc (suc j)) row column differ is = omega (arith, column)

remotes_local : AreRemotesLocal
remotes_local = record {
  back = record {
    cell = record { row = omega arith; column = omega arith; place = refl };
    remote = λ same. omega (arith, same);
    local = refl;
  };
  others = λ at other point it. far other point it.cell.row it.cell.column it.remote it.local;
}

same_ways : (i j : ℕ) → i < j → j < 2 → distance low_diagonal i j ≡ distance low_diagonal j i
same_ways zero zero upper column = omega arith
same_ways zero (suc zero) upper column = refl
same_ways _ _ upper column = omega arith

distances : AreDistances
distances = record {
  differ = record {
    i = 0;
    j = 1;
    upper = omega arith;
    here = record { row = omega arith; column = omega arith; place = refl };
    there = record { row = omega arith; column = omega arith; place = refl };
    differ = λ same. omega arith;
    unused = refl;
  };
  agree = λ at other point it. it.differ (same_ways it.i it.j it.upper it.here.column);
}

pub slit_advised : IsSlitAdvised
slit_advised = record {
  distances = distances;
  local = remotes_local;
}
