use Rattle.std.proofs.Common.{◌<◌, ◌≤◌, ◌^◌, ℕ, IfSome, Option, Some, None, arith, lit<}
use Rattle.std.proofs.Math.Nat.{pow-le-pow_right}
use Rattle.acpi_arguments.proofs.number_words.number.Goals as goal

fits_more : (r : Option ℕ) (n most : ℕ) → n ≤ most → IfSome r (λ value. value < 16 ^ n)
    → IfSome r (λ value. value < 16 ^ most)
fits_more None n most short fits = tt
fits_more (Some value) n most short fits =
    let wider : 16 ^ n ≤ 16 ^ most = pow-le-pow_right {n = 16} (lit< tt) short in
    omega arith

pub returns-clause-fits : goal.returns-clause-fits
returns-clause-fits c = fits_more _ _ _ (omega arith) c.value.ensures.fits
