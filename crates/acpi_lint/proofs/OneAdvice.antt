-- A rule has one first finding at most.
use Rattle.std.proofs.Common.{◌≡◌, sym, arith}
use Rattle.acpi_lint.specs.declared.rule.Advice.{Advice}
use Rattle.acpi_lint.specs.Rules.Advice.{NotAfter, OneFirstAdvice}

same_numbers : (a b : Advice) → NotAfter a b → NotAfter b a → (a.at ≡ b.at) × (a.other ≡ b.other) × (a.point ≡ b.point)
same_numbers a b one other = (grind (arith, one, other), grind (arith, one, other), grind (arith, one, other))

pub one_first_advice : OneFirstAdvice
one_first_advice m q a b same one other =
    let (at, second, point) =
    same_numbers a b (one.least b (sym same) other.broken) (other.least a same one.broken) in
    λ i. record { rule = same i; at = at i; other = second i; point = point i }
