use Rattle.std.proofs.Common.{ℕ, ◌≡◌, ◌<◌, ◌≤◌, ◌+◌, ◌*◌, ◌^◌, suc, arith, lit<, rules}
use Rattle.std.proofs.Math.Nat.{pow-le-pow_right, pow-suc, mul-le-mul_left}
use Rattle.acpi_arguments.proofs.number_words.value.Goals as goal

next_fits : (value base i digit : ℕ) → value < 16 ^ i → i < 16 → base ≤ 16 → digit < base
    → value * base + digit < 2 ^ 64
next_fits value base i digit below inside low small =
    let wider : value * base ≤ value * 16 = mul-le-mul_left value low in
    let last : 16 ^ suc i ≤ 16 ^ 16 = pow-le-pow_right {n = 16} (lit< tt) {i = suc i} {j = 16} (omega arith) in
    let next : 16 ^ suc i ≡ 16 ^ i * 16 = pow-suc 16 i in
    omega arith

pub overflow_mul-value : goal.overflow_mul-value
overflow_mul-value c =
    let base : c.from-in-loop-byte.result ≡ c.args.base = search rules in
    omega (
      arith,
      next_fits c.loop-byte.value c.from-in-loop-byte.result c.loop-byte.byte-index 0
          c.loop-byte.invariant.fits (omega arith) (omega arith) (omega arith),
    )

pub overflow_add-value : goal.overflow_add-value
overflow_add-value c =
    let base : c.from-in-loop-byte.result ≡ c.args.base = search rules in
    let digit : c.from-in-loop-byte-2.result ≡ c.in_ok-digit.digit = search rules in
    let small : c.in_ok-digit.digit < c.args.base = search rules in
    omega (
      arith,
      next_fits c.loop-byte.value c.from-in-loop-byte.result c.loop-byte.byte-index
          c.from-in-loop-byte-2.result c.loop-byte.invariant.fits (omega arith) (omega arith) (omega arith),
    )
