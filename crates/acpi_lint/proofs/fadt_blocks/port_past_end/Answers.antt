use Rattle.std.proofs.Common.{◌≡◌, ℕ, ◌<◌, true, false, List, inl, inr, arith, rules}
use Rattle.std.specs.Option.{is_some}
use Rattle.acpi_lint.specs.Rules.FadtBlocks.{IsFixedPastEnd, IsResetPastEnd}
use Rattle.acpi_lint.proofs.EitherPlace.{first_of_both, second_alone}
use Rattle.acpi_lint.proofs.fadt_blocks.port_past_end.Goals as goal

before : (whole : List ℕ) (a b n at other point : ℕ) → IsFixedPastEnd whole a b n → IsResetPastEnd whole at other point
    → a < at
before whole a b n at other point (full, inl smi) reset = omega (arith, smi.0, reset.1.0)
before whole a b n at other point (full, inr on) reset = omega (arith, on.place, on.block, reset.1.0)

pub returns-then-is_some : goal.returns-then-is_some
returns-then-is_some c =
    let some : is_some c.fixed_past_end-fixed.result ≡ true = search rules in
    first_of_both _ _ c.fixed_past_end-fixed.result some c.fixed_past_end-fixed.ensures (before c.args.fadt.now)

pub returns : goal.returns
returns c =
    let none : is_some c.fixed_past_end-fixed.result ≡ false = search rules in
    second_alone _ _ c.fixed_past_end-fixed.result c.reset_past_end.result none c.fixed_past_end-fixed.ensures
    c.reset_past_end.ensures
