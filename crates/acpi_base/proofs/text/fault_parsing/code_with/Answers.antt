use Rattle.std.proofs.Common.{suc, length, inl, inr, refl, arith}
use Rattle.std.proofs.lemmas.Bool.{cases_lt}
use Rattle.acpi_base.specs.Codes.{all_codes}
use Rattle.acpi_base.proofs.Faults.Numbers.{code_below, code_from}
use Rattle.acpi_base.proofs.Texts.FaultTexts.{none_up_to}
use Rattle.acpi_base.proofs.text.fault_parsing.code_with.Goals as goal

pub loop-code-init : goal.loop-code-init
loop-code-init c = (omega arith, λ code less. let from = code_from code in absurd (omega arith))

pub loop-code-smaller : goal.loop-code-smaller
loop-code-smaller c = (let within = c.in-Some.ensures.some.0 refl in omega arith)

pub loop-code-preserved : goal.loop-code-preserved
loop-code-preserved c = (
  omega arith,
  none_up_to c.args.stage.now c.args.name.now c.in-Some.code c.loop-code.number c.is_head.result
      c.in-Some.ensures.same c.is_head.ensures c.if-is_head.false c.loop-code.invariant.1,
)

pub returns : goal.returns
returns c = λ code head.
    elim (cases_lt c.loop-code.number (suc (length all_codes))) [
      | inl within ↦ absurd (let some = c.in_default.ensures.some.1 (c.loop-code.invariant.0, omega arith) in cc)
      | inr past ↦ (let below = code_below code in c.loop-code.invariant.1 code (omega arith) head)
    ]
