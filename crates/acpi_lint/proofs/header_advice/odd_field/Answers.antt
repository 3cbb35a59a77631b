use Rattle.std.proofs.Common.{refl, inl, inr, arith}
use Rattle.acpi_lint.proofs.HeaderTexts.{is_text, from_second, from_third, from_fourth, no_odd}
use Rattle.acpi_lint.proofs.header_advice.odd_field.Goals as goal

pub returns-then-is_odd_field : goal.returns-then-is_odd_field
returns-then-is_odd_field c =
    ((4, inl (refl, refl), c.is_odd_field.ensures.0 c.if-is_odd_field.true), λ offset odd. omega arith)

pub returns-then-is_odd_field-2 : goal.returns-then-is_odd_field-2
returns-then-is_odd_field-2 c =
    let header = c.args.header.now in (
      (6, inr (inl (refl, refl)), c.is_odd_field-else-is_odd_field.ensures.0 c.if-is_odd_field-2.true),
      from_second header (is_text _ _ c.is_odd_field.ensures c.if-is_odd_field.false),
    )

pub returns-then-is_odd_field-3 : goal.returns-then-is_odd_field-3
returns-then-is_odd_field-3 c =
    let header = c.args.header.now in (
      (8, inr (inr (inl (refl, refl))), c.is_odd_field-else-is_odd_field-2.ensures.0 c.if-is_odd_field-3.true),
      from_third header (is_text _ _ c.is_odd_field.ensures c.if-is_odd_field.false)
          (is_text _ _ c.is_odd_field-else-is_odd_field.ensures c.if-is_odd_field-2.false),
    )

pub returns-then-is_odd_field-4 : goal.returns-then-is_odd_field-4
returns-then-is_odd_field-4 c =
    let header = c.args.header.now in (
      (4, inr (inr (inr (refl, refl))), c.is_odd_field-else-is_odd_field-3.ensures.0 c.if-is_odd_field-4.true),
      from_fourth header (is_text _ _ c.is_odd_field.ensures c.if-is_odd_field.false)
          (is_text _ _ c.is_odd_field-else-is_odd_field.ensures c.if-is_odd_field-2.false)
          (is_text _ _ c.is_odd_field-else-is_odd_field-2.ensures c.if-is_odd_field-3.false),
    )

pub returns-else-is_odd_field-4 : goal.returns-else-is_odd_field-4
returns-else-is_odd_field-4 c =
    no_odd c.args.header.now (is_text _ _ c.is_odd_field.ensures c.if-is_odd_field.false)
    (is_text _ _ c.is_odd_field-else-is_odd_field.ensures c.if-is_odd_field-2.false)
    (is_text _ _ c.is_odd_field-else-is_odd_field-2.ensures c.if-is_odd_field-3.false)
    (is_text _ _ c.is_odd_field-else-is_odd_field-3.ensures c.if-is_odd_field-4.false)
