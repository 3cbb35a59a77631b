-- The first finding of each rule of advice.
use Rattle.std.specs.Prelude.{◌≡◌, ℕ, List, [], ◌∷◌}
use Rattle.acpi_base.specs.Memory.{Memory}
use Rattle.acpi_base.specs.Order.{AreNotAfter}
use Rattle.acpi_base.specs.Policy.{PolicyValue}
use Rattle.acpi_lint.specs.Rules.Broken.{IsBroken}
use Rattle.acpi_lint.specs.declared.rule.Advice.{Advice}

-- the advice says that its rule is broken there
abbrev pub IsAdvice : Memory → PolicyValue → Advice → Type 0
IsAdvice m q a = IsBroken a.rule m q a.at a.other a.point

-- the numbers by which the findings of a rule are ordered
abbrev pub order_of : Advice → List ℕ
order_of a = a.at ∷ a.other ∷ a.point ∷ []

-- a comes before b in that order, or is equal to it
abbrev pub NotAfter : Advice → Advice → Type 0
NotAfter a b = AreNotAfter (order_of a) (order_of b)

-- the first advice of its rule: its rule is broken there, and at no numbers before
pub record IsFirstAdvice (m : Memory) (q : PolicyValue) (a : Advice) : Type 0 where
  pub broken : IsAdvice m q a
  pub least : (b : Advice) → b.rule ≡ a.rule → IsAdvice m q b → NotAfter a b

-- ---- the law

-- a rule has one first finding at most
abbrev pub OneFirstAdvice : Type 0
OneFirstAdvice =
    (m : Memory) (q : PolicyValue) (a b : Advice) → a.rule ≡ b.rule → IsFirstAdvice m q a → IsFirstAdvice m q b → a ≡ b
