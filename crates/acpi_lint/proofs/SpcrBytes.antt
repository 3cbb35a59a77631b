-- What rules by hand find in an SPCR.
use Rattle.std.proofs.Common.{◌≡◌, ◌≢◌, ℕ, List, Bool, Some, None, refl, sym, ◌∙◌, inl, inr}
use Rattle.std.specs.Prelude.{◌↔◌, ◌==◌, not, IsTrue}
use Rattle.std.specs.Bool.{then_some}
use Rattle.std.proofs.lemmas.Bool.Decides.{eqb_tells}
use Rattle.std.proofs.lemmas.Option.{none-some, same_Some}
use Rattle.acpi_base.specs.Madt.{MadtContents}
use Rattle.acpi_base.specs.Number.{field}
use Rattle.acpi_base.specs.Policy.{PolicyValue}
use Rattle.acpi_rules.specs.Places.{FindsLeast}
use Rattle.acpi_lint.proofs.LeastPlaces.{finds_one}
use Rattle.acpi_lint.specs.Rules.SpcrAdvice.{IsGsiUnserved, IsNameOpen, IsUnserved, io_apic_gsi, name_end}

-- ---- the namespace string

pub no_name : (spcr : List ℕ) → name_end spcr ≡ None → FindsLeast (IsNameOpen spcr) None
no_name spcr none = λ at other point (is, _, _, _). none-some at (sym none ∙ is)

not_zero : (n : ℕ) → IsTrue (not (n == 0)) ↔ (n ≢ 0)
not_zero n =
    elim (eqb_tells n 0) [
      | inl (is, zero) ↦ rw is (λ no. absurd cc, λ some. absurd (some zero))
      | inr (is, some) ↦ rw is (λ yes. some, λ differs. refl)
    ]

pub open_name : (spcr : List ℕ) (last byte : ℕ) → name_end spcr ≡ Some last → byte ≡ field spcr last 1
    → FindsLeast (IsNameOpen spcr) (then_some (not (byte == 0)) (record { at = last; other = 0; point = byte }))
open_name spcr last byte end is =
    finds_one (record { at = last; other = 0; point = byte }) (not (byte == 0)) (
      λ true. (end, refl, is, (not_zero byte).0 true),
      λ (_, _, _, some). (not_zero byte).1 some,
    )
    (λ at other point (here, none, holds, _).
    let same = same_Some _ _ (sym here ∙ end) in
    (same, none, rw same at holds ∙ sym is))

-- ---- the GSI

pub no_gsi : (q : PolicyValue) (spcr : List ℕ) (c : MadtContents) → io_apic_gsi spcr ≡ None
    → FindsLeast (IsGsiUnserved q spcr c) None
no_gsi q spcr c none = λ at other point (_, _, is, _). none-some point (sym none ∙ is)

pub unserved_gsi : (q : PolicyValue) (spcr : List ℕ) (c : MadtContents) (gsi : ℕ) (b : Bool)
    → io_apic_gsi spcr ≡ Some gsi → (IsTrue b ↔ IsUnserved q c gsi)
    → FindsLeast (IsGsiUnserved q spcr c) (then_some b (record { at = 54; other = 0; point = gsi }))
unserved_gsi q spcr c gsi b is test =
    finds_one (record { at = 54; other = 0; point = gsi }) b (
      λ true. (refl, refl, is, test.0 true),
      λ (_, _, _, holds). test.1 holds,
    )
    (λ at other point (here, none, same, _). (here, none, same_Some _ _ (sym same ∙ is)))
