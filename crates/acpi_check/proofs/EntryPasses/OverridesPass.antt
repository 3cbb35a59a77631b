-- The first fault of a MADT's overrides, as stage 8 finds it.
use Rattle.std.proofs.Common.{◌≡◌, ℕ, refl, sym, ◌∙◌}
use Rattle.acpi_base.specs.Faults.{NotAfter}
use Rattle.acpi_base.specs.Madt.{MadtEntry, MadtContents, Override, Overrides, OverrideFault}
use Rattle.acpi_base.specs.declared.code.Code.{Code}
use Rattle.acpi_base.specs.declared.code.Code.TheVariants as code
use Rattle.acpi_base.specs.declared.stage.Stage.TheVariants as stage
use Rattle.acpi_check.specs.FirstSeen.{IsFirstOther}
use Rattle.acpi_check.specs.TableResults.{IsFirstOfTable}
use Rattle.acpi_check.specs.declared.first_seen.OtherValue.{OtherValue}
use Rattle.acpi_check.proofs.EntryPasses.ValuesPass.{in_order}

pub one_source : (e : MadtEntry) (s t g h : ℕ) → Overrides s g e → Overrides t h e → (s ≡ t) × (g ≡ h)
one_source (Override v) s t g h one other = (sym one.0 ∙ other.0, sym one.1 ∙ other.1)
one_source _ s t g h one other = absurd one

pub clash : (madt : MadtContents) (found : OtherValue) → IsFirstOther Overrides madt.entries found
    → IsFirstOfTable stage.Overrides (OverrideFault madt)
    (record { code = code.OverrideClash; at = found.at; other = found.other; point = found.key })
clash madt found first =
    record { own = refl; fault = first.other; least = λ v wrong. least v.code v.at v.other v.point wrong }
  where
    least : (c : Code) (at other point : ℕ) → OverrideFault madt c at other point
        → NotAfter (record { code = code.OverrideClash; at = found.at; other = found.other; point = found.key })
        (record { code = c; at = at; other = other; point = point })
    least code.OverrideClash at other point wrong =
        in_order code.OverrideClash found.at found.other found.key at other point (first.first at other point wrong)
    least _ at other point wrong = absurd wrong
