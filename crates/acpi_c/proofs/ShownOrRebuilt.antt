-- A set that is shown or rebuilt, and why a clean one is not rebuilt.
use Rattle.std.proofs.Common.{◌≡◌, ℕ, ◌∙◌, List, [], ◌∷◌, Bool, true, false, Result, Ok, Some, refl}
use Rattle.std.specs.Prelude.{if◌then◌else◌}
use Rattle.std.specs.FinMap.{contains_key, insert}
use Rattle.acpi_base.specs.Faults.{IsVerdict}
use Rattle.acpi_base.specs.Memory.{Memory}
use Rattle.acpi_base.specs.Policy.{PolicyValue, with_input}
use Rattle.acpi_base.specs.declared.stage.Stage.TheVariants as stage
use Rattle.acpi_base.specs.declared.witness.Witness.{Witness}
use Rattle.acpi_c.proofs.Answers.{asks}
use Rattle.acpi_c.specs.Results.{Asks, DoesNotFit, IsRebuiltOrFault, Moves, Presents, placing_refusal, verdict_of}
use Rattle.acpi_c.specs.Settings.{policy_of, with_inputs}
use Rattle.acpi_c.specs.Sources.{Source}
use Rattle.acpi_c.specs.declared.refusal.Refusal.{Refusal}
use Rattle.acpi_c.specs.declared.settings.Inputs.{Inputs}
use Rattle.acpi_c.specs.declared.settings.Settings.{Settings}
use Rattle.acpi_write.specs.Rebuilding.{IsRebuildRefusal}
use Rattle.acpi_write.specs.declared.placing.RebuildFault.{RebuildFault}

-- numbers of inputs leave the RSDP's address as it is
one_kept : (q : PolicyValue) (address count : ℕ) → (with_input q address count).rsdp ≡ q.rsdp
one_kept q address count = go (contains_key q.inputs address)
  where
    go : (b : Bool) → (if b then q else record q { inputs = insert q.inputs address count }).rsdp ≡ q.rsdp
    go true = refl
    go false = refl

pub rsdp_kept : (q : PolicyValue) (inputs : List Inputs) → (with_inputs q inputs).rsdp ≡ q.rsdp
rsdp_kept q [] = refl
rsdp_kept q (own ∷ rest) =
    rsdp_kept (with_input q own.address own.count) rest ∙ one_kept q own.address own.count

pub presents : (source : Source) (settings : Settings) (inputs : List Inputs) (m : Memory) (tested : PolicyValue)
    (made : Result (List ℕ) Witness) → source.Is m → policy_of settings inputs ≡ Ok (with_inputs tested inputs)
    → IsVerdict stage.Tables m (with_inputs tested inputs) (verdict_of made) → Presents source settings inputs made
presents source settings inputs m tested made is policy verdict = record {
  image = m;
  policy = with_inputs tested inputs;
  asked = asks source settings inputs m tested (with_inputs tested inputs) is policy refl;
  verdict = verdict;
}

pub moves : (source : Source) (settings : Settings) (inputs : List Inputs) (base : ℕ) (m : Memory) (q : PolicyValue)
    (made : Result (List ℕ) Witness) → Asks source settings inputs m q → IsRebuiltOrFault m q base made
    → Moves source settings inputs base made
moves source settings inputs base m q made asked rebuilt =
    record { image = m; policy = q; asked = asked; rebuilt = rebuilt }

pub does_not_fit : (source : Source) (settings : Settings) (inputs : List Inputs) (base : ℕ) (m : Memory)
    (q : PolicyValue) (fault : RebuildFault) (r : Refusal) → Asks source settings inputs m q
    → IsRebuildRefusal m q base fault → placing_refusal fault ≡ Some r → DoesNotFit source settings inputs base r
does_not_fit source settings inputs base m q fault r asked why refusal =
    record { image = m; policy = q; asked = asked; fault = fault; why = why; refusal = refusal }
