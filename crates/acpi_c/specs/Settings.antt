-- The policy of settings and numbers of inputs.
use Rattle.std.specs.Prelude.{ℕ, suc, ◌==◌, ◌&&◌, ◌%◌, Bool, nat_le, List, [], ◌∷◌, length, Option, Some, None, Result, Ok, Err, if◌then◌else◌}
use Rattle.acpi_base.specs.Codes.{all_codes}
use Rattle.acpi_base.specs.Policy.{PolicyValue, new_policy, with_input}
use Rattle.acpi_base.specs.Text.ImageText.{on_ok}
use Rattle.acpi_base.specs.declared.policy.HotPlug.{HotPlug}
use Rattle.acpi_base.specs.declared.policy.HotPlug.TheVariants.{Counted, Apart}
use Rattle.acpi_base.specs.declared.policy.Processors.{Processors}
use Rattle.acpi_base.specs.declared.policy.Processors.TheVariants.{Enabled, Usable}
use Rattle.acpi_c.specs.declared.refusal.Refusal.{Refusal}
use Rattle.acpi_c.specs.declared.refusal.Refusal.TheVariants as refusal
use Rattle.acpi_c.specs.declared.settings.Inputs.{Inputs}
use Rattle.acpi_c.specs.declared.settings.Settings.{Settings}

-- a number of inputs is from 1 to 256
abbrev pub is_count : ℕ → Bool
is_count n = nat_le 1 n && nat_le n 256

abbrev pub count_of : ℕ → Option ℕ
count_of n = if is_count n then Some n else None

-- the setting of hot-pluggable ranges
abbrev pub hotplug_of : ℕ → Option HotPlug
hotplug_of n = if n == 0 then Some Counted else (if n == 1 then Some Apart else None)

-- the setting of processors
abbrev pub processors_of : ℕ → Option Processors
processors_of n = if n == 0 then Some Enabled else (if n == 1 then Some Usable else None)

-- the result of f for a number, or this refusal if there is none
abbrev pub given : {A B : Type 0} → Option A → Refusal → (A → Result B Refusal) → Result B Refusal
given (Some x) r f = f x
given None r f = Err r

-- the policy of the settings, without a number of inputs for any one I/O APIC
abbrev pub settings_policy : Settings → Result PolicyValue Refusal
settings_policy s =
    if s.size == 32
    then given (count_of s.default_inputs) refusal.DefaultInputs (λ count.
    given (hotplug_of s.hotplug) refusal.HotPlug (λ hotplug.
    given (processors_of s.processors) refusal.Processors (λ processors.
    Ok (record (new_policy s.rsdp count) { hotplug = hotplug; processors = processors }))))
    else Err refusal.Size

-- the refusal of the first of these numbers of inputs that is out of range; `index` is that of the list's first one
abbrev pub inputs_refusal : ℕ → List Inputs → Option Refusal
inputs_refusal index [] = None
inputs_refusal index (own ∷ rest) =
    if is_count own.count then inputs_refusal (suc index) rest else Some (refusal.Inputs index)

-- the policy with these numbers of inputs: if an address is repeated, the first number wins
abbrev pub with_inputs : PolicyValue → List Inputs → PolicyValue
with_inputs q [] = q
with_inputs q (own ∷ rest) = with_inputs (with_input q own.address own.count) rest

-- this value, unless there is a refusal
abbrev pub unless : {A : Type 0} → Option Refusal → A → Result A Refusal
unless None x = Ok x
unless (Some r) x = Err r

-- the policy of settings and numbers of inputs, or the first of them that is out of range, in the order in which they
-- are checked
abbrev pub policy_of : Settings → List Inputs → Result PolicyValue Refusal
policy_of s inputs = on_ok (settings_policy s) (λ q. unless (inputs_refusal 0 inputs) (with_inputs q inputs))

abbrev pub refusal_in : Result PolicyValue Refusal → Option Refusal
refusal_in (Ok q) = None
refusal_in (Err r) = Some r

-- why there is no policy
abbrev pub policy_refusal : Settings → List Inputs → Option Refusal
policy_refusal s inputs = refusal_in (policy_of s inputs)

-- a stage has a number from 1 to 18
abbrev pub stage_refusal : ℕ → Option Refusal
stage_refusal n = if nat_le 1 n && nat_le n 18 then None else Some refusal.Stage

-- a fault code has a number from 1 on
abbrev pub code_refusal : ℕ → Option Refusal
code_refusal n = if nat_le 1 n && nat_le n (length all_codes) then None else Some refusal.Code

-- a base address is a multiple of 64
abbrev pub base_refusal : ℕ → Option Refusal
base_refusal base = if base % 64 == 0 then None else Some refusal.Unaligned
