-- The settings of a check.
use Rattle.std.specs.Prelude.{◌≡◌, ℕ, ◌^◌, ◌<◌, ◌≤◌, Bool, ◌||◌, Some, refl, unwrap_or, if◌then◌else◌}
use Rattle.std.specs.Ordering.{nat_cmp}
use Rattle.std.specs.Coded.{Coded, code_by, coded×, coded_ℕ}
use Rattle.std.specs.FinMap.{FinMap, empty, get, contains_key, insert, code}
use Rattle.acpi_base.specs.Number.{has_bit}
use Rattle.acpi_base.specs.declared.policy.HotPlug.{HotPlug}
use Rattle.acpi_base.specs.declared.policy.HotPlug.TheVariants.{Counted}
use Rattle.acpi_base.specs.declared.policy.Processors.{Processors}
use Rattle.acpi_base.specs.declared.policy.Processors.TheVariants.{Enabled, Usable}

-- the RSDP's address, how many inputs an I/O APIC has (by its address, or else by default), and the two settings
pub record PolicyValue : Type 0 where
  pub rsdp : ℕ
  pub default_inputs : ℕ
  pub inputs : FinMap nat_cmp ℕ
  pub hotplug : HotPlug
  pub processors : Processors

-- a policy with no count of its own for any I/O APIC, and with the settings Counted and Enabled
abbrev pub new_policy : ℕ → ℕ → PolicyValue
new_policy rsdp default_inputs =
    record {
      rsdp = rsdp;
      default_inputs = default_inputs;
      inputs = empty;
      hotplug = Counted;
      processors = Enabled;
    }

-- the policy with this count for the I/O APIC at this address: if an address is repeated, the first count wins
abbrev pub with_input : PolicyValue → ℕ → ℕ → PolicyValue
with_input q address count =
    if contains_key q.inputs address then q else record q { inputs = insert q.inputs address count }

-- the policy with this address of the RSDP
abbrev pub with_rsdp : PolicyValue → ℕ → PolicyValue
with_rsdp q p = record q { rsdp = p }

-- addresses are below 2^64, those of I/O APICs below 2^32, and counts lie from 1 to 256
pub record IsPolicy (q : PolicyValue) : Type 0 where
  pub rsdp_fits : q.rsdp < 2 ^ 64
  pub default_fits : (1 ≤ q.default_inputs) × (q.default_inputs ≤ 256)
  pub inputs_fit : (address count : ℕ) → get q.inputs address ≡ Some count → (address < 2 ^ 32) × (1 ≤ count) × (count ≤ 256)

-- how many inputs the I/O APIC at this address has
unfoldable pub inputs_of : PolicyValue → ℕ → ℕ
inputs_of q address = unwrap_or (get q.inputs address) q.default_inputs

-- whether a processor with these flags of the MADT, Enabled in bit 0 and Online Capable in bit 1, counts as enabled
unfoldable pub counts_as_enabled : Processors → ℕ → Bool
counts_as_enabled Enabled flags = has_bit flags 0
counts_as_enabled Usable flags = has_bit flags 0 || has_bit flags 1

-- how two values are distinguished: as its five parts
abbrev pub policy_code : Coded HotPlug → Coded Processors → Coded PolicyValue
policy_code hotplug processors =
    code_by
    (ℕ × (ℕ × (FinMap nat_cmp ℕ × (HotPlug × Processors))))
    (coded× coded_ℕ (coded× coded_ℕ (coded× (code coded_ℕ coded_ℕ) (coded× hotplug processors))))
    (λ q. (q.rsdp, (q.default_inputs, (q.inputs, (q.hotplug, q.processors)))))
    (λ p. record { rsdp = p.0; default_inputs = p.1.0; inputs = p.1.1.0; hotplug = p.1.1.1.0; processors = p.1.1.1.1 })
    (λ _. refl)
