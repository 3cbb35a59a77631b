-- The value of a policy, by its fields.
use Rattle.std.specs.FinMap.{from_entries}
use Rattle.acpi_base.specs.Policy.{PolicyValue, IsPolicy}
use Rattle.acpi_base.specs.declared.policy.Policy.TheInside.{Inside}

-- the fields themselves, with the entries of the map of counts as a finite map
abbrev pub policy_of : Inside → PolicyValue
policy_of a =
    record {
      rsdp = a.rsdp;
      default_inputs = a.default_inputs;
      inputs = from_entries a.inputs.entries;
      hotplug = a.hotplug;
      processors = a.processors;
    }

abbrev pub AreFields : Inside → Type 0
AreFields a = IsPolicy (policy_of a)
