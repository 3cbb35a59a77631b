use Rattle.std.proofs.Common.{◌≡◌, ◌++◌, drop}
use Rattle.std.specs.List.{filter_map}
use Rattle.acpi_lint.specs.CacheTypes.{next_level}
use Rattle.acpi_lint.proofs.cache_types.all_next_levels.Given as goal

-- those so far, and those still to come
abbrev pub invariant-loop-resource : goal.invariant-loop-resource
invariant-loop-resource l =
    l.all.items ++ filter_map (next_level l.fn.caches) (drop l.resource-index l.resources)
    ≡ filter_map (next_level l.fn.caches) l.resources
