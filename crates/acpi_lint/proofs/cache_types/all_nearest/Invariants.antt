use Rattle.std.proofs.Common.{◌≡◌, ◌++◌, drop}
use Rattle.std.specs.List.{filter_map}
use Rattle.acpi_lint.specs.CacheTypes.{nearest}
use Rattle.acpi_lint.proofs.cache_types.all_nearest.Given as goal

-- those so far, and those still to come
abbrev pub invariant-loop-resource : goal.invariant-loop-resource
invariant-loop-resource l =
    l.all.items ++ filter_map (nearest l.fn.types l.fn.kind l.fn.pairs) (drop l.resource-index l.resources)
    ≡ filter_map (nearest l.fn.types l.fn.kind l.fn.pairs) l.resources
