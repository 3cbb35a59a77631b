use Rattle.std.proofs.Common.{◌≡◌, ◌==◌, drop, map}
use Rattle.std.specs.List.{list_any}
use Rattle.acpi_lint.specs.Rules.HeaderAdvice.{signature_number}
use Rattle.acpi_lint.proofs.header_advice.is_among.Given as goal

-- the signature is none of those so far
abbrev pub invariant-loop-name : goal.invariant-loop-name
invariant-loop-name l =
    list_any (λ s. s == l.signature) (map signature_number (drop l.name-index l.names))
    ≡ list_any (λ s. s == l.signature) (map signature_number l.names)
