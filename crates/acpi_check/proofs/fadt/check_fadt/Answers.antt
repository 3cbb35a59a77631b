use Rattle.std.proofs.Common.{refl, sym, subst, List, ℕ}
use Rattle.acpi_base.specs.Fadt.{IsFadt, IsValidFadt}
use Rattle.acpi_base.specs.declared.table_kind.TableKind.TheVariants as kind
use Rattle.acpi_check.proofs.SetFaults.FirstFaults.{fadt_first, no_fadt_first}
use Rattle.acpi_check.proofs.SetFaults.TablesLifted.{listed_of_first, none_listed}
use Rattle.acpi_check.proofs.fadt.check_fadt.Goals as goal

pub returns-in_default : goal.returns-in_default
returns-in_default c = λ m q clean tables.
    let none = none_listed tables kind.Fadt c.first.ensures c.in_default.is in
    rw c.at.ensures (no_fadt_first m q clean none, refl)

pub returns-in-Err : goal.returns-in-Err
returns-in-Err c = λ m q clean tables.
    let table : IsFadt m q.rsdp c.in-Some.table = listed_of_first tables kind.Fadt c.first.ensures c.in-Some.is in
    let new = c.in-Err.ensures in
    let first = fadt_first m q c.in-Some.table (record { code = c.in-Err.code; at = 0; other = 0; point = 0 }) clean
    table new.stage new.fault refl refl new.least in
    rw c.at-in-Err.ensures (first, new.stage)

pub returns-in-Some-fault : goal.returns-in-Some-fault
returns-in-Some-fault c = λ m q clean tables.
    let table : IsFadt m q.rsdp c.in-Some.table = listed_of_first tables kind.Fadt c.first.ensures c.in-Some.is in
    let fadt = subst (λ (x : List ℕ). IsFadt m q.rsdp x) (sym c.in-Ok.ensures.same) table in
    let found = c.in-Some-fault.ensures in (
      fadt_first m q c.in-Ok.fadt c.in-Some-fault.fault clean fadt found.stage found.fault.0 found.fault.1 found.fault.2
          found.least,
      found.stage,
    )

pub returns-in-None : goal.returns-in-None
returns-in-None c = λ m q clean tables.
    let table : IsFadt m q.rsdp c.in-Some.table = listed_of_first tables kind.Fadt c.first.ensures c.in-Some.is in
    let fadt = subst (λ (x : List ℕ). IsFadt m q.rsdp x) (sym c.in-Ok.ensures.same) table in
    let valid : IsValidFadt m q.rsdp =
    record { whole = c.in-Ok.fadt; fadt = fadt; valid = c.in-None.ensures.none.0 refl } in
    (valid, fadt)
