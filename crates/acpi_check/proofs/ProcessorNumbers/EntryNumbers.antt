-- Numbers that are collected from the entries of a MADT are those of its processors.
use Rattle.std.proofs.Common.{◌≡◌, ℕ, ◌<◌, List, Option, Result, Ok, Err, Vec, Global}
use Rattle.std.specs.Prelude.{◌↔◌, AllPairs, Contains, IfOk}
use Rattle.acpi_base.specs.Entries.{PlacedEntry}
use Rattle.acpi_base.specs.Madt.{MadtContents}
use Rattle.acpi_check.specs.NamedNumbers.{NamesAt}
use Rattle.acpi_check.specs.Processors.{number_of, numbers_in, AreNumbers}
use Rattle.acpi_check.specs.declared.processors.Key.{Key}
use Rattle.acpi_check.proofs.EntryPasses.Kept.{kept_has, kept_from}

pub in_entries : {E : Type 0} (read : E → Option ℕ) (entries : List (PlacedEntry E)) (n : ℕ)
    → Contains (numbers_in read entries) n ↔ ((o : ℕ) × NamesAt read entries o n)
in_entries {E} read entries n = (
  from,
  λ (o, (e, stands, is)). kept_has (λ (s : PlacedEntry E). read s.entry) entries
      (record { offset = o; entry = e }) n stands is,
)
  where
    from : Contains (numbers_in read entries) n → (o : ℕ) × NamesAt read entries o n
    from listed = let (s, found, is) = kept_from (λ (s : PlacedEntry E). read s.entry) entries n listed in
        (s.offset, (s.entry, found, is))

pub are_numbers : {X : Type 0} (k : Key) (madt : MadtContents) (gathered : List ℕ) (r : Result (Vec ℕ Global) X)
    → gathered ≡ numbers_in (number_of k) madt.entries
    → IfOk r (λ numbers. AllPairs (λ i j. i < j) numbers.items)
    → IfOk r (λ numbers. (n : ℕ) → Contains numbers.items n ↔ Contains gathered n)
    → IfOk r (λ numbers. AreNumbers k madt numbers.items)
are_numbers k madt gathered (Err e) is rise same = tt
are_numbers k madt gathered (Ok numbers) is rise same =
    record {
      rise = rise;
      all = λ n. (
        λ listed. (in_entries (number_of k) madt.entries n).0 (rw is at ((same n).0 listed)),
        λ names. (same n).1 (rw is ((in_entries (number_of k) madt.entries n).1 names)),
      );
    }
