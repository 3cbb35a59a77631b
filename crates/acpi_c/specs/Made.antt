-- What a call makes for its caller, as a plain value.
use Rattle.std.specs.Prelude.{ℕ, List, Result, Ok, Err}
use Rattle.acpi_base.specs.declared.witness.Witness.{Witness}
use Rattle.acpi_c.specs.declared.made.Made.{Made}
use Rattle.acpi_c.specs.declared.made.Made.TheVariants.{Bytes, Fault}
use Rattle.acpi_c.specs.declared.refusal.Refusal.{Refusal}

abbrev pub made_value : Made → Result (List ℕ) Witness
made_value (Bytes bytes) = Ok bytes.items
made_value (Fault w) = Err w

abbrev pub made_in : Result Made Refusal → Result (Result (List ℕ) Witness) Refusal
made_in (Ok made) = Ok (made_value made)
made_in (Err r) = Err r
