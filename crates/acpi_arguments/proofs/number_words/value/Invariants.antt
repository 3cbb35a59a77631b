use Rattle.std.proofs.Common.{◌≡◌, ◌<◌, ◌^◌, drop}
use Rattle.std.specs.List.{list_all}
use Rattle.std.specs.Char.{is_digit}
use Rattle.std.specs.Str.Parse.{digits_value, digits_value_after}
use Rattle.acpi_arguments.proofs.number_words.value.Given as goal

-- what is read so far is short enough, and the rest continues it
abbrev pub invariant-loop-byte : goal.invariant-loop-byte
invariant-loop-byte l = record {
  fits : l.value < 16 ^ l.byte-index;
  goes_on : digits_value_after l.base l.value (drop l.byte-index l.digits) ≡ digits_value l.base l.digits;
  all : list_all (λ c. is_digit c l.base) (drop l.byte-index l.digits) ≡ list_all (λ c. is_digit c l.base) l.digits;
}
