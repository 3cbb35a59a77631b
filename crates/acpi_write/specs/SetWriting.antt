-- Parts of a set, added one after another to an image.
use Rattle.std.specs.Prelude.{◌≡◌, ℕ, ◌+◌, ◌^◌, ◌<◌, ◌≤◌, true, List, [], ◌∷◌, ◌++◌, length, drop, map, flat_map, slice_index, slice_index_or, None}
use Rattle.acpi_base.specs.Memory.{Memory, byte_of}
use Rattle.acpi_base.specs.Number.{number_bytes}
use Rattle.acpi_base.specs.Signature.{xsdt_signature}
use Rattle.acpi_write.specs.Encoded.{encoded_bytes_with, table_bytes}
use Rattle.acpi_write.specs.Rebuilt.{option_list, part_lengths, place_of_facs, rsdp_bytes}
use Rattle.acpi_write.specs.Placed.{is_narrow}
use Rattle.acpi_write.specs.Values.{SetValue}
use Rattle.acpi_write.specs.Views.{table_value}
use Rattle.acpi_write.specs.declared.table_value.TableValue.{TableValue}

-- the image has nothing from an address on
abbrev pub EndsBelow : Memory → ℕ → Type 0
EndsBelow m a = (x : ℕ) → a ≤ x → byte_of m x ≡ None

-- the FACS's address, which the FADT names, if the parts are at these addresses
abbrev pub facs_among : SetValue → List ℕ → ℕ
facs_among v places = place_of_facs v.facs (slice_index places 2)

-- the table has room for it, if it is a FADT (5.2.9)
abbrev pub FitsFacs : ℕ → TableValue → Type 0
FitsFacs facs t = is_narrow (table_value t) ≡ true → facs < 2 ^ 32

-- the bytes of parts at these addresses, in their order
abbrev pub parts_at : SetValue → List ℕ → List (List ℕ)
parts_at v places =
    rsdp_bytes v.oemid (slice_index places 1)
    ∷ table_bytes xsdt_signature v.root (flat_map (number_bytes 8) (drop (2 + length (option_list v.facs)) places))
    ∷ (option_list v.facs ++ map (encoded_bytes_with (facs_among v places)) v.tables)

-- the bytes of the k-th part, as many as in the computation of the addresses
pub record IsPart (v : SetValue) (places : List ℕ) (k : ℕ) (bytes : List ℕ) : Type 0 where
  pub are : bytes ≡ slice_index_or (parts_at v places) k []
  pub count : length bytes ≡ slice_index (part_lengths v) k
