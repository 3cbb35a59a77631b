-- What an RSDP names: it is read in one of two forms, and its numbers fit their fields.
use Rattle.std.proofs.Common.{◌≡◌, ℕ, ◌^◌, ◌<◌, ◌≤◌, List, Some, inl, inr, arith}
use Rattle.std.specs.Prelude.{◌⊎◌}
use Rattle.std.proofs.lemmas.Bool.{cases_lt}
use Rattle.std.proofs.lemmas.Option.{same_Some}
use Rattle.acpi_base.specs.Memory.{Memory, IsImage, bytes_at}
use Rattle.acpi_base.specs.Rsdp.{Addresses, addresses_at, revision_of, short_addresses, extended_addresses, extended_frame, IsValidRsdp}
use Rattle.acpi_base.specs.Frames.{IsFrame}
use Rattle.acpi_base.proofs.Frames.{header_field}
use Rattle.acpi_base.proofs.Options.{cases_Option}
use Rattle.acpi_base.proofs.Images.PresentBytes.{present_field_below}

pub how_read : (m : Memory) (p : ℕ) (named : Addresses) → addresses_at m p ≡ Some named
    → ((head : List ℕ) × (bytes_at m p 20 ≡ Some head) × (named ≡ short_addresses head))
    ⊎ ((prefix : List ℕ) × (bytes_at m p 36 ≡ Some prefix) × (named ≡ extended_addresses prefix))
unfolding addresses_at
how_read m p named read = grind (arith, cases_Option (bytes_at m p 20), cases_Option (bytes_at m p 36), same_Some)

pub valid_read : (m : Memory) (p : ℕ) → IsValidRsdp m p → (named : Addresses) × (addresses_at m p ≡ Some named)
unfolding addresses_at
valid_read m p valid =
    elim (cases_lt (revision_of valid.head) 2) [
      | inl short ↦ (short_addresses valid.head, grind (arith, valid.head_present))
      | inr more ↦ (
        extended_addresses (valid.extended more).header,
        grind (arith, valid.head_present, (valid.extended more).frame.header_present),
      )
    ]

pub extended_named : {m : Memory} {p : ℕ} {header whole : List ℕ} (head : List ℕ) → bytes_at m p 20 ≡ Some head
    → 2 ≤ revision_of head → IsFrame extended_frame m p header whole
    → addresses_at m p ≡ Some (extended_addresses whole)
unfolding addresses_at
extended_named head present more is =
    let same = header_field is (omega arith) in
    grind (arith, present, is.header_present, same 16 4 (omega arith), same 24 8 (omega arith))

pub named_fit : (m : Memory) → IsImage m → (p : ℕ) (named : Addresses) → addresses_at m p ≡ Some named
    → (named.rsdt < 2 ^ 32) × (named.xsdt < 2 ^ 64)
named_fit m image p named read =
    grind (arith, how_read m p named read, present_field_below m image p 20, present_field_below m image p 36)
