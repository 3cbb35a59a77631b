-- The four bytes of the domain of a processor with a local APIC, which are not all consecutive.
use Rattle.std.proofs.Common.{rules, ◌≡◌, ℕ, ◌+◌, ◌*◌, ◌<◌, List, [], ◌∷◌, sym, arith}
use Rattle.std.specs.Prelude.{◌/◌, ◌%◌, slice_index}
use Rattle.std.proofs.lemmas.List.{get_or-drop}
use Rattle.acpi_base.specs.Number.{field}
use Rattle.acpi_base.proofs.Images.PresentBytes.{field_below}
use Rattle.acpi_base.specs.Layouts.{PartValue, Number}
use Rattle.acpi_base.specs.Srat.{ApicDomainValue, apic_domain}

-- the values of the parts after type and length: bits 7:0 of the domain; bits 15:8, 23:16 and 31:24 in their places
abbrev apic_domain_values : ApicDomainValue → List PartValue
apic_domain_values v =
    Number (v.domain % 256) ∷ Number v.apic_id ∷ Number v.flags ∷ Number v.eid ∷ Number (v.domain / 256 % 256)
    ∷ Number (v.domain / 65536 % 256)
    ∷ Number (v.domain / 16777216)
    ∷ Number v.clock_domain
    ∷ []

-- the numbers in an entry
abbrev apic_domain_read : List ℕ → List PartValue
apic_domain_read e =
    Number (field e 2 1) ∷ Number (field e 3 1) ∷ Number (field e 4 4) ∷ Number (field e 8 1) ∷ Number
    (field e 9 1) ∷ Number (field e 10 1) ∷ Number (field e 11 1) ∷ Number (field e 12 4) ∷ []

three_bytes : (e : List ℕ) (k : ℕ) → field e k 3 ≡ field e k 1 + 256 * field e (k + 1) 1 + 65536 * field e (k + 2) 1
unfolding field
three_bytes e k =
    grind (
      arith,
      get_or-drop k e 0 0,
      get_or-drop k e 1 0,
      get_or-drop k e 2 0,
      get_or-drop (k + 1) e 0 0,
      get_or-drop (k + 2) e 0 0,
    )

-- the bytes of a number of four bytes
record AreBytesOf (d a b c e : ℕ) : Type 0 where
  first : a ≡ d % 256
  second : b ≡ d / 256 % 256
  third : c ≡ d / 65536 % 256
  fourth : e ≡ d / 16777216

number_of : (d a b c e : ℕ) → AreBytesOf d a b c e → a + 256 * (b + 256 * c + 65536 * e) ≡ d
number_of d a b c e is = omega (arith, is.first, is.second, is.third, is.fourth)

bytes_of : (d a b c e : ℕ) → a < 256 → b < 256 → c < 256 → a + 256 * (b + 256 * c + 65536 * e) ≡ d
    → AreBytesOf d a b c e
bytes_of d a b c e one two three is =
    record { first = omega arith; second = omega arith; third = omega arith; fourth = omega arith }

pub apic_domain_reads : (e : List ℕ) (v : ApicDomainValue) → apic_domain_read e ≡ apic_domain_values v
    → apic_domain.read e ≡ v
apic_domain_reads e v same =
    let domain = number_of v.domain (field e 2 1) (field e 9 1) (field e 10 1) (field e 11 1)
    (record { first = cc; second = cc; third = cc; fourth = cc }) in
    let whole : (apic_domain.read e).domain ≡ v.domain = omega (arith, three_bytes e 9) in
    let apic_id : field e 3 1 ≡ v.apic_id = cc in
    let flags : field e 4 4 ≡ v.flags = cc in
    let eid : field e 8 1 ≡ v.eid = cc in
    let clock_domain : field e 12 4 ≡ v.clock_domain = cc in
    search rules

pub apic_domain_agrees : (e : List ℕ) → ((k : ℕ) → slice_index e k < 256)
    → apic_domain_values (apic_domain.read e) ≡ apic_domain_read e
apic_domain_agrees e low =
    let v : ApicDomainValue = apic_domain.read e in
    let is = bytes_of v.domain (field e 2 1) (field e 9 1) (field e 10 1) (field e 11 1) (field_below e low 2 1)
    (field_below e low 9 1) (field_below e low 10 1) (omega (arith, three_bytes e 9)) in
    let first = is.first in
    let second = is.second in
    let third = is.third in
    let fourth = is.fourth in
    λ i. Number (sym first i) ∷ Number v.apic_id ∷ Number v.flags ∷ Number v.eid ∷ Number (sym second i) ∷ Number
    (sym third i) ∷ Number (sym fourth i) ∷ Number v.clock_domain ∷ []
