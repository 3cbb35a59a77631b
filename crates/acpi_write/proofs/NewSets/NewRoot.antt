-- The slots of a written XSDT.
use Rattle.std.proofs.Common.{◌≡◌, ℕ, zero, suc, ◌+◌, ◌-◌, ◌*◌, ◌/◌, ◌^◌, ◌<◌, List, [], ◌∷◌, length, get_or, drop, flat_map, refl, sym, ap, ◌∙◌, arith, length-append}
use Rattle.std.proofs.lemmas.List.{drop_all, drop_at, drop_more}
use Rattle.acpi_base.specs.Number.{field, number_bytes}
use Rattle.acpi_base.specs.Header.{HeadValue}
use Rattle.acpi_base.specs.Listed.{listed_addresses}
use Rattle.acpi_base.specs.Signature.{xsdt_signature}
use Rattle.acpi_base.proofs.Layouts.RoundTrip.{length-number_bytes, number_there}
use Rattle.acpi_write.specs.Encoded.{FitsHead, table_bytes}
use Rattle.acpi_write.specs.Spells.{IsTableOf}
use Rattle.acpi_write.proofs.OldSets.Listing.{listed_from, listed_is, listed_take}
use Rattle.acpi_write.proofs.NewSets.NamedFacs.{field_behind}
use Rattle.acpi_write.proofs.TablesWritten.CompleteTables.{complete_table, length_of_parts}

-- addresses that a slot can list
pub record AreAddresses (xs : List ℕ) : Type 0 where
  pub some : (k : ℕ) → k < length xs → 0 < get_or xs k 0
  pub fits : (k : ℕ) → k < length xs → get_or xs k 0 < 2 ^ 64

pub length-slots : (xs : List ℕ) → length (flat_map (number_bytes 8) xs) ≡ 8 * length xs
length-slots [] = refl
length-slots (x ∷ xs) =
    let a = length-append (number_bytes 8 x) (flat_map (number_bytes 8) xs) in
    omega (arith, a, length-number_bytes 8 x, length-slots xs)

slots_behind : (x : ℕ) (xs : List ℕ) → drop 8 (flat_map (number_bytes 8) (x ∷ xs)) ≡ flat_map (number_bytes 8) xs
slots_behind x xs = drop_at (number_bytes 8 x) (flat_map (number_bytes 8) xs) 8 (length-number_bytes 8 x)

slot_number : (xs : List ℕ) (k : ℕ) → k < length xs → get_or xs k 0 < 2 ^ 64
    → field (flat_map (number_bytes 8) xs) (8 * k) 8 ≡ get_or xs k 0
slot_number [] k h fits = absurd (omega arith)
slot_number (x ∷ xs) zero h fits =
    number_there 0 8 x (flat_map (number_bytes 8) (x ∷ xs)) (flat_map (number_bytes 8) xs) refl (omega (arith, fits))
slot_number (x ∷ xs) (suc k) h fits =
    let next : 8 * suc k ≡ 8 + 8 * k = omega arith in
    ap (λ (o : ℕ). field (flat_map (number_bytes 8) (x ∷ xs)) o 8) next
    ∙ field_behind (flat_map (number_bytes 8) (x ∷ xs)) (flat_map (number_bytes 8) xs) 8 (8 * k) 8 (slots_behind x xs)
    ∙ slot_number xs k (omega arith) fits

listed_rest : (whole xs : List ℕ) (k n : ℕ) → k + n ≡ length xs
    → ((j : ℕ) → j < length xs → field whole (36 + 8 * j) 8 ≡ get_or xs j 0)
    → ((j : ℕ) → j < length xs → 0 < get_or xs j 0)
    → listed_from whole 8 k n ≡ drop k xs
listed_rest whole xs k zero all each some = sym (drop_all k xs (omega arith))
listed_rest whole xs k (suc n) all each some =
    let here = each k (omega arith) in
    let above = some k (omega arith) in
    let rest = listed_rest whole xs (k + 1) n (omega arith) each some in
    listed_take whole 8 k n (λ nil. absurd (omega (arith, here, above, nil)))
    ∙ ap (λ (x : ℕ). x ∷ listed_from whole 8 (k + 1) n) here
    ∙ ap (λ (l : List ℕ). get_or xs k 0 ∷ l) rest
    ∙ sym (drop_more xs k 0 (omega arith))

-- an XSDT that is written for addresses
pub record IsWrittenXsdt (head : HeadValue) (xs whole : List ℕ) : Type 0 where
  pub table : IsTableOf xsdt_signature head whole
  pub count : length whole ≡ 36 + 8 * length xs
  pub lists : listed_addresses whole 8 ≡ xs

pub xsdt_written : (head : HeadValue) (xs : List ℕ) → FitsHead head → 36 + 8 * length xs < 2 ^ 32 → AreAddresses xs
    → IsWrittenXsdt head xs (table_bytes xsdt_signature head (flat_map (number_bytes 8) xs))
xsdt_written head xs fits size are =
    let slots = flat_map (number_bytes 8) xs in
    let whole = table_bytes xsdt_signature head slots in
    let behind = length-slots xs in
    let table = complete_table xsdt_signature head slots refl fits (omega (arith, behind, size)) in
    let count : length whole ≡ 36 + 8 * length xs = omega
    (arith, behind, length_of_parts whole slots table.0.least table.1) in
    let n : (length whole - 36) / 8 ≡ length xs = omega (arith, count) in
    record {
      table = table.0;
      count = count;
      lists =
          listed_is whole 8
          ∙ ap (λ (k : ℕ). listed_from whole 8 0 k) n
          ∙ listed_rest whole xs 0 (length xs) (omega arith)
          (λ j below. field_behind whole slots 36 (8 * j) 8 table.1 ∙ slot_number xs j below (are.fits j below))
          are.some;
    }

pub ruleset root_slots = (length-slots)
