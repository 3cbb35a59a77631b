-- The numbers in a PPTT's entries have 32 bits, so the numbers of its faults have 64.
use Rattle.std.proofs.Common.{◌≡◌, ℕ, ◌+◌, ◌*◌, ◌^◌, ◌<◌, List, length, Some, arith}
use Rattle.std.specs.Prelude.{slice_index, slice_get}
use Rattle.std.proofs.lemmas.Bool.{cond_both}
use Rattle.std.proofs.lemmas.Option.{same_Some, slice_get_within, get_or_from_slice_get}
use Rattle.std.proofs.lemmas.List.FromFn.{length-map-range_with_len, get_or-map-range_with_len}
use Rattle.acpi_base.specs.Number.{field}
use Rattle.acpi_base.specs.Entries.{Stands}
use Rattle.acpi_base.specs.Pptt.{PpttEntry, resource_count, resources_of, has_node_form, has_cache_form, pptt_entry, parent_of, resource_of, next_level_of, pptt_contents, ReferenceFault}
use Rattle.acpi_base.specs.declared.code.Code.{Code}
use Rattle.acpi_base.specs.declared.code.Code.TheVariants as code
use Rattle.acpi_base.proofs.Images.PresentBytes.{field_below}
use Rattle.acpi_base.proofs.Pptt.Places.{inside}
use Rattle.acpi_base.proofs.EntryOffsets.{said_with}

-- what an entry names are numbers of 32 bits
record NamesFit (e : PpttEntry) : Type 0 where
  parent : (p : ℕ) → parent_of e ≡ Some p → p < 256 ^ 4
  resource : (j r : ℕ) → resource_of j e ≡ Some r → (j < 256 ^ 4) × (r < 256 ^ 4)
  next_level : (p : ℕ) → next_level_of e ≡ Some p → p < 256 ^ 4

resource_below : (e : List ℕ) → ((k : ℕ) → slice_index e k < 256) → (j r : ℕ) → slice_get (resources_of e) j ≡ Some r
    → (j < 256 ^ 4) × (r < 256 ^ 4)
resource_below e small j r is =
    let below = field_below e small in
    let within = slice_get_within (resources_of e) j r is in
    let count = length-map-range_with_len (λ i. field e (20 + 4 * i) 4) 0 (resource_count e) in
    let here = get_or_from_slice_get (resources_of e) j r 0 is in
    let value = get_or-map-range_with_len (λ i. field e (20 + 4 * i) 4) 0 (resource_count e) j j 0 (omega arith)
    (omega arith) in
    (omega (arith, below 16 4), omega (arith, below (20 + 4 * j) 4))

names_fit : (e : List ℕ) → ((k : ℕ) → slice_index e k < 256) → NamesFit (pptt_entry e)
unfolding pptt_entry
names_fit e small =
    cond_both (has_node_form e) _ _ NamesFit
    (λ _. record {
      parent = λ p is. omega (arith, same_Some (field e 8 4) p is, field_below e small 8 4);
      resource = resource_below e small;
      next_level = λ p is. absurd cc;
    })
    (λ _. cond_both (has_cache_form e) _ _ NamesFit
    (λ _. record {
      parent = λ p is. absurd cc;
      resource = λ j r is. absurd cc;
      next_level = λ p is. omega (arith, same_Some (field e 8 4) p is, field_below e small 8 4);
    })
    (λ _. record { parent = λ p is. absurd cc; resource = λ j r is. absurd cc; next_level = λ p is. absurd cc }))

entry_fits : (whole : List ℕ) → ((k : ℕ) → slice_index whole k < 256) → (o : ℕ) (e : PpttEntry)
    → Stands (pptt_contents whole).entries o e → NamesFit e
unfolding pptt_contents
entry_fits whole small o e stands = said_with pptt_entry NamesFit names_fit 36 whole small o e stands

pub references_fit : (whole : List ℕ) → ((k : ℕ) → slice_index whole k < 256) → (fault : Code) (at other point : ℕ)
    → ReferenceFault (pptt_contents whole) fault at other point
    → (at < length whole) × (other < 256 ^ 4) × (point < 256 ^ 4)
references_fit whole small code.DanglingParent at other point (dangles, nothing) =
    let (e, stands, is) = dangles.names in
    (inside whole at e stands, (entry_fits whole small at e stands).parent other is, omega arith)
references_fit whole small code.DanglingResource at other point ((e, stands, is), nowhere) =
    let own = (entry_fits whole small at e stands).resource other point is in
    (inside whole at e stands, own.0, own.1)
references_fit whole small code.DanglingCache at other point (dangles, nothing) =
    let (e, stands, is) = dangles.names in
    (inside whole at e stands, (entry_fits whole small at e stands).next_level other is, omega arith)
references_fit whole small _ at other point fault = absurd fault
