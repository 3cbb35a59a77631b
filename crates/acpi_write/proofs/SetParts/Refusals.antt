-- Which sets can be placed at a base address, and that no set is both refused and rebuilt there.
use Rattle.std.proofs.Common.{ℕ, ◌^◌, ◌<◌, List, [], ◌∷◌, arith, ◌⊎◌, inl, inr, refl, subst}
use Rattle.std.proofs.lemmas.Bool.{cases_lt}
use Rattle.acpi_base.specs.Memory.{Memory}
use Rattle.acpi_base.specs.Policy.{PolicyValue}
use Rattle.acpi_write.specs.Placed.{block_ends, DoEndInside, IsPlaced, IsPlacingRefusal, PlacedUnlessRefused}
use Rattle.acpi_write.specs.Rebuilding.{IsRebuilt, RefusedSetsAreNotRebuilt}
use Rattle.acpi_write.specs.Rebuilt.{part_lengths, xsdt_length, facs_place}
use Rattle.acpi_write.specs.SetValues.{IsSetValue}
use Rattle.acpi_write.specs.Values.{SetValue}
use Rattle.acpi_write.specs.declared.placing.RebuildFault.{RebuildFault}
use Rattle.acpi_write.specs.declared.placing.RebuildFault.TheVariants as fault
use Rattle.acpi_write.proofs.OldSets.OldTables.{value_is_one}

inside_or_not : (ns : List ℕ) → DoEndInside ns ⊎ (¬ DoEndInside ns)
inside_or_not [] = inl tt
inside_or_not (n ∷ ns) =
    elim (cases_lt (2 ^ 64) n) [
      | inl past ↦ inr (λ all. omega (arith, past, all.0))
      | inr fits ↦ elim (inside_or_not ns) [
        | inl rest ↦ inl (omega (arith, fits), rest)
        | inr not ↦ inr (λ all. not all.1)
      ]
    ]

none_applies : (v : SetValue) (base : ℕ) → IsPlaced v base → (fault : RebuildFault) → ¬ IsPlacingRefusal v base fault
none_applies v base placed fault.Unaligned is = is
none_applies v base placed (fault.NotClean w) is = is
none_applies v base placed fault.TableTooLong is = omega (arith, is, placed.size)
none_applies v base placed fault.PastEnd is = is.1 placed.inside
none_applies v base placed fault.NeedsLow is =
    let high = is.3 in
    let low = placed.low is.2 in
    omega (arith, low, high)
none_applies v base placed fault.Memory is = is

pub placed_unless_refused : PlacedUnlessRefused
placed_unless_refused v base = (
  λ placed. (placed.aligned, none_applies v base placed),
  λ none.
      let size : xsdt_length v < 2 ^ 32 =
      elim (cases_lt (xsdt_length v) (2 ^ 32)) [
        | inl short ↦ short
        | inr long ↦
            absurd (none.1 fault.TableTooLong (omega (arith, long)))
      ] in
      let inside : DoEndInside (block_ends base (part_lengths v)) =
      elim (inside_or_not (block_ends base (part_lengths v))) [
        | inl all ↦ all
        | inr not ↦
            absurd (none.1 fault.PastEnd (size, not))
      ] in
      record {
        aligned = none.0;
        size = size;
        inside = inside;
        low = λ narrow. elim (cases_lt (facs_place v base) (2 ^ 32)) [
          | inl low ↦ low
          | inr high ↦
              absurd (none.1 fault.NeedsLow (size, inside, narrow, omega (arith, high)))
        ];
      },
)

none_refused : (m : Memory) (q : PolicyValue) (base : ℕ) (new : Memory) (fault : RebuildFault)
    → (v : SetValue) × IsSetValue m q.rsdp v × IsPlacingRefusal v base fault → ¬ IsRebuilt m q base new
none_refused m q base new fault (v, said, refused) is =
    none_applies is.value base is.placed fault
    (subst (λ (w : SetValue). IsPlacingRefusal w base fault) (value_is_one m q v is.value is.clean said is.said)
    refused)

pub refused_is_not_rebuilt : RefusedSetsAreNotRebuilt
refused_is_not_rebuilt m q base new fault.Unaligned aside refused is = refused is.placed.aligned
refused_is_not_rebuilt m q base new (fault.NotClean w) aside refused is = refused.1 is.clean
refused_is_not_rebuilt m q base new fault.TableTooLong aside refused is =
    none_refused m q base new fault.TableTooLong refused.2 is
refused_is_not_rebuilt m q base new fault.PastEnd aside refused is =
    none_refused m q base new fault.PastEnd refused.2 is
refused_is_not_rebuilt m q base new fault.NeedsLow aside refused is =
    none_refused m q base new fault.NeedsLow refused.2 is
refused_is_not_rebuilt m q base new fault.Memory aside refused is = aside refl
