-- The example of a rebuilt set, by computing.
use Rattle.std.proofs.Common.{◌≡◌, ℕ, List, [], ◌∷◌, take, Some, refl, ap, subst, arith}
use Rattle.std.specs.List.{AllZip}
use Rattle.std.specs.FinMap.{empty}
use Rattle.acpi_base.specs.Number.{field, number_bytes, byte_sum}
use Rattle.acpi_base.specs.Signature.{has_signature}
use Rattle.acpi_base.specs.Header.{header_of, header_bytes}
use Rattle.acpi_base.specs.Listed.{listed_addresses, fadt_signature}
use Rattle.acpi_base.specs.Fadt.{IsFadt}
use Rattle.acpi_base.specs.Entries.{first_entry, entries_from, entries_of, end_of_entries, cut_of, has_form}
use Rattle.acpi_base.specs.Madt.{madt_entry, madt_contents}
use Rattle.acpi_base.specs.Srat.{srat_entry, srat_contents}
use Rattle.acpi_base.specs.Slit.{slit_contents}
use Rattle.acpi_base.specs.Pptt.{has_node_form, has_cache_form, pptt_entry, pptt_contents}
use Rattle.acpi_examples.specs.Sets.{rsdp_at, new_leaf_bytes}
use Rattle.acpi_examples.specs.Slits.{one_locality_bytes}
use Rattle.acpi_examples.specs.ExampleSet.{xsdt_bytes, fadt_bytes, facs_bytes, madt_bytes, srat_bytes, example_set, example_policy}
use Rattle.acpi_examples.specs.ExampleSet as old
use Rattle.acpi_examples.proofs.CleanSet.{is_clean, names_facs, named_facs}
use Rattle.acpi_examples.proofs.ExampleSet.{example_has_root, root_of_present, root_table_of, tables}
use Rattle.acpi_examples.proofs.ExampleSet as whole
use Rattle.acpi_base.proofs.Tables.Listed.{one_listed}
use Rattle.acpi_write.specs.Encoded.{checksum_of, table_bytes}
use Rattle.acpi_examples.specs.RebuiltSets.{complete_tables, example_value, new_base, new_blocks, new_image}
use Rattle.acpi_write.specs.FadtBody.{put_over, with_facs}
use Rattle.acpi_write.specs.Placed.{block_ends, IsPlaced}
use Rattle.acpi_write.specs.Rebuilding.{IsRebuilt}
use Rattle.acpi_write.specs.Rebuilt.{aligned_address, blocks_from, block_places, rsdp_bytes, part_bytes, with_blocks, rebuilt_image}
use Rattle.acpi_write.specs.SetValues.{table_value_behind, values_behind, values_of, IsCompleteAt, IsFacsOf, IsSetValue}

-- ---- what the set says

-- the bytes of its tables, in the order of their slots
abbrev table_list : List (List ℕ)
table_list = fadt_bytes ∷ madt_bytes ∷ srat_bytes ∷ one_locality_bytes ∷ new_leaf_bytes ∷ []

each_whole : AllZip (IsCompleteAt example_set) (listed_addresses xsdt_bytes 8) table_list
unfolding listed_addresses field
each_whole = ((_, tables.fadt), ((_, tables.madt), ((_, tables.srat), ((_, tables.slit), ((_, tables.pptt), tt)))))

values_said : complete_tables ≡ values_of table_list
unfolding table_value_behind values_behind has_signature header_of field number_bytes put_over with_facs first_entry
    entries_from entries_of end_of_entries cut_of has_form madt_entry madt_contents srat_entry srat_contents
    slit_contents has_node_form has_cache_form pptt_entry pptt_contents
values_said = refl

facs_said : (fadt : List ℕ) → IsFadt example_set rsdp_at fadt → IsFacsOf example_set fadt (Some facs_bytes)
facs_said fadt is =
    subst (λ (f : List ℕ). IsFacsOf example_set f (Some facs_bytes))
    (one_listed example_set rsdp_at fadt_signature fadt_bytes fadt whole.listed.fadt is) (names_facs, named_facs)

pub is_said : IsSetValue example_set rsdp_at example_value
unfolding header_of field
is_said = record {
  head = take 20 old.rsdp_bytes;
  head_present = example_has_root.head_present;
  oemid = refl;
  r = 0x1000;
  d = 8;
  root_bytes = xsdt_bytes;
  root = root_of_present example_has_root;
  root_table = root_table_of example_has_root;
  root_head = refl;
  tables = table_list;
  each = each_whole;
  values = values_said;
  facs = facs_said;
}

-- ---- its new image

pub is_placed : IsPlaced example_value new_base
unfolding block_ends aligned_address block_places number_bytes
is_placed = record {
  aligned = refl;
  size = omega arith;
  inside = (
    omega arith,
    (omega arith, (omega arith, (omega arith, (omega arith, (omega arith, (omega arith, (omega arith, tt))))))),
  );
  low = λ _. omega arith;
}

pieces : new_blocks ≡ blocks_from new_base (part_bytes example_value new_base)
unfolding blocks_from aligned_address block_places rsdp_bytes checksum_of table_bytes header_bytes number_bytes byte_sum
    put_over with_facs
pieces = refl

pub is_rebuilt : IsRebuilt example_set example_policy new_base new_image
unfolding new_image rebuilt_image
is_rebuilt = record {
  clean = is_clean;
  value = example_value;
  said = is_said;
  placed = is_placed;
  image = ap (with_blocks empty) pieces;
}
