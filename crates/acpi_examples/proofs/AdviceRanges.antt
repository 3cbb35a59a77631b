-- The examples of advice on ranges that overlap, by computing.
use Rattle.std.proofs.Common.{◌≡◌, ℕ, List, Bool, true, refl, inl, inr, arith}
use Rattle.std.specs.Prelude.{◌⊎◌, ◌==◌, ◌&&◌, ◌||◌, Contains}
use Rattle.std.specs.Bool.{Decides}
use Rattle.std.specs.List.{list_all}
use Rattle.std.proofs.lemmas.Bool.{both_ways}
use Rattle.std.proofs.lemmas.Bool.Decides.{Decides-and, Decides-eqb, Decides-or}
use Rattle.acpi_base.specs.Fadt.{has_flag, block_value, wide_address}
use Rattle.acpi_base.specs.Number.{field}
use Rattle.acpi_rules.specs.declared.numbered.Numbered.{Numbered}
use Rattle.acpi_rules.specs.declared.overlap.Range.TheVariants as range
use Rattle.acpi_rules.proofs.ComputedLists.{decides_all}
use Rattle.acpi_rules.proofs.RepeatedNumbers.{same_numbered}
use Rattle.acpi_lint.specs.Rules.Ports.{block_ranges}
use Rattle.acpi_examples.specs.AdviceRanges.{ports_fadt, wide_fadt, ArePortsOverlapping, AreRangesAdvised}
use Rattle.acpi_examples.proofs.NestedTables.{structures_overlapping}
use Rattle.acpi_examples.proofs.TwoRanges.{AreTwoRanges, range_of, two_overlap, two_apart}

-- ---- ports

abbrev is_same : Numbered → Numbered → Bool
is_same g a = (g.number == a.number) && ((g.at == a.at) && (g.value == a.value))

decides_same : (g a : Numbered) → Decides (is_same g a) ((g.number ≡ a.number) × ((g.at ≡ a.at) × (g.value ≡ a.value)))
decides_same g a =
    Decides-and (g.number == a.number) _ (Decides-eqb g.number a.number)
    (Decides-and (g.at == a.at) _ (Decides-eqb g.at a.at) (Decides-eqb g.value a.value))

-- whether a range is one of these two, or empty
abbrev is_one : Numbered → Numbered → Numbered → Bool
is_one a b g = is_same g a || (is_same g b || (g.value == 0))

-- two blocks of a FADT have these ranges, and the others are empty
two_blocks : (whole : List ℕ) (a b : Numbered) → list_all (is_one a b) (block_ranges whole) ≡ true
    → AreTwoRanges range.Count (λ g. Contains (block_ranges whole) g) 0 a b 0
two_blocks whole a b are g listed =
    elim ((decides_all (is_one a b)
    (λ h. ((h.number ≡ a.number) × ((h.at ≡ a.at) × (h.value ≡ a.value)))
    ⊎ (((h.number ≡ b.number) × ((h.at ≡ b.at) × (h.value ≡ b.value))) ⊎ (h.value ≡ 0)))
    (λ h.
    Decides-or (is_same h a) _ (decides_same h a)
    (Decides-or (is_same h b) _ (decides_same h b) (Decides-eqb h.value 0)))
    (block_ranges whole)).0 are g listed) [
      | inl (number, (at, value)) ↦ inl (same_numbered g a number at value)
      | inr (inl (number, (at, value))) ↦ inr (inl (same_numbered g b number at value))
      | inr (inr none) ↦ inr (inr (inr (inr (omega (arith, none)))))
    ]

ports_overlapping : ArePortsOverlapping
unfolding field has_flag block_value wide_address
ports_overlapping =
    record {
      shared = (
        refl,
        two_overlap range.Count (λ g. Contains (block_ranges (ports_fadt 3 0)) g) 0 (range_of 56 0x400 4)
            (range_of 64 0x403 2) 0 (two_blocks (ports_fadt 3 0) (range_of 56 0x400 4) (range_of 64 0x403 2) refl)
            (0, omega arith, refl) (2, omega arith, refl) (λ same. omega arith) (omega arith) (omega arith)
            (omega arith),
      );
      apart = λ at other point it.
          two_apart range.Count (λ g. Contains (block_ranges (ports_fadt 4 0)) g) 0 (range_of 56 0x400 4)
          (range_of 64 0x404 2) 0 (two_blocks (ports_fadt 4 0) (range_of 56 0x400 4) (range_of 64 0x404 2) refl)
          (omega arith) (omega arith, omega arith) at other point it.1;
      reduced = λ at other point it. both_ways _ it.0 refl;
      bits = (
        refl,
        two_overlap range.Count (λ g. Contains (block_ranges (wide_fadt 1 9)) g) 0 (range_of 64 0x3ff 2)
            (range_of 56 0x400 4) 0 (two_blocks (wide_fadt 1 9) (range_of 64 0x3ff 2) (range_of 56 0x400 4) refl)
            (2, omega arith, refl) (0, omega arith, refl) (λ same. omega arith) (omega arith) (omega arith)
            (omega arith),
      );
      byte = λ at other point it.
          two_apart range.Count (λ g. Contains (block_ranges (wide_fadt 1 8)) g) 0 (range_of 64 0x3ff 1)
          (range_of 56 0x400 4) 0 (two_blocks (wide_fadt 1 8) (range_of 64 0x3ff 1) (range_of 56 0x400 4) refl)
          (omega arith) (omega arith, omega arith) at other point it.1;
      memory = λ at other point it.
          two_apart range.Count (λ g. Contains (block_ranges (wide_fadt 0 9)) g) 0 (range_of 64 0x3ff 0)
          (range_of 56 0x400 4) 0 (two_blocks (wide_fadt 0 9) (range_of 64 0x3ff 0) (range_of 56 0x400 4) refl)
          (omega arith) (omega arith, omega arith) at other point it.1;
    }

pub ranges_advised : AreRangesAdvised
ranges_advised = record { structures = structures_overlapping; ports = ports_overlapping }
