-- The example of a table inside another one, by computing.
use Rattle.std.proofs.Common.{◌≡◌, ℕ, zero, suc, true, List, [], ◌∷◌, take, length, refl, sym, ◌∙◌, ap, subst, inl, inr, arith}
use Rattle.std.specs.Prelude.{◌⊎◌}
use Rattle.std.proofs.lemmas.Bool.{both_ways}
use Rattle.acpi_base.specs.Memory.{run_of, cons_both, bytes_at}
use Rattle.acpi_base.specs.Number.{field}
use Rattle.acpi_base.specs.Signature.{has_signature}
use Rattle.acpi_base.specs.Image.Runs.{Run, run_at, lookup}
use Rattle.acpi_base.specs.Listed.{fadt_signature, IsListedTable}
use Rattle.acpi_base.specs.Root.{IsRoot, IsRootTable, HasSlot, IsSlot}
use Rattle.acpi_base.specs.Tables.{IsTable, IsSigned}
use Rattle.acpi_base.proofs.Frames.{one_frame}
use Rattle.acpi_base.proofs.Options.{same_value}
use Rattle.acpi_base.proofs.Images.RunBytes.{byte_of_memory_of}
use Rattle.acpi_base.proofs.Root.Named.{one_root, one_root_table}
use Rattle.acpi_base.proofs.Root.Slots.{one_slot, root_slot, slot_of_root}
use Rattle.acpi_rules.specs.declared.overlap.Range.TheVariants as range
use Rattle.acpi_rules.proofs.RepeatedNumbers.{same_numbered}
use Rattle.acpi_lint.specs.Rules.Structures.{IsStructure, IsFirstStructure}
use Rattle.acpi_examples.specs.AdviceRanges.{near_bytes, inner_bytes, nested_bytes, nested_set, AreStructuresOverlapping}
use Rattle.acpi_examples.specs.Sets.{rsdp_at, rsdp_bytes}
use Rattle.acpi_examples.proofs.Sets.{root_in, root_table_of, table_of}
use Rattle.acpi_examples.proofs.TwoRanges.{AreTwoRanges, range_of, two_overlap, two_apart}

-- ---- the image

-- its bytes are those of its runs
abbrev nested_runs : ℕ → List Run
nested_runs size = run_at rsdp_at rsdp_bytes ∷ run_at 0x1000 near_bytes ∷ run_at 0x2000 (nested_bytes size) ∷ []

bytes_of_nested : (size a n : ℕ) → bytes_at (nested_set size) a n ≡ run_of (lookup (nested_runs size)) a n
bytes_of_nested size a n = λ i. run_of (λ x. byte_of_memory_of (nested_runs size) x i) a n

nested_root : (size : ℕ) → IsRoot (nested_set size) rsdp_at 0x1000 4
unfolding run_of cons_both
nested_root size = root_in (bytes_of_nested size rsdp_at 20)

near_table : (size : ℕ) → IsRootTable (nested_set size) 0x1000 4 near_bytes
unfolding run_of cons_both has_signature field
near_table size =
    root_table_of near_bytes (bytes_of_nested size 0x1000 36) (omega arith) (bytes_of_nested size 0x1000 44) refl

outer_slot : HasSlot near_bytes 4 0 0x2000
unfolding field
outer_slot = record { inside = omega arith; address = refl; listed = λ same. omega arith }

inner_slot : HasSlot near_bytes 4 1 0x2024
unfolding field
inner_slot = record { inside = omega arith; address = refl; listed = λ same. omega arith }

near_slot : (size k a : ℕ) → IsSlot (nested_set size) rsdp_at k a → (a ≡ 0x2000) ⊎ (a ≡ 0x2024)
near_slot size k a slot =
    of k (slot_of_root (nested_set size) rsdp_at 0x1000 4 k a near_bytes (nested_root size) (near_table size) slot)
  where
    of : (k : ℕ) → HasSlot near_bytes 4 k a → (a ≡ 0x2000) ⊎ (a ≡ 0x2024)
    of zero slot = inl (one_slot near_bytes 4 0 a 0x2000 slot outer_slot)
    of (suc zero) slot = inr (one_slot near_bytes 4 1 a 0x2024 slot inner_slot)
    of (suc (suc k)) slot = absurd (omega (arith, slot.inside))

-- the two tables, the first with these bytes, as many as its Length says
record AreNested (size : ℕ) (whole : List ℕ) : Type 0 where
  outer : IsTable (nested_set size) 0x2000 (take 36 (nested_bytes size)) whole
  inner : IsTable (nested_set size) 0x2024 inner_bytes inner_bytes
  count : length whole ≡ size

inside_tables : AreNested 72 (nested_bytes 72)
unfolding run_of cons_both field
inside_tables = record {
  outer = table_of (nested_bytes 72) (bytes_of_nested 72 0x2000 36) (omega arith) (bytes_of_nested 72 0x2000 72);
  inner = table_of inner_bytes (bytes_of_nested 72 0x2024 36) (omega arith) (bytes_of_nested 72 0x2024 36);
  count = refl;
}

behind_tables : AreNested 36 (take 36 (nested_bytes 36))
unfolding run_of cons_both field
behind_tables = record {
  outer =
      table_of (take 36 (nested_bytes 36)) (bytes_of_nested 36 0x2000 36) (omega arith) (bytes_of_nested 36 0x2000 36);
  inner = table_of inner_bytes (bytes_of_nested 36 0x2024 36) (omega arith) (bytes_of_nested 36 0x2024 36);
  count = refl;
}

-- ---- its structures

not_signed : (size : ℕ) {whole : List ℕ} → AreNested size whole → (a : ℕ) → (a ≡ 0x2000) ⊎ (a ≡ 0x2024)
    → ¬ IsSigned (nested_set size) a fadt_signature
unfolding has_signature
not_signed size are a (inl is) it =
    let here = rw is at it.header_present in
    let same = same_value it.header (take 36 (nested_bytes size)) here are.outer.header_present in
    both_ways _ refl (subst (λ (h : List ℕ). has_signature h fadt_signature ≡ true) same it.signed)
not_signed size are a (inr is) it =
    let here = rw is at it.header_present in
    let same = same_value it.header inner_bytes here are.inner.header_present in
    both_ways _ refl (subst (λ (h : List ℕ). has_signature h fadt_signature ≡ true) same it.signed)

no_fadt : (size : ℕ) {whole : List ℕ} → AreNested size whole → (fadt : List ℕ)
    → ¬ IsListedTable (nested_set size) rsdp_at fadt_signature fadt
no_fadt size are fadt listed =
    let first = listed.first in
    let slot = root_slot first.root first.table first.first.slot in
    not_signed size are listed.a (near_slot size first.first.k listed.a slot) first.first.signed

-- the RSDP, the root table, and the two tables
structures : (size : ℕ) (whole : List ℕ) → AreNested size whole → (o s n : ℕ)
    → IsStructure (nested_set size) rsdp_at o s n
    → (s ≡ rsdp_at) ⊎ ((s ≡ 0x1000) × (n ≡ 44)) ⊎ ((o ≡ 4) × (s ≡ 0x2000) × (n ≡ size))
    ⊎ ((o ≡ 4) × (s ≡ 0x2024) × (n ≡ 36))
structures size whole are o s n (inl (_, (begin, _))) = inl begin
structures size whole are o s n (inr (inl (_, (d, bytes, named, table, count)))) =
    inr (inl (
      (one_root (nested_set size) rsdp_at s d 0x1000 4 named (nested_root size)).0,
      count
          ∙ ap (λ (b : List ℕ). length b) (one_root_table bytes near_bytes named (nested_root size) table
          (near_table size)),
    ))
structures size whole are o s n (inr (inr (inl (_, (fadt, listed, _))))) = absurd (no_fadt size are fadt listed)
structures size whole are o s n (inr (inr (inr (inl (_, (fadt, listed, _)))))) = absurd (no_fadt size are fadt listed)
structures size whole are o s n (inr (inr (inr (inr (is, (k, slot), (header, bytes, table, count)))))) =
    elim (near_slot size k s slot) [
      | inl begin ↦
          let same = one_frame (rw begin at table) are.outer in
          inr (inr (inl (
            is,
            begin,
            count ∙ ap (λ (b : List ℕ). length b) same ∙ are.count,
          )))
      | inr begin ↦
          let same = one_frame (rw begin at table) are.inner in
          inr (inr (inr (
            is,
            begin,
            count ∙ ap (λ (b : List ℕ). length b) same,
          )))
    ]

-- each begins elsewhere
nested_ranges : (size : ℕ) (whole : List ℕ) → AreNested size whole
    → AreTwoRanges range.Count (IsFirstStructure (nested_set size) rsdp_at) 0x1000 (range_of 0x2000 0x2000 size)
    (range_of 0x2024 0x2024 36) rsdp_at
nested_ranges size whole are g is =
    elim (structures size whole are is.o g.number g.value is.here) [
      | inl begin ↦ inr (inr (inr (inl (is.named ∙ begin, omega (arith, begin)))))
      | inr (inl (begin, count)) ↦ inr (inr (inl (is.named ∙ begin, omega (arith, begin, count))))
      | inr (inr (inl (_, begin, count))) ↦
          inl (same_numbered g (range_of 0x2000 0x2000 size) begin (is.named ∙ begin) count)
      | inr (inr (inr (_, begin, count))) ↦
          inr (inl (same_numbered g (range_of 0x2024 0x2024 36) begin (is.named ∙ begin) count))
    ]

outer_first : (size : ℕ) (whole : List ℕ) → AreNested size whole
    → IsFirstStructure (nested_set size) rsdp_at (range_of 0x2000 0x2000 size)
outer_first size whole are =
    record {
      named = refl;
      o = 4;
      here = inr (inr (inr (inr (
        refl,
        (0, root_slot (nested_root size) (near_table size) outer_slot),
        (take 36 (nested_bytes size), whole, are.outer, sym are.count),
      ))));
      first = λ k c other. elim (structures size whole are k 0x2000 c other) [
        | inl begin ↦ absurd (omega (arith, begin))
        | inr (inl (begin, _)) ↦ absurd (omega (arith, begin))
        | inr (inr (inl (same, _, _))) ↦ omega (arith, same)
        | inr (inr (inr (same, _, _))) ↦ omega (arith, same)
      ];
    }

inner_first : (size : ℕ) (whole : List ℕ) → AreNested size whole
    → IsFirstStructure (nested_set size) rsdp_at (range_of 0x2024 0x2024 36)
inner_first size whole are =
    record {
      named = refl;
      o = 4;
      here = inr (inr (inr (inr (
        refl,
        (1, root_slot (nested_root size) (near_table size) inner_slot),
        (inner_bytes, inner_bytes, are.inner, refl),
      ))));
      first = λ k c other. elim (structures size whole are k 0x2024 c other) [
        | inl begin ↦ absurd (omega (arith, begin))
        | inr (inl (begin, _)) ↦ absurd (omega (arith, begin))
        | inr (inr (inl (_, begin, _))) ↦ absurd (omega (arith, begin))
        | inr (inr (inr (same, _, _))) ↦ omega (arith, same)
      ];
    }

pub structures_overlapping : AreStructuresOverlapping
structures_overlapping =
    record {
      shared = two_overlap range.Count (IsFirstStructure (nested_set 72) rsdp_at) 0x1000 (range_of 0x2000 0x2000 72)
          (range_of 0x2024 0x2024 36) rsdp_at (nested_ranges 72 (nested_bytes 72) inside_tables)
          (outer_first 72 (nested_bytes 72) inside_tables) (inner_first 72 (nested_bytes 72) inside_tables)
          (λ same. omega arith) (omega arith) (omega arith) (omega arith);
      apart = two_apart range.Count (IsFirstStructure (nested_set 36) rsdp_at) 0x1000 (range_of 0x2000 0x2000 36)
          (range_of 0x2024 0x2024 36) rsdp_at (nested_ranges 36 (take 36 (nested_bytes 36)) behind_tables)
          (omega arith) (omega arith, omega arith);
    }
