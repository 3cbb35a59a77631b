-- The clean set, by computing.
use Rattle.std.proofs.Common.{◌≡◌, ℕ, zero, suc, ◌<◌, List, [], ◌∷◌, take, Some, true, false, refl, ◌∙◌, subst, arith}
use Rattle.std.specs.Prelude.{◌==◌}
use Rattle.std.proofs.lemmas.Bool.{both_ways}
use Rattle.std.proofs.lemmas.Bool.Decides.{nat_tests}
use Rattle.acpi_base.specs.Memory.{Memory, byte_of, run_of, cons_both, bytes_at}
use Rattle.acpi_base.specs.Number.{field}
use Rattle.acpi_base.specs.Image.Runs.{lookup}
use Rattle.acpi_base.specs.Signature.{has_signature}
use Rattle.acpi_base.specs.Rsdp.{addresses_at}
use Rattle.acpi_base.specs.Root.{chosen_root, IsRoot, IsRootTable, HasSlot}
use Rattle.acpi_base.specs.Tables.{IsTable, IsSigned}
use Rattle.acpi_base.specs.Listed.{fadt_signature, madt_signature, srat_signature, slit_signature, pptt_signature, IsListedTable}
use Rattle.acpi_base.specs.Entries.{first_entry, entries_from, entries_of, end_of_entries, cut_of, has_form}
use Rattle.acpi_base.specs.Madt.{LocalApic, IoApic, Override, MadtContents, madt_entry, madt_contents}
use Rattle.acpi_base.specs.Srat.{ApicDomain, MemoryRange, SratContents, srat_entry, srat_contents}
use Rattle.acpi_base.specs.Slit.{SlitContents, slit_contents}
use Rattle.acpi_base.specs.Pptt.{has_node_form, has_cache_form, pptt_entry, pptt_contents}
use Rattle.acpi_examples.specs.Tables.{placed_entry}
use Rattle.acpi_examples.specs.ExampleSet.{rsdp_bytes, xsdt_bytes, fadt_bytes, madt_bytes, srat_bytes, whole_runs, example_set}
use Rattle.acpi_examples.specs.Sets.{rsdp_at, new_leaf_bytes}
use Rattle.acpi_examples.specs.Madts.{said_madt}
use Rattle.acpi_examples.specs.Srats.{said_srat}
use Rattle.acpi_examples.specs.Slits.{said_slit, one_locality_bytes}
use Rattle.acpi_examples.proofs.Sets.{leaf, table_of}
use Rattle.acpi_base.proofs.Options.{same_value}
use Rattle.acpi_base.proofs.Images.RunBytes.{byte_of_memory_of}
use Rattle.acpi_base.proofs.Tables.Listed.{listed_in_root}

pub byte_of_example_set : (a : ℕ) → byte_of example_set a ≡ lookup whole_runs a
unfolding example_set
byte_of_example_set a = byte_of_memory_of whole_runs a

pub bytes_at_example_set : (a n : ℕ) → bytes_at example_set a n ≡ run_of (lookup whole_runs) a n
bytes_at_example_set a n = λ i. run_of (λ x. byte_of_example_set x i) a n

-- ---- the root

pub root_of : {m : Memory} → bytes_at m rsdp_at 20 ≡ Some (take 20 rsdp_bytes) → bytes_at m rsdp_at 36 ≡ Some rsdp_bytes
    → IsRoot m rsdp_at 0x1000 8
unfolding addresses_at chosen_root field
root_of head rsdp = record { named = record { rsdt = 0; xsdt = 0x1000 }; read = rw head (rw rsdp refl); chosen = refl }

-- the image has the clean set's RSDP and its XSDT
pub record HasRoot (m : Memory) : Type 0 where
  pub head_present : bytes_at m rsdp_at 20 ≡ Some (take 20 rsdp_bytes)
  pub rsdp_present : bytes_at m rsdp_at 36 ≡ Some rsdp_bytes
  pub header_present : bytes_at m 0x1000 36 ≡ Some (take 36 xsdt_bytes)
  pub xsdt_present : bytes_at m 0x1000 76 ≡ Some xsdt_bytes

pub root_of_present : {m : Memory} → HasRoot m → IsRoot m rsdp_at 0x1000 8
root_of_present has = root_of has.head_present has.rsdp_present

pub root_table_of : {m : Memory} → HasRoot m → IsRootTable m 0x1000 8 xsdt_bytes
unfolding has_signature field
root_table_of has = record {
  header = take 36 xsdt_bytes;
  table = record { header_present = has.header_present; least = omega arith; present = has.xsdt_present };
  signed = refl;
}

pub example_has_root : HasRoot example_set
unfolding run_of cons_both
example_has_root = record {
  head_present = bytes_at_example_set rsdp_at 20;
  rsdp_present = bytes_at_example_set rsdp_at 36;
  header_present = bytes_at_example_set 0x1000 36;
  xsdt_present = bytes_at_example_set 0x1000 76;
}

pub first_slot : HasSlot xsdt_bytes 8 0 0x2000
unfolding field
first_slot = record { inside = omega arith; address = refl; listed = λ same. omega arith }

pub each_slot : (P : ℕ → ℕ → Type 0) → P 0 0x2000 → P 1 0x4000 → P 2 0x5000 → P 3 0x6000 → P 4 0x7000
    → (k a : ℕ) → HasSlot xsdt_bytes 8 k a → P k a
unfolding field
each_slot P first second third fourth fifth zero a slot = subst (P 0) slot.address first
each_slot P first second third fourth fifth (suc zero) a slot = subst (P 1) slot.address second
each_slot P first second third fourth fifth (suc (suc zero)) a slot = subst (P 2) slot.address third
each_slot P first second third fourth fifth (suc (suc (suc zero))) a slot = subst (P 3) slot.address fourth
each_slot P first second third fourth fifth (suc (suc (suc (suc zero)))) a slot = subst (P 4) slot.address fifth
each_slot P first second third fourth fifth (suc (suc (suc (suc (suc k))))) a slot = absurd (omega (arith, slot.inside))

-- ---- the listed tables

-- the table in a slot, with its header
abbrev pub IsAt : ℕ → List ℕ → Type 0
IsAt a whole = IsTable example_set a (take 36 whole) whole

-- each is in the clean set
pub record AreTables : Type 0 where
  pub fadt : IsAt 0x2000 fadt_bytes
  pub madt : IsAt 0x4000 madt_bytes
  pub srat : IsAt 0x5000 srat_bytes
  pub slit : IsAt 0x6000 one_locality_bytes
  pub pptt : IsAt 0x7000 new_leaf_bytes

pub tables : AreTables
unfolding run_of cons_both field
tables = record {
  fadt = table_of fadt_bytes (bytes_at_example_set 0x2000 36) (omega arith) (bytes_at_example_set 0x2000 129);
  madt = table_of madt_bytes (bytes_at_example_set 0x4000 36) (omega arith) (bytes_at_example_set 0x4000 74);
  srat = table_of srat_bytes (bytes_at_example_set 0x5000 36) (omega arith) (bytes_at_example_set 0x5000 104);
  slit = table_of one_locality_bytes (bytes_at_example_set 0x6000 36) (omega arith) (bytes_at_example_set 0x6000 45);
  pptt = table_of new_leaf_bytes (bytes_at_example_set 0x7000 36) (omega arith) (bytes_at_example_set 0x7000 56);
}

pub not_signed : {m : Memory} {a : ℕ} (header signature : List ℕ) → bytes_at m a 36 ≡ Some header
    → has_signature header signature ≡ false → ¬ IsSigned m a signature
not_signed header signature present differs found =
    let same = same_value found.header header found.header_present present in
    both_ways (has_signature header signature) differs
    (subst (λ (h : List ℕ). has_signature h signature ≡ true) same found.signed)

-- A slot of the root table lists the first table with a signature if exactly this one of the five slots has it.
listed_at : (k a : ℕ) (whole signature : List ℕ) → HasSlot xsdt_bytes 8 k a → IsAt a whole
    → has_signature (take 36 whole) signature ≡ true
    → has_signature (take 36 fadt_bytes) signature ≡ (0 == k)
    → has_signature (take 36 madt_bytes) signature ≡ (1 == k)
    → has_signature (take 36 srat_bytes) signature ≡ (2 == k)
    → has_signature (take 36 one_locality_bytes) signature ≡ (3 == k)
    → has_signature (take 36 new_leaf_bytes) signature ≡ (4 == k)
    → IsListedTable example_set rsdp_at signature whole
listed_at k a whole signature slot stands signed fadt madt srat slit pptt =
    listed_in_root (root_of_present example_has_root) (root_table_of example_has_root)
    (record {
      k = k;
      slot = slot;
      signed = record { header = take 36 whole; header_present = stands.header_present; signed = signed };
      none_before = λ j b less here. before j b here less;
    })
    stands
  where
    at : (j : ℕ) {b : ℕ} (table : List ℕ) → IsAt b table → has_signature (take 36 table) signature ≡ (j == k) → j < k
        → ¬ IsSigned example_set b signature
    at j table present is less =
        let differs : (j == k) ≡ false = grind (arith, nat_tests) in
        not_signed (take 36 table) signature present.header_present (is ∙ differs)

    before : (j b : ℕ) → HasSlot xsdt_bytes 8 j b → j < k → ¬ IsSigned example_set b signature
    before =
        each_slot (λ j b. j < k → ¬ IsSigned example_set b signature)
        (at 0 fadt_bytes tables.fadt fadt) (at 1 madt_bytes tables.madt madt) (at 2 srat_bytes tables.srat srat)
        (at 3 one_locality_bytes tables.slit slit) (at 4 new_leaf_bytes tables.pptt pptt)

-- the clean set lists each of the five
pub record AreListed : Type 0 where
  pub fadt : IsListedTable example_set rsdp_at fadt_signature fadt_bytes
  pub madt : IsListedTable example_set rsdp_at madt_signature madt_bytes
  pub srat : IsListedTable example_set rsdp_at srat_signature srat_bytes
  pub slit : IsListedTable example_set rsdp_at slit_signature one_locality_bytes
  pub pptt : IsListedTable example_set rsdp_at pptt_signature new_leaf_bytes

pub listed : AreListed
unfolding has_signature field
listed = record {
  fadt = listed_at 0 0x2000 fadt_bytes fadt_signature first_slot tables.fadt refl refl refl refl refl refl;
  madt = listed_at 1 0x4000 madt_bytes madt_signature slot_1 tables.madt refl refl refl refl refl refl;
  srat = listed_at 2 0x5000 srat_bytes srat_signature slot_2 tables.srat refl refl refl refl refl refl;
  slit = listed_at 3 0x6000 one_locality_bytes slit_signature slot_3 tables.slit refl refl refl refl refl refl;
  pptt = listed_at 4 0x7000 new_leaf_bytes pptt_signature slot_4 tables.pptt refl refl refl refl refl refl;
}
  where
    slot_1 : HasSlot xsdt_bytes 8 1 0x4000
    slot_1 = record { inside = omega arith; address = refl; listed = λ same. omega arith }

    slot_2 : HasSlot xsdt_bytes 8 2 0x5000
    slot_2 = record { inside = omega arith; address = refl; listed = λ same. omega arith }

    slot_3 : HasSlot xsdt_bytes 8 3 0x6000
    slot_3 = record { inside = omega arith; address = refl; listed = λ same. omega arith }

    slot_4 : HasSlot xsdt_bytes 8 4 0x7000
    slot_4 = record { inside = omega arith; address = refl; listed = λ same. omega arith }

-- ---- what the listed tables say; the SLIT has one locality, and the PPTT is that of the leaf

abbrev pub madt : MadtContents
madt =
    said_madt 74
    (placed_entry 44 (LocalApic (record { uid = 7; apic_id = 5; flags = 1 }))
    ∷ placed_entry 52 (IoApic (record { id = 0; address = 0xfec00000; gsi_base = 0 }))
    ∷ placed_entry 64 (Override (record { bus = 0; source = 0; gsi = 2; flags = 0 }))
    ∷ [])

abbrev pub srat : SratContents
srat =
    said_srat 104
    (placed_entry 48 (ApicDomain (record { domain = 0; apic_id = 5; flags = 1; eid = 0; clock_domain = 0 }))
    ∷ placed_entry 64 (MemoryRange (record { domain = 0; base = 0; size = 0x100000; flags = 1 }))
    ∷ [])

abbrev pub slit : SlitContents
slit = said_slit 45 1 (10 ∷ [])

pub record AreContents : Type 0 where
  pub madt : madt_contents madt_bytes ≡ madt
  pub srat : srat_contents srat_bytes ≡ srat
  pub slit : slit_contents one_locality_bytes ≡ slit
  pub pptt : pptt_contents new_leaf_bytes ≡ leaf

pub said : AreContents
unfolding first_entry entries_from entries_of end_of_entries cut_of has_form field madt_entry madt_contents srat_entry
    srat_contents slit_contents has_node_form has_cache_form pptt_entry pptt_contents
said = record { madt = refl; srat = refl; slit = refl; pptt = refl }
