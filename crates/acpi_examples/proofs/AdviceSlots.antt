-- The examples of advice on the slots of the root, by computing.
use Rattle.std.proofs.Common.{◌≡◌, ℕ, zero, suc, ◌+◌, ◌*◌, ◌≤◌, true, false, List, [], ◌∷◌, take, Some, refl, subst, ◌∙◌, inl, inr, arith}
use Rattle.std.specs.Prelude.{◌⊎◌}
use Rattle.std.proofs.lemmas.Bool.{both_ways}
use Rattle.acpi_base.specs.Memory.{Memory, run_of, cons_both, bytes_at}
use Rattle.acpi_base.specs.Number.{field}
use Rattle.acpi_base.specs.Signature.{has_signature}
use Rattle.acpi_base.specs.Facs.{facs_signature}
use Rattle.acpi_base.specs.Image.Runs.{Run, run_at, lookup}
use Rattle.acpi_base.specs.Root.{IsRoot, IsRootTable, HasSlot, IsSlot}
use Rattle.acpi_base.specs.TableKinds.{signature_of}
use Rattle.acpi_base.specs.Tables.{IsSigned}
use Rattle.acpi_lint.specs.Rules.Slots.{IsSecondTable, dsdt_signature}
use Rattle.acpi_examples.specs.Madts.{two_io_apics_bytes}
use Rattle.acpi_examples.specs.Sets.{rsdp_at, rsdp_bytes, rsdt_bytes, set_of, named_bytes, uid_bytes, new_leaf_bytes, leaf_set}
use Rattle.acpi_examples.specs.ExampleSet.{facs_bytes}
use Rattle.acpi_examples.specs.AdviceSlots.{twice_bytes, twice_set, dsdt_bytes, AreSlotsAdvised}
use Rattle.acpi_base.specs.declared.table_kind.TableKind.{TableKind}
use Rattle.acpi_base.specs.declared.table_kind.TableKind.TheVariants as kind
use Rattle.acpi_examples.proofs.Sets.{bytes_of_runs, root_in, root_table_of, root, root_table, runs, slot_0, slot_1, madt_tables, leaf_tables}
use Rattle.acpi_base.proofs.Options.{same_value}
use Rattle.acpi_base.proofs.Images.RunBytes.{byte_of_memory_of}
use Rattle.acpi_base.proofs.Root.Slots.{one_slot, root_slot, slot_of_root}

-- ---- an address in two slots

-- the bytes of the image are those of its runs
abbrev twice_runs : List Run
twice_runs = run_at rsdp_at rsdp_bytes ∷ run_at 0x1000 twice_bytes ∷ []

bytes_of_twice : (a n : ℕ) → bytes_at twice_set a n ≡ run_of (lookup twice_runs) a n
bytes_of_twice a n = λ i. run_of (λ x. byte_of_memory_of twice_runs x i) a n

pub twice_root : IsRoot twice_set rsdp_at 0x1000 4
unfolding run_of cons_both
twice_root = root_in (bytes_of_twice rsdp_at 20)

pub twice_table : IsRootTable twice_set 0x1000 4 twice_bytes
unfolding run_of cons_both has_signature field
twice_table = root_table_of twice_bytes (bytes_of_twice 0x1000 36) (omega arith) (bytes_of_twice 0x1000 48) refl

twice_slot : (k : ℕ) → 36 + 4 * (k + 1) ≤ 48 → field twice_bytes (36 + 4 * k) 4 ≡ 0x2000
    → IsSlot twice_set rsdp_at k 0x2000
twice_slot k inside address =
    root_slot twice_root twice_table (record { inside = inside; address = address; listed = λ same. omega arith })

not_first : (k : ℕ) → IsSlot twice_set rsdp_at k 0x2000 → 1 ≤ k
unfolding field
not_first zero slot =
    let of_root = slot_of_root twice_set rsdp_at 0x1000 4 0 0x2000 twice_bytes twice_root twice_table slot in
    omega (arith, of_root.address)
not_first (suc k) slot = omega arith

-- ---- the slots of two tables

pub in_two : (one other : List ℕ) (k a : ℕ) → IsSlot (set_of one other) rsdp_at k a
    → ((k ≡ 0) × (a ≡ 0x2000)) ⊎ ((k ≡ 1) × (a ≡ 0x3000))
in_two one other k a slot = of k (slot_of_root (set_of one other) rsdp_at 0x1000 4 k a rsdt_bytes (root one other)
    (root_table one other) slot)
  where
    of : (k : ℕ) → HasSlot rsdt_bytes 4 k a → ((k ≡ 0) × (a ≡ 0x2000)) ⊎ ((k ≡ 1) × (a ≡ 0x3000))
    of zero slot = inl (refl, one_slot rsdt_bytes 4 0 a 0x2000 slot slot_0)
    of (suc zero) slot = inr (refl, one_slot rsdt_bytes 4 1 a 0x3000 slot slot_1)
    of (suc (suc k)) slot = absurd (omega (arith, slot.inside))

leaf_slot : (k a : ℕ) → IsSlot leaf_set rsdp_at k a → ((k ≡ 0) × (a ≡ 0x2000)) ⊎ ((k ≡ 1) × (a ≡ 0x3000))
leaf_slot k a slot = in_two uid_bytes new_leaf_bytes k a slot

signed_as : {m : Memory} {signature : List ℕ} (a : ℕ) (header : List ℕ) → bytes_at m a 36 ≡ Some header
    → IsSigned m a signature → has_signature header signature ≡ true
signed_as {signature = signature} a header present it =
    subst (λ (h : List ℕ). has_signature h signature ≡ true) (same_value it.header header it.header_present present)
    it.signed

first_signed : (signature : List ℕ) (a : ℕ) → a ≡ 0x2000 → IsSigned leaf_set a signature
    → has_signature (take 36 uid_bytes) signature ≡ true
first_signed signature a is it =
    signed_as 0x2000 (take 36 uid_bytes) (leaf_tables 2 197).first.header_present
    (subst (λ (x : ℕ). IsSigned leaf_set x signature) is it)

second_signed : (signature : List ℕ) (a : ℕ) → a ≡ 0x3000 → IsSigned leaf_set a signature
    → has_signature (take 36 new_leaf_bytes) signature ≡ true
second_signed signature a is it =
    signed_as 0x3000 (take 36 new_leaf_bytes) (leaf_tables 2 197).second.header_present
    (subst (λ (x : ℕ). IsSigned leaf_set x signature) is it)

two_kinds : (kind : TableKind) → has_signature (take 36 uid_bytes) (signature_of kind) ≡ true
    → ¬ (has_signature (take 36 new_leaf_bytes) (signature_of kind) ≡ true)
unfolding has_signature
two_kinds kind.Madt one other = both_ways _ refl other
two_kinds _ one other = both_ways _ refl one

no_second : (at other point : ℕ) → ¬ IsSecondTable leaf_set rsdp_at at other point
no_second at other point (kind, it) =
    elim (leaf_slot at point it.here.0) [
      | inl here ↦ omega (arith, here, leaf_slot other it.a it.there.0, it.first at point it.here, it.differs)
      | inr here ↦
          elim (leaf_slot other it.a it.there.0) [
            | inl there ↦
                two_kinds kind (first_signed (signature_of kind) it.a there.1 it.there.1)
                (second_signed (signature_of kind) point here.1 it.here.1)
            | inr there ↦ omega (arith, here, there, it.differs)
          ]
    ]

-- neither of two tables has this signature
pub unlisted : (one other signature : List ℕ) → run_of (lookup (runs one other)) 0x2000 36 ≡ Some (take 36 one)
    → run_of (lookup (runs one other)) 0x3000 36 ≡ Some (take 36 other)
    → has_signature (take 36 one) signature ≡ false → has_signature (take 36 other) signature ≡ false
    → (k a : ℕ) → IsSlot (set_of one other) rsdp_at k a → ¬ IsSigned (set_of one other) a signature
unlisted one other signature first second no_first no_second k a slot it =
    elim (in_two one other k a slot) [
      | inl here ↦ both_ways _ no_first
          (signed_as 0x2000 (take 36 one) (bytes_of_runs one other 0x2000 36 ∙ first) (at_address 0x2000 here.1))
      | inr here ↦ both_ways _ no_second
          (signed_as 0x3000 (take 36 other) (bytes_of_runs one other 0x3000 36 ∙ second) (at_address 0x3000 here.1))
    ]
  where
    at_address : (b : ℕ) → a ≡ b → IsSigned (set_of one other) b signature
    at_address b is = subst (λ (x : ℕ). IsSigned (set_of one other) x signature) is it

pub slots_advised : AreSlotsAdvised
unfolding run_of cons_both has_signature field
slots_advised = record {
  twice = record {
    here = twice_slot 2 (omega arith) refl;
    earlier = twice_slot 1 (omega arith) refl;
    before = omega arith;
    first = not_first;
  };
  not_twice = λ at other point it. omega (
    arith,
    it.before,
    leaf_slot at point it.here,
    leaf_slot other point it.earlier,
  );
  second = (
    kind.Madt,
    record {
      here = (
        root_slot (root named_bytes two_io_apics_bytes) (root_table named_bytes two_io_apics_bytes) slot_1,
        record { header = _; header_present = madt_tables.second.header_present; signed = refl },
      );
      a = 0x2000;
      there = (
        root_slot (root named_bytes two_io_apics_bytes) (root_table named_bytes two_io_apics_bytes) slot_0,
        record { header = _; header_present = madt_tables.first.header_present; signed = refl },
      );
      first = λ k b _. omega arith;
      differs = λ same. omega arith;
    },
  );
  no_second = no_second;
  dsdt = (
    inl (
      root_slot (root dsdt_bytes facs_bytes) (root_table dsdt_bytes facs_bytes) slot_0,
      record { header = _; header_present = bytes_of_runs dsdt_bytes facs_bytes 0x2000 36; signed = refl },
    ),
    refl,
  );
  facs = (
    inr (
      root_slot (root dsdt_bytes facs_bytes) (root_table dsdt_bytes facs_bytes) slot_1,
      record { header = _; header_present = bytes_of_runs dsdt_bytes facs_bytes 0x3000 36; signed = refl },
    ),
    refl,
  );
  none_apart = λ at other point it. elim it.0 [
    | inl dsdt ↦ unlisted uid_bytes new_leaf_bytes dsdt_signature refl refl refl refl at point dsdt.0 dsdt.1
    | inr facs ↦ unlisted uid_bytes new_leaf_bytes facs_signature refl refl refl refl at point facs.0 facs.1
  ];
}
