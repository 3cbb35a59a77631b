-- The examples of complete sets, by computing.
use Rattle.std.proofs.Common.{◌≡◌, ℕ, zero, suc, ◌<◌, ◌≤◌, true, false, List, [], ◌∷◌, take, length, Some, refl, sym, ◌∙◌, subst, ap, arith}
use Rattle.std.proofs.lemmas.List.Elements.{All-from_recursion}
use Rattle.std.specs.Prelude.{◌≢◌}
use Rattle.std.specs.List.{list_all}
use Rattle.std.specs.Ordering.{nat_cmp}
use Rattle.std.specs.FinMap.{get-empty}
use Rattle.std.proofs.lemmas.Bool.{both_ways}
use Rattle.acpi_base.specs.Policy.{PolicyValue, inputs_of, counts_as_enabled}
use Rattle.acpi_base.specs.Entries.{Stands, first_entry, entries_from, entries_of, end_of_entries, cut_of, has_form}
use Rattle.acpi_base.specs.Madt.{LocalApic, IoApic, Override, Opaque, MadtContents, madt_entry, madt_contents, IsEnabledProcessor, HasUid, ServesFrom}
use Rattle.acpi_base.specs.Srat.{srat_contents}
use Rattle.acpi_base.specs.Pptt.{Node, PpttContents, has_node_form, has_cache_form, pptt_entry, pptt_contents}
use Rattle.acpi_base.specs.Across.{IsEnabled, DomainFault, IsServed, ServedFault, IsUid, LeafFault}
use Rattle.acpi_base.specs.Memory.{Memory, IsImage, run_of, cons_both, bytes_at}
use Rattle.acpi_base.specs.Number.{field, byte_sum, has_bit}
use Rattle.acpi_base.specs.Image.Runs.{Run, run_at, lookup}
use Rattle.acpi_base.specs.Signature.{has_signature}
use Rattle.acpi_base.specs.Rsdp.{addresses_at}
use Rattle.acpi_base.specs.Tables.{IsTable, IsSigned, length_of}
use Rattle.acpi_base.specs.Root.{chosen_root, root_signature, IsRoot, IsRootTable, HasSlot}
use Rattle.acpi_base.specs.Listed.{madt_signature, srat_signature, pptt_signature, IsListedTable, HasListed}
use Rattle.acpi_examples.specs.Tables.{placed_entry}
use Rattle.acpi_examples.specs.Sets.{rsdp_bytes, rsdt_bytes, rsdp_at, set_of, ListsBoth, processor_bytes, leaf_bytes, enabled_bytes, capable_bytes, disabled_bytes, named_bytes, uid_bytes, new_leaf_bytes, old_leaf_bytes, policy, AreListedTables, AreSetFaults, enabled_set, capable_set, disabled_set, two_madts, leaf_set, old_leaf_set}
use Rattle.acpi_examples.specs.Madts.{said_madt, two_io_apics_bytes}
use Rattle.acpi_examples.specs.Srats.{two_processors_bytes, two_processors}
use Rattle.acpi_examples.specs.Pptts.{said_pptt}
use Rattle.acpi_base.specs.declared.policy.Processors.{Processors}
use Rattle.acpi_base.specs.declared.policy.Processors.TheVariants.{Enabled, Usable}
use Rattle.acpi_base.specs.declared.code.Code.TheVariants as code
use Rattle.acpi_examples.proofs.NamedEntries.{each_entry, none_stands, never, is_whole, all_whole, all_valid}
use Rattle.acpi_examples.proofs.Srats.{srat_said}
use Rattle.acpi_base.proofs.Options.{same_value}
use Rattle.acpi_base.proofs.Images.RunBytes.{byte_of_memory_of}
use Rattle.acpi_base.proofs.Images.RunMemory.{image_of}
use Rattle.acpi_base.proofs.Tables.Listed.{one_listed, listed_in_root}
use Rattle.acpi_base.proofs.Root.Slots.{root_slot}

-- ---- the image of two tables

-- its runs
abbrev pub runs : List ℕ → List ℕ → List Run
runs one other = run_at rsdp_at rsdp_bytes ∷ run_at 0x1000 rsdt_bytes ∷ run_at 0x2000 one ∷ run_at 0x3000 other ∷ []

pub bytes_of_runs : (one other : List ℕ) (a n : ℕ)
    → bytes_at (set_of one other) a n ≡ run_of (lookup (runs one other)) a n
bytes_of_runs one other a n = λ i. run_of (λ x. byte_of_memory_of (runs one other) x i) a n

is_image : (one other : List ℕ) → list_all is_whole (runs one other) ≡ true → IsImage (set_of one other)
is_image one other whole = image_of (runs one other) (all_whole (runs one other) whole)

-- an RSDP that names an RSDT, a table, and a root table, by their bytes
pub root_in : {m : Memory} → bytes_at m rsdp_at 20 ≡ Some rsdp_bytes → IsRoot m rsdp_at 0x1000 4
unfolding addresses_at chosen_root field
root_in present = record { named = record { rsdt = 0x1000; xsdt = 0 }; read = rw present refl; chosen = refl }

pub table_of : {m : Memory} {a : ℕ} (whole : List ℕ) → bytes_at m a 36 ≡ Some (take 36 whole)
    → 36 ≤ field (take 36 whole) 4 4 → bytes_at m a (field (take 36 whole) 4 4) ≡ Some whole
    → IsTable m a (take 36 whole) whole
table_of whole head least all = record { header_present = head; least = least; present = all }

pub root_table_of : {m : Memory} {r d : ℕ} (whole : List ℕ) → bytes_at m r 36 ≡ Some (take 36 whole)
    → 36 ≤ field (take 36 whole) 4 4 → bytes_at m r (field (take 36 whole) 4 4) ≡ Some whole
    → has_signature (take 36 whole) (root_signature d) ≡ true → IsRootTable m r d whole
root_table_of whole head least all signed =
    record { header = take 36 whole; table = table_of whole head least all; signed = signed }

pub root : (one other : List ℕ) → IsRoot (set_of one other) rsdp_at 0x1000 4
unfolding run_of cons_both
root one other = root_in (bytes_of_runs one other rsdp_at 20)

pub root_table : (one other : List ℕ) → IsRootTable (set_of one other) 0x1000 4 rsdt_bytes
unfolding run_of cons_both has_signature field
root_table one other =
    root_table_of rsdt_bytes (bytes_of_runs one other 0x1000 36) (omega arith) (bytes_of_runs one other 0x1000 44) refl

pub slot_0 : HasSlot rsdt_bytes 4 0 0x2000
unfolding field
slot_0 = record { inside = omega arith; address = refl; listed = λ same. omega arith }

pub slot_1 : HasSlot rsdt_bytes 4 1 0x3000
unfolding field
slot_1 = record { inside = omega arith; address = refl; listed = λ same. omega arith }

-- the two tables are complete
pub record AreTables (one other : List ℕ) : Type 0 where
  pub first : IsTable (set_of one other) 0x2000 (take 36 one) one
  pub second : IsTable (set_of one other) 0x3000 (take 36 other) other

-- for that the runs must have their bytes
tables_of : (one other : List ℕ) → run_of (lookup (runs one other)) 0x2000 36 ≡ Some (take 36 one)
    → run_of (lookup (runs one other)) 0x2000 (length_of (take 36 one)) ≡ Some one
    → run_of (lookup (runs one other)) 0x3000 36 ≡ Some (take 36 other)
    → run_of (lookup (runs one other)) 0x3000 (length_of (take 36 other)) ≡ Some other
    → 36 ≤ length_of (take 36 one) → 36 ≤ length_of (take 36 other) → AreTables one other
tables_of one other header whole other_header other_whole least other_least = record {
  first =
      table_of one (bytes_of_runs one other 0x2000 36 ∙ header) least
      (bytes_of_runs one other 0x2000 (length_of (take 36 one)) ∙ whole);
  second =
      table_of other (bytes_of_runs one other 0x3000 36 ∙ other_header) other_least
      (bytes_of_runs one other 0x3000 (length_of (take 36 other)) ∙ other_whole);
}

first_is_listed : (one other signature header : List ℕ) → IsTable (set_of one other) 0x2000 header one
    → has_signature header signature ≡ true → IsListedTable (set_of one other) rsdp_at signature one
first_is_listed one other signature header table signed =
    listed_in_root (root one other) (root_table one other)
    (record {
      k = 0;
      slot = slot_0;
      signed = record { header = header; header_present = table.header_present; signed = signed };
      none_before = λ j b less. absurd (omega arith);
    })
    table

-- the table at 0x3000 is listed with its signature, if the first has another
second_listed : (one other signature header header' : List ℕ) → IsTable (set_of one other) 0x2000 header one
    → has_signature header signature ≡ false
    → IsTable (set_of one other) 0x3000 header' other → has_signature header' signature ≡ true
    → IsListedTable (set_of one other) rsdp_at signature other
second_listed one other signature header header' first differs second signed =
    listed_in_root (root one other) (root_table one other)
    (record {
      k = 1;
      slot = slot_1;
      signed = record { header = header'; header_present = second.header_present; signed = signed };
      none_before = none_before;
    })
    second
  where
    none_before : (j b : ℕ) → j < 1 → HasSlot rsdt_bytes 4 j b → ¬ IsSigned (set_of one other) b signature
    none_before zero b less slot found =
        let present = subst (λ (x : ℕ). bytes_at (set_of one other) x 36 ≡ Some found.header)
        (sym slot.address ∙ slot_0.address) found.header_present in
        grind (arith, same_value header found.header first.header_present present, differs, found.signed)
    none_before (suc j) b less slot found = omega arith

-- both are listed if their signatures differ
both_listed : (one other signature signature' : List ℕ) → AreTables one other
    → has_signature (take 36 one) signature ≡ true → has_signature (take 36 one) signature' ≡ false
    → has_signature (take 36 other) signature' ≡ true
    → ListsBoth (set_of one other) signature one signature' other
both_listed one other signature signature' tables is differs other_is = (
  first_is_listed one other signature (take 36 one) tables.first is,
  second_listed one other signature' (take 36 one) (take 36 other) tables.first differs tables.second other_is,
)

processor_tables : (checksum flags : ℕ) → AreTables (processor_bytes checksum flags) two_processors_bytes
unfolding run_of cons_both field
processor_tables checksum flags =
    tables_of (processor_bytes checksum flags) two_processors_bytes refl refl refl refl (omega arith) (omega arith)

pub madt_tables : AreTables named_bytes two_io_apics_bytes
unfolding run_of cons_both field
madt_tables = tables_of named_bytes two_io_apics_bytes refl refl refl refl (omega arith) (omega arith)

pub leaf_tables : (revision checksum : ℕ) → AreTables uid_bytes (leaf_bytes revision checksum)
unfolding run_of cons_both field
leaf_tables revision checksum =
    tables_of uid_bytes (leaf_bytes revision checksum) refl refl refl refl (omega arith) (omega arith)

named_listed : IsListedTable two_madts rsdp_at madt_signature named_bytes
unfolding has_signature
named_listed =
    first_is_listed named_bytes two_io_apics_bytes madt_signature (take 36 named_bytes) madt_tables.first refl

pub listed : AreListedTables
unfolding byte_sum field has_signature
listed = record {
  images = All-from_recursion IsImage
      (enabled_set ∷ capable_set ∷ disabled_set ∷ two_madts ∷ leaf_set ∷ old_leaf_set ∷ []) (
        is_image enabled_bytes two_processors_bytes refl,
        (
          is_image capable_bytes two_processors_bytes refl,
          (
            is_image disabled_bytes two_processors_bytes refl,
            (
              is_image named_bytes two_io_apics_bytes refl,
              (is_image uid_bytes new_leaf_bytes refl, (is_image uid_bytes old_leaf_bytes refl, tt)),
            ),
          ),
        ),
      );
  rsdp_sum = refl;
  valid =
      all_valid
      (rsdt_bytes ∷ enabled_bytes ∷ capable_bytes ∷ disabled_bytes ∷ named_bytes ∷ uid_bytes ∷ new_leaf_bytes
      ∷ old_leaf_bytes ∷ []) refl;
  enabled_lists =
      both_listed enabled_bytes two_processors_bytes madt_signature srat_signature (processor_tables 45 1) refl refl
      refl;
  capable_lists =
      both_listed capable_bytes two_processors_bytes madt_signature srat_signature (processor_tables 44 2) refl refl
      refl;
  disabled_lists =
      both_listed disabled_bytes two_processors_bytes madt_signature srat_signature (processor_tables 46 0) refl refl
      refl;
  first_madt = named_listed;
  second_slot = root_slot (root named_bytes two_io_apics_bytes) (root_table named_bytes two_io_apics_bytes) slot_1;
  second_madt = (take 36 two_io_apics_bytes, madt_tables.second);
  not_first = λ it. omega (
    arith,
    ap length (one_listed two_madts rsdp_at madt_signature named_bytes two_io_apics_bytes named_listed it),
  );
  leaf_lists = both_listed uid_bytes new_leaf_bytes madt_signature pptt_signature (leaf_tables 2 197) refl refl refl;
  old_leaf_lists =
      both_listed uid_bytes old_leaf_bytes madt_signature pptt_signature (leaf_tables 1 198) refl refl refl;
}

-- ---- what the tables say

-- the MADTs and the PPTT of the sets
abbrev processor : ℕ → MadtContents
processor flags = said_madt 52 (placed_entry 44 (LocalApic (record { uid = 0; apic_id = 5; flags = flags })) ∷ [])

abbrev named : MadtContents
named =
    said_madt 66
    (placed_entry 44 (IoApic (record { id = 0; address = 0xfec00000; gsi_base = 0 }))
    ∷ placed_entry 56 (Override (record { bus = 0; source = 9; gsi = 24; flags = 0 }))
    ∷ [])

abbrev uid : MadtContents
uid = said_madt 52 (placed_entry 44 (LocalApic (record { uid = 5; apic_id = 0; flags = 0 })) ∷ [])

abbrev pub leaf : PpttContents
leaf = said_pptt 56 (placed_entry 36 (Node (record { flags = 10; parent = 0; id = 7; resources = [] })) ∷ [])

-- the bytes of the tables say this
record AreContents : Type 0 where
  enabled : madt_contents enabled_bytes ≡ processor 1
  capable : madt_contents capable_bytes ≡ processor 2
  disabled : madt_contents disabled_bytes ≡ processor 0
  named : madt_contents named_bytes ≡ named
  uid : madt_contents uid_bytes ≡ uid
  leaf : pptt_contents new_leaf_bytes ≡ leaf

said : AreContents
unfolding first_entry entries_from entries_of end_of_entries cut_of has_form field madt_entry madt_contents
    has_node_form has_cache_form pptt_entry pptt_contents
said = record { enabled = refl; capable = refl; disabled = refl; named = refl; uid = refl; leaf = refl }

-- ---- faults of two listed tables

in_both : {m : Memory} {s t one other : List ℕ} (P : List ℕ → List ℕ → Type 0) → ListsBoth m s one t other → P one other
    → HasListed m rsdp_at s (λ x. HasListed m rsdp_at t (P x))
in_both {one = one} {other = other} P lists holds = (one, lists.0, (other, lists.1, holds))

of_both : {m : Memory} {s t one other : List ℕ} (P : List ℕ → List ℕ → Type 0) → ListsBoth m s one t other
    → HasListed m rsdp_at s (λ x. HasListed m rsdp_at t (P x)) → P one other
of_both {m} {s} {t} {one} {other} P lists (x, first, (y, second, holds)) =
    rw (one_listed m rsdp_at s one x lists.0 first, one_listed m rsdp_at t other y lists.1 second) holds

two_domains : (p : Processors) (madt : MadtContents) → IsEnabled p madt 5
    → DomainFault p madt two_processors code.TwoDomains 0x40 0x30 5
unfolding has_bit
two_domains p madt enabled = (
  enabled,
  1,
  0,
  (_, (1, omega arith, refl), (refl, refl, refl)),
  (_, (0, omega arith, refl), (refl, refl, refl)),
  omega arith,
  λ same. omega arith,
)

counts : (p : Processors) (flags : ℕ) → counts_as_enabled p flags ≡ true → IsEnabled p (processor flags) 5
counts p flags is = (44, (_, (0, omega arith, refl), (refl, is)))

counted : (p : Processors) → counts_as_enabled p 1 ≡ true
unfolding counts_as_enabled has_bit
counted Enabled = refl
counted Usable = refl

usable_counted : counts_as_enabled Usable 2 ≡ true
unfolding counts_as_enabled has_bit
usable_counted = refl

not_counted : (p : Processors) → ¬ (counts_as_enabled p 0 ≡ true)
unfolding counts_as_enabled has_bit
not_counted Enabled is = both_ways _ refl is
not_counted Usable is = both_ways _ refl is

only_capable : ¬ (counts_as_enabled Enabled 2 ≡ true)
unfolding counts_as_enabled has_bit
only_capable is = both_ways _ refl is

not_enabled : (p : Processors) (flags : ℕ) → ¬ (counts_as_enabled p flags ≡ true) → ¬ IsEnabled p (processor flags) 5
not_enabled p flags none (o, here) =
    none_stands (processor flags).entries o (λ o e. IsEnabledProcessor p 5 e) ((λ h. none h.1), tt) here

nowhere : (q : PolicyValue) → inputs_of q 0xfec00000 ≡ 24 → ServedFault q named code.GsiNowhere 0x38 0 0x18
nowhere q inputs = ((44, (_, (0, omega arith, refl), tt)), (_, (1, omega arith, refl), refl), none, refl)
  where
    none : ¬ IsServed q named 24
    none (o, start, here) =
        none_stands named.entries o (λ o e. ServesFrom q start 24 e)
        ((λ h. omega (arith, h.0, h.2, inputs)), (never, tt)) here

served : (q : PolicyValue) → inputs_of q 0xfec00000 ≡ 25 → ¬ ServedFault q named code.GsiNowhere 0x38 0 0x18
served q inputs fault = fault.2 (44, 0, (_, (0, omega arith, refl), (refl, omega arith, omega (arith, inputs))))

unknown : LeafFault uid leaf code.LeafUnknown 0x24 0 7
unfolding has_bit
unknown = (
  omega arith,
  record { long = omega arith; filled = refl; typed = typed },
  (_, (0, omega arith, refl), (refl, refl, refl)),
  none,
  refl,
)
  where
    typed : (o : ℕ) (e : List ℕ) → ¬ Stands uid.entries o (Opaque e)
    typed o e stands = each_entry uid.entries (λ o d. d ≢ Opaque e) ((λ same. absurd cc), tt) o (Opaque e) stands refl

    none : ¬ IsUid uid 7
    none (o, here) = none_stands uid.entries o (λ o e. HasUid 7 e) ((λ same. omega arith), tt) here

-- the fault of stage 16 of a MADT and an SRAT, with the number 5, and that of stage 18 of a MADT and a PPTT
abbrev Domains : Processors → ℕ → ℕ → List ℕ → List ℕ → Type 0
Domains p at other madt srat = DomainFault p (madt_contents madt) (srat_contents srat) code.TwoDomains at other 5

abbrev Leaves : List ℕ → List ℕ → Type 0
Leaves madt pptt = LeafFault (madt_contents madt) (pptt_contents pptt) code.LeafUnknown 0x24 0 7

of_revision_1 : ¬ Leaves uid_bytes old_leaf_bytes
unfolding pptt_contents field
of_revision_1 fault = omega (arith, fault.0)

pub inputs_are : (n : ℕ) → inputs_of (policy n Enabled) 0xfec00000 ≡ n
unfolding inputs_of
inputs_are n = rw (get-empty {X = ℕ} nat_cmp 0xfec00000) refl

pub set_faults : AreSetFaults
set_faults = record {
  two_domains =
      λ p. record {
        own = refl;
        holds = in_both (Domains p 0x40 0x30) listed.enabled_lists
            (rw (said.enabled, srat_said.processors_say) (two_domains p (processor 1) (counts p 1 (counted p))));
      };
  exchanged = λ p fault. omega (arith, (of_both (Domains p 0x30 0x40) listed.enabled_lists fault.holds).5);
  capable = record {
    own = refl;
    holds = in_both (Domains Usable 0x40 0x30) listed.capable_lists
        (rw (said.capable, srat_said.processors_say)
        (two_domains Usable (processor 2) (counts Usable 2 usable_counted)));
  };
  only_capable = λ fault. let enabled = (of_both (Domains Enabled 0x40 0x30) listed.capable_lists fault.holds).0 in
      not_enabled Enabled 2 only_capable (rw said.capable at enabled);
  disabled = λ p fault. let enabled = (of_both (Domains p 0x40 0x30) listed.disabled_lists fault.holds).0 in
      not_enabled p 0 (not_counted p) (rw said.disabled at enabled);
  nowhere = record {
    own = refl;
    holds = (named_bytes, listed.first_madt, rw said.named (nowhere (policy 24 Enabled) (inputs_are 24)));
  };
  served = λ fault. served (policy 25 Enabled) (inputs_are 25)
      (rw (one_listed two_madts rsdp_at madt_signature fault.holds.0 named_bytes fault.holds.1 named_listed, said.named)
      at fault.holds.2);
  unknown = record { own = refl; holds = in_both Leaves listed.leaf_lists (rw (said.uid, said.leaf) unknown) };
  of_revision_1 = λ fault. of_revision_1 (of_both Leaves listed.old_leaf_lists fault.holds);
}
