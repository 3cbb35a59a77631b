-- The clean set is an image, and each stage holds for it.
use Rattle.std.proofs.Common.{◌≡◌, ℕ, List, [], take, Some, None, refl, sym, ◌∙◌, ap, subst, inl, inr, arith}
use Rattle.std.specs.Prelude.{◌⊎◌, ◌≢◌}
use Rattle.std.specs.Ordering.{nat_cmp}
use Rattle.std.specs.FinMap.{get-empty}
use Rattle.std.proofs.lemmas.Option.{none-some, same_Some}
use Rattle.acpi_base.specs.Memory.{IsImage, run_of, cons_both}
use Rattle.acpi_base.specs.Number.{field, byte_sum}
use Rattle.acpi_base.specs.Policy.{IsPolicy, inputs_of}
use Rattle.acpi_base.specs.Signature.{has_signature}
use Rattle.acpi_base.specs.Rsdp.{IsValidRsdp}
use Rattle.acpi_base.specs.Root.{IsValidRoot}
use Rattle.acpi_base.specs.Tables.{IsValidTable}
use Rattle.acpi_base.specs.Listed.{fadt_signature, IsListedTable}
use Rattle.acpi_base.specs.Fadt.{IsValidFadt, facs_address, has_flag, wide_address}
use Rattle.acpi_base.specs.Facs.{IsFacs, HasValidFacs, IsValidFacs}
use Rattle.acpi_base.specs.Entries.{StandsWith}
use Rattle.acpi_base.specs.Contents.{ForMadt, ForSrat, ForSlit, ForPptt}
use Rattle.acpi_base.specs.Madt.{MadtContents, madt_contents, IsValidMadtEntry, IsAddressOverride, IsValidMadt, ServesFrom, Serves, AreInterruptsApart, Overrides, DoOverridesAgree, NamesGsi}
use Rattle.acpi_base.specs.Srat.{SratContents, srat_contents, IsValidSratEntry, IsValidSrat, IsAny, CoversFrom, Covers, AreRangesApart, PutsIn}
use Rattle.acpi_base.specs.Slit.{SlitContents, slit_contents, IsValidSlit}
use Rattle.acpi_base.specs.Chains.{IsAt, Ends}
use Rattle.acpi_base.specs.Pptt.{PpttContents, pptt_contents, HasOtherPpttLength, parent_of, resource_of, next_level_of, NamesParent, NamesNextLevel, IsResourceAt, IsCutPptt, AreReferencesValid, DoParentsEnd, DoCachesEnd}
use Rattle.acpi_base.specs.Across.{PutsAt, HaveOneDomain, IsServed, AreNamedServed, IsLeaf, IsUid, AreLeavesKnown}
use Rattle.acpi_base.specs.Statements.{AreValidTables, IsClean}
use Rattle.acpi_examples.specs.ExampleSet.{rsdp_bytes, xsdt_bytes, fadt_bytes, facs_bytes, madt_bytes, srat_bytes, whole_runs, example_set, example_policy}
use Rattle.acpi_examples.specs.Sets.{rsdp_at, new_leaf_bytes}
use Rattle.acpi_examples.specs.Slits.{one_locality_bytes}
use Rattle.acpi_base.specs.declared.policy.HotPlug.TheVariants.{Counted}
use Rattle.acpi_base.specs.declared.policy.Processors.TheVariants.{Enabled}
use Rattle.acpi_base.specs.declared.stage.Stage.TheVariants as stage
use Rattle.acpi_examples.proofs.NamedEntries.{each_entry, none_stands, never, all_whole}
use Rattle.acpi_examples.proofs.Sets.{inputs_are, leaf}
use Rattle.acpi_examples.proofs.Slits.{one}
use Rattle.acpi_examples.proofs.ExampleSet as set
use Rattle.acpi_examples.proofs.ExampleSet.{bytes_at_example_set, example_has_root, root_of_present, root_table_of, each_slot, tables, listed, said, madt, srat, slit}
use Rattle.acpi_base.proofs.Options.{none_and_some}
use Rattle.acpi_base.proofs.Images.RunMemory.{image_of}
use Rattle.acpi_base.proofs.Root.Slots.{slot_of_root}
use Rattle.acpi_base.proofs.Tables.Listed.{one_listed}

-- ---- an image, and a policy

pub is_image : IsImage example_set
unfolding example_set
is_image = image_of whole_runs (all_whole whole_runs refl)

pub is_policy : IsPolicy example_policy
is_policy = record {
  rsdp_fits = omega arith;
  default_fits = (omega arith, omega arith);
  inputs_fit = λ address count has. absurd (none_and_some (get-empty {X = ℕ} nat_cmp address) has);
}

-- ---- stages 1 to 5

valid_rsdp : IsValidRsdp example_set rsdp_at
unfolding has_signature byte_sum field
valid_rsdp = record {
  head = take 20 rsdp_bytes;
  head_present = example_has_root.head_present;
  signed = refl;
  zero_sum = refl;
  extended = λ _. record {
    header = rsdp_bytes;
    whole = rsdp_bytes;
    frame = record {
      header_present = example_has_root.rsdp_present;
      least = omega arith;
      present = example_has_root.rsdp_present;
    };
    zero_sum = refl;
  };
}

valid_root : IsValidRoot example_set rsdp_at
unfolding byte_sum
valid_root = record {
  r = 0x1000;
  d = 8;
  whole = xsdt_bytes;
  root = root_of_present example_has_root;
  valid = record { table = root_table_of example_has_root; slots = refl; zero_sum = refl };
}

valid_tables : AreValidTables example_set rsdp_at
unfolding byte_sum
valid_tables k a slot =
    each_slot (λ k a. IsValidTable example_set a)
    (valid fadt_bytes tables.fadt refl) (valid madt_bytes tables.madt refl) (valid srat_bytes tables.srat refl)
    (valid one_locality_bytes tables.slit refl) (valid new_leaf_bytes tables.pptt refl) k a
    (slot_of_root example_set rsdp_at 0x1000 8 k a xsdt_bytes (root_of_present example_has_root)
    (root_table_of example_has_root)
    slot)
  where
    valid : {a : ℕ} (whole : List ℕ) → set.IsAt a whole → byte_sum whole ≡ 0 → IsValidTable example_set a
    valid whole stands zero_sum = record { header = take 36 whole; whole = whole; frame = stands; zero_sum = zero_sum }

valid_fadt : IsValidFadt example_set rsdp_at
unfolding has_flag field
valid_fadt = record {
  whole = fadt_bytes;
  fadt = listed.fadt;
  valid = record {
    long = omega arith;
    blocks = λ _. record { event = omega arith; control = omega arith; timer = inr refl; gpe0 = refl; gpe1 = refl };
    reset = λ _ _. record { space = omega arith; width = refl; offset = refl };
  };
}

pub names_facs : facs_address fadt_bytes ≢ 0
unfolding wide_address field
names_facs none = omega (arith, none)

pub named_facs : IsFacs example_set (facs_address fadt_bytes) facs_bytes
unfolding run_of cons_both has_signature wide_address field
named_facs = record {
  aligned = refl;
  header = take 8 facs_bytes;
  frame = record {
    header_present = bytes_at_example_set 0x3000 8;
    least = omega arith;
    present = bytes_at_example_set 0x3000 64;
  };
  signed = refl;
}

valid_facs : IsValidFacs example_set rsdp_at
valid_facs fadt is =
    subst (HasValidFacs example_set) (one_listed example_set rsdp_at fadt_signature fadt_bytes fadt listed.fadt is)
    (record { none = λ none. absurd (names_facs none); named = λ _. (facs_bytes, named_facs) })

-- ---- the later stages

-- what is true of what a listed table says is true of each that the set lists first with its signature
for_listed : {C : Type 0} {signature whole : List ℕ} {c : C} (read : List ℕ → C) (P : C → Type 0)
    → IsListedTable example_set rsdp_at signature whole → read whole ≡ c → P c
    → (other : List ℕ) → IsListedTable example_set rsdp_at signature other → P (read other)
for_listed {signature = signature} {whole = whole} read P first says holds other is =
    subst P (sym says ∙ ap read (one_listed example_set rsdp_at signature whole other first is)) holds

for_madt : (P : MadtContents → Type 0) → P madt → ForMadt example_set example_policy P
for_madt P = for_listed madt_contents P listed.madt said.madt

for_srat : (P : SratContents → Type 0) → P srat → ForSrat example_set example_policy P
for_srat P = for_listed srat_contents P listed.srat said.srat

for_slit : (P : SlitContents → Type 0) → P slit → ForSlit example_set example_policy P
for_slit P = for_listed slit_contents P listed.slit said.slit

for_pptt : (P : PpttContents → Type 0) → P leaf → ForPptt example_set example_policy P
for_pptt P = for_listed pptt_contents P listed.pptt said.pptt

-- ---- the MADT

inputs : inputs_of example_policy 0xfec00000 ≡ 24
inputs = inputs_are 24

valid_madt : IsValidMadt example_policy madt
valid_madt = record {
  long = omega arith;
  filled = refl;
  entries = each_entry madt.entries (λ o e. IsValidMadtEntry example_policy e)
      (never, (omega (arith, inputs), ((refl, λ is. omega arith), tt)));
  one_address = λ o p one two.
      absurd (none_stands madt.entries o (λ o e. IsAddressOverride e) (never, (never, (never, tt))) one);
}

interrupts_apart : AreInterruptsApart example_policy madt
interrupts_apart o p x it = it.two (only o it.s it.one_holds ∙ sym (only p it.t it.other_holds))
  where
    only : (o s : ℕ) → Serves example_policy madt o s x → o ≡ 52
    only o s here = each_entry madt.entries (λ o e. ServesFrom example_policy s x e → o ≡ 52)
        (never, ((λ _. refl), (never, tt))) o here.0 here.1 here.2

overrides_agree : DoOverridesAgree madt
overrides_agree o p source g h one other = sym (only o g one) ∙ only p h other
  where
    only : (o g : ℕ) → StandsWith madt.entries o (Overrides source g) → 2 ≡ g
    only o g here = each_entry madt.entries (λ o e. Overrides source g e → 2 ≡ g)
        (never, (never, ((λ is. is.1), tt))) o here.0 here.1 here.2

-- ---- the SRAT and the PPTT

valid_srat : IsValidSrat srat
valid_srat = record {
  long = omega arith;
  filled = refl;
  entries = each_entry srat.entries (λ o e. IsValidSratEntry e) (tt, ((λ _. omega arith), tt));
}

ranges_apart : AreRangesApart Counted srat
ranges_apart o p x it = it.two (only o it.s it.one_holds ∙ sym (only p it.t it.other_holds))
  where
    only : (o s : ℕ) → Covers IsAny srat o s x → o ≡ 64
    only o s here = each_entry srat.entries (λ o e. CoversFrom IsAny s x e → o ≡ 64)
        (never, ((λ _. refl), tt)) o here.0 here.1 here.2

valid_entries : IsCutPptt leaf
valid_entries = record { filled = refl; lengths = each_entry leaf.entries (λ o e. ¬ HasOtherPpttLength e) (never, tt) }

names_none : {A : Type 0} (p : ℕ) → None ≡ Some p → A
names_none p is = absurd (none-some p is)

valid_references : AreReferencesValid leaf
valid_references = record {
  parents = λ o p names. each_entry leaf.entries (λ o e. parent_of e ≡ Some p → (p ≡ 0) ⊎ IsAt (NamesParent leaf) p)
      ((λ is. inl (sym (same_Some 0 p is))), tt) o names.0 names.1 names.2;
  resources = λ o j r names. each_entry leaf.entries (λ o e. resource_of j e ≡ Some r → IsResourceAt leaf r)
      (names_none r, tt) o names.0 names.1 names.2;
  next_levels = λ o p names.
      each_entry leaf.entries (λ o e. next_level_of e ≡ Some p → (p ≡ 0) ⊎ IsAt (NamesNextLevel leaf) p)
      (names_none p, tt) o names.0 names.1 names.2;
}

parents_end : DoParentsEnd leaf
parents_end o (p, names) =
    each_entry leaf.entries (λ o e. parent_of e ≡ Some p → Ends (NamesParent leaf) o)
    ((λ _. ([], (_, (0, omega arith, refl), refl))), tt) o names.0 names.1 names.2

caches_end : DoCachesEnd leaf
caches_end o (p, names) =
    each_entry leaf.entries (λ o e. next_level_of e ≡ Some p → Ends (NamesNextLevel leaf) o)
    (names_none p, tt) o names.0 names.1 names.2

-- ---- across tables

one_domain : HaveOneDomain Enabled madt srat
one_domain i enabled o r d f one other = sym (only o d one) ∙ only r f other
  where
    only : (o d : ℕ) → PutsAt srat o i d → 0 ≡ d
    only o d here = each_entry srat.entries (λ o e. PutsIn i d e → 0 ≡ d)
        ((λ puts. puts.1), (never, tt)) o here.0 here.1 here.2

served : IsServed example_policy madt 2
served = (52, 0, (_, (1, omega arith, refl), (refl, omega arith, omega (arith, inputs))))

named_served : AreNamedServed example_policy madt
named_served has o g (e, stands, names) =
    each_entry madt.entries (λ o e. NamesGsi g e → IsServed example_policy madt g)
    (never, (never, ((λ is. subst (IsServed example_policy madt) is served), tt))) o e stands names

uid : IsUid madt 7
uid = (44, (_, (0, omega arith, refl), refl))

leaves_known : AreLeavesKnown madt leaf
leaves_known revision typed o id (e, stands, is) =
    each_entry leaf.entries (λ o e. IsLeaf id e → IsUid madt id) ((λ is. subst (IsUid madt) is.2 uid), tt) o e stands is

-- ---- all stages

pub is_clean : IsClean example_set example_policy
is_clean stage.Rsdp = valid_rsdp
is_clean stage.Root = valid_root
is_clean stage.Tables = valid_tables
is_clean stage.Fadt = valid_fadt
is_clean stage.Facs = valid_facs
is_clean stage.Madt = for_madt (IsValidMadt example_policy) valid_madt
is_clean stage.Interrupts = for_madt (AreInterruptsApart example_policy) interrupts_apart
is_clean stage.Overrides = for_madt DoOverridesAgree overrides_agree
is_clean stage.Srat = for_srat IsValidSrat valid_srat
is_clean stage.Ranges = for_srat (AreRangesApart Counted) ranges_apart
is_clean stage.Slit = for_slit IsValidSlit one
is_clean stage.Pptt = for_pptt IsCutPptt valid_entries
is_clean stage.References = for_pptt AreReferencesValid valid_references
is_clean stage.Parents = for_pptt DoParentsEnd parents_end
is_clean stage.Caches = for_pptt DoCachesEnd caches_end
is_clean stage.Domains =
    for_madt (λ c. ForSrat example_set example_policy (HaveOneDomain Enabled c))
    (for_srat (HaveOneDomain Enabled madt) one_domain)
is_clean stage.Served = for_madt (AreNamedServed example_policy) named_served
is_clean stage.Leaves =
    for_madt (λ c. ForPptt example_set example_policy (AreLeavesKnown c)) (for_pptt (AreLeavesKnown madt) leaves_known)
