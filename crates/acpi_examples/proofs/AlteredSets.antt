-- The examples of the faults 1 to 31, by computing.
use Rattle.std.proofs.Common.{◌≡◌, ℕ, length, take, ◌+◌, ◌<◌, ◌≤◌, cond, true, false, List, Option, Some, None, refl, sym, ◌∙◌, ap, subst, inl, inr, arith}
use Rattle.std.specs.Prelude.{◌==◌, ◌≢◌, ◌⊎◌}
use Rattle.std.proofs.lemmas.Bool.Decides.{nat_tests}
use Rattle.acpi_base.specs.Memory.{Memory, byte_of, run_of, cons_both, bytes_at}
use Rattle.acpi_base.specs.Number.{field, byte_sum}
use Rattle.acpi_base.specs.Codes.{stage_of}
use Rattle.acpi_base.specs.Image.Runs.{lookup}
use Rattle.acpi_base.specs.Signature.{has_signature}
use Rattle.acpi_base.specs.Rsdp.{revision_of, IsExtended, RsdpFault, addresses_at}
use Rattle.acpi_base.specs.Root.{chosen_root, IsRoot, HasNoRoot, RootTableFault}
use Rattle.acpi_base.specs.Tables.{TableFault, IsTable, IsSigned, length_of}
use Rattle.acpi_base.specs.Listed.{fadt_signature, ListsNone}
use Rattle.acpi_base.specs.Fadt.{IsFadt, FadtTableFault, facs_address, has_flag, wide_address}
use Rattle.acpi_base.specs.Facs.{NamedFacsFault}
use Rattle.acpi_base.specs.Faults.{FaultCondition, FaultOfStage}
use Rattle.acpi_examples.specs.ExampleSet.{fadt_bytes, whole_runs, example_set, example_policy}
use Rattle.acpi_examples.specs.AlteredSets.{altered_set, HasFaultWith, AreRsdpFaults, AreRootFaults, AreTableFaults, AreFadtFaults, AreFacsFaults}
use Rattle.acpi_examples.specs.Sets.{rsdp_at, HasFault}
use Rattle.acpi_base.specs.declared.code.Code.{Code}
use Rattle.acpi_base.specs.declared.code.Code.TheVariants as code
use Rattle.acpi_base.specs.declared.stage.Stage.{Stage}
use Rattle.acpi_base.specs.declared.stage.Stage.TheVariants as stage
use Rattle.acpi_examples.proofs.ExampleSet.{byte_of_example_set, HasRoot, example_has_root, root_of, root_of_present, root_table_of, first_slot, each_slot, tables, not_signed}
use Rattle.acpi_base.proofs.Faults.Least.{witness}
use Rattle.acpi_base.proofs.Root.Slots.{root_slot}
use Rattle.acpi_base.proofs.Tables.Listed.{listed_in_root, none_in_root}
use Rattle.acpi_base.proofs.Images.RunBytes.{byte_of-insert, byte_of-remove}
use Rattle.acpi_base.proofs.Images.ByteRuns.{run_of-agree}

-- ---- the bytes of an altered set

-- the bytes of the clean set's runs, except for one
abbrev with_one : ℕ → Option ℕ → ℕ → Option ℕ
with_one a byte x = cond (x == a) byte (lookup whole_runs x)

byte_of_altered : (a : ℕ) (byte : Option ℕ) (x : ℕ) → byte_of (altered_set a byte) x ≡ with_one a byte x
byte_of_altered a (Some b) x = byte_of-insert example_set a b x ∙ ap (cond (x == a) (Some b)) (byte_of_example_set x)
byte_of_altered a None x = byte_of-remove example_set a x ∙ ap (cond (x == a) None) (byte_of_example_set x)

bytes_at_altered : (a : ℕ) (byte : Option ℕ) (p n : ℕ)
    → bytes_at (altered_set a byte) p n ≡ run_of (with_one a byte) p n
bytes_at_altered a byte p n = λ i. run_of (λ x. byte_of_altered a byte x i) p n

byte_kept : (a : ℕ) (byte : Option ℕ) (x : ℕ) → x ≢ a → byte_of (altered_set a byte) x ≡ byte_of example_set x
byte_kept a byte x other = altered_is byte ∙ rw differs refl
  where
    differs : (x == a) ≡ false
    differs = grind (arith, nat_tests)

    altered_is : (byte : Option ℕ) → byte_of (altered_set a byte) x ≡ cond (x == a) byte (byte_of example_set x)
    altered_is (Some b) = byte_of-insert example_set a b x
    altered_is None = byte_of-remove example_set a x

kept : (a : ℕ) (byte : Option ℕ) (p n : ℕ) → (a < p) ⊎ (p + n ≤ a)
    → bytes_at (altered_set a byte) p n ≡ bytes_at example_set p n
kept a byte p n away =
    run_of-agree (byte_of (altered_set a byte)) (byte_of example_set) p n
    (λ k less. byte_kept a byte (p + k) (other k less))
  where
    other : (k : ℕ) → k < n → p + k ≢ a
    other k less = elim away [ inl below ↦ λ same. omega arith | inr above ↦ λ same. omega arith ]

of_stage : {m : Memory} {fault : Code} {at other : ℕ} {s : Stage} → stage_of fault ≡ s
    → FaultCondition s m example_policy (witness fault at other 0) → HasFault m example_policy fault at other 0
of_stage {m} {fault} {at} {other} own holds =
    subst (λ (s : Stage). FaultOfStage s m example_policy (witness fault at other 0)) (sym own)
    (record { own = own; holds = holds })

-- ---- the RSDP

present_rsdp : (a : ℕ) (byte : Option ℕ) (n : ℕ)
    → bytes_at (altered_set a byte) rsdp_at n ≡ run_of (with_one a byte) rsdp_at n
present_rsdp a byte n = bytes_at_altered a byte rsdp_at n

extended : (a : ℕ) (byte : Option ℕ) {head : List ℕ} → run_of (with_one a byte) rsdp_at 20 ≡ Some head
    → 2 ≤ revision_of head → IsExtended (altered_set a byte) rsdp_at
extended a byte head revision = (_, present_rsdp a byte 20 ∙ head, revision)

pub rsdp_faults : AreRsdpFaults
unfolding run_of cons_both has_signature byte_sum field
rsdp_faults = record {
  out = of_rsdp 0xe0013 None code.RsdpOut refl (present_rsdp 0xe0013 None 20);
  signature = of_rsdp 0xe0000 (Some 0x72) code.RsdpSignature refl (_, present_rsdp 0xe0000 (Some 0x72) 20, refl);
  sum = of_rsdp 0xe0000 (Some 0x72) code.RsdpSum refl (_, present_rsdp 0xe0000 (Some 0x72) 20, λ same. omega arith);
  tail_out = of_rsdp 0xe0023 None code.RsdpTailOut refl
      (extended 0xe0023 None refl (omega arith), present_rsdp 0xe0023 None 36);
  size = of_rsdp 0xe0014 (Some 35) code.RsdpLength refl
      (extended 0xe0014 (Some 35) refl (omega arith), (_, present_rsdp 0xe0014 (Some 35) 36, omega arith));
  long_out = of_rsdp 0xe0014 (Some 37) code.RsdpLongOut refl (
    extended 0xe0014 (Some 37) refl (omega arith),
    (_, present_rsdp 0xe0014 (Some 37) 36, omega arith, present_rsdp 0xe0014 (Some 37) 37),
  );
  extended_sum = of_rsdp 0xe0021 (Some 1) code.RsdpExtendedSum refl (
    extended 0xe0021 (Some 1) refl (omega arith),
    (
      _,
      _,
      record {
        header_present = present_rsdp 0xe0021 (Some 1) 36;
        least = omega arith;
        present = present_rsdp 0xe0021 (Some 1) 36;
      },
      λ same. omega arith,
    ),
  );
}
  where
    of_rsdp : (a : ℕ) (byte : Option ℕ) (fault : Code) → stage_of fault ≡ stage.Rsdp
        → RsdpFault (altered_set a byte) rsdp_at fault → HasFaultWith a byte fault rsdp_at 0
    of_rsdp a byte fault own wrong = of_stage own (wrong, refl, refl, refl)

-- ---- the root

names_root : (a : ℕ) (byte : Option ℕ) → 0x1000 ≤ a → a < 0x104c → IsRoot (altered_set a byte) rsdp_at 0x1000 8
names_root a byte from to =
    root_of (kept a byte rsdp_at 20 (inl (omega arith)) ∙ example_has_root.head_present)
    (kept a byte rsdp_at 36 (inl (omega arith)) ∙ example_has_root.rsdp_present)

-- a fault of the XSDT is one of the set
of_root : (a : ℕ) (byte : Option ℕ) (fault : Code) → 0x1000 ≤ a → a < 0x104c → stage_of fault ≡ stage.Root
    → RootTableFault (altered_set a byte) 0x1000 8 fault → HasFaultWith a byte fault 0x1000 0
of_root a byte fault from to own wrong = of_stage own (inr (8, names_root a byte from to, wrong), refl, refl)

no_root : HasNoRoot (altered_set 0xe0019 (Some 0)) rsdp_at
unfolding run_of cons_both addresses_at chosen_root field
no_root = record {
  named = record { rsdt = 0; xsdt = 0 };
  read = rw (present_rsdp 0xe0019 (Some 0) 20) (rw (present_rsdp 0xe0019 (Some 0) 36) refl);
  none = refl;
}

pub root_faults : AreRootFaults
unfolding run_of cons_both has_signature byte_sum field
root_faults = record {
  none = record { own = refl; holds = (inl (no_root, refl, refl), refl, refl) };
  header_out = of_root 0x1023 None code.RootHeaderOut (omega arith) (omega arith) refl (present 0x1023 None 36);
  signature = of_root 0x1000 (Some 0x52) code.RootSignature (omega arith) (omega arith) refl
      (_, present 0x1000 (Some 0x52) 36, refl);
  size = of_root 0x1004 (Some 35) code.RootLength (omega arith) (omega arith) refl
      (_, present 0x1004 (Some 35) 36, omega arith);
  out = of_root 0x104b None code.RootOut (omega arith) (omega arith) refl
      (_, present 0x104b None 36, omega arith, present 0x104b None 76);
  ragged = of_root 0x1004 (Some 75) code.RootRagged (omega arith) (omega arith) refl
      (_, present 0x1004 (Some 75) 36, omega arith, λ same. omega arith);
  sum = of_root 0x1008 (Some 2) code.RootSum (omega arith) (omega arith) refl (
    _,
    _,
    record { header_present = present 0x1008 (Some 2) 36; least = omega arith; present = present 0x1008 (Some 2) 76 },
    λ same. omega arith,
  );
}
  where
    present : (a : ℕ) (byte : Option ℕ) (n : ℕ)
        → bytes_at (altered_set a byte) 0x1000 n ≡ run_of (with_one a byte) 0x1000 n
    present a byte n = bytes_at_altered a byte 0x1000 n

-- ---- the first table

keeps_root : (a : ℕ) (byte : Option ℕ) → 0x2000 ≤ a → a < 0xe0000 → HasRoot (altered_set a byte)
keeps_root a byte from to = record {
  head_present = kept a byte rsdp_at 20 (inl (omega arith)) ∙ example_has_root.head_present;
  rsdp_present = kept a byte rsdp_at 36 (inl (omega arith)) ∙ example_has_root.rsdp_present;
  header_present = kept a byte 0x1000 36 (inr (omega arith)) ∙ example_has_root.header_present;
  xsdt_present = kept a byte 0x1000 76 (inr (omega arith)) ∙ example_has_root.xsdt_present;
}

present_first : (a : ℕ) (byte : Option ℕ) (n : ℕ)
    → bytes_at (altered_set a byte) 0x2000 n ≡ run_of (with_one a byte) 0x2000 n
present_first a byte n = bytes_at_altered a byte 0x2000 n

-- the table at 0x2000, with one byte of it changed and with this Length
changed : (a byte size : ℕ) {header whole : List ℕ} → run_of (with_one a (Some byte)) 0x2000 36 ≡ Some header
    → length_of header ≡ size → 36 ≤ size → run_of (with_one a (Some byte)) 0x2000 size ≡ Some whole
    → IsTable (altered_set a (Some byte)) 0x2000 header whole
changed a byte size {header} header_present says least present = record {
  header_present = present_first a (Some byte) 36 ∙ header_present;
  least = omega (arith, says);
  present = present_first a (Some byte) (length_of header) ∙ rw says present;
}

pub table_faults : AreTableFaults
unfolding run_of cons_both byte_sum field
table_faults = record {
  header_out = of_table 0x2023 None code.TableHeaderOut (omega arith) (omega arith) refl (present_first 0x2023 None 36);
  size = of_table 0x2004 (Some 35) code.TableLength (omega arith) (omega arith) refl
      (_, present_first 0x2004 (Some 35) 36, omega arith);
  out = of_table 0x2080 None code.TableOut (omega arith) (omega arith) refl
      (_, present_first 0x2080 None 36, omega arith, present_first 0x2080 None 129);
  sum = of_table 0x2008 (Some 3) code.TableSum (omega arith) (omega arith) refl
      (_, _, changed 0x2008 3 129 refl refl (omega arith) refl, λ same. omega arith);
}
  where
    of_table : (a : ℕ) (byte : Option ℕ) (fault : Code) → 0x2000 ≤ a → a < 0xe0000 → stage_of fault ≡ stage.Tables
        → TableFault (altered_set a byte) 0x2000 fault → HasFaultWith a byte fault 0 0x2000
    of_table a byte fault from to own wrong =
        let has = keeps_root a byte from to in
        of_stage own (root_slot (root_of_present has) (root_table_of has) first_slot, wrong, refl)

-- ---- the FADT

is_fadt : (a : ℕ) (byte : Option ℕ) {header whole : List ℕ} → 0x2000 ≤ a → a < 0xe0000
    → IsTable (altered_set a byte) 0x2000 header whole → has_signature header fadt_signature ≡ true
    → IsFadt (altered_set a byte) rsdp_at whole
is_fadt a byte {header} from to table signed =
    let has = keeps_root a byte from to in
    let found : IsSigned (altered_set a byte) 0x2000 fadt_signature =
    record { header = header; header_present = table.header_present; signed = signed } in
    listed_in_root (root_of_present has) (root_table_of has)
    (record { k = 0; slot = first_slot; signed = found; none_before = λ j b less. absurd (omega arith) })
    table

no_fadt : ListsNone (altered_set 0x2000 (Some 0x47)) rsdp_at fadt_signature
unfolding run_of cons_both has_signature
no_fadt =
    let has = keeps_root 0x2000 (Some 0x47) (omega arith) (omega arith) in
    none_in_root (root_of_present has) (root_table_of has)
    (each_slot (λ k a. ¬ IsSigned (altered_set 0x2000 (Some 0x47)) a fadt_signature)
    (not_signed _ fadt_signature (present_first 0x2000 (Some 0x47) 36) refl)
    (other 0x4000 (omega arith) tables.madt refl) (other 0x5000 (omega arith) tables.srat refl)
    (other 0x6000 (omega arith) tables.slit refl) (other 0x7000 (omega arith) tables.pptt refl))
  where
    other : (a : ℕ) {header whole : List ℕ} → 0x2000 < a → IsTable example_set a header whole
        → has_signature header fadt_signature ≡ false → ¬ IsSigned (altered_set 0x2000 (Some 0x47)) a fadt_signature
    other a {header} behind table differs =
        not_signed header fadt_signature (kept 0x2000 (Some 0x47) a 36 (inl behind) ∙ table.header_present) differs

pub fadt_faults : AreFadtFaults
unfolding run_of cons_both has_signature has_flag field
fadt_faults = record {
  none = record { own = refl; holds = (inl (no_fadt, refl, refl), refl, refl) };
  short = of_fadt 0x2004 115 115 code.FadtShort 0 (omega arith) refl refl refl refl refl (omega arith, refl);
  event = of_fadt 0x2058 3 129 code.PmEventLength 88 (omega arith) refl refl refl refl refl
      (omega arith, refl, omega arith, refl);
  control = of_fadt 0x2059 1 129 code.PmControlLength 89 (omega arith) refl refl refl refl refl
      (omega arith, refl, omega arith, refl);
  timer = of_fadt 0x205b 3 129 code.PmTimerLength 91 (omega arith) refl refl refl refl refl
      (omega arith, refl, (λ same. omega arith), (λ same. omega arith), refl);
  gpe0 = of_fadt 0x205c 3 129 code.GpeLength 92 (omega arith) refl refl refl refl refl
      (omega arith, refl, inl refl, λ same. omega arith);
  gpe1 = of_fadt 0x205d 3 129 code.GpeLength 93 (omega arith) refl refl refl refl refl
      (omega arith, refl, inr refl, λ same. omega arith);
  reset = of_fadt 0x2074 3 129 code.ResetRegister 116 (omega arith) refl refl refl refl refl
      (omega arith, refl, omega arith, inl (omega arith), refl);
}
  where
    of_fadt : (a byte size : ℕ) (fault : Code) (at : ℕ) {header whole : List ℕ}
        → (0x2000 ≤ a) × (a < 0xe0000) × (36 ≤ size)
        → run_of (with_one a (Some byte)) 0x2000 36 ≡ Some header → length_of header ≡ size
        → has_signature header fadt_signature ≡ true → run_of (with_one a (Some byte)) 0x2000 size ≡ Some whole
        → stage_of fault ≡ stage.Fadt → FadtTableFault whole fault at → HasFaultWith a (Some byte) fault at 0
    of_fadt a byte size fault at {whole = whole} (from, to, least) header says signed present own wrong =
        of_stage own (
          inr (
            whole,
            is_fadt a (Some byte) from to (changed a byte size header says least present) signed,
            wrong,
          ),
          refl,
          refl,
        )

-- ---- the FACS

of_facs : (a : ℕ) (byte : Option ℕ) (fault : Code) (at : ℕ) {header whole : List ℕ} → 0x2000 ≤ a → a < 0xe0000
    → stage_of fault ≡ stage.Facs → IsTable (altered_set a byte) 0x2000 header whole
    → has_signature header fadt_signature ≡ true
    → 116 ≤ length whole → NamedFacsFault (altered_set a byte) whole fault at → HasFaultWith a byte fault at 0
of_facs a byte fault at {whole = whole} from to own table signed long wrong =
    of_stage own ((whole, is_fadt a byte from to table signed, long, wrong), refl, refl)

keeps_fadt : (a : ℕ) (byte : Option ℕ) → 0x2081 ≤ a
    → IsTable (altered_set a byte) 0x2000 (take 36 fadt_bytes) fadt_bytes
unfolding field
keeps_fadt a byte behind = record {
  header_present = kept a byte 0x2000 36 (inr (omega arith)) ∙ tables.fadt.header_present;
  least = tables.fadt.least;
  present = kept a byte 0x2000 (length_of (take 36 fadt_bytes)) (inr (omega arith)) ∙ tables.fadt.present;
}

pub facs_faults : AreFacsFaults
unfolding run_of cons_both has_signature has_flag wide_address field
facs_faults = record {
  none = of_facs 0x2025 (Some 0) code.NoFacs 0 (omega arith) (omega arith) refl
      (changed 0x2025 0 129 refl refl (omega arith) refl) refl (omega arith) (refl, refl, refl);
  align = of_facs 0x2024 (Some 0x20) code.FacsAlign 0x3020 (omega arith) (omega arith) refl
      (changed 0x2024 0x20 129 refl refl (omega arith) refl) refl (omega arith)
      ((λ same. omega arith), refl, λ same. omega arith);
  header_out =
      named 0x3007 None code.FacsHeaderOut (omega arith) (omega arith) refl (there, refl, present 0x3007 None 8);
  signature = named 0x3000 (Some 0x66) code.FacsSignature (omega arith) (omega arith) refl
      (there, refl, (_, present 0x3000 (Some 0x66) 8, refl));
  size = named 0x3004 (Some 63) code.FacsLength (omega arith) (omega arith) refl
      (there, refl, (_, present 0x3004 (Some 63) 8, omega arith));
  out = named 0x303f None code.FacsOut (omega arith) (omega arith) refl
      (there, refl, (_, present 0x303f None 8, omega arith, present 0x303f None 64));
}
  where
    present : (a : ℕ) (byte : Option ℕ) (n : ℕ)
        → bytes_at (altered_set a byte) 0x3000 n ≡ run_of (with_one a byte) 0x3000 n
    present a byte n = bytes_at_altered a byte 0x3000 n

    there : facs_address fadt_bytes ≢ 0
    there same = omega arith

    named : (a : ℕ) (byte : Option ℕ) (fault : Code) → 0x3000 ≤ a → a < 0x3040 → stage_of fault ≡ stage.Facs
        → NamedFacsFault (altered_set a byte) fadt_bytes fault 0x3000 → HasFaultWith a byte fault 0x3000 0
    named a byte fault from to own wrong =
        of_facs a byte fault 0x3000 (omega arith) (omega arith) own (keeps_fadt a byte (omega arith)) refl (omega arith)
        wrong
