use Rattle.std.proofs.Common.{◌≡◌, ◌∙◌, ap, sym, subst, map, List, ℕ, Some, Result, Ok, Err}
use Rattle.std.specs.Prelude.{◌≢◌, IfErr}
use Rattle.std.specs.List.{AllZip}
use Rattle.std.specs.Option.{option_map}
use Rattle.std.specs.Result.{IsErrAnd}
use Rattle.acpi_base.specs.Codes.{stage_of}
use Rattle.acpi_base.specs.Facs.{IsFacs}
use Rattle.acpi_base.specs.Listed.{fadt_signature, listed_addresses}
use Rattle.acpi_base.specs.Memory.{Memory}
use Rattle.acpi_base.specs.Policy.{PolicyValue}
use Rattle.acpi_base.specs.declared.stage.Stage.TheVariants as stage
use Rattle.acpi_base.proofs.Faults.Stages.{excludes}
use Rattle.acpi_base.proofs.Tables.Listed.{one_listed}
use Rattle.acpi_read.specs.Fadts.{FacsValue}
use Rattle.acpi_check.specs.StageSets.{IsCleanSetOf, IsFacsNamed}
use Rattle.acpi_check.specs.StageResults.{IsResultTo}
use Rattle.acpi_check.specs.declared.refusal.Refusal.{Refusal}
use Rattle.acpi_check.specs.declared.refusal.Refusal.TheVariants.{Fault, OutOfMemory}
use Rattle.acpi_check.proofs.ListedSets.{listed_itself}
use Rattle.acpi_write.specs.Kinds.{table_of}
use Rattle.acpi_write.specs.SetValues.{IsFacsOf, IsCompleteAt, values_of}
use Rattle.acpi_write.specs.Views.{IsValuesRefusal, values_fault_of}
use Rattle.acpi_write.specs.declared.set_value.ValuesFault.{ValuesFault}
use Rattle.acpi_write.proofs.OldSets.CleanSets.{clean_readable}
use Rattle.acpi_write.proofs.set_reading.values.Goals.{in-Some, in-None}
use Rattle.acpi_write.proofs.set_reading.values.Goals as goal

refused : {T U : Type 0} (m : Memory) (q : PolicyValue) (P : U → Type 0) (refusal : Refusal) (r : Result T ValuesFault)
    → IsErrAnd r (λ v. v ≡ values_fault_of refusal)
    → IsResultTo stage.Leaves m q P (Err refusal) → IfErr r (IsValuesRefusal m q)
refused m q P refusal (Ok v) is settled = tt
refused m q P (Fault w) (Err v) is settled =
    rw is (λ all. excludes m q w (stage_of w.code) settled.0.fault.holds (all (stage_of w.code)), settled.0)
refused m q P OutOfMemory (Err v) is settled = rw is settled.1

-- the FACS that was passed on is that of the FADT
some_facs : (m : Memory) (fadt : List ℕ) (f : FacsValue) (bytes : List ℕ) → bytes ≡ f.bytes
    → IsFacsNamed m fadt (Some f) → IsFacsOf m fadt (Some bytes)
some_facs m fadt f bytes same named =
    (subst (λ (a : ℕ). a ≢ 0) named.0 named.1, rw same (subst (λ (a : ℕ). IsFacs m a f.bytes) named.0 named.2))

pub returns-in_err-set-clause-refused : goal.returns-in_err-set-clause-refused
returns-in_err-set-clause-refused c =
    let m = c.args.image.now in
    let q = c.args.policy.now in
    refused m q (IsCleanSetOf m q) c.in_err-set.field-0.0 c.from_residual.result c.from_residual.ensures.1
    c.in_err-set.ensures

pub listed_tables-requires : goal.listed_tables-requires
listed_tables-requires c = listed_itself c.in_ok-set.set.listed c.in_ok-set.ensures.listed

pub table_values-requires : goal.table_values-requires
table_values-requires c =
    let m = c.args.image.now in
    let clean = c.in_ok-set.ensures in
    let root = clean.listed.root in
    let found = c.in_ok-listed.listed.items in
    let each = subst (λ (n : Memory). AllZip (IsCompleteAt n)
    (listed_addresses c.in_ok-set.set.listed.root.bytes c.in_ok-set.set.listed.root.width) (map table_of found))
    clean.listed.image c.in_ok-listed.ensures in
    let readable = clean_readable m c.args.policy.now _ _ _ (map table_of found) clean.clean root.named root.valid.table
    each in
    rw c.deref.ensures.value readable

pub returns-clause-value : goal.returns-clause-value
returns-clause-value c =
    let m = c.args.image.now in
    let p = c.args.policy.now.rsdp in
    let set = c.in_ok-set.set in
    let clean = c.in_ok-set.ensures in
    let rsdp = clean.listed.rsdp in
    let root = clean.listed.root in
    let found = c.in_ok-listed.listed.items in
    let named : IsFacsOf m set.fadt (option_map (λ bytes. bytes.now) c.match-set.facs) =
    elim c.match-set.branch [
      | in-Some w ↦ rw w.facs-is (some_facs m set.fadt w.in-Some.facs w.bytes.result.now w.bytes.ensures.bytes
          (subst (IsFacsNamed m set.fadt) w.in-Some.is clean.facs))
      | in-None w ↦ rw w.facs-is (subst (IsFacsNamed m set.fadt) w.in-None.is clean.facs)
    ] in
    record {
      head = rsdp.head;
      head_present = rsdp.head_present;
      oemid = c.oemid-oemid.ensures ∙ rsdp.oemid;
      r = set.listed.root.address;
      d = set.listed.root.width;
      root_bytes = set.listed.root.bytes;
      root = root.named;
      root_table = root.valid.table;
      root_head = c.head_in-root.ensures set.listed.root.bytes c.header.ensures.fields;
      tables = map table_of found;
      each = subst
          (λ (n : Memory). AllZip (IsCompleteAt n) (listed_addresses set.listed.root.bytes set.listed.root.width)
          (map table_of found)) clean.listed.image c.in_ok-listed.ensures;
      values = c.in_ok-tables.ensures.values ∙ ap (λ l. values_of (map table_of l)) c.deref.ensures.value;
      facs = λ fadt is.
          let same = one_listed m p fadt_signature fadt set.fadt is clean.fadt in
          subst (λ (f : List ℕ). IsFacsOf m f (option_map (λ bytes. bytes.now) c.match-set.facs)) (sym same) named;
    }
