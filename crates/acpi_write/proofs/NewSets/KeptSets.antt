-- The rebuilt image of a clean set has a clean set that says the same.
use Rattle.std.proofs.Common.{◌≡◌, ℕ, List, sym, ap, ◌∙◌, subst}
use Rattle.acpi_base.specs.Memory.{Memory}
use Rattle.acpi_base.specs.Fadt.{IsFadt, IsValidFadt}
use Rattle.acpi_base.specs.Facs.{HasValidFacs, IsValidFacs}
use Rattle.acpi_base.specs.Listed.{fadt_signature}
use Rattle.acpi_base.specs.Policy.{PolicyValue, with_rsdp}
use Rattle.acpi_base.specs.Statements.{IsClean}
use Rattle.acpi_base.specs.declared.stage.Stage.TheVariants as stage
use Rattle.acpi_base.specs.TableKinds.{signature_of}
use Rattle.acpi_base.proofs.Tables.Kinds.{length-signature_of}
use Rattle.acpi_base.proofs.Tables.Listed.{one_listed}
use Rattle.acpi_write.specs.Placed.{IsPlaced}
use Rattle.acpi_write.specs.Rebuilding.{RebuiltSetsAreKept}
use Rattle.acpi_write.specs.Rebuilt.{facs_place, rebuilt_image}
use Rattle.acpi_write.specs.SetValues.{IsFacsOf, IsSetValue}
use Rattle.acpi_write.specs.Values.{SetValue}
use Rattle.acpi_write.proofs.OldSets.FirstListed.{listed_first, first_of_listed}
use Rattle.acpi_write.proofs.OldSets.FirstTables.{new_tables}
use Rattle.acpi_write.proofs.NewSets.NewSet.{facs_again, facs_valid_again, IsNewSet, new_set, new_listed, new_valid_tables, named_fadt, HasNewFadt, new_fadt}
use Rattle.acpi_write.proofs.NewSets.NewTables.{values_again, contents_again}
use Rattle.acpi_write.proofs.OldSets.OldTables.{listed_of, value_is_one}
use Rattle.acpi_write.proofs.NewSets.SameStages.{AreSameListed, clean_again}

-- ---- the first tables

are_same : (m : Memory) (q : PolicyValue) (v : SetValue) (base : ℕ) → (said : IsSetValue m q.rsdp v)
    → IsNewSet v base said.tables → AreSameListed m q.rsdp (rebuilt_image v base) base
are_same m q v base said new kind other is =
    let facs = facs_place v base in
    let ts = said.tables in
    let four = length-signature_of kind in
    let first = first_of_listed (rebuilt_image v base) base (new_tables facs ts) (signature_of kind) other
    (new_listed v base ts new) four is in
    let old = contents_again facs ts kind other new.clean first in
    (old.0, listed_first m q.rsdp ts (signature_of kind) old.0 (listed_of m q.rsdp v said) four old.1, old.2)

-- ---- stages 4 and 5

-- the facts about the old set's FADT hold for the new one
record IsFadtKept (v : SetValue) (base : ℕ) : Type 0 where
  valid : IsValidFadt (rebuilt_image v base) base
  facs : (fadt : List ℕ) → IsFadt (rebuilt_image v base) base fadt → IsFacsOf (rebuilt_image v base) fadt v.facs
  facs_valid : IsValidFacs (rebuilt_image v base) base

fadt_kept : (m : Memory) (q : PolicyValue) (v : SetValue) (base : ℕ) → IsClean m q → (said : IsSetValue m q.rsdp v)
    → IsPlaced v base → IsNewSet v base said.tables → IsFadtKept v base
fadt_kept m q v base clean said placed new =
    let n = rebuilt_image v base in
    let place = facs_place v base in
    let old = (clean stage.Fadt).whole in
    let is = (clean stage.Fadt).fadt in
    let fadt : HasNewFadt m q.rsdp v base old = new_fadt m q v base old said placed new is in
    let named = named_fadt old place in
    let facs = facs_again m n old named v.facs place fadt.facs new.facs fadt.names.named in
    let valid = facs_valid_again m n old named v.facs (clean stage.Facs old is) fadt.names.reduced fadt.facs facs in
    let one = λ (other : List ℕ) (listed : IsFadt n base other). one_listed n base fadt_signature named other
    fadt.listed listed in
    record {
      valid = record { whole = named; fadt = fadt.listed; valid = fadt.names.valid };
      facs = λ other listed. subst (λ (x : List ℕ). IsFacsOf n x v.facs) (one other listed) facs;
      facs_valid = λ other listed. subst (HasValidFacs n) (one other listed) valid;
    }

-- ---- all stages

kept_clean : (m : Memory) (q : PolicyValue) (v : SetValue) (base : ℕ) → IsClean m q → (said : IsSetValue m q.rsdp v)
    → IsNewSet v base said.tables → IsFadtKept v base → IsClean (rebuilt_image v base) (with_rsdp q base)
kept_clean m q v base clean said new fadt =
    let leads = new.leads in
    clean_again m (rebuilt_image v base) q base clean (are_same m q v base said new)
    (record {
      rsdp = leads.rsdp;
      root = record { r = leads.r; d = 8; whole = leads.root_bytes; root = leads.root; valid = leads.valid };
      tables = new_valid_tables v base said.tables new;
      fadt = fadt.valid;
      facs = fadt.facs_valid;
    })

kept_value : (m : Memory) (p : ℕ) (v : SetValue) (base : ℕ) → (said : IsSetValue m p v) → IsNewSet v base said.tables
    → IsFadtKept v base → IsSetValue (rebuilt_image v base) base v
kept_value m p v base said new fadt =
    let leads = new.leads in
    let place = facs_place v base in
    record {
      head = leads.head;
      head_present = leads.head_present;
      oemid = sym leads.oemid;
      r = leads.r;
      d = 8;
      root_bytes = leads.root_bytes;
      root = leads.root;
      root_table = leads.valid.table;
      root_head = sym leads.root_head;
      tables = new_tables place said.tables;
      each = new.each;
      values = said.values ∙ sym (values_again place said.tables new.clean);
      facs = fadt.facs;
    }

pub sets_are_kept : RebuiltSetsAreKept
sets_are_kept m q v base image clean said placed =
    let new = new_set m q v base image clean said placed in
    let fadt = fadt_kept m q v base clean said placed new in
    let kept = kept_clean m q v base clean said new fadt in
    let value = kept_value m q.rsdp v base said new fadt in
    record {
      clean = kept;
      value = value;
      again = λ w other.
          let one : v ≡ w = value_is_one (rebuilt_image v base) (with_rsdp q base) v w kept value other in
          (subst (λ (x : SetValue). IsPlaced x base) one placed, ap (λ (x : SetValue). rebuilt_image x base) (sym one));
    }
