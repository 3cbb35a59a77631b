-- The tables and the FACS of a rebuilt image.
use Rattle.std.proofs.Common.{ℕ, List, [], ◌∷◌, take, drop, map, refl, sym, ap, ◌∙◌, subst, inr, arith, ◌≡◌, ◌^◌, ◌<◌, Option, Some, None}
use Rattle.std.specs.List.{AllByRecursion, AllZip, list_any}
use Rattle.acpi_base.specs.Memory.{Memory, IsImage}
use Rattle.acpi_base.specs.Tables.{table_frame}
use Rattle.acpi_base.specs.Header.{head_of}
use Rattle.acpi_base.specs.Listed.{listed_addresses, fadt_signature, IsListedTable}
use Rattle.acpi_base.specs.Policy.{PolicyValue}
use Rattle.acpi_base.specs.Statements.{IsClean, AreValidTables}
use Rattle.acpi_base.proofs.Root.Slots.{slot_of_root}
use Rattle.acpi_base.specs.Fadt.{facs_address, is_reduced}
use Rattle.acpi_base.specs.Facs.{facs_signature, facs_frame, IsFacs, HasValidFacs}
use Rattle.acpi_write.specs.Encoded.{table_bytes, encoded_bytes_with}
use Rattle.acpi_write.specs.FadtBody.{with_facs}
use Rattle.acpi_write.specs.Laws.{NamesFacs}
use Rattle.acpi_write.specs.Placed.{is_narrow, IsPlaced, LeadsToTables}
use Rattle.acpi_write.specs.Rebuilt.{table_places, facs_place, rebuilt_image}
use Rattle.acpi_write.specs.SetValues.{IsCompleteAt, IsFacsOf, IsSetValue}
use Rattle.acpi_write.specs.Values.{TableValue, SetValue}
use Rattle.acpi_write.specs.Views.{IsCompleteTable}
use Rattle.acpi_write.proofs.OldSets.FirstListed.{AreListed, slot_table, listed_first, first_of_listed}
use Rattle.acpi_write.proofs.OldSets.FirstTables.{AreCleanTables, new_tables, clean_first}
use Rattle.acpi_write.proofs.NewSets.NamedFacs.{fadts_name_facs}
use Rattle.acpi_write.proofs.NewSets.NewImage.{Holds, frame_present, leads_to_tables, signed_front}
use Rattle.acpi_write.proofs.NewSets.NewParts.{HasFacsPlace, parts_stand, tables_stand, facs_stands, IsFacsPlace}
use Rattle.acpi_write.proofs.NewSets.NewTables.{new_whole, fadt_again, narrow_first}
use Rattle.acpi_write.proofs.SetParts.PartPlaces.{clean_parts_are_laid}
use Rattle.acpi_write.proofs.OldSets.OldTables.{listed_of, clean_tables, oemid_is_six, root_fits_head, IsFacsBytes, facs_bytes}

pub place_fits : (m n : Memory) (old : List ℕ) (facs : Option (List ℕ)) (f : ℕ) → IsFacsOf m old facs
    → HasFacsPlace n facs f → f < 2 ^ 64
place_fits m n old None f is place = omega (arith, place)
place_fits m n old (Some bytes) f is place =
    let least = (facs_bytes m (facs_address old) bytes is.1).least in
    let inside = place.inside in
    omega (arith, inside, least)

stands_again : (n : Memory) (bytes : List ℕ) (f : ℕ) → IsFacsBytes bytes → IsFacsPlace n bytes f → IsFacs n f bytes
stands_again n bytes f are place =
    record {
      aligned = place.aligned;
      header = take 8 bytes;
      frame = frame_present facs_frame (omega arith) (omega arith) place.stands are.least are.size;
      signed = signed_front bytes facs_signature 8 (omega arith) ∙ are.signed;
    }

pub facs_again : (m n : Memory) (old new : List ℕ) (facs : Option (List ℕ)) (f : ℕ) → IsFacsOf m old facs
    → HasFacsPlace n facs f → facs_address new ≡ f → IsFacsOf n new facs
facs_again m n old new None f is place named = named ∙ place
facs_again m n old new (Some bytes) f is place named =
    let above = place.above in (
      λ nil. absurd (omega (arith, above, named, nil)),
      subst (λ (x : ℕ). IsFacs n x bytes) (sym named)
          (stands_again n bytes f (facs_bytes m (facs_address old) bytes is.1) place),
    )

pub facs_valid_again : (m n : Memory) (old new : List ℕ) (facs : Option (List ℕ)) → HasValidFacs m old
    → is_reduced new ≡ is_reduced old → IsFacsOf m old facs → IsFacsOf n new facs → HasValidFacs n new
facs_valid_again m n old new None valid same is again =
    record { none = λ nil. same ∙ valid.none is; named = λ some. absurd (some again) }
facs_valid_again m n old new (Some bytes) valid same is again =
    record { none = λ nil. absurd (again.0 nil); named = λ some. (bytes, again.1) }

-- ---- the new set

all_present : (n : Memory) (xs : List ℕ) (blocks : List (List ℕ)) → AllZip (Holds n) xs blocks
    → AllByRecursion IsCompleteTable blocks → AllZip (IsCompleteAt n) xs blocks
all_present n [] [] present whole = tt
all_present n [] (b ∷ bs) present whole = absurd present
all_present n (x ∷ xs) [] present whole = absurd present
all_present n (x ∷ xs) (b ∷ bs) present whole = (
  (take 36 b, frame_present table_frame (omega arith) (omega arith) present.0 whole.0.least whole.0.size),
  all_present n xs bs present.1 whole.1,
)

-- the rebuilt image of a set that lists these tables
pub record IsNewSet (v : SetValue) (base : ℕ) (ts : List (List ℕ)) : Type 0 where
  pub clean : AreCleanTables ts
  pub leads : LeadsToTables v base (rebuilt_image v base)
  pub each : AllZip (IsCompleteAt (rebuilt_image v base)) (listed_addresses leads.root_bytes 8)
      (new_tables (facs_place v base) ts)
  pub facs : HasFacsPlace (rebuilt_image v base) v.facs (facs_place v base)

pub new_set : (m : Memory) (q : PolicyValue) (v : SetValue) (base : ℕ) → IsImage m → IsClean m q
    → (said : IsSetValue m q.rsdp v) → IsPlaced v base → IsNewSet v base said.tables
new_set m q v base image clean said placed =
    let n = rebuilt_image v base in
    let facs = facs_place v base in
    let ts = said.tables in
    let tables = clean_tables m q ts image clean (listed_of m q.rsdp v said) in
    let oemid = oemid_is_six m q.rsdp v said in
    let head = root_fits_head m q.rsdp v image said in
    let parts = parts_stand v base (clean_parts_are_laid m q v base clean said).lengths in
    let leads = leads_to_tables v base oemid head placed in
    let stand : AllZip (Holds n) (table_places v base) (new_tables facs ts) =
    subst (λ (vs : List TableValue). AllZip (Holds n) (table_places v base) (map (encoded_bytes_with facs) vs))
    said.values (tables_stand v base parts) in
    record {
      clean = tables;
      leads = leads;
      each = subst (λ (xs : List ℕ). AllZip (IsCompleteAt n) xs (new_tables facs ts)) (sym leads.lists)
          (all_present n (table_places v base) (new_tables facs ts) stand (new_whole facs ts tables));
      facs = facs_stands v base placed parts;
    }

pub new_listed : (v : SetValue) (base : ℕ) (ts : List (List ℕ)) → IsNewSet v base ts
    → AreListed (rebuilt_image v base) base (new_tables (facs_place v base) ts)
new_listed v base ts new =
    record {
      r = new.leads.r;
      d = 8;
      root_bytes = new.leads.root_bytes;
      root = new.leads.root;
      table = new.leads.valid.table;
      each = new.each;
    }

-- ---- stage 3

pub new_valid_tables : (v : SetValue) (base : ℕ) (ts : List (List ℕ)) → IsNewSet v base ts
    → AreValidTables (rebuilt_image v base) base
new_valid_tables v base ts new k a slot =
    let n = rebuilt_image v base in
    let facs = facs_place v base in
    let leads = new.leads in
    let there = slot_of_root n base leads.r 8 k a leads.root_bytes leads.root leads.valid.table slot in
    let its = slot_table n IsCompleteTable leads.root_bytes 8 (new_tables facs ts) k a (inr refl) new.each
    (new_whole facs ts new.clean) there in
    record { header = its.stands.0; whole = its.t; frame = its.stands.1; zero_sum = its.holds.zero_sum }

-- ---- the FADT

-- the FADT with another FACS address
abbrev pub named_fadt : List ℕ → ℕ → List ℕ
named_fadt old facs = table_bytes fadt_signature (head_of old) (with_facs (drop 36 old) facs)

-- the FADT of the set, and that of its rebuilt image
pub record HasNewFadt (m : Memory) (p : ℕ) (v : SetValue) (base : ℕ) (old : List ℕ) : Type 0 where
  pub facs : IsFacsOf m old v.facs
  pub names : NamesFacs old (facs_place v base)
  pub listed : IsListedTable (rebuilt_image v base) base fadt_signature (named_fadt old (facs_place v base))

pub new_fadt : (m : Memory) (q : PolicyValue) (v : SetValue) (base : ℕ) (old : List ℕ) → (said : IsSetValue m q.rsdp v)
    → IsPlaced v base → IsNewSet v base said.tables → IsListedTable m q.rsdp fadt_signature old
    → HasNewFadt m q.rsdp v base old
new_fadt m q v base old said placed new is =
    let n = rebuilt_image v base in
    let place = facs_place v base in
    let ts = said.tables in
    let first = first_of_listed m q.rsdp ts fadt_signature old (listed_of m q.rsdp v said) refl is in
    let one = clean_first fadt_signature ts old new.clean first in
    let long = (new.clean.valid old first).long in
    let facs = said.facs old is in
    record {
      facs = facs;
      names = fadts_name_facs old place one.table one.bytes one.small (new.clean.valid old first)
          (place_fits m n old v.facs place facs new.facs) (λ short.
          placed.low (ap (λ (vs : List TableValue). list_any is_narrow vs) said.values
          ∙ narrow_first ts old first (omega (arith, long)) short));
      listed = listed_first n base (new_tables place ts) fadt_signature (named_fadt old place)
          (new_listed v base ts new) refl (fadt_again place ts old new.clean first);
    }
