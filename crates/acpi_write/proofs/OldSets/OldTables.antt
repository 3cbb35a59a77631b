-- The tables, the root table, the RSDP and the FACS of a clean set, and that it has one value.
use Rattle.std.proofs.Common.{◌≡◌, ℕ, zero, suc, ◌^◌, ◌<◌, ◌≤◌, true, List, [], ◌∷◌, length, take, drop, get_or, refl, sym, ap, ◌∙◌, subst, arith, length-drop, Option, Some, None}
use Rattle.std.specs.List.{AllByRecursion, AllZip, All}
use Rattle.std.proofs.lemmas.List.{length-take-le}
use Rattle.std.proofs.lemmas.List.Elements.{All-cons, All-nil}
use Rattle.acpi_base.specs.Memory.{Memory, IsImage}
use Rattle.acpi_base.specs.Fadt.{IsValidFadtTable, IsFadt}
use Rattle.acpi_base.specs.Facs.{IsFacs, facs_signature}
use Rattle.acpi_base.specs.Listed.{listed_addresses, fadt_signature}
use Rattle.acpi_base.specs.Policy.{PolicyValue}
use Rattle.acpi_base.specs.Signature.{has_signature}
use Rattle.acpi_base.specs.Tables.{length_of}
use Rattle.acpi_base.specs.Statements.{IsClean}
use Rattle.acpi_base.specs.TableKinds.{signature_of}
use Rattle.acpi_base.specs.declared.stage.Stage.TheVariants as stage
use Rattle.acpi_base.proofs.Options.{same_value}
use Rattle.acpi_base.proofs.Images.PresentBytes.{bytes_below, present_field_below, length-bytes_at}
use Rattle.acpi_base.proofs.Tables.Kinds.{length-signature_of}
use Rattle.acpi_base.proofs.Tables.Listed.{one_listed}
use Rattle.acpi_base.proofs.Frames.{length_frame, header_is, says_length, one_frame}
use Rattle.acpi_base.specs.Header.{head_of}
use Rattle.acpi_base.proofs.Root.Named.{one_root, one_root_table}
use Rattle.acpi_write.specs.Encoded.{FitsHead}
use Rattle.acpi_write.specs.Laws.{AreByteValues}
use Rattle.acpi_write.specs.Kinds.{AreReadable}
use Rattle.acpi_write.specs.SetValues.{IsCompleteAt, IsSetValue, IsFacsOf, values_of, OneSetValue}
use Rattle.acpi_write.specs.Values.{SetValue}
use Rattle.acpi_write.specs.Rebuilt.{option_list}
use Rattle.acpi_write.proofs.OldSets.CleanSets.{clean_readable}
use Rattle.acpi_write.proofs.OldSets.FirstListed.{AreListed, listed_first}
use Rattle.acpi_write.proofs.OldSets.FirstTables.{AreCleanTables}
use Rattle.acpi_write.proofs.Tables.Kinds.{facts}
use Rattle.acpi_write.proofs.TablesWritten.KeptContents.{IsCleanTable}
use Rattle.acpi_write.proofs.TablesWritten.CompleteTables.{fits_head}
use Rattle.acpi_write.proofs.NewSets.NewImage.{signed_front}

-- ---- of two lists

pub zip_at : (R : ℕ → List ℕ → Type 0) (xs : List ℕ) (ys : List (List ℕ)) (k : ℕ) → AllZip R xs ys → k < length ys
    → R (get_or xs k 0) (get_or ys k [])
zip_at R [] [] k z h = absurd (omega arith)
zip_at R [] (y ∷ ys) k z h = absurd z
zip_at R (x ∷ xs) [] k z h = absurd z
zip_at R (x ∷ xs) (y ∷ ys) zero z h = z.0
zip_at R (x ∷ xs) (y ∷ ys) (suc k) z h = zip_at R xs ys k z.1 (omega arith)

each_is : (P : List ℕ → Type 0) (ts : List (List ℕ)) → ((k : ℕ) → k < length ts → P (get_or ts k []))
    → AllByRecursion P ts
each_is P [] h = tt
each_is P (t ∷ ts) h = (h zero (omega arith), each_is P ts (λ k below. h (suc k) (omega arith)))

-- ---- a table in an image

pub present_bytes : (m : Memory) (a : ℕ) (whole : List ℕ) → IsImage m → IsCompleteAt m a whole → AreByteValues whole
present_bytes m a whole image (header, table) = bytes_below m image a (length_of header) whole table.present

pub present_least : (m : Memory) (a : ℕ) (whole : List ℕ) → IsCompleteAt m a whole → 36 ≤ length whole
present_least m a whole (header, table) = omega (arith, length_frame table, table.least)

present_size : (m : Memory) (a : ℕ) (whole : List ℕ) → IsCompleteAt m a whole → length_of whole ≡ length whole
present_size m a whole (header, table) =
    says_length table (omega arith) (omega arith)

present_small : (m : Memory) (a : ℕ) (whole : List ℕ) → IsImage m → IsCompleteAt m a whole → length whole < 2 ^ 32
present_small m a whole image (header, table) =
    omega (arith, length_frame table, present_field_below m image a 36 header table.header_present 4 4)

-- ---- the tables of a clean set

pub listed_of : (m : Memory) (p : ℕ) (v : SetValue) → (is : IsSetValue m p v) → AreListed m p is.tables
listed_of m p v is =
    record { r = is.r; d = is.d; root_bytes = is.root_bytes; root = is.root; table = is.root_table; each = is.each }

clean_each : (m : Memory) (q : PolicyValue) (ts : List (List ℕ)) → IsImage m → IsClean m q → AreListed m q.rsdp ts
    → AllByRecursion IsCleanTable ts
clean_each m q ts image clean are =
    let readable : AreReadable ts = clean_readable m q are.r are.d are.root_bytes ts clean are.root are.table
    are.each in
    each_is IsCleanTable ts (λ k below.
    let a = get_or (listed_addresses are.root_bytes are.d) k 0 in
    let t = get_or ts k [] in
    let at = zip_at (IsCompleteAt m) (listed_addresses are.root_bytes are.d) ts k are.each below in
    record {
      table = record {
        least = present_least m a t at;
        size = present_size m a t at;
        zero_sum = (readable k [] below).zero_sum;
      };
      bytes = present_bytes m a t image at;
      small = present_small m a t image at;
    })

pub clean_tables : (m : Memory) (q : PolicyValue) (ts : List (List ℕ)) → IsImage m → IsClean m q → AreListed m q.rsdp ts
    → AreCleanTables ts
clean_tables m q ts image clean are =
    let fadt = clean stage.Fadt in
    record {
      each = clean_each m q ts image clean are;
      readable = λ kind t is. (facts kind).readable m q t clean
          (listed_first m q.rsdp ts (signature_of kind) t are (length-signature_of kind) is);
      valid = λ t is. subst IsValidFadtTable
          (one_listed m q.rsdp fadt_signature fadt.whole t fadt.fadt
          (listed_first m q.rsdp ts fadt_signature t are refl is)) fadt.valid;
    }

-- ---- the RSDP and the root

pub oemid_is_six : (m : Memory) (p : ℕ) (v : SetValue) → IsSetValue m p v → length v.oemid ≡ 6
oemid_is_six m p v is =
    let count = length-bytes_at m p 20 is.head is.head_present in
    ap length is.oemid ∙ length-take-le 6 (drop 9 is.head) (omega (arith, count, length-drop 9 is.head))

pub root_fits_head : (m : Memory) (p : ℕ) (v : SetValue) → IsImage m → IsSetValue m p v → FitsHead v.root
root_fits_head m p v image is =
    let at : IsCompleteAt m is.r is.root_bytes = (is.root_table.header, is.root_table.table) in
    subst FitsHead (sym is.root_head)
    (fits_head is.root_bytes (present_bytes m is.r is.root_bytes image at) (present_least m is.r is.root_bytes at))

-- ---- the FACS

-- all bytes of a FACS
pub record IsFacsBytes (bytes : List ℕ) : Type 0 where
  pub signed : has_signature bytes facs_signature ≡ true
  pub size : length_of bytes ≡ length bytes
  pub least : 64 ≤ length bytes

pub facs_bytes : (m : Memory) (f : ℕ) (bytes : List ℕ) → IsFacs m f bytes → IsFacsBytes bytes
facs_bytes m f bytes is =
    record {
      signed = sym (signed_front bytes facs_signature 8 (omega arith))
          ∙ ap (λ (h : List ℕ). has_signature h facs_signature) (sym (header_is is.frame (omega arith))) ∙ is.signed;
      size = says_length is.frame (omega arith) (omega arith);
      least = omega (arith, length_frame is.frame, is.frame.least);
    }

-- a FACS has bytes, since it has at least 64
facs_of : (m : Memory) (fadt : List ℕ) (facs : Option (List ℕ)) → IsFacsOf m fadt facs
    → All (λ bytes. 0 < length bytes) (option_list facs)
facs_of m fadt None is = All-nil (λ (bytes : List ℕ). 0 < length bytes)
facs_of m fadt (Some bytes) is =
    All-cons (λ (b : List ℕ). 0 < length b) bytes []
    (omega (arith, length_frame is.1.frame, is.1.frame.least))
    (All-nil (λ (b : List ℕ). 0 < length b))

pub facs_some : (m : Memory) (q : PolicyValue) (v : SetValue) → IsClean m q → IsSetValue m q.rsdp v
    → All (λ bytes. 0 < length bytes) (option_list v.facs)
facs_some m q v clean said =
    let fadt = clean stage.Fadt in
    facs_of m fadt.whole v.facs (said.facs fadt.whole fadt.fadt)

one_list : (m : Memory) (xs : List ℕ) (ts us : List (List ℕ)) → AllZip (IsCompleteAt m) xs ts
    → AllZip (IsCompleteAt m) xs us
    → ts ≡ us
one_list m [] [] [] a b = refl
one_list m [] [] (u ∷ us) a b = absurd b
one_list m [] (t ∷ ts) us a b = absurd a
one_list m (x ∷ xs) [] us a b = absurd a
one_list m (x ∷ xs) (t ∷ ts) [] a b = absurd b
one_list m (x ∷ xs) (t ∷ ts) (u ∷ us) a b =
    let same = one_frame a.0.1 b.0.1 in
    let rest = one_list m xs ts us a.1 b.1 in
    λ i. same i ∷ rest i

one_facs : (m : Memory) (fadt : List ℕ) (f g : Option (List ℕ)) → IsFacsOf m fadt f → IsFacsOf m fadt g → f ≡ g
one_facs m fadt None None a b = refl
one_facs m fadt None (Some y) a b = absurd (b.0 a)
one_facs m fadt (Some x) None a b = absurd (a.0 b)
one_facs m fadt (Some x) (Some y) a b = ap Some (one_frame a.1.frame b.1.frame)

pub one_value : (m : Memory) (p : ℕ) (v w : SetValue) (fadt : List ℕ) → IsFadt m p fadt → IsSetValue m p v
    → IsSetValue m p w → v ≡ w
one_value m p v w fadt there a b =
    let head : a.head ≡ b.head = same_value a.head b.head a.head_present b.head_present in
    let oemid : v.oemid ≡ w.oemid = a.oemid ∙ ap (λ (h : List ℕ). take 6 (drop 9 h)) head ∙ sym b.oemid in
    let root = one_root m p a.r a.d b.r b.d a.root b.root in
    let bytes : a.root_bytes ≡ b.root_bytes = one_root_table a.root_bytes b.root_bytes a.root b.root a.root_table
    b.root_table in
    let root_head : v.root ≡ w.root = a.root_head ∙ ap head_of bytes ∙ sym b.root_head in
    let lists : listed_addresses a.root_bytes a.d ≡ listed_addresses b.root_bytes b.d =
    λ i. listed_addresses (bytes i) (root.1 i) in
    let each = subst (λ (xs : List ℕ). AllZip (IsCompleteAt m) xs a.tables) lists a.each in
    let tables : v.tables ≡ w.tables = a.values ∙ ap values_of
    (one_list m (listed_addresses b.root_bytes b.d) a.tables b.tables each b.each) ∙ sym b.values in
    let facs : v.facs ≡ w.facs = one_facs m fadt v.facs w.facs (a.facs fadt there) (b.facs fadt there) in
    λ i. record { oemid = oemid i; root = root_head i; tables = tables i; facs = facs i }

pub value_is_one : OneSetValue
value_is_one m q v w clean a b = one_value m q.rsdp v w (clean stage.Fadt).whole (clean stage.Fadt).fadt a b
