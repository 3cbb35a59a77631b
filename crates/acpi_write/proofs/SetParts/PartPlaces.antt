-- The parts of a clean set's value have the lengths from which their addresses are computed.
use Rattle.std.proofs.Common.{◌≡◌, ℕ, suc, ◌+◌, ◌*◌, ◌<◌, ◌≤◌, List, [], ◌∷◌, ◌++◌, length, get_or, take, drop, map, flat_map, Option, refl, sym, ap, ◌∙◌, subst, arith, append_assoc, append-nil, length-append, length-drop}
use Rattle.std.specs.Prelude.{slice_index}
use Rattle.std.specs.List.{All, AllZip}
use Rattle.std.proofs.lemmas.List.{length-map, length-take-le, map-append}
use Rattle.std.proofs.lemmas.List.Elements.{All-nil, All-cons}
use Rattle.acpi_base.specs.Memory.{Memory}
use Rattle.acpi_base.specs.Number.{number_bytes}
use Rattle.acpi_base.specs.Signature.{xsdt_signature}
use Rattle.acpi_base.specs.Tables.{IsTable}
use Rattle.acpi_base.proofs.Images.PresentBytes.{length-bytes_at}
use Rattle.acpi_base.proofs.Layouts.RoundTrip.{length-number_bytes}
use Rattle.acpi_base.proofs.Frames.{length_frame}
use Rattle.acpi_write.specs.Encoded.{table_bytes, encoded_length, encoded_bytes_with}
use Rattle.acpi_write.specs.Kinds.{IsKindBehind}
use Rattle.acpi_write.specs.Rebuilt.{aligned_address, blocks_from, block_places, option_list, part_lengths, part_places, part_bytes, facs_place, table_places, rsdp_bytes, CleanPartsAreLaid}
use Rattle.acpi_write.specs.SetValues.{IsCompleteAt, table_value_behind, values_behind}
use Rattle.acpi_write.specs.Values.{TableValue, SetValue}
use Rattle.acpi_base.specs.declared.table_kind.TableKind.{TableKind}
use Rattle.acpi_write.specs.Bodies.{IsReadableAs}
use Rattle.acpi_write.proofs.OldSets.CleanSets.{clean_readable}
use Rattle.acpi_write.proofs.NewSets.NewImage.{length-block_places}
use Rattle.acpi_write.proofs.NewSets.NewRoot.{length-slots}
use Rattle.acpi_write.proofs.OldSets.LaterValues.{kind_found}
use Rattle.acpi_write.proofs.TablesWritten.KeptContents.{length-encoded_bytes_with}
use Rattle.acpi_write.proofs.TablesWritten.CompleteTables.{HasWidths, widths_of, length-table_bytes}

laid_at_places : (a : ℕ) (blocks : List (List ℕ))
    → map (λ p. p.address) (blocks_from a blocks) ≡ block_places a (map length blocks)
unfolding blocks_from block_places
laid_at_places a [] = refl
laid_at_places a (b ∷ bs) = ap (λ (xs : List ℕ). a ∷ xs) (laid_at_places (aligned_address (a + length b)) bs)

-- ---- tables

-- the lengths of tables after others
lengths_behind : (facs : ℕ) (before ts : List (List ℕ)) → All (λ t. 36 ≤ length t) ts
    → ((k : ℕ) (none : List ℕ) → k < length ts → (kind : Option TableKind)
    → IsKindBehind (before ++ take k ts) (get_or ts k none) kind → IsReadableAs kind (get_or ts k none))
    → map length (map (encoded_bytes_with facs) (values_behind before ts)) ≡ map encoded_length
    (values_behind before ts)
unfolding values_behind
lengths_behind facs before [] long readable = refl
lengths_behind facs before (t ∷ ts) long readable =
    let Fits : TableValue → Type 0 = λ v. length (encoded_bytes_with facs v) ≡ encoded_length v in
    let alone : before ++ [] ≡ before = append-nil before in
    let found = kind_found before t in
    let first = readable 0 t (omega arith) found.0
    (subst (λ (b : List (List ℕ)). IsKindBehind b t found.0) (sym alone) found.1) in
    let here : Fits (table_value_behind before t) = subst Fits (sym found.2)
    (length-encoded_bytes_with facs found.0 t (long 0 t (omega arith)) first) in
    let rest = lengths_behind facs (before ++ t ∷ []) ts (λ k d h. long (suc k) d (omega (arith, h)))
    (λ k none h kind is.
    readable (suc k) none (omega (arith, h)) kind
    (subst (λ (b : List (List ℕ)). IsKindBehind b (get_or ts k none) kind)
    (append_assoc before (t ∷ []) (take k ts)) is)) in
    λ i. here i ∷ rest i

table_long : (m : Memory) (a : ℕ) (header whole : List ℕ) → IsTable m a header whole → 36 ≤ length whole
table_long m a header whole table =
    let count = length_frame table in
    let least = table.least in
    omega (arith, count, least)

all_long : (m : Memory) (xs : List ℕ) (ts : List (List ℕ)) → AllZip (IsCompleteAt m) xs ts → All (λ t. 36 ≤ length t) ts
all_long m [] [] zip = All-nil (λ t. 36 ≤ length t)
all_long m [] (t ∷ ts) zip = absurd zip
all_long m (x ∷ xs) [] zip = absurd zip
all_long m (x ∷ xs) (t ∷ ts) zip =
    All-cons (λ t. 36 ≤ length t) t ts (table_long m x zip.0.0 t zip.0.1) (all_long m xs ts zip.1)

-- ---- the RSDP and the XSDT

length-rsdp_bytes : (oemid : List ℕ) (xsdt : ℕ) → length oemid ≡ 6 → length (rsdp_bytes oemid xsdt) ≡ 36
unfolding rsdp_bytes
length-rsdp_bytes oemid xsdt six = simp (length-append, length-number_bytes, six) (omega arith)

length-table_places : (v : SetValue) (base : ℕ) → length (table_places v base) ≡ length v.tables
length-table_places v base =
    let facs = map length (option_list v.facs) in
    let tables = map encoded_length v.tables in
    let all = length-block_places base (part_lengths v) in
    omega (
      arith,
      all,
      length-drop (2 + length (option_list v.facs)) (part_places v base),
      length-append facs tables,
      length-map (option_list v.facs) length,
      length-map v.tables encoded_length,
    )

pub clean_parts_are_laid : CleanPartsAreLaid
clean_parts_are_laid m q v base clean said =
    let facs = facs_place v base in
    let readable = clean_readable m q said.r said.d said.root_bytes said.tables clean said.root said.root_table
    said.each in
    let tables : map length (map (encoded_bytes_with facs) v.tables) ≡ map encoded_length v.tables =
    subst (λ ts. map length (map (encoded_bytes_with facs) ts) ≡ map encoded_length ts) (sym said.values)
    (lengths_behind facs [] said.tables (all_long m _ said.tables said.each)
    (λ k none h. (readable k none h).readable)) in
    let behind = map-append length (option_list v.facs) (map (encoded_bytes_with facs) v.tables)
    ∙ ap (λ (ns : List ℕ). map length (option_list v.facs) ++ ns) tables in
    let count = length-bytes_at m q.rsdp 20 said.head said.head_present in
    let six : length v.oemid ≡ 6 = ap length said.oemid ∙ length-take-le 6 (drop 9 said.head)
    (omega (arith, count, length-drop 9 said.head)) in
    let rsdp : length (rsdp_bytes v.oemid (slice_index (part_places v base) 1)) ≡ 36 =
    length-rsdp_bytes v.oemid (slice_index (part_places v base) 1) six in
    let long = table_long m said.r said.root_table.header said.root_bytes said.root_table.table in
    let slots = flat_map (number_bytes 8) (table_places v base) in
    let widths = subst HasWidths (sym said.root_head) (widths_of said.root_bytes long) in
    let xsdt : length (table_bytes xsdt_signature v.root slots) ≡ 36 + 8 * length v.tables =
    length-table_bytes xsdt_signature v.root slots refl widths
    ∙ omega (arith, length-slots (table_places v base), length-table_places v base) in
    let lengths : map length (part_bytes v base) ≡ part_lengths v = λ i. rsdp i ∷ xsdt i ∷ behind i in
    record { lengths = lengths; places = laid_at_places base (part_bytes v base) ∙ ap (block_places base) lengths }
