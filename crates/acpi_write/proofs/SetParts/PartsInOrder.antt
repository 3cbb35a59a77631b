-- The parts of a set, put into an image one after another.
use Rattle.std.proofs.Common.{◌≡◌, ℕ, zero, suc, ◌+◌, ◌*◌, ◌^◌, ◌<◌, ◌≤◌, List, [], ◌∷◌, ◌++◌, length, get_or, drop, map, flat_map, Bool, true, Option, Some, None, refl, sym, ap, ◌∙◌, subst, inr, arith, length-append}
use Rattle.std.specs.List.{list_any}
use Rattle.std.specs.Option.{option_map}
use Rattle.std.specs.Prelude.{◌||◌, Result, Ok, Err, IfOk}
use Rattle.std.specs.FinMap.{empty, get-empty}
use Rattle.std.specs.Ordering.{nat_cmp}
use Rattle.std.proofs.lemmas.List.{length-map, drop_more, drop_all}
use Rattle.std.proofs.lemmas.List.Folds.{list_any_at}
use Rattle.std.proofs.lemmas.Bool.{le-ltb}
use Rattle.acpi_base.specs.Header.{HeadValue}
use Rattle.acpi_base.specs.Memory.{Memory, with_bytes, byte_of, first_present}
use Rattle.acpi_base.specs.Number.{number_bytes}
use Rattle.acpi_base.specs.Signature.{xsdt_signature}
use Rattle.acpi_base.proofs.Images.RunBytes.{byte_of-with_bytes_outside}
use Rattle.acpi_base.specs.Image.Adding.{add_refusal}
use Rattle.acpi_base.specs.Listed.{fadt_signature}
use Rattle.acpi_base.specs.declared.image.ImageFault.TheVariants.{Twice}
use Rattle.acpi_base.proofs.Images.ByteRuns.{first_of_none}
use Rattle.acpi_write.specs.Encoded.{FitsHead, encoded_bytes_with, encoded_length, table_bytes, encoded_bytes}
use Rattle.acpi_write.specs.Placed.{block_ends, DoEndInside, IsPlaced, is_narrow}
use Rattle.acpi_write.specs.Rebuilt.{aligned_address, blocks_from, block_places, facs_place, option_list, part_bytes, part_lengths, part_places, place_of_facs, rsdp_tail, with_blocks, rebuilt_image}
use Rattle.acpi_write.specs.SetWriting.{EndsBelow, parts_at, IsPart}
use Rattle.acpi_write.specs.Values as value
use Rattle.acpi_write.specs.Views.{set_value, table_value}
use Rattle.acpi_write.specs.declared.set_value.SetValue.{SetValue}
use Rattle.acpi_write.specs.declared.table_value.TableValue.{TableValue}
use Rattle.acpi_write.specs.FadtBody.{with_facs}
use Rattle.acpi_write.specs.declared.table_value.TableValue as written
use Rattle.acpi_write.specs.declared.table_value.TableValue.TheVariants as table
use Rattle.acpi_write.proofs.NewSets.NewImage.{length-block_places, aligned_from}
use Rattle.acpi_write.proofs.NewSets.NewRoot.{length-slots}
use Rattle.acpi_write.proofs.TablesWritten.CompleteTables.{complete_table, length_of_parts}
use Rattle.acpi_write.proofs.TablesWritten.FadtBodies.{length-with_facs}

-- ---- tables

pub IfOk-both : {T E : Type 0} (r : Result T E) (P Q : T → Type 0) → IfOk r P → IfOk r Q → IfOk r (λ x. P x × Q x)
IfOk-both (Ok x) P Q p q = (p, q)
IfOk-both (Err e) P Q p q = tt

pub fadt_count : (head : HeadValue) (body : List ℕ) (facs : ℕ) → 80 ≤ length body → 36 + length body < 2 ^ 32
    → FitsHead head → length (table_bytes fadt_signature head (with_facs body facs)) ≡ 36 + length body
fadt_count head body facs long short fits =
    let same = length-with_facs body facs (omega (arith, long)) in
    let is = complete_table fadt_signature head (with_facs body facs) refl fits (omega (arith, same, short)) in
    length_of_parts (table_bytes fadt_signature head (with_facs body facs)) (with_facs body facs) is.0.least is.1
    ∙ ap (λ (n : ℕ). 36 + n) same

pub encoded_without : (facs : ℕ) (t : written.TableValue) → ((head : _) (body : _) → t ≡ table.Fadt head body → ⊥)
    → encoded_bytes_with facs (table_value t) ≡ encoded_bytes (table_value t)
encoded_without facs (table.Fadt head body) not = absurd (not head body refl)
encoded_without facs _ not = refl

-- ---- room after everything that the image has

pub never_refused : (m : Memory) (a : ℕ) (bytes : List ℕ) → EndsBelow m a → a + length bytes ≤ 2 ^ 64
    → add_refusal m a bytes ≡ None
never_refused m a bytes below fits =
    let nothing : first_present m a (length bytes) ≡ None = first_of_none (byte_of m) a (length bytes)
    (λ k h. below (a + k) (omega arith)) in
    rw (le-ltb (2 ^ 64) (a + length bytes) fits) (ap (option_map (λ x. Twice x)) nothing)

-- ---- how many bytes the first parts have

pub rsdp_count : (head : List ℕ) (xsdt checksum : ℕ) → length head ≡ 20 → length (head ++ rsdp_tail xsdt checksum) ≡ 36
unfolding number_bytes
rsdp_count head xsdt checksum h = omega (arith, h, length-append head (rsdp_tail xsdt checksum))

pub xsdt_count : (head : HeadValue) (xs : List ℕ) → FitsHead head → 36 + 8 * length xs < 2 ^ 32
    → length (table_bytes xsdt_signature head (flat_map (number_bytes 8) xs)) ≡ 36 + 8 * length xs
xsdt_count head xs fits short =
    let slots = flat_map (number_bytes 8) xs in
    let behind = length-slots xs in
    let table = complete_table xsdt_signature head slots refl fits (omega (arith, behind, short)) in
    length_of_parts (table_bytes xsdt_signature head slots) slots table.0.least table.1 ∙ ap (λ (n : ℕ). 36 + n) behind

-- ---- how many parts there are

pub part_count : (v : value.SetValue) → length (part_lengths v) ≡ 2 + length (option_list v.facs) + length v.tables
part_count v =
    let behind = length-append (map length (option_list v.facs)) (map encoded_length v.tables) in
    omega (arith, behind, length-map v.tables encoded_length, length-map (option_list v.facs) length)

pub table_count : (v : SetValue) (facs : Option (List ℕ)) → option_map (λ b. b.now) v.facs ≡ facs
    → length (part_lengths (set_value v)) ≡ 2 + length (option_list facs) + length v.tables.items
table_count v facs named =
    part_count (set_value v) ∙ (λ i. 2 + length (option_list (named i)) + length-map v.tables.items table_value i)

pub place_count : (v : value.SetValue) (base : ℕ) (found : List ℕ) → found ≡ part_places v base
    → length found ≡ length (part_lengths v)
place_count v base found is = ap length is ∙ length-block_places base (part_lengths v)

block_count : (v : value.SetValue) (base : ℕ) → length (part_bytes v base) ≡ length (part_lengths v)
block_count v base =
    let behind = length-append (option_list v.facs) (map (encoded_bytes_with (facs_place v base)) v.tables) in
    omega (arith, part_count v, behind, length-map v.tables (encoded_bytes_with (facs_place v base)))

pub first_place : (v : value.SetValue) (base : ℕ) (found : List ℕ) → found ≡ part_places v base
    → get_or found 0 0 ≡ base
unfolding block_places
first_place v base found is = ap (λ (xs : List ℕ). get_or xs 0 0) is

-- ---- a part among the others

mapped_at : {X Y Z : Type 0} (f : Y → Z) (g : X → Y) (xs : List X) (k : ℕ) (x : X) (d : Z) → k < length xs
    → x ≡ get_or xs k x → get_or (map f (map g xs)) k d ≡ f (g x)
mapped_at f g [] k x d below is = absurd (omega arith)
mapped_at f g (y ∷ ys) zero x d below is = ap (λ z. f (g z)) (sym is)
mapped_at f g (y ∷ ys) (suc k) x d below is = mapped_at f g ys k x d (omega arith) is

-- the bytes are those of a part after the RSDP and the XSDT, if the third part is at this address
abbrev pub IsBehindRoots : Option (List ℕ) → ℕ → List TableValue → ℕ → List ℕ → Type 0
IsBehindRoots facs place ts j bytes =
    (bytes ≡ get_or (option_list facs ++ map (encoded_bytes_with (place_of_facs facs place)) (map table_value ts)) j [])
    × (length bytes ≡ get_or (map length (option_list facs) ++ map encoded_length (map table_value ts)) j 0)

-- a table if there is no FACS
pub table_alone : (place : ℕ) (ts : List TableValue) (j : ℕ) (t : TableValue) (bytes : List ℕ) → j < length ts
    → t ≡ get_or ts j t
    → (bytes ≡ encoded_bytes_with 0 (table_value t)) × (length bytes ≡ encoded_length (table_value t))
    → IsBehindRoots None place ts j bytes
table_alone place ts j t bytes below is (same, count) = (
  same ∙ sym (mapped_at (encoded_bytes_with 0) table_value ts j t [] below is),
  count ∙ sym (mapped_at encoded_length table_value ts j t 0 below is),
)

-- and after a FACS
pub table_behind : (facs : List ℕ) (place : ℕ) (ts : List TableValue) (j : ℕ) (t : TableValue) (bytes : List ℕ)
    → j < length ts → t ≡ get_or ts j t
    → (bytes ≡ encoded_bytes_with place (table_value t)) × (length bytes ≡ encoded_length (table_value t))
    → IsBehindRoots (Some facs) place ts (suc j) bytes
table_behind facs place ts j t bytes below is (same, count) = (
  same ∙ sym (mapped_at (encoded_bytes_with place) table_value ts j t [] below is),
  count ∙ sym (mapped_at encoded_length table_value ts j t 0 below is),
)

pub behind_roots : (v : SetValue) (places : List ℕ) (k j : ℕ) (facs : Option (List ℕ)) (bytes : List ℕ)
    → option_map (λ b. b.now) v.facs ≡ facs → k ≡ suc (suc j)
    → IsBehindRoots facs (get_or places 2 0) v.tables.items j bytes → IsPart (set_value v) places k bytes
behind_roots v places k j facs bytes named index is =
    let here = subst (λ (f : Option (List ℕ)). IsBehindRoots f (get_or places 2 0) v.tables.items j bytes) (sym named)
    is in
    record {
      are = here.0 ∙ ap (λ (i : ℕ). get_or (parts_at (set_value v) places) i []) (sym index);
      count = here.1 ∙ ap (λ (i : ℕ). get_or (part_lengths (set_value v)) i 0) (sym index);
    }

-- ---- the parts so far

-- the image has the first k parts; those to come have their addresses after everything that it has, and none passes the
-- last address
pub record IsPartialSet (m : Memory) (found : List ℕ) (v : value.SetValue) (base k : ℕ) : Type 0 where
  pub a : ℕ
  pub behind : EndsBelow m a
  pub placed : drop k found ≡ block_places a (drop k (part_lengths v))
  pub inside : DoEndInside (block_ends a (drop k (part_lengths v)))
  pub image : with_blocks m (blocks_from a (drop k (part_bytes v base))) ≡ rebuilt_image v base

pub none_so_far : (v : value.SetValue) (base : ℕ) (m : Memory) (found : List ℕ) → IsPlaced v base
    → found ≡ part_places v base → m ≡ empty → IsPartialSet m found v base 0
unfolding rebuilt_image
none_so_far v base m found placed is new =
    subst (λ (x : Memory). IsPartialSet x found v base 0) (sym new)
    (record { a = base; behind = λ x past. get-empty nat_cmp x; placed = is; inside = placed.inside; image = refl })

-- the next part goes after everything that the image has, and then it is one of those so far
pub record IsNext (m : Memory) (found : List ℕ) (v : value.SetValue) (base k : ℕ) (bytes : List ℕ) : Type 0 where
  pub behind : EndsBelow m (get_or found k 0)
  pub fits : get_or found k 0 + length bytes ≤ 2 ^ 64
  pub further : (new : Memory) → new ≡ with_bytes m (get_or found k 0) bytes → IsPartialSet new found v base (k + 1)

pub next_part : (m : Memory) (found : List ℕ) (v : value.SetValue) (base k : ℕ) (bytes : List ℕ)
    → found ≡ part_places v base → k < length found → IsPart v found k bytes → IsPartialSet m found v base k
    → IsNext m found v base k bytes
unfolding block_places block_ends with_blocks blocks_from
next_part m found v base k bytes is below part so_far =
    let a = so_far.a in
    let below_lengths = place_count v base found is in
    let below_blocks = block_count v base in
    let lengths : drop k (part_lengths v) ≡ length bytes ∷ drop (k + 1) (part_lengths v) =
    drop_more (part_lengths v) k 0 (omega (arith, below, below_lengths))
    ∙ ap (λ (n : ℕ). n ∷ drop (k + 1) (part_lengths v)) (sym part.count) in
    let blocks : drop k (part_bytes v base) ≡ bytes ∷ drop (k + 1) (part_bytes v base) =
    drop_more (part_bytes v base) k [] (omega (arith, below, below_lengths, below_blocks))
    ∙ ap (λ (b : List ℕ). b ∷ drop (k + 1) (part_bytes v base))
    (sym (part.are ∙ ap (λ (places : List ℕ). get_or (parts_at v places) k []) is)) in
    let places : get_or found k 0 ∷ drop (k + 1) found ≡ block_places a (length bytes ∷ drop (k + 1) (part_lengths v)) =
    sym (drop_more found k 0 below) ∙ so_far.placed ∙ ap (block_places a) lengths in
    let place : get_or found k 0 ≡ a = ap (λ (xs : List ℕ). get_or xs 0 0) places in
    let inside = subst (λ (ns : List ℕ). DoEndInside (block_ends a ns)) lengths so_far.inside in
    let fits = inside.0 in
    let from = aligned_from (a + length bytes) in
    record {
      behind = subst (EndsBelow m) (sym place) so_far.behind;
      fits = omega (arith, place, fits);
      further = λ new put.
          subst (λ (x : Memory). IsPartialSet x found v base (k + 1))
          (sym (put ∙ ap (λ (x : ℕ). with_bytes m x bytes) place))
          (record {
            a = aligned_address (a + length bytes);
            behind = λ x past. byte_of-with_bytes_outside m a bytes x (inr (omega (arith, from, past)))
                ∙ so_far.behind x (omega (arith, from, past));
            placed = ap (drop 1) places;
            inside = inside.1;
            image = ap (λ (bs : List (List ℕ)). with_blocks m (blocks_from a bs)) (sym blocks) ∙ so_far.image;
          });
    }

pub all_put : (m : Memory) (found : List ℕ) (v : value.SetValue) (base k : ℕ) → found ≡ part_places v base
    → length found ≤ k → IsPartialSet m found v base k → m ≡ rebuilt_image v base
unfolding with_blocks blocks_from
all_put m found v base k is past so_far =
    let none = drop_all k (part_bytes v base) (omega (arith, past, place_count v base found is, block_count v base)) in
    ap (λ (bs : List (List ℕ)). with_blocks m (blocks_from so_far.a bs)) (sym none) ∙ so_far.image

-- ---- the FADT's room for the FACS's address

any_mapped : (tables : List TableValue)
    → list_any (λ t. is_narrow (table_value t)) tables ≡ list_any is_narrow (map table_value tables)
any_mapped [] = refl
any_mapped (t ∷ ts) = ap (λ (b : Bool). is_narrow (table_value t) || b) (any_mapped ts)

pub narrow_there : (tables : List TableValue) (k : ℕ) (d : TableValue) → k < length tables
    → is_narrow (table_value (get_or tables k d)) ≡ true → list_any is_narrow (map table_value tables) ≡ true
narrow_there tables k d below is =
    sym (any_mapped tables) ∙ list_any_at (λ t. is_narrow (table_value t)) tables k d below is
