-- The addresses and the lengths of a set's parts.
use Rattle.std.proofs.Common.{◌≡◌, ℕ, zero, suc, ◌+◌, ◌*◌, ◌<◌, ◌≤◌, List, [], ◌∷◌, ◌++◌, length, get_or, drop, map, Option, Some, None, true, false, refl, sym, ap, ◌∙◌, arith, ◌/◌, ◌^◌, subst}
use Rattle.std.specs.List.{All, list_any}
use Rattle.std.specs.Option.{option_map}
use Rattle.std.specs.Prelude.{is_some, slice_index, ◌||◌}
use Rattle.std.proofs.lemmas.List.{drop_more, drop_all, length-map}
use Rattle.std.proofs.lemmas.List.Elements.{All-append, All-map}
use Rattle.std.proofs.lemmas.Simd.{map-map}
use Rattle.acpi_write.specs.Encoded.{encoded_length}
use Rattle.acpi_write.specs.Placed.{is_narrow, block_ends, DoEndInside}
use Rattle.acpi_write.specs.Rebuilt.{block_places, option_list, place_of_facs, part_lengths, part_places, facs_place, aligned_address}
use Rattle.acpi_write.specs.Values as value
use Rattle.acpi_write.specs.Views.{set_value, table_value}
use Rattle.acpi_write.specs.declared.set_value.SetValue.{SetValue}
use Rattle.acpi_write.specs.declared.table_value.TableValue.{TableValue}

next_length : (ns : List ℕ) (i n : ℕ) → i < length ns → n ≡ get_or ns i 0 → drop i ns ≡ n ∷ drop (i + 1) ns
next_length ns i n h e = drop_more ns i 0 h ∙ ap (λ (x : ℕ). x ∷ drop (i + 1) ns) (sym e)

pub next_place : (a : ℕ) (ns : List ℕ) (i n : ℕ) → i < length ns → n ≡ get_or ns i 0
    → block_places a (drop i ns) ≡ a ∷ block_places ((a + n + 63) / 64 * 64) (drop (i + 1) ns)
unfolding block_places aligned_address
next_place a ns i n h e = ap (block_places a) (next_length ns i n h e)

pub next_inside : (a : ℕ) (ns : List ℕ) (i n : ℕ) → i < length ns → n ≡ get_or ns i 0
    → DoEndInside (block_ends a (drop i ns)) → (a + n ≤ 2 ^ 64)
    × DoEndInside (block_ends ((a + n + 63) / 64 * 64) (drop (i + 1) ns))
unfolding block_ends aligned_address
next_inside a ns i n h e all = subst (λ (xs : List ℕ). DoEndInside (block_ends a xs)) (next_length ns i n h e) all

pub inside_before : (a : ℕ) (ns : List ℕ) (i n : ℕ) → i < length ns → n ≡ get_or ns i 0 → a + n ≤ 2 ^ 64
    → DoEndInside (block_ends ((a + n + 63) / 64 * 64) (drop (i + 1) ns)) → DoEndInside (block_ends a (drop i ns))
unfolding block_ends aligned_address
inside_before a ns i n h e fits all =
    subst (λ (xs : List ℕ). DoEndInside (block_ends a xs)) (sym (next_length ns i n h e)) (fits, all)

pub no_places : (a : ℕ) (ns : List ℕ) (i : ℕ) → length ns ≤ i → block_places a (drop i ns) ≡ []
unfolding block_places
no_places a ns i h = ap (block_places a) (drop_all i ns h)

pub none_inside : (a : ℕ) (ns : List ℕ) (i : ℕ) → length ns ≤ i → DoEndInside (block_ends a (drop i ns))
unfolding block_ends
none_inside a ns i h = subst (λ (xs : List ℕ). DoEndInside (block_ends a xs)) (sym (drop_all i ns h)) tt

-- the lengths, as they are appended
pub lengths_are : (v : SetValue) (lengths fs : List ℕ) → fs ≡ map length (option_list (set_value v).facs)
    → lengths ≡ (36 ∷ (36 + 8 * length v.tables.items) ∷ fs) ++ map (λ t. encoded_length (table_value t)) v.tables.items
    → lengths ≡ part_lengths (set_value v)
lengths_are v lengths fs f l =
    let count = length-map v.tables.items table_value in
    l
    ∙ ap (λ (ns : List ℕ). (36 ∷ (36 + 8 * length v.tables.items) ∷ fs) ++ ns)
    (sym (map-map encoded_length table_value v.tables.items))
    ∙ (λ i. (36 ∷ (36 + 8 * sym count i) ∷ f i) ++ map encoded_length (map table_value v.tables.items))

two_some : (x : ℕ) → All (λ n. 0 < n) (36 ∷ (36 + x) ∷ [])
two_some x zero d h = omega arith
two_some x (suc zero) d h = omega arith
two_some x (suc (suc k)) d h = absurd (omega arith)

pub parts_some : (v : value.SetValue) → All (λ bytes. 0 < length bytes) (option_list v.facs)
    → All (λ n. 0 < n) (part_lengths v)
parts_some v some =
    All-append (λ n. 0 < n) (36 ∷ (36 + 8 * length v.tables) ∷ [])
    (map length (option_list v.facs) ++ map encoded_length v.tables) (two_some (8 * length v.tables))
    (All-append (λ n. 0 < n) (map length (option_list v.facs)) (map encoded_length v.tables)
    (All-map (λ n. 0 < n) length (option_list v.facs) some)
    (All-map (λ n. 0 < n) encoded_length v.tables (λ k d h. omega arith)))

-- ---- the FACS's address

some_mapped : {X Y : Type 0} (f : X → Y) (o : Option X) → is_some o ≡ true → is_some (option_map f o) ≡ true
some_mapped f None some = some
some_mapped f (Some x) some = some

three_places : (facs : Option (List ℕ)) (a x : ℕ) (rest : List ℕ) → is_some facs ≡ true
    → 2 < length (block_places a (36 ∷ x ∷ (map length (option_list facs) ++ rest)))
unfolding block_places
three_places None a x rest some = absurd (cc)
three_places (Some bytes) a x rest some = omega arith

place_there : (facs : Option (List ℕ)) (place : ℕ) → is_some facs ≡ true → place_of_facs facs place ≡ place
place_there None place some = absurd (cc)
place_there (Some bytes) place some = refl

pub facs_is_placed : (v : SetValue) (base : ℕ) → is_some v.facs ≡ true → 2 < length (part_places (set_value v) base)
facs_is_placed v base some =
    let x = set_value v in
    three_places x.facs base (36 + 8 * length x.tables) (map encoded_length x.tables)
    (some_mapped (λ bytes. bytes.now) v.facs some)

pub facs_place_is : (v : SetValue) (base : ℕ) → is_some v.facs ≡ true
    → facs_place (set_value v) base ≡ slice_index (part_places (set_value v) base) 2
facs_place_is v base some =
    place_there (set_value v).facs (slice_index (part_places (set_value v) base) 2)
    (some_mapped (λ bytes. bytes.now) v.facs some)

pub any_default : (xs : List ℕ) (k a b : ℕ) → k < length xs → get_or xs k a ≡ get_or xs k b
any_default [] k a b h = absurd (omega arith)
any_default (x ∷ xs) zero a b h = refl
any_default (x ∷ xs) (suc k) a b h = any_default xs k a b (omega arith)

-- ---- narrow FADTs

pub narrow_next : (ts : List TableValue) (i : ℕ) (t : TableValue) → i < length ts → t ≡ get_or ts i t
    → list_any is_narrow (map table_value (drop i ts))
    ≡ (is_narrow (table_value t) || list_any is_narrow (map table_value (drop (i + 1) ts)))
narrow_next ts i t h e =
    ap (λ (xs : List TableValue). list_any is_narrow (map table_value xs))
    (drop_more ts i t h ∙ ap (λ y. y ∷ drop (i + 1) ts) (sym e))

pub narrow_none : (ts : List TableValue) (i : ℕ) → length ts ≤ i
    → list_any is_narrow (map table_value (drop i ts)) ≡ false
narrow_none ts i h = ap (λ (xs : List TableValue). list_any is_narrow (map table_value xs)) (drop_all i ts h)

pub ruleset narrow_tables = (narrow_next, narrow_none)
