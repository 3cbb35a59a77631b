-- The addresses of the parts of a rebuilt image.
use Rattle.std.proofs.Common.{◌≡◌, ℕ, suc, ◌+◌, ◌%◌, ◌^◌, ◌<◌, ◌≤◌, List, [], ◌∷◌, ◌++◌, length, get_or, drop, map, Option, Some, None, refl, subst, arith}
use Rattle.std.specs.List.{AllByRecursion, AllZip}
use Rattle.acpi_base.specs.Memory.{Memory}
use Rattle.acpi_write.specs.Encoded.{encoded_length, encoded_bytes_with}
use Rattle.acpi_write.specs.Placed.{block_ends, DoEndInside, IsPlaced}
use Rattle.acpi_write.specs.Rebuilt.{aligned_address, blocks_from, block_places, option_list, place_of_facs, part_lengths, part_places, part_bytes, facs_place, table_places, xsdt_length, rebuilt_image, HoldsBlock}
use Rattle.acpi_write.specs.Values.{SetValue}
use Rattle.acpi_write.proofs.NewSets.NewImage.{Holds, aligned_from, parts_are_present}

-- ---- blocks at their addresses

laid_stand : (m : Memory) (a : ℕ) (blocks : List (List ℕ)) → AllByRecursion (HoldsBlock m) (blocks_from a blocks)
    → AllZip (Holds m) (block_places a (map length blocks)) blocks
unfolding blocks_from block_places
laid_stand m a [] present = tt
laid_stand m a (b ∷ bs) present = (present.0, laid_stand m (aligned_address (a + length b)) bs present.1)

zip_behind : (R : ℕ → List ℕ → Type 0) (xs : List ℕ) (front back : List (List ℕ)) → AllZip R xs (front ++ back)
    → AllZip R (drop (length front) xs) back
zip_behind R xs [] back zip = zip
zip_behind R [] (y ∷ ys) back zip = absurd zip
zip_behind R (x ∷ xs) (y ∷ ys) back zip = zip_behind R xs ys back zip.1

pub parts_stand : (v : SetValue) (base : ℕ) → map length (part_bytes v base) ≡ part_lengths v
    → AllZip (Holds (rebuilt_image v base)) (part_places v base) (part_bytes v base)
parts_stand v base lengths =
    subst (λ (ns : List ℕ). AllZip (Holds (rebuilt_image v base)) (block_places base ns) (part_bytes v base)) lengths
    (laid_stand (rebuilt_image v base) base (part_bytes v base) (parts_are_present v base))

-- ---- the tables

pub tables_stand : (v : SetValue) (base : ℕ)
    → AllZip (Holds (rebuilt_image v base)) (part_places v base) (part_bytes v base)
    → AllZip (Holds (rebuilt_image v base)) (table_places v base)
    (map (encoded_bytes_with (facs_place v base)) v.tables)
unfolding block_places
tables_stand v base parts =
    let two : suc (suc (length (option_list v.facs))) ≡ 2 + length (option_list v.facs) = omega arith in
    let blocks = map (encoded_bytes_with (facs_place v base)) v.tables in
    subst (λ (k : ℕ). AllZip (Holds (rebuilt_image v base)) (drop k (part_places v base)) blocks) two
    (zip_behind (Holds (rebuilt_image v base)) _ (option_list v.facs) blocks parts.1.1)

-- ---- the FACS

-- the address of the FACS, if there is one, or no address
pub record IsFacsPlace (m : Memory) (bytes : List ℕ) (f : ℕ) : Type 0 where
  pub stands : Holds m f bytes
  pub aligned : f % 64 ≡ 0
  pub above : 0 < f
  pub inside : f + length bytes ≤ 2 ^ 64

abbrev pub HasFacsPlace : Memory → Option (List ℕ) → ℕ → Type 0
HasFacsPlace m None f = f ≡ 0
HasFacsPlace m (Some bytes) f = IsFacsPlace m bytes f

facs_behind : (m : Memory) (facs : Option (List ℕ)) (a : ℕ) (ns : List ℕ) (blocks : List (List ℕ)) → a % 64 ≡ 0 → 0 < a
    → DoEndInside (block_ends a (map length (option_list facs) ++ ns))
    → AllZip (Holds m) (block_places a (map length (option_list facs) ++ ns)) (option_list facs ++ blocks)
    → HasFacsPlace m facs (place_of_facs facs (get_or (block_places a (map length (option_list facs) ++ ns)) 0 0))
unfolding block_places block_ends
facs_behind m None a ns blocks multiple above inside stand = refl
facs_behind m (Some bytes) a ns blocks multiple above inside stand =
    record { stands = stand.0; aligned = multiple; above = above; inside = inside.0 }

multiple : (a : ℕ) → aligned_address a % 64 ≡ 0
unfolding aligned_address
multiple a = omega arith

pub facs_stands : (v : SetValue) (base : ℕ) → IsPlaced v base
    → AllZip (Holds (rebuilt_image v base)) (part_places v base) (part_bytes v base)
    → HasFacsPlace (rebuilt_image v base) v.facs (facs_place v base)
unfolding block_places block_ends
facs_stands v base placed parts =
    let xsdt = aligned_address (base + 36) in
    let from = aligned_from (base + 36) in
    let past = aligned_from (xsdt + xsdt_length v) in
    facs_behind (rebuilt_image v base) v.facs (aligned_address (xsdt + xsdt_length v)) (map encoded_length v.tables)
    (map (encoded_bytes_with (facs_place v base)) v.tables) (multiple (xsdt + xsdt_length v))
    (omega (arith, from, past)) placed.inside.1.1 parts.1.1
