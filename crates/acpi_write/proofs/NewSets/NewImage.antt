-- A rebuilt image has its parts, and leads to its tables.
use Rattle.std.proofs.Common.{◌≡◌, ℕ, zero, suc, ◌+◌, ◌^◌, ◌<◌, ◌≤◌, List, [], ◌∷◌, ◌++◌, length, get_or, take, drop, map, Option, Some, None, refl, sym, ap, ◌∙◌, subst, arith, ◌-◌, inl}
use Rattle.std.proofs.lemmas.Bool.{ne_eqb}
use Rattle.std.proofs.lemmas.List.{length-map, take-take}
use Rattle.std.specs.List.{AllByRecursion}
use Rattle.std.specs.Option.{option_or}
use Rattle.std.specs.FinMap.{empty}
use Rattle.acpi_base.specs.Memory.{Memory, byte_of, bytes_at, with_bytes}
use Rattle.acpi_base.specs.Header.{HeadValue}
use Rattle.acpi_base.specs.Rsdp.{addresses_at, extended_addresses, extended_frame, IsValidRsdp}
use Rattle.acpi_base.specs.Root.{chosen_root, IsRoot, IsValidRootTable}
use Rattle.acpi_base.specs.Signature.{has_signature, xsdt_signature}
use Rattle.acpi_base.specs.Frames.{IsFrame, frame_length}
use Rattle.acpi_base.specs.Tables.{table_frame}
use Rattle.acpi_base.specs.declared.frame.Frame.{Frame}
use Rattle.acpi_base.proofs.Images.PresentBytes.{field-take}
use Rattle.acpi_base.proofs.Images.ByteRuns.{run_of-take, run_of-from_each}
use Rattle.acpi_base.specs.Image.Runs.{run_at}
use Rattle.acpi_base.proofs.Images.RunBytes.{present_none, present_at, byte_of-with_bytes}
use Rattle.acpi_write.specs.Encoded.{encoded_length}
use Rattle.acpi_write.specs.Placed.{block_ends, DoEndInside, IsPlaced, RebuiltLeadsToTables}
use Rattle.acpi_write.specs.Rebuilt.{aligned_address, blocks_from, block_places, option_list, part_places, rsdp_bytes, table_places, xsdt_length, rebuilt_image, HoldsBlock, PlacedBlock, with_blocks, part_bytes, RebuiltHoldsParts}
use Rattle.acpi_write.specs.Values.{TableValue, SetValue}
use Rattle.acpi_write.proofs.NewSets.NewRoot.{AreAddresses, IsWrittenXsdt, xsdt_written}
use Rattle.acpi_write.proofs.TablesWritten.RsdpBytes.{IsWrittenRsdp, rsdp_written}

-- no piece begins below the end of the one before it, nor below a bound
abbrev Rising : ℕ → List PlacedBlock → Type 0
Rising bound [] = Unit {0}
Rising bound (p ∷ ps) = (bound ≤ p.address) × Rising (p.address + length p.bytes) ps

below_stays : (m : Memory) (bound : ℕ) (ps : List PlacedBlock) (x : ℕ) → Rising bound ps → x < bound
    → byte_of (with_blocks m ps) x ≡ byte_of m x
unfolding with_blocks
below_stays m bound [] x r l = refl
below_stays m bound (p ∷ ps) x r l =
    below_stays (with_bytes m p.address p.bytes) (p.address + length p.bytes) ps x r.1 (omega (arith, r.0))
    ∙ byte_of-with_bytes m p.address p.bytes x
    ∙ ap (λ (o : Option ℕ). option_or o (byte_of m x))
    (present_none (run_at p.address p.bytes) x (inl (omega (arith, r.0))))

first_stands : (m : Memory) (a : ℕ) (bytes : List ℕ) (ps : List PlacedBlock) → Rising (a + length bytes) ps
    → HoldsBlock (with_blocks (with_bytes m a bytes) ps) (record { address = a; bytes = bytes })
first_stands m a bytes ps r =
    run_of-from_each (byte_of (with_blocks (with_bytes m a bytes) ps)) a (length bytes) bytes refl (λ k h.
    let back : a + k - a ≡ k = omega arith in
    below_stays (with_bytes m a bytes) (a + length bytes) ps (a + k) r (omega arith)
    ∙ byte_of-with_bytes m a bytes (a + k)
    ∙ ap (λ (o : Option ℕ). option_or o (byte_of m (a + k)))
    (present_at (run_at a bytes) (a + k) (omega arith) (omega arith))
    ∙ ap (λ (i : ℕ). Some (get_or bytes i 0)) back)

all_stand : (m : Memory) (bound : ℕ) (ps : List PlacedBlock) → Rising bound ps
    → AllByRecursion (HoldsBlock (with_blocks m ps)) ps
unfolding with_blocks
all_stand m bound [] r = tt
all_stand m bound (p ∷ ps) r = (
  first_stands m p.address p.bytes ps r.1,
  all_stand (with_bytes m p.address p.bytes) (p.address + length p.bytes) ps
      r.1,
)

pub aligned_from : (a : ℕ) → a ≤ aligned_address a
unfolding aligned_address
aligned_from a = omega arith

laid_rising : (bound a : ℕ) (blocks : List (List ℕ)) → bound ≤ a → Rising bound (blocks_from a blocks)
unfolding blocks_from
laid_rising bound a [] h = tt
laid_rising bound a (b ∷ bs) h =
    (h, laid_rising (a + length b) (aligned_address (a + length b)) bs (aligned_from (a + length b)))

pub parts_are_present : RebuiltHoldsParts
unfolding rebuilt_image
parts_are_present v base =
    all_stand empty base (blocks_from base (part_bytes v base))
    (laid_rising base base (part_bytes v base) (omega arith))

-- ---- addresses

pub length-block_places : (a : ℕ) (ns : List ℕ) → length (block_places a ns) ≡ length ns
unfolding block_places
length-block_places a [] = refl
length-block_places a (n ∷ ns) = ap suc (length-block_places (aligned_address (a + n)) ns)

place_within : (a : ℕ) (ns : List ℕ) (k : ℕ) → k < length ns → 0 < get_or ns k 0 → DoEndInside (block_ends a ns)
    → (a ≤ get_or (block_places a ns) k 0) × (get_or (block_places a ns) k 0 < 2 ^ 64)
unfolding block_places block_ends
place_within a [] k h some inside = absurd (omega arith)
place_within a (n ∷ ns) zero h some inside = (omega arith, omega (arith, some, inside.0))
place_within a (n ∷ ns) (suc k) h some inside =
    let from = aligned_from (a + n) in
    let rest = place_within (aligned_address (a + n)) ns k (omega arith) some inside.1 in
    (omega (arith, from, rest.0), rest.1)

places_are : (a : ℕ) (ns : List ℕ) → 0 < a → ((k : ℕ) → k < length ns → 0 < get_or ns k 0)
    → DoEndInside (block_ends a ns) → AreAddresses (block_places a ns)
places_are a ns above some inside =
    let count = length-block_places a ns in
    record {
      some = λ k h. (let within = place_within a ns k (omega (arith, count, h)) (some k (omega (arith, count, h)))
          inside in omega (arith, above, within.0));
      fits = λ k h. (place_within a ns k (omega (arith, count, h)) (some k (omega (arith, count, h))) inside).1;
    }

lengths_some : (tables : List TableValue) (k : ℕ) → k < length (map encoded_length tables)
    → 0 < get_or (map encoded_length tables) k 0
lengths_some [] k h = absurd (omega arith)
lengths_some (t ∷ ts) zero h = omega arith
lengths_some (t ∷ ts) (suc k) h = lengths_some ts k (omega arith)

-- the tables' addresses are those of blocks laid from some address on
record AreTablePlaces (xs : List ℕ) (ns : List ℕ) : Type 0 where
  a : ℕ
  above : 0 < a
  are : xs ≡ block_places a ns
  inside : DoEndInside (block_ends a ns)

behind_facs : (facs : Option (List ℕ)) (a : ℕ) (ns : List ℕ) → 0 < a
    → DoEndInside (block_ends a (map length (option_list facs) ++ ns))
    → AreTablePlaces (drop (length (option_list facs)) (block_places a (map length (option_list facs) ++ ns))) ns
unfolding block_places block_ends
behind_facs None a ns above inside = record { a = a; above = above; are = refl; inside = inside }
behind_facs (Some bytes) a ns above inside =
    let from = aligned_from (a + length bytes) in
    record { a = aligned_address (a + length bytes); above = omega (arith, from, above); are = refl; inside = inside.1 }

behind_root : (v : SetValue) (base : ℕ) → IsPlaced v base
    → AreTablePlaces (table_places v base) (map encoded_length v.tables)
unfolding block_places block_ends
behind_root v base placed =
    let xsdt = aligned_address (base + 36) in
    let behind = aligned_address (xsdt + xsdt_length v) in
    let from = aligned_from (xsdt + xsdt_length v) in
    let two : 2 + length (option_list v.facs) ≡ suc (suc (length (option_list v.facs))) = omega arith in
    subst (λ (k : ℕ). AreTablePlaces (drop k (part_places v base)) (map encoded_length v.tables)) (sym two)
    (behind_facs v.facs behind (map encoded_length v.tables) (omega (arith, from)) placed.inside.1.1)

pub tables_are : (v : SetValue) (base : ℕ) → IsPlaced v base
    → (length (table_places v base) ≡ length v.tables) × AreAddresses (table_places v base)
tables_are v base placed =
    let from = behind_root v base placed in (
      ap length from.are ∙ length-block_places from.a (map encoded_length v.tables)
          ∙ length-map v.tables encoded_length,
      subst AreAddresses (sym from.are)
          (places_are from.a (map encoded_length v.tables) from.above (lengths_some v.tables) from.inside),
    )

-- ---- what is at an address

-- the image has these bytes from an address on
abbrev pub Holds : Memory → ℕ → List ℕ → Type 0
Holds m a bytes = bytes_at m a (length bytes) ≡ Some bytes

pub front_present : (m : Memory) (a k : ℕ) (bytes : List ℕ) → Holds m a bytes → k ≤ length bytes
    → bytes_at m a k ≡ Some (take k bytes)
front_present m a k bytes present h = run_of-take (byte_of m) a (length bytes) k bytes present h

pub signed_front : (bytes signature : List ℕ) (k : ℕ) → length signature ≤ k
    → has_signature (take k bytes) signature ≡ has_signature bytes signature
unfolding has_signature
signed_front bytes signature k h = rw (take-take (length signature) k bytes h) refl

pub frame_present : (f : Frame) {m : Memory} {a : ℕ} {bytes : List ℕ} → f.header ≤ f.least → f.length_at + 4 ≤ f.header
    → Holds m a bytes → f.least ≤ length bytes → frame_length f bytes ≡ length bytes
    → IsFrame f m a (take f.header bytes) bytes
frame_present f {m} {a} {bytes} fits inside present least count =
    let size : frame_length f (take f.header bytes) ≡ length bytes =
    field-take bytes f.header f.length_at 4 inside ∙ count in
    record {
      header_present = front_present m a f.header bytes present (omega (arith, fits, least));
      least = omega (arith, size, least);
      present = ap (λ (k : ℕ). bytes_at m a k) size ∙ present;
    }

xsdt_present : (m : Memory) (a : ℕ) (head : HeadValue) (xs bytes : List ℕ) → Holds m a bytes
    → IsWrittenXsdt head xs bytes
    → IsValidRootTable m a 8 bytes
xsdt_present m a head xs bytes present xsdt =
    let count = xsdt.count in
    record {
      table = record {
        header = take 36 bytes;
        table = frame_present table_frame (omega arith) (omega arith) present xsdt.table.least xsdt.table.size;
        signed = signed_front bytes xsdt_signature 36 (omega arith) ∙ xsdt.table.signed;
      };
      slots = omega (arith, count);
      zero_sum = xsdt.table.zero_sum;
    }

rsdp_present : (m : Memory) (a xsdt : ℕ) (oemid bytes : List ℕ) → Holds m a bytes → IsWrittenRsdp oemid xsdt bytes
    → IsValidRsdp m a
rsdp_present m a xsdt oemid bytes present rsdp =
    let count = rsdp.count in
    let size = rsdp.size in
    record {
      head = take 20 bytes;
      head_present = front_present m a 20 bytes present (omega (arith, count));
      signed = rsdp.signed;
      zero_sum = rsdp.head_sum;
      extended = λ _. record {
        header = take 36 bytes;
        whole = bytes;
        frame = frame_present extended_frame (omega arith) (omega arith) present (omega (arith, count))
            (size ∙ sym count);
        zero_sum = rsdp.zero_sum;
      };
    }

rsdp_names : (m : Memory) (a xsdt : ℕ) (oemid bytes : List ℕ) → Holds m a bytes → IsWrittenRsdp oemid xsdt bytes
    → addresses_at m a ≡ Some (record { rsdt = 0; xsdt = xsdt })
unfolding addresses_at
rsdp_names m a xsdt oemid bytes present rsdp =
    let count = rsdp.count in
    let named : extended_addresses bytes ≡ record { rsdt = 0; xsdt = xsdt } =
    λ i. record { rsdt = rsdp.rsdt_is i; xsdt = rsdp.xsdt_is i } in
    let head = front_present m a 20 bytes present (omega (arith, count)) in
    let prefix : bytes_at m a 36 ≡ Some bytes = ap (λ (k : ℕ). bytes_at m a k) (sym count) ∙ present in
    rw (head, rsdp.revision, prefix, named) refl

names_root : (m : Memory) (a xsdt : ℕ) → addresses_at m a ≡ Some (record { rsdt = 0; xsdt = xsdt }) → 0 < xsdt
    → IsRoot m a xsdt 8
unfolding chosen_root
names_root m a xsdt names above = record {
  named = record { rsdt = 0; xsdt = xsdt };
  read = names;
  chosen = rw (ne_eqb xsdt 0 (λ nil. absurd (omega (arith, above, nil)))) refl;
}

-- the image has the first two parts
first_parts : (v : SetValue) (base : ℕ) (oemid_bytes xsdt_bytes : List ℕ) (rest : List (List ℕ)) (m : Memory)
    → length oemid_bytes ≡ 36
    → AllByRecursion (HoldsBlock m) (blocks_from base (oemid_bytes ∷ xsdt_bytes ∷ rest))
    → Holds m base oemid_bytes × Holds m (aligned_address (base + 36)) xsdt_bytes
unfolding blocks_from
first_parts v base oemid_bytes xsdt_bytes rest m count present =
    (present.0, subst (λ (n : ℕ). Holds m (aligned_address (base + n)) xsdt_bytes) count present.1.0)

pub leads_to_tables : RebuiltLeadsToTables
unfolding block_places block_ends
leads_to_tables v base oemid head placed =
    let m = rebuilt_image v base in
    let xsdt = aligned_address (base + 36) in
    let from = aligned_from (base + 36) in
    let end = placed.inside.1.0 in
    let tables = tables_are v base placed in
    let rsdp = rsdp_written v.oemid xsdt oemid (omega (arith, end)) in
    let root = xsdt_written v.root (table_places v base) head (omega (arith, tables.0, placed.size)) tables.1 in
    let present = first_parts v base _ _ _ m rsdp.count (parts_are_present v base) in
    record {
      rsdp = rsdp_present m base xsdt v.oemid _ present.0 rsdp;
      head = take 20 (rsdp_bytes v.oemid xsdt);
      head_present = front_present m base 20 _ present.0 (omega (arith, rsdp.count));
      oemid = rsdp.oemid_is;
      r = xsdt;
      root_bytes = _;
      root = names_root m base xsdt (rsdp_names m base xsdt v.oemid _ present.0 rsdp) (omega (arith, from));
      valid = xsdt_present m xsdt v.root (table_places v base) _ present.1 root;
      root_head = root.table.head_is;
      lists = root.lists;
    }
