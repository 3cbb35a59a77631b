-- The rebuilt image of a set's value: the RSDP at a base address, then an XSDT, the FACS if there is one, and the
-- listed tables, each at the lowest multiple of 64 not below the end of the one before. These are the parts of the
-- set; a block is the bytes of a part, and it is placed when it has its address.
use Rattle.std.specs.Prelude.{◌≡◌, ℕ, ◌+◌, ◌*◌, ◌/◌, List, [], ◌∷◌, ◌++◌, length, drop, map, flat_map, slice_index, Option, Some, None}
use Rattle.std.specs.List.{AllByRecursion}
use Rattle.std.specs.FinMap.{empty}
use Rattle.acpi_base.specs.Memory.{Memory, bytes_at, with_bytes}
use Rattle.acpi_base.specs.Number.{number_bytes}
use Rattle.acpi_base.specs.Policy.{PolicyValue}
use Rattle.acpi_base.specs.Signature.{rsdp_signature, xsdt_signature}
use Rattle.acpi_base.specs.Statements.{IsClean}
use Rattle.acpi_write.specs.Encoded.{checksum_of, table_bytes, encoded_bytes_with, encoded_length}
use Rattle.acpi_write.specs.SetValues.{IsSetValue}
use Rattle.acpi_write.specs.Values.{SetValue}

-- ---- blocks of an image

-- bytes from an address on
pub record PlacedBlock : Type 0 where
  pub address : ℕ
  pub bytes : List ℕ

-- the lowest multiple of 64 not below an address
unfoldable pub aligned_address : ℕ → ℕ
aligned_address a = (a + 63) / 64 * 64

-- blocks of bytes one after another: the first at an address, each further one at the lowest multiple of 64 not below
-- the end of the one before
unfoldable pub blocks_from : ℕ → List (List ℕ) → List PlacedBlock
blocks_from a [] = []
blocks_from a (bytes ∷ rest) = record { address = a; bytes = bytes } ∷ blocks_from (aligned_address (a + length bytes)) rest

-- the addresses of blocks of these lengths
unfoldable pub block_places : ℕ → List ℕ → List ℕ
block_places a [] = []
block_places a (n ∷ rest) = a ∷ block_places (aligned_address (a + n)) rest

-- the image with the blocks added
unfoldable pub with_blocks : Memory → List PlacedBlock → Memory
with_blocks m [] = m
with_blocks m (p ∷ rest) = with_blocks (with_bytes m p.address p.bytes) rest

-- ---- the addresses of the parts of a set

-- an option as a list of one element or of none
abbrev pub option_list : {X : Type 0} → Option X → List X
option_list None = []
option_list (Some x) = x ∷ []

-- the XSDT has 8 bytes for each table after its header (5.2.8)
abbrev pub xsdt_length : SetValue → ℕ
xsdt_length v = 36 + 8 * length v.tables

-- the parts' lengths, in the parts' order: the RSDP, the XSDT, the FACS if there is one, the tables in the order of their slots
abbrev pub part_lengths : SetValue → List ℕ
part_lengths v = 36 ∷ xsdt_length v ∷ (map length (option_list v.facs) ++ map encoded_length v.tables)

-- the parts' addresses, the first of which is the base address
abbrev pub part_places : SetValue → ℕ → List ℕ
part_places v base = block_places base (part_lengths v)

-- this address if there is a FACS, otherwise 0
abbrev pub place_of_facs : Option (List ℕ) → ℕ → ℕ
place_of_facs None place = 0
place_of_facs (Some bytes) place = place

-- the FACS's address, which the FADT names: that of the part after the RSDP and the XSDT
abbrev pub facs_place : SetValue → ℕ → ℕ
facs_place v base = place_of_facs v.facs (slice_index (part_places v base) 2)

-- the tables' addresses: those of all parts after the RSDP, the XSDT and the FACS
abbrev pub table_places : SetValue → ℕ → List ℕ
table_places v base = drop (2 + length (option_list v.facs)) (part_places v base)

-- ---- the contents of the parts

-- An RSDP's first 20 bytes (5.2.5.3): the signature at 0, this checksum at 8, the OEMID at 9, Revision 2 at 15, and 0 for
-- the RSDT's address at 16.
abbrev pub rsdp_head : List ℕ → ℕ → List ℕ
rsdp_head oemid checksum = rsdp_signature ++ (checksum ∷ (oemid ++ (2 ∷ number_bytes 4 0)))

-- The next 16 bytes: Length 36 at 20, the XSDT's address at 24, this extended checksum at 32, and 3 reserved bytes,
-- which are 0, at 33.
abbrev pub rsdp_tail : ℕ → ℕ → List ℕ
rsdp_tail xsdt checksum = number_bytes 4 36 ++ (number_bytes 8 xsdt ++ (checksum ∷ 0 ∷ 0 ∷ 0 ∷ []))

-- an RSDP's 36 bytes, with the checksum that makes the first 20 sum to 0 and the extended one that makes all sum to 0
unfoldable pub rsdp_bytes : List ℕ → ℕ → List ℕ
rsdp_bytes oemid xsdt =
    let head = rsdp_head oemid (checksum_of (rsdp_head oemid 0)) in
    head ++ rsdp_tail xsdt (checksum_of (head ++ rsdp_tail xsdt 0))

-- the bytes of the parts, in their order
abbrev pub part_bytes : SetValue → ℕ → List (List ℕ)
part_bytes v base =
    rsdp_bytes v.oemid (slice_index (part_places v base) 1)
    ∷ table_bytes xsdt_signature v.root (flat_map (number_bytes 8) (table_places v base))
    ∷ (option_list v.facs ++ map (encoded_bytes_with (facs_place v base)) v.tables)

-- the rebuilt image: it has the parts and nothing else
unfoldable pub rebuilt_image : SetValue → ℕ → Memory
rebuilt_image v base = with_blocks empty (blocks_from base (part_bytes v base))

-- ---- laws

-- the image has the block
abbrev pub HoldsBlock : Memory → PlacedBlock → Type 0
HoldsBlock m p = bytes_at m p.address (length p.bytes) ≡ Some p.bytes

-- A rebuilt image has all bytes of each part, from the address on at which the part is placed: none overwrites
-- another.
abbrev pub RebuiltHoldsParts : Type 0
RebuiltHoldsParts = (v : SetValue) (base : ℕ) → AllByRecursion (HoldsBlock (rebuilt_image v base)) (blocks_from base (part_bytes v base))

-- the parts have the lengths from which their addresses are computed, and are placed at these addresses
pub record AreLaidAtPlaces (v : SetValue) (base : ℕ) : Type 0 where
  pub lengths : map length (part_bytes v base) ≡ part_lengths v
  pub places : map (λ p. p.address) (blocks_from base (part_bytes v base)) ≡ part_places v base

-- the same for the parts of a clean set's value
abbrev pub CleanPartsAreLaid : Type 0
CleanPartsAreLaid = (m : Memory) (q : PolicyValue) (v : SetValue) (base : ℕ) → IsClean m q → IsSetValue m q.rsdp v → AreLaidAtPlaces v base
