-- The kinds of entries of a PPTT (ACPI 6.5, 5.2.30): for each its layout and the contents of an entry of the kind;
-- the contents of any entry, and the bytes that are written for it.
use Rattle.std.specs.Prelude.{◌≡◌, ℕ, ◌+◌, ◌*◌, List, [], ◌∷◌, ◌++◌, length, map, flat_map, Option, Some, None}
use Rattle.std.specs.List.{range_with_len}
use Rattle.acpi_base.specs.Number.{field, number_bytes}
use Rattle.acpi_base.specs.Entries.{IsEntry}
use Rattle.acpi_base.specs.Layouts.{Part, NumberOf, Fixed, Reserved, PartValue, Number, layout_bytes}
use Rattle.acpi_base.specs.Pptt.{NodeValue, CacheValue}
use Rattle.acpi_base.specs.Pptt as said
use Rattle.acpi_base.specs.KindLayouts.{KindLayout, bytes_of}
use Rattle.acpi_read.specs.declared.pptt.PpttEntry.{PpttEntry}
use Rattle.acpi_read.specs.declared.pptt.PpttEntry.TheVariants as entry
use Rattle.acpi_read.specs.declared.pptt.node_head.NodeHead.{NodeHead}
use Rattle.acpi_read.specs.declared.pptt.kinds.Cache24.{Cache24}
use Rattle.acpi_read.specs.declared.pptt.kinds.Cache28.{Cache28}

-- ---- Processor Hierarchy Node (5.2.30.1): its first 20 bytes

abbrev pub node_head_parts : List Part
node_head_parts =
    Fixed 0 ∷
    NumberOf 1 ∷  -- length
    Reserved 2 ∷
    NumberOf 4 ∷  -- flags
    NumberOf 4 ∷  -- parent
    NumberOf 4 ∷  -- id
    NumberOf 4 ∷  -- count
    []

abbrev pub node_head_values : NodeHead → List PartValue
node_head_values h = Number (20 + 4 * h.count) ∷ Number h.flags ∷ Number h.parent ∷ Number h.id ∷ Number h.count ∷ []

-- the length byte is that of a node with this many private resources
abbrev pub HasNodeLength : List ℕ → Type 0
HasNodeLength e = field e 1 1 ≡ 20 + 4 * field e 16 4

-- a node with this head and the bytes of its references
abbrev pub node_value : NodeHead → List ℕ → NodeValue
node_value h references =
    record {
      flags = h.flags;
      parent = h.parent;
      id = h.id;
      resources = map (λ j. field references (4 * j) 4) (range_with_len 0 h.count);
    }

-- ---- Cache Type Structure (5.2.30.2)

-- the value of an ID, which a cache of 28 bytes has
abbrev pub id_values : Option ℕ → List PartValue
id_values None = []
id_values (Some id) = Number id ∷ []

abbrev pub cache_values : CacheValue → List PartValue
cache_values v =
    Number v.flags ∷ Number v.next_level ∷ Number v.size ∷ Number v.sets ∷ Number v.associativity ∷ Number v.attributes
    ∷ Number v.line_size
    ∷ id_values v.id

-- the values in a cache's bytes, with this for its ID
abbrev pub values_in : List ℕ → Option ℕ → List PartValue
values_in e id =
    Number (field e 4 4) ∷ Number (field e 8 4) ∷ Number (field e 12 4) ∷ Number (field e 16 4) ∷ Number (field e 20 1)
    ∷ Number (field e 21 1) ∷ Number (field e 22 2)
    ∷ id_values id

-- what a cache with these fields and this ID says
abbrev pub cache_value : Cache24 → Option ℕ → CacheValue
cache_value e id =
    record {
      flags = e.flags;
      next_level = e.next_level;
      size = e.size;
      sets = e.sets;
      associativity = e.associativity;
      attributes = e.attributes;
      line_size = e.line_size;
      id = id;
    }

-- ---- one of 24 bytes

abbrev pub cache24_layout : KindLayout CacheValue
cache24_layout = record {
  kind = said.cache24;
  rest = Reserved 2 ∷ NumberOf 4 ∷ NumberOf 4 ∷ NumberOf 4 ∷ NumberOf 4 ∷ NumberOf 1 ∷ NumberOf 1 ∷ NumberOf 2 ∷ [];
  values = cache_values;
}

abbrev pub cache24_value : Cache24 → CacheValue
cache24_value e = cache_value e None

-- ---- one of 28 bytes

abbrev pub cache28_layout : KindLayout CacheValue
cache28_layout = record {
  kind = said.cache28;
  rest = Reserved 2 ∷ NumberOf 4 ∷ NumberOf 4 ∷ NumberOf 4 ∷ NumberOf 4 ∷ NumberOf 1 ∷ NumberOf 1 ∷ NumberOf 2 ∷ NumberOf 4 ∷ [];
  values = cache_values;
}

abbrev pub cache28_value : Cache28 → CacheValue
cache28_value e = cache_value e.fields (Some e.id)

-- ---- entries

-- the contents of an entry
abbrev pub pptt_value : PpttEntry → said.PpttEntry
pptt_value (entry.Node head references) = said.Node (node_value head references.now)
pptt_value (entry.Cache24 e) = said.Cache (cache24_value e)
pptt_value (entry.Cache28 e) = said.Cache (cache28_value e)
pptt_value (entry.Opaque bytes) = said.Opaque bytes.now

-- a node has 4 bytes for each of its references
abbrev pub HasReferences : PpttEntry → Type 0
HasReferences (entry.Node head references) = length references.now ≡ 4 * head.count
HasReferences _ = Unit {0}

-- if it is not of a known type, its bytes are those of an entry
abbrev pub IsCompleteEntry : PpttEntry → Type 0
IsCompleteEntry (entry.Opaque bytes) = IsEntry bytes.now
IsCompleteEntry _ = Unit {0}

-- ---- the bytes that are written for an entry: its fields, with 0 in reserved bytes

-- the first 20 of a node
abbrev pub node_head_bytes : NodeValue → List ℕ
node_head_bytes v =
    let n = length v.resources in
    layout_bytes node_head_parts (Number (20 + 4 * n) ∷ Number v.flags ∷ Number v.parent ∷ Number v.id ∷ Number n ∷ [])

-- those of a cache: 28 if it has a Cache ID, otherwise 24
abbrev pub cache_bytes : CacheValue → Option ℕ → List ℕ
cache_bytes v None = bytes_of cache24_layout v
cache_bytes v (Some id) = bytes_of cache28_layout v

-- a node's references come after its first 20 bytes
abbrev pub pptt_bytes : said.PpttEntry → List ℕ
pptt_bytes (said.Node v) = node_head_bytes v ++ flat_map (λ r. number_bytes 4 r) v.resources
pptt_bytes (said.Cache v) = cache_bytes v v.id
pptt_bytes (said.Opaque e) = e
