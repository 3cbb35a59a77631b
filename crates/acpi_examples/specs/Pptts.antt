-- Examples of the PPTT: bytes of small tables, what they say, and their faults, worked out by hand from the rules.
use Rattle.std.specs.Prelude.{◌≡◌, ℕ, List, [], ◌∷◌, ◌++◌, replicate, All, Option, Some, None}
use Rattle.acpi_base.specs.Listed.{pptt_signature}
use Rattle.acpi_base.specs.Entries.{PlacedEntry}
use Rattle.acpi_base.specs.Pptt.{PpttEntry, Node, Cache, Opaque, PpttContents, pptt_contents, PpttFault, ReferenceFault, ParentFault, CacheFault}
use Rattle.acpi_examples.specs.Tables.{table, placed_entry, IsValidExample}
use Rattle.acpi_base.specs.declared.code.Code.{Code}
use Rattle.acpi_base.specs.declared.code.Code.TheVariants as code

-- a PPTT of revision 2
abbrev pub pptt_table : ℕ → ℕ → List ℕ → List ℕ
pptt_table size checksum entries = table pptt_signature size 2 checksum entries

-- what the example PPTTs say, unless they have a cut
abbrev pub said_pptt : ℕ → List (PlacedEntry PpttEntry) → PpttContents
said_pptt size entries = record { size = size; revision = 2; entries = entries; cut = None }

-- a node with this Parent and these private resources, its other fields 0
abbrev pub plain_node : ℕ → List ℕ → PpttEntry
plain_node parent resources = Node (record { flags = 0; parent = parent; id = 0; resources = resources })

-- a cache with this Next Level and, if it has 28 bytes, this Cache ID, its other fields 0
abbrev pub plain_cache : ℕ → Option ℕ → PpttEntry
plain_cache next_level id =
    Cache (record {
      flags = 0;
      next_level = next_level;
      size = 0;
      sets = 0;
      associativity = 0;
      attributes = 0;
      line_size = 0;
      id = id;
    })

-- ---- a PPTT with a package, a leaf in it, the leaf's two caches, one after the other, and an entry of type 2, which is
-- the package's private resource

abbrev pub all_kinds_bytes : List ℕ
all_kinds_bytes =
    pptt_table 144 36
    (0 ∷ 24 ∷ 0 ∷ 0 ∷ 1 ∷ 0 ∷ 0 ∷ 0 ∷ 0 ∷ 0 ∷ 0 ∷ 0 ∷ 0 ∷ 0 ∷ 0 ∷ 0 ∷ 1 ∷ 0 ∷ 0 ∷ 0 ∷ 140 ∷ 0 ∷ 0 ∷ 0
    ∷ 0 ∷ 28 ∷ 0 ∷ 0 ∷ 10 ∷ 0 ∷ 0 ∷ 0 ∷ 36 ∷ 0 ∷ 0 ∷ 0 ∷ 7 ∷ 0 ∷ 0 ∷ 0 ∷ 2 ∷ 0 ∷ 0 ∷ 0 ∷ 88 ∷ 0 ∷ 0 ∷ 0 ∷ 112 ∷ 0 ∷ 0 ∷ 0
    ∷ 1 ∷ 24 ∷ 0 ∷ 0 ∷ 0x7f ∷ 0 ∷ 0 ∷ 0 ∷ 112 ∷ 0 ∷ 0 ∷ 0 ∷ 0 ∷ 0x80 ∷ 0 ∷ 0 ∷ 64 ∷ 0 ∷ 0 ∷ 0 ∷ 8 ∷ 10 ∷ 64 ∷ 0
    ∷ 1 ∷ 28 ∷ 0 ∷ 0 ∷ 0xff ∷ 0 ∷ 0 ∷ 0 ∷ 0 ∷ 0 ∷ 0 ∷ 0 ∷ 0 ∷ 0 ∷ 0x10 ∷ 0 ∷ 0 ∷ 4 ∷ 0 ∷ 0 ∷ 16 ∷ 10 ∷ 64 ∷ 0 ∷ 3 ∷ 0 ∷ 0 ∷ 0
    ∷ 2 ∷ 4 ∷ 0 ∷ 0
    ∷ [])

abbrev pub all_kinds : PpttContents
all_kinds =
    said_pptt 144
    (placed_entry 36 (Node (record { flags = 1; parent = 0; id = 0; resources = 140 ∷ [] }))
    ∷ placed_entry 60 (Node (record { flags = 10; parent = 36; id = 7; resources = 88 ∷ 112 ∷ [] }))
    ∷ placed_entry 88 (Cache (record { flags = 0x7f; next_level = 112; size = 0x8000; sets = 64; associativity = 8; attributes = 10; line_size = 64; id = None }))
    ∷ placed_entry 112 (Cache (record { flags = 0xff; next_level = 0; size = 0x100000; sets = 1024; associativity = 16; attributes = 10; line_size = 64; id = Some 3 }))
    ∷ placed_entry 140 (Opaque (2 ∷ 4 ∷ 0 ∷ 0 ∷ []))
    ∷ [])

-- ---- a PPTT whose entries have another length than their type's, and two bytes that are no entry

abbrev pub faulty_bytes : List ℕ
faulty_bytes =
    pptt_table 108 114
    (0 ∷ 24 ∷ 0 ∷ 0 ∷ 0 ∷ 0 ∷ 0 ∷ 0 ∷ 0 ∷ 0 ∷ 0 ∷ 0 ∷ 0 ∷ 0 ∷ 0 ∷ 0 ∷ 0 ∷ 0 ∷ 0 ∷ 0 ∷ 0 ∷ 0 ∷ 0 ∷ 0
    ∷ 0 ∷ 20 ∷ 0 ∷ 0 ∷ 0 ∷ 0 ∷ 0 ∷ 0 ∷ 0 ∷ 0 ∷ 0 ∷ 0 ∷ 0 ∷ 0 ∷ 0 ∷ 0 ∷ 0xff ∷ 0xff ∷ 0xff ∷ 0xff
    ∷ 1 ∷ 26 ∷ 0 ∷ 0 ∷ 0 ∷ 0 ∷ 0 ∷ 0 ∷ 0 ∷ 0 ∷ 0 ∷ 0 ∷ 0 ∷ 0 ∷ 0 ∷ 0 ∷ 0 ∷ 0 ∷ 0 ∷ 0 ∷ 0 ∷ 0 ∷ 0 ∷ 0 ∷ 0 ∷ 0
    ∷ 0 ∷ 1
    ∷ [])

abbrev pub faulty_pptt : PpttContents
faulty_pptt =
    record {
      size = 108;
      revision = 2;
      entries = placed_entry 36 (Opaque (0 ∷ 24 ∷ replicate 22 0))
          ∷ placed_entry 60 (Opaque (0 ∷ 20 ∷ replicate 14 0 ++ 0xff ∷ 0xff ∷ 0xff ∷ 0xff ∷ []))
          ∷ placed_entry 80 (Opaque (1 ∷ 26 ∷ replicate 24 0))
          ∷ [];
      cut = Some 106;
    }

-- ---- a PPTT with a node whose Parent lies within an entry of type 5, at bytes that look like a node

abbrev pub hidden_node_bytes : List ℕ
hidden_node_bytes =
    pptt_table 78 87
    (0 ∷ 20 ∷ 0 ∷ 0 ∷ 0 ∷ 0 ∷ 0 ∷ 0 ∷ 58 ∷ 0 ∷ 0 ∷ 0 ∷ 0 ∷ 0 ∷ 0 ∷ 0 ∷ 0 ∷ 0 ∷ 0 ∷ 0
    ∷ 5 ∷ 22 ∷ 0 ∷ 20 ∷ 0 ∷ 0 ∷ 0 ∷ 0 ∷ 0 ∷ 0 ∷ 0 ∷ 0 ∷ 0 ∷ 0 ∷ 0 ∷ 0 ∷ 0 ∷ 0 ∷ 0 ∷ 0 ∷ 0 ∷ 0
    ∷ [])

abbrev pub hidden_node : PpttContents
hidden_node = said_pptt 78 (placed_entry 36 (plain_node 58 []) ∷ placed_entry 56 (Opaque (5 ∷ 22 ∷ 0 ∷ 20 ∷ replicate 18 0)) ∷ [])

-- ---- a PPTT with a node of one private resource, and a cache at 60

abbrev pub resource_bytes : ℕ → ℕ → List ℕ
resource_bytes checksum resource =
    pptt_table 84 checksum
    (0 ∷ 24 ∷ 0 ∷ 0 ∷ 0 ∷ 0 ∷ 0 ∷ 0 ∷ 0 ∷ 0 ∷ 0 ∷ 0 ∷ 0 ∷ 0 ∷ 0 ∷ 0 ∷ 1 ∷ 0 ∷ 0 ∷ 0 ∷ resource ∷ 0 ∷ 0 ∷ 0
    ∷ 1 ∷ 24 ∷ 0 ∷ 0 ∷ 0 ∷ 0 ∷ 0 ∷ 0 ∷ 0 ∷ 0 ∷ 0 ∷ 0 ∷ 0 ∷ 0 ∷ 0 ∷ 0 ∷ 0 ∷ 0 ∷ 0 ∷ 0 ∷ 0 ∷ 0 ∷ 0 ∷ 0
    ∷ [])

-- the resource is the cache
abbrev pub cache_resource_bytes : List ℕ
cache_resource_bytes = resource_bytes 96 60

-- it is the node itself
abbrev pub own_resource_bytes : List ℕ
own_resource_bytes = resource_bytes 120 36

-- it is at 0, where there is nothing
abbrev pub no_resource_bytes : List ℕ
no_resource_bytes = resource_bytes 156 0

abbrev pub with_resource : ℕ → PpttContents
with_resource resource = said_pptt 84 (placed_entry 36 (plain_node 0 (resource ∷ [])) ∷ placed_entry 60 (plain_cache 0 None) ∷ [])

-- ---- a PPTT with a node whose Parent is the node itself

abbrev pub own_parent_bytes : List ℕ
own_parent_bytes = pptt_table 56 178 (0 ∷ 20 ∷ 0 ∷ 0 ∷ 0 ∷ 0 ∷ 0 ∷ 0 ∷ 36 ∷ 0 ∷ 0 ∷ 0 ∷ 0 ∷ 0 ∷ 0 ∷ 0 ∷ 0 ∷ 0 ∷ 0 ∷ 0 ∷ [])

abbrev pub own_parent : PpttContents
own_parent = said_pptt 56 (placed_entry 36 (plain_node 36 []) ∷ [])

-- ---- a PPTT with five nodes; the Parent of each is the next one, and that of the last the third

abbrev pub five_nodes_bytes : List ℕ
five_nodes_bytes =
    pptt_table 136 146
    (0 ∷ 20 ∷ 0 ∷ 0 ∷ 0 ∷ 0 ∷ 0 ∷ 0 ∷ 56 ∷ 0 ∷ 0 ∷ 0 ∷ 0 ∷ 0 ∷ 0 ∷ 0 ∷ 0 ∷ 0 ∷ 0 ∷ 0
    ∷ 0 ∷ 20 ∷ 0 ∷ 0 ∷ 0 ∷ 0 ∷ 0 ∷ 0 ∷ 76 ∷ 0 ∷ 0 ∷ 0 ∷ 0 ∷ 0 ∷ 0 ∷ 0 ∷ 0 ∷ 0 ∷ 0 ∷ 0
    ∷ 0 ∷ 20 ∷ 0 ∷ 0 ∷ 0 ∷ 0 ∷ 0 ∷ 0 ∷ 96 ∷ 0 ∷ 0 ∷ 0 ∷ 0 ∷ 0 ∷ 0 ∷ 0 ∷ 0 ∷ 0 ∷ 0 ∷ 0
    ∷ 0 ∷ 20 ∷ 0 ∷ 0 ∷ 0 ∷ 0 ∷ 0 ∷ 0 ∷ 116 ∷ 0 ∷ 0 ∷ 0 ∷ 0 ∷ 0 ∷ 0 ∷ 0 ∷ 0 ∷ 0 ∷ 0 ∷ 0
    ∷ 0 ∷ 20 ∷ 0 ∷ 0 ∷ 0 ∷ 0 ∷ 0 ∷ 0 ∷ 76 ∷ 0 ∷ 0 ∷ 0 ∷ 0 ∷ 0 ∷ 0 ∷ 0 ∷ 0 ∷ 0 ∷ 0 ∷ 0
    ∷ [])

abbrev pub five_nodes : PpttContents
five_nodes =
    said_pptt 136
    (placed_entry 36 (plain_node 56 [])
    ∷ placed_entry 56 (plain_node 76 [])
    ∷ placed_entry 76 (plain_node 96 [])
    ∷ placed_entry 96 (plain_node 116 [])
    ∷ placed_entry 116 (plain_node 76 [])
    ∷ [])

-- ---- a PPTT with a cache and its Next Level

abbrev pub next_level_bytes : ℕ → ℕ → List ℕ
next_level_bytes checksum next_level =
    pptt_table 64 checksum
    (1 ∷ 28 ∷ 0 ∷ 0 ∷ 0 ∷ 0 ∷ 0 ∷ 0 ∷ next_level ∷ 0 ∷ 0 ∷ 0 ∷ 0 ∷ 0 ∷ 0 ∷ 0 ∷ 0 ∷ 0 ∷ 0 ∷ 0 ∷ 0 ∷ 0 ∷ 0 ∷ 0 ∷ 0 ∷ 0 ∷ 0 ∷ 0
    ∷ [])

-- the Next Level is the cache itself
abbrev pub own_next_level_bytes : List ℕ
own_next_level_bytes = next_level_bytes 161 36

-- it is at 37, within the cache
abbrev pub no_next_level_bytes : List ℕ
no_next_level_bytes = next_level_bytes 160 37

abbrev pub with_next_level : ℕ → PpttContents
with_next_level next_level = said_pptt 64 (placed_entry 36 (plain_cache next_level (Some 0)) ∷ [])

-- ---- what they state

-- these PPTTs
abbrev pub example_pptts : List (List ℕ)
example_pptts =
    all_kinds_bytes ∷ faulty_bytes ∷ hidden_node_bytes ∷ cache_resource_bytes ∷ own_resource_bytes ∷ no_resource_bytes
    ∷ own_parent_bytes
    ∷ five_nodes_bytes
    ∷ own_next_level_bytes
    ∷ no_next_level_bytes
    ∷ []

-- what the PPTTs say
pub record ArePpttContents : Type 0 where
  pub valid : All IsValidExample example_pptts
  pub kinds_say : pptt_contents all_kinds_bytes ≡ all_kinds
  pub faulty_says : pptt_contents faulty_bytes ≡ faulty_pptt
  pub hidden_says : pptt_contents hidden_node_bytes ≡ hidden_node
  pub cache_resource_says : pptt_contents cache_resource_bytes ≡ with_resource 60
  pub own_resource_says : pptt_contents own_resource_bytes ≡ with_resource 36
  pub no_resource_says : pptt_contents no_resource_bytes ≡ with_resource 0
  pub own_parent_says : pptt_contents own_parent_bytes ≡ own_parent
  pub five_say : pptt_contents five_nodes_bytes ≡ five_nodes
  pub own_next_level_says : pptt_contents own_next_level_bytes ≡ with_next_level 36
  pub no_next_level_says : pptt_contents no_next_level_bytes ≡ with_next_level 37

-- the faults of their entries and of their references
pub record ArePpttFaults : Type 0 where
  pub cut : PpttFault (pptt_contents faulty_bytes) code.PpttEntryCut 0x6a 0 0
  pub node_size : PpttFault (pptt_contents faulty_bytes) code.PpttEntryLength 0x24 0 0
  pub resources_size : PpttFault (pptt_contents faulty_bytes) code.PpttEntryLength 0x3c 0 0
  pub cache_size : PpttFault (pptt_contents faulty_bytes) code.PpttEntryLength 0x50 0 0
  pub parent : ReferenceFault (pptt_contents hidden_node_bytes) code.DanglingParent 0x24 0x3a 0
  pub own_resource : ReferenceFault (pptt_contents own_resource_bytes) code.DanglingResource 0x24 0 0x24
  pub no_resource : ReferenceFault (pptt_contents no_resource_bytes) code.DanglingResource 0x24 0 0
  pub cache_resource : ¬ ReferenceFault (pptt_contents cache_resource_bytes) code.DanglingResource 0x24 0 0x3c
  pub next_level : ReferenceFault (pptt_contents no_next_level_bytes) code.DanglingCache 0x24 0x25 0

-- the faults of their chains; the same cycle with a longer lead or with more rounds is a fault as long as all steps are
-- no more than the nodes, of 20 bytes, or the caches, of 24, that fit into the table
pub record AreCycleFaults : Type 0 where
  pub own_parent : ParentFault (pptt_contents own_parent_bytes) code.ParentCycle 0x24 0 1
  pub two_rounds : ParentFault (pptt_contents own_parent_bytes) code.ParentCycle 0x24 0 2
  pub three_rounds : ¬ ParentFault (pptt_contents own_parent_bytes) code.ParentCycle 0x24 0 3
  pub no_steps : ¬ ParentFault (pptt_contents own_parent_bytes) code.ParentCycle 0x24 0 0
  pub five_nodes : ParentFault (pptt_contents five_nodes_bytes) code.ParentCycle 0x24 2 3
  pub longer_lead : ParentFault (pptt_contents five_nodes_bytes) code.ParentCycle 0x24 3 3
  pub longest_lead : ¬ ParentFault (pptt_contents five_nodes_bytes) code.ParentCycle 0x24 4 3
  pub own_next_level : CacheFault (pptt_contents own_next_level_bytes) code.CacheCycle 0x24 0 1
  pub one_step : CacheFault (pptt_contents own_next_level_bytes) code.CacheCycle 0x24 1 1
  pub two_steps : ¬ CacheFault (pptt_contents own_next_level_bytes) code.CacheCycle 0x24 2 1

-- the PPTT with an entry of each kind has no fault of stages 12 to 15
pub record HasNoPpttFault : Type 0 where
  pub entries : (fault : Code) (at other point : ℕ) → ¬ PpttFault (pptt_contents all_kinds_bytes) fault at other point
  pub references : (fault : Code) (at other point : ℕ) → ¬ ReferenceFault (pptt_contents all_kinds_bytes) fault at other point
  pub parents : (fault : Code) (at other point : ℕ) → ¬ ParentFault (pptt_contents all_kinds_bytes) fault at other point
  pub caches : (fault : Code) (at other point : ℕ) → ¬ CacheFault (pptt_contents all_kinds_bytes) fault at other point
