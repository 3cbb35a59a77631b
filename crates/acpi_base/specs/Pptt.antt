-- The PPTT (ACPI 6.5, 5.2.30): its entries and fields, and when it is valid. Offsets of fields are from the start of the
-- table or the entry; those that entries name are from the start of the table.
use Rattle.std.specs.Prelude.{◌≡◌, ◌≢◌, ℕ, ◌+◌, ◌*◌, ◌/◌, ◌≤◌, Bool, List, length, map, slice_get, slice_index, Option, Some, None, ◌||◌, ◌==◌, if◌then◌else◌}
use Rattle.std.specs.List.{range_with_len}
use Rattle.acpi_base.specs.Number.{field}
use Rattle.acpi_base.specs.Entries.{PlacedEntry, Stands, entries_of, cut_of, entries_read_by, has_form, EntryType, kind, StandsWith}
use Rattle.acpi_base.specs.Chains.{IsAt, Dangles, NoneDangles, AllEnd, IsCycle, EndOrGoRound}
use Rattle.acpi_base.specs.declared.code.Code.{Code}
use Rattle.acpi_base.specs.declared.code.Code.TheVariants as code

-- ---- entries

-- a processor hierarchy node (5.2.30.1): type 0, 20 bytes and 4 for each private resource
pub record NodeValue : Type 0 where
  pub flags : ℕ
  pub parent : ℕ
  pub id : ℕ
  pub resources : List ℕ

-- how many private resources a node says that it has
abbrev pub resource_count : List ℕ → ℕ
resource_count e = field e 16 4

-- the references to its private resources
abbrev pub resources_of : List ℕ → List ℕ
resources_of e = map (λ j. field e (20 + 4 * j) 4) (range_with_len 0 (resource_count e))

abbrev pub node_of : List ℕ → NodeValue
node_of e = record { flags = field e 4 4; parent = field e 8 4; id = field e 12 4; resources = resources_of e }

-- a cache (5.2.30.2): type 1, 24 or 28 bytes; one of 28 bytes has a Cache ID
pub record CacheValue : Type 0 where
  pub flags : ℕ
  pub next_level : ℕ
  pub size : ℕ
  pub sets : ℕ
  pub associativity : ℕ
  pub attributes : ℕ
  pub line_size : ℕ
  pub id : Option ℕ

abbrev pub cache_of : List ℕ → CacheValue
cache_of e =
    record {
      flags = field e 4 4;
      next_level = field e 8 4;
      size = field e 12 4;
      sets = field e 16 4;
      associativity = field e 20 1;
      attributes = field e 21 1;
      line_size = field e 22 2;
      id = if length e == 28 then Some (field e 24 4) else None;
    }

abbrev pub cache24 : EntryType CacheValue
cache24 = kind 1 24 cache_of

abbrev pub cache28 : EntryType CacheValue
cache28 = kind 1 28 cache_of

-- what an entry says: one of the above, an entry of a known type, or any other bytes, also those of type 0 or 1 with another
-- length
pub data PpttEntry : Type 0 where
  Node : NodeValue → PpttEntry
  Cache : CacheValue → PpttEntry
  Opaque : List ℕ → PpttEntry

-- whether these are the bytes of a node: its length is that of its private resources
unfoldable pub has_node_form : List ℕ → Bool
has_node_form e = has_form e 0 (20 + 4 * resource_count e)

-- whether these are the bytes of a cache
unfoldable pub has_cache_form : List ℕ → Bool
has_cache_form e = has_form e cache24.type cache24.size || has_form e cache28.type cache28.size

-- an entry is of a known type if it has one of these types and a length of that type
unfoldable pub pptt_entry : List ℕ → PpttEntry
pptt_entry e =
    if has_node_form e then Node (node_of e) else if has_cache_form e then Cache (cache_of e) else Opaque e

-- an entry's type, whether it is of a known type or not
abbrev pub pptt_type : PpttEntry → ℕ
pptt_type (Node v) = 0
pptt_type (Cache v) = 1
pptt_type (Opaque e) = slice_index e 0

-- a node's Parent
abbrev pub parent_of : PpttEntry → Option ℕ
parent_of (Node v) = Some v.parent
parent_of _ = None

-- a node's private resource j, from 0 on
abbrev pub resource_of : ℕ → PpttEntry → Option ℕ
resource_of j (Node v) = slice_get v.resources j
resource_of j _ = None

-- a cache's Next Level of Cache
abbrev pub next_level_of : PpttEntry → Option ℕ
next_level_of (Cache v) = Some v.next_level
next_level_of _ = None

-- the entry's type is one of the above, but its length is another
abbrev pub HasOtherPpttLength : PpttEntry → Type 0
HasOtherPpttLength (Opaque e) = slice_index e 0 ≤ 1
HasOtherPpttLength _ = ⊥

-- ---- the table

-- what a PPTT says: its length in bytes, its Revision, its entries up to the cut, and the cut
pub record PpttContents : Type 0 where
  pub size : ℕ
  pub revision : ℕ
  pub entries : List (PlacedEntry PpttEntry)
  pub cut : Option ℕ

unfoldable pub pptt_contents : List ℕ → PpttContents
pptt_contents whole =
    record {
      size = length whole;
      revision = field whole 8 1;
      entries = entries_read_by pptt_entry (entries_of 36 whole);
      cut = cut_of 36 whole;
    }

-- an entry is at o of which `read` gives p
abbrev pub Says : (PpttEntry → Option ℕ) → PpttContents → ℕ → ℕ → Type 0
Says read c o p = (e : PpttEntry) × Stands c.entries o e × (read e ≡ Some p)

-- a node is at o whose Parent is p
abbrev pub NamesParent : PpttContents → ℕ → ℕ → Type 0
NamesParent = Says parent_of

-- a node is at o whose private resource j is at r
abbrev pub NamesResource : PpttContents → ℕ → ℕ → ℕ → Type 0
NamesResource c o j r = Says (resource_of j) c o r

-- a cache is at o whose Next Level of Cache is p
abbrev pub NamesNextLevel : PpttContents → ℕ → ℕ → Type 0
NamesNextLevel = Says next_level_of

-- a node is at o
abbrev pub IsNodeAt : PpttContents → ℕ → Type 0
IsNodeAt c o = IsAt (NamesParent c) o

-- a cache is at o
abbrev pub IsCacheAt : PpttContents → ℕ → Type 0
IsCacheAt c o = IsAt (NamesNextLevel c) o

-- an entry of another type than 0 is at o, of a known type or not
abbrev pub IsResourceAt : PpttContents → ℕ → Type 0
IsResourceAt c o = (e : PpttEntry) × Stands c.entries o e × (pptt_type e ≢ 0)

-- ---- validity

-- Stage 12: entries fill the table, and those of types 0 and 1 have a length of their type.
pub record IsCutPptt (c : PpttContents) : Type 0 where
  pub filled : c.cut ≡ None
  pub lengths : (o : ℕ) (e : PpttEntry) → Stands c.entries o e → ¬ HasOtherPpttLength e

-- Stage 13: at each offset that an entry names, there is what it names. A Parent or Next Level of 0 names nothing; a private
-- resource of 0 is an offset, at which there is nothing.
pub record AreReferencesValid (c : PpttContents) : Type 0 where
  pub parents : NoneDangles (NamesParent c)
  pub resources : (o j r : ℕ) → NamesResource c o j r → IsResourceAt c r
  pub next_levels : NoneDangles (NamesNextLevel c)

-- Stage 14: every node's chain of parents ends.
abbrev pub DoParentsEnd : PpttContents → Type 0
DoParentsEnd c = AllEnd (NamesParent c)

-- Stage 15: every cache's chain of next levels ends.
abbrev pub DoCachesEnd : PpttContents → Type 0
DoCachesEnd c = AllEnd (NamesNextLevel c)

-- ---- faults, by their code and their three numbers

-- the fault of stage 12 that an entry has by itself, by its code
abbrev pub PpttEntryFault : Code → PpttEntry → Type 0
PpttEntryFault code.PpttEntryLength e = HasOtherPpttLength e
PpttEntryFault _ e = ⊥

-- those of stage 12, and the offset that each is reported at
abbrev pub PpttFaultAt : PpttContents → Code → ℕ → Type 0
PpttFaultAt c code.PpttEntryCut at = c.cut ≡ Some at
PpttFaultAt c code.PpttEntryLength at = StandsWith c.entries at (PpttEntryFault code.PpttEntryLength)
PpttFaultAt c _ at = ⊥

-- The faults of stage 12. They use one number.
abbrev pub PpttFault : PpttContents → Code → ℕ → ℕ → ℕ → Type 0
PpttFault c fault at other point = PpttFaultAt c fault at × (other ≡ 0) × (point ≡ 0)

-- The faults of stage 13. `at` is the entry's offset; `other` is the Parent, the number of the private resource, from 0 on,
-- or the Next Level; `point` is the private resource, and 0 for a Parent or a Next Level.
abbrev pub ReferenceFault : PpttContents → Code → ℕ → ℕ → ℕ → Type 0
ReferenceFault c code.DanglingParent at other point = Dangles (NamesParent c) at other × (point ≡ 0)
ReferenceFault c code.DanglingResource at other point = NamesResource c at other point × ¬ IsResourceAt c point
ReferenceFault c code.DanglingCache at other point = Dangles (NamesNextLevel c) at other × (point ≡ 0)
ReferenceFault c _ at other point = ⊥

-- a table of this size, with its header, has no more nodes, which have at least 20 bytes each
abbrev pub most_nodes : PpttContents → ℕ
most_nodes c = c.size / 20

-- nor more caches, which have at least 24
abbrev pub most_caches : PpttContents → ℕ
most_caches c = c.size / 24

-- The fault of stage 14: from the node at `at` on the parents lead, after `other` steps, to a node from which `point` steps
-- lead back to it, perhaps several times round the cycle.
abbrev pub ParentFault : PpttContents → Code → ℕ → ℕ → ℕ → Type 0
ParentFault c code.ParentCycle at other point = IsCycle (NamesParent c) (most_nodes c) at other point
ParentFault c _ at other point = ⊥

-- The fault of stage 15: the same for a cache and its next levels.
abbrev pub CacheFault : PpttContents → Code → ℕ → ℕ → ℕ → Type 0
CacheFault c code.CacheCycle at other point = IsCycle (NamesNextLevel c) (most_caches c) at other point
CacheFault c _ at other point = ⊥

-- ---- laws

-- if the references are valid, a chain of parents ends or reaches a cycle within as many steps as nodes fit
abbrev pub ParentsEndOrGoRound : Type 0
ParentsEndOrGoRound =
    (whole : List ℕ) → AreReferencesValid (pptt_contents whole) → EndOrGoRound (NamesParent (pptt_contents whole)) (most_nodes (pptt_contents whole))

-- the same for next levels and caches
abbrev pub CachesEndOrGoRound : Type 0
CachesEndOrGoRound =
    (whole : List ℕ) → AreReferencesValid (pptt_contents whole) → EndOrGoRound (NamesNextLevel (pptt_contents whole)) (most_caches (pptt_contents whole))
