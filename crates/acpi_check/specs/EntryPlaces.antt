-- The offsets of the entries of a PPTT (ACPI 6.5, 5.2.30), by what may refer to them, and the references among these.
use Rattle.std.specs.Prelude.{◌≡◌, ◌⊎◌, ◌↔◌, ℕ, Bool, true, false, List, ◌≢◌, Some, None, if◌then◌else◌}
use Rattle.std.specs.List.{filter_map}
use Rattle.acpi_base.specs.Codes.{stage_of}
use Rattle.acpi_base.specs.Entries.{PlacedEntry}
use Rattle.acpi_base.specs.Faults.{NotAfter}
use Rattle.acpi_base.specs.Pptt.{PpttEntry, Node, Cache, Opaque, PpttContents, parent_of, resource_of, next_level_of, IsNodeAt, IsCacheAt, IsResourceAt}
use Rattle.acpi_base.specs.declared.code.Code.{Code}
use Rattle.acpi_base.specs.declared.code.Code.TheVariants as code
use Rattle.acpi_base.specs.declared.stage.Stage.TheVariants as stage
use Rattle.acpi_base.specs.declared.witness.Witness.{Witness}
use Rattle.acpi_check.specs.declared.places.PlaceKind.{PlaceKind}
use Rattle.acpi_check.specs.declared.places.PlaceKind.TheVariants as kind
use Rattle.acpi_check.specs.declared.places.Places.{Places}
use Rattle.acpi_check.specs.BitSets.{IsIn}

-- ---- offsets

-- these are the offsets of the nodes, the caches or the private resources
pub record ArePlaces (c : PpttContents) (places : Places) : Type 0 where
  pub nodes : (o : ℕ) → IsIn places.nodes o ↔ IsNodeAt c o
  pub caches : (o : ℕ) → IsIn places.caches o ↔ IsCacheAt c o
  pub resources : (o : ℕ) → IsIn places.resources o ↔ IsResourceAt c o

-- ---- how they are collected

-- what an entry is
abbrev pub kind_of : PpttEntry → PlaceKind
kind_of (Node v) = kind.Node
kind_of (Cache v) = kind.Cache
kind_of (Opaque e) = kind.Other

abbrev pub is_node : PlaceKind → Bool
is_node kind.Node = true
is_node _ = false

abbrev pub is_cache : PlaceKind → Bool
is_cache kind.Cache = true
is_cache _ = false

abbrev pub is_resource : PlaceKind → Bool
is_resource kind.Node = false
is_resource _ = true

-- the offsets of entries of the kinds, in their order
abbrev pub kind_offsets : (PlaceKind → Bool) → List (PlacedEntry PpttEntry) → List ℕ
kind_offsets kinds entries = filter_map (λ s. if kinds (kind_of s.entry) then Some s.offset else None) entries

-- ---- what an entry names

-- each offset that the entry refers to is one of those of the kind
pub record NamesPlaces (places : Places) (e : PpttEntry) : Type 0 where
  pub parent : (p : ℕ) → parent_of e ≡ Some p → (p ≡ 0) ⊎ IsIn places.nodes p
  pub resource : (j r : ℕ) → resource_of j e ≡ Some r → IsIn places.resources r
  pub next_level : (p : ℕ) → next_level_of e ≡ Some p → (p ≡ 0) ⊎ IsIn places.caches p

-- the entry refers to an offset that is not among these: a fault with these two numbers
abbrev pub EntryReferenceFault : Places → PpttEntry → Code → ℕ → ℕ → Type 0
EntryReferenceFault places e code.DanglingParent other point = (parent_of e ≡ Some other) × (other ≢ 0) × (¬ IsIn places.nodes other) × (point ≡ 0)
EntryReferenceFault places e code.DanglingResource other point = (resource_of other e ≡ Some point) × ¬ IsIn places.resources point
EntryReferenceFault places e code.DanglingCache other point = (next_level_of e ≡ Some other) × (other ≢ 0) × (¬ IsIn places.caches other) × (point ≡ 0)
EntryReferenceFault places e _ other point = ⊥

-- w is the first of them
pub record IsFirstReference (places : Places) (e : PpttEntry) (w : Witness) : Type 0 where
  pub own : stage_of w.code ≡ stage.References
  pub fault : EntryReferenceFault places e w.code w.other w.point
  pub least : (v : Witness) → w.at ≡ v.at → EntryReferenceFault places e v.code v.other v.point → NotAfter w v
