-- Advice on the caches of a node of a PPTT (ACPI 6.5, 5.2.30.1, 5.2.30.2), of its bytes. Which structures count, three constants of
-- `src/rows/pptt.rt` say.
use Rattle.std.specs.Prelude.{◌≡◌, ◌⊎◌, ℕ, List, map}
use Rattle.acpi_rules.specs.Cases.{case_said}
use Rattle.acpi_rules.specs.Numbered.{IsFirst, IsRepeated}
use Rattle.acpi_rules.specs.Numbers.{GivenIn}
use Rattle.acpi_rules.specs.Terms.{TwoTables}
use Rattle.acpi_rules.specs.declared.numbered.Numbered.{Numbered}
use Rattle.acpi_rules.specs.declared.numbered.Repeat.TheVariants as repeat
use Rattle.acpi_lint.specs.Rules.Entries.{alone}
use Rattle.acpi_lint.specs.declared.rows.pptt.TheConstants.{CACHE_TYPES, NEXT_LEVELS, RESOURCES}
use Rattle.acpi_lint.specs.declared.rows.pptt_fields.TheConstants.{PPTT_ENTRIES, PPTT_RESOURCES}

-- a private resource of a node: `number` is the offset that it says, `at` where it stands, `value` the node's offset
abbrev pub IsResource : TwoTables → Numbered → Type 0
IsResource t g = GivenIn t PPTT_RESOURCES (map case_said RESOURCES.now) g

-- a cache: `number` is its offset, `value` that of its Next Level
abbrev pub IsCache : TwoTables → Numbered → Type 0
IsCache t g = GivenIn t PPTT_ENTRIES (map case_said NEXT_LEVELS.now) g

-- the node at the offset n names a cache, the one at this offset, whose Next Level is at the offset o
abbrev pub LeadsTo : TwoTables → ℕ → ℕ → Type 0
LeadsTo t n o =
    (r : Numbered) × (c : Numbered) × IsResource t r × IsFirst (IsCache t) c
    × (c.number ≡ r.number) × (r.value ≡ n) × (c.value ≡ o)

-- a cache that says its type: `number` is its offset, `value` the type
abbrev pub IsTyped : TwoTables → Numbered → Type 0
IsTyped t g = GivenIn t PPTT_ENTRIES (map case_said CACHE_TYPES.now) g

-- the node at g.number names, where g.at is, the cache at g.value, which is of this type, and no Next Level of one that it names
pub record IsNearest (t : TwoTables) (type : ℕ) (g : Numbered) : Type 0 where
  pub named : IsResource t (record { number = g.value; at = g.at; value = g.number })
  pub typed : (c : Numbered) × IsFirst (IsTyped t) c × (c.number ≡ g.value) × (c.value ≡ type)
  pub nearest : ¬ LeadsTo t g.number g.value

-- the node at `at` names two such caches of one type: `other` is the first one, `point` another
abbrev pub IsSameOfType : ℕ → List ℕ → ℕ → ℕ → ℕ → Type 0
IsSameOfType type pptt = IsRepeated repeat.UnlikeValues (IsNearest (alone pptt) type)

-- the same of any of the three types
abbrev pub IsSameCacheType : List ℕ → ℕ → ℕ → ℕ → Type 0
IsSameCacheType pptt at other point =
    IsSameOfType 0 pptt at other point ⊎ IsSameOfType 1 pptt at other point ⊎ IsSameOfType 2 pptt at other point
