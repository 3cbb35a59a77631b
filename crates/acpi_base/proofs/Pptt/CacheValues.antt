-- A cache has the values of its bytes, of which there are 24 or, with an ID, 28.
use Rattle.std.proofs.Common.{◌≡◌, ℕ, List, [], ◌∷◌, length, refl, ap}
use Rattle.std.specs.Prelude.{Option, Some, None}
use Rattle.acpi_base.specs.Number.{field}
use Rattle.acpi_base.specs.Layouts.{PartValue, Number}
use Rattle.acpi_base.specs.Pptt.{CacheValue, cache_of}

-- the value of an ID
abbrev id_values : Option ℕ → List PartValue
id_values None = []
id_values (Some id) = Number id ∷ []

abbrev cache_values : CacheValue → List PartValue
cache_values v =
    Number v.flags ∷ Number v.next_level ∷ Number v.size ∷ Number v.sets ∷ Number v.associativity ∷ Number v.attributes
    ∷ Number v.line_size
    ∷ id_values v.id

-- the numbers in an entry, and others after them
abbrev cache_read : List ℕ → List PartValue → List PartValue
cache_read e others =
    Number (field e 4 4) ∷ Number (field e 8 4) ∷ Number (field e 12 4) ∷ Number (field e 16 4) ∷ Number
    (field e 20 1) ∷ Number (field e 21 1)
    ∷ Number (field e 22 2)
    ∷ others

none_of : (id : Option ℕ) → [] ≡ id_values id → None ≡ id
none_of None same = refl
none_of (Some x) same = absurd (cc)

some_of : (id : Option ℕ) (x : ℕ) → Number x ∷ [] ≡ id_values id → Some x ≡ id
some_of None x same = absurd (cc)
some_of (Some y) x same = (let is : x ≡ y = cc in ap Some is)

fields_of : (e : List ℕ) (v : CacheValue) (others : List PartValue) → cache_read e others ≡ cache_values v
    → (cache_of e).id ≡ v.id → cache_of e ≡ v
fields_of e v others same id =
    let flags : field e 4 4 ≡ v.flags = cc in
    let next_level : field e 8 4 ≡ v.next_level = cc in
    let size : field e 12 4 ≡ v.size = cc in
    let sets : field e 16 4 ≡ v.sets = cc in
    let associativity : field e 20 1 ≡ v.associativity = cc in
    let attributes : field e 21 1 ≡ v.attributes = cc in
    let line_size : field e 22 2 ≡ v.line_size = cc in
    λ i. record {
      flags = flags i;
      next_level = next_level i;
      size = size i;
      sets = sets i;
      associativity = associativity i;
      attributes = attributes i;
      line_size = line_size i;
      id = id i;
    }

pub cache24_reads : (e : List ℕ) (v : CacheValue) → length e ≡ 24 → cache_read e [] ≡ cache_values v → cache_of e ≡ v
cache24_reads e v count same =
    let others : [] ≡ id_values v.id = cc in
    fields_of e v [] same (rw count (none_of v.id others))

pub cache28_reads : (e : List ℕ) (v : CacheValue) → length e ≡ 28
    → cache_read e (Number (field e 24 4) ∷ []) ≡ cache_values v → cache_of e ≡ v
cache28_reads e v count same =
    let others : Number (field e 24 4) ∷ [] ≡ id_values v.id = cc in
    fields_of e v (Number (field e 24 4) ∷ []) same (rw count (some_of v.id (field e 24 4) others))
