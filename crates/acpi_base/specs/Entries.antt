-- Tables of entries: the MADT, the SRAT and the PPTT (ACPI 6.5, 5.2.12, 5.2.16, 5.2.30). An entry's byte 0 is its type, its
-- byte 1 its length. Offsets are from the table's start; `first` is the offset of the first entry.
use Rattle.std.specs.Prelude.{◌≡◌, ℕ, zero, suc, ◌+◌, ◌<◌, ◌≤◌, Bool, List, [], ◌∷◌, length, take, drop, map, slice_index, slice_range, Option, Some, None, nat_lt, nat_le, ◌==◌, ◌&&◌, if◌then◌else◌, ◌⊎◌, ◌↔◌, All, Contains, sum_by, flat_map}
use Rattle.std.specs.Option.{option_map_or}

-- an entry's bytes: at least two, the second of which is their count
pub record IsEntry (e : List ℕ) : Type 0 where
  pub least : 2 ≤ length e
  pub said : slice_index e 1 ≡ length e

-- ---- the entries of a table, up to the cut

-- an entry and its offset: its bytes, or what they say
pub record PlacedEntry (E : Type 0) : Type 0 where
  pub offset : ℕ
  pub entry : E

-- the entry that the remaining bytes begin with, if any: at least two bytes remain, its length byte is at least 2, and it fits
unfoldable pub first_entry : List ℕ → Option (List ℕ)
first_entry left =
    if nat_le 2 (length left) && nat_le 2 (slice_index left 1) && nat_le (slice_index left 1) (length left)
    then Some (take (slice_index left 1) left)
    else None

-- the entries, at most n, that follow one another in the remaining bytes from an offset on
unfoldable pub entries_from : ℕ → ℕ → List ℕ → List (PlacedEntry (List ℕ))
entries_from zero offset left = []
entries_from (suc n) offset left =
    option_map_or
    (λ e. record { offset = offset; entry = e } ∷ entries_from n (offset + length e) (drop (length e) left))
    (first_entry left)
    []

-- the entries that follow one another from `first` on; there are no more of them than bytes
unfoldable pub entries_of : ℕ → List ℕ → List (PlacedEntry (List ℕ))
entries_of first whole = entries_from (length whole) first (drop first whole)

-- the offset after the last of them; `first` if there is none
unfoldable pub end_of_entries : ℕ → List ℕ → ℕ
end_of_entries first whole = first + sum_by (λ s. length s.entry) (entries_of first whole)

-- the offset of the bytes after them, at which no entry can begin; none if the entries fill the table, or if it ends before
-- `first`
unfoldable pub cut_of : ℕ → List ℕ → Option ℕ
cut_of first whole =
    if nat_lt (end_of_entries first whole) (length whole) then Some (end_of_entries first whole) else None

-- the same entries, as what their bytes say
abbrev pub entries_read_by : {E : Type 0} → (List ℕ → E) → List (PlacedEntry (List ℕ)) → List (PlacedEntry E)
entries_read_by read entries = map (λ s. record { offset = s.offset; entry = read s.entry }) entries

-- this entry is at the offset o
abbrev pub Stands : {E : Type 0} → List (PlacedEntry E) → ℕ → E → Type 0
Stands entries o e = Contains entries (record { offset = o; entry = e })

-- an entry with P is at the offset o
abbrev pub StandsWith : {E : Type 0} → List (PlacedEntry E) → ℕ → (E → Type 0) → Type 0
StandsWith {E} entries o P = (e : E) × Stands entries o e × P e

-- whether an entry's bytes have this type and this length
unfoldable pub has_form : List ℕ → ℕ → ℕ → Bool
has_form e type size = (slice_index e 0 == type) && (length e == size)

-- numbers that a fault does not use are 0
abbrev pub AreUnused : ℕ → ℕ → Type 0
AreUnused other point = (other ≡ 0) × (point ≡ 0)

-- ---- kinds of entries

-- a kind of entry: its type, its length in bytes, and what an entry of the kind says
pub record EntryType (E : Type 0) : Type 0 where
  pub type : ℕ
  pub size : ℕ
  pub read : List ℕ → E

-- the kind with these
abbrev pub kind : {E : Type 0} → ℕ → ℕ → (List ℕ → E) → EntryType E
kind type size read = record { type = type; size = size; read = read }

-- the same kind, with what its entries say as one case of what all entries of the table can say
abbrev pub kind_as : {V E : Type 0} → (V → E) → EntryType V → EntryType E
kind_as variant k = kind k.type k.size (λ e. variant (k.read e))

-- these are the bytes of an entry of the kind that says v
pub record IsEntryOf {V : Type 0} (k : EntryType V) (e : List ℕ) (v : V) : Type 0 where
  pub count : length e ≡ k.size
  pub typed : slice_index e 0 ≡ k.type
  pub said : slice_index e 1 ≡ k.size
  pub value : k.read e ≡ v

-- what an entry says: as the kind with its type and length reads it, or as `opaque` does if there is no such kind
abbrev pub value_of_kind : {E : Type 0} → List (EntryType E) → (List ℕ → E) → List ℕ → E
value_of_kind [] opaque e = opaque e
value_of_kind (k ∷ kinds) opaque e = if has_form e k.type k.size then k.read e else value_of_kind kinds opaque e

-- one of the kinds has this type
abbrev pub IsTypeOf : {E : Type 0} → List (EntryType E) → ℕ → Type 0
IsTypeOf [] type = ⊥
IsTypeOf (k ∷ kinds) type = (type ≡ k.type) ⊎ IsTypeOf kinds type

-- ---- the same as relations, and the laws that relate the two

-- the body is the join of these entries
pub record IsCut (body : List ℕ) (es : List (List ℕ)) : Type 0 where
  pub each : All IsEntry es
  pub joined : flat_map (λ e. e) es ≡ body

-- o is a start: it is at least `first` and below the table's length, and the bytes from `first` up to o are joined entries
pub record IsStart (first : ℕ) (whole : List ℕ) (o : ℕ) : Type 0 where
  pub from : first ≤ o
  pub below : o < length whole
  pub es : List (List ℕ)
  pub cut : IsCut (slice_range whole first o) es

-- the entry e is at the start o: it is a run of the table's bytes that begins there
pub record StandsAt (first : ℕ) (whole : List ℕ) (o : ℕ) (e : List ℕ) : Type 0 where
  pub start : IsStart first whole o
  pub entry : IsEntry e
  pub run : slice_range whole o (o + length e) ≡ e

-- a body has at most one cut
abbrev pub OneCut : Type 0
OneCut = (body : List ℕ) (es others : List (List ℕ)) → IsCut body es → IsCut body others → es ≡ others

-- a table's body has a cut into entries exactly if there is an entry at each start
abbrev pub CutsWhereAllStand : Type 0
CutsWhereAllStand =
    (first : ℕ) (whole : List ℕ) → ((es : List (List ℕ)) × IsCut (drop first whole) es) ↔ ((o : ℕ) → IsStart first whole o → (e : List ℕ) × StandsAt first whole o e)

-- the entries of the table are exactly the members of `entries_of`
abbrev pub EntriesStand : Type 0
EntriesStand = (first : ℕ) (whole : List ℕ) (o : ℕ) (e : List ℕ) → StandsAt first whole o e ↔ Stands (entries_of first whole) o e

-- `cut_of` is the one start at which no entry can begin
abbrev pub CutIsStart : Type 0
CutIsStart =
    (first : ℕ) (whole : List ℕ) (o : ℕ) → (cut_of first whole ≡ Some o) ↔ (IsStart first whole o × ((e : List ℕ) → ¬ StandsAt first whole o e))

-- and it is none exactly if the body is cut into entries
abbrev pub NoCutFault : Type 0
NoCutFault = (first : ℕ) (whole : List ℕ) → (cut_of first whole ≡ None) ↔ ((es : List (List ℕ)) × IsCut (drop first whole) es)

-- a table that ends before `first` has no entries and no cut
abbrev pub NoneInShort : Type 0
NoneInShort =
    (first : ℕ) (whole : List ℕ) → length whole < first → (cut_of first whole ≡ None) × ((o : ℕ) (e : List ℕ) → ¬ Stands (entries_of first whole) o e)
