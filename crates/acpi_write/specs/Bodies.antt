-- The contents of the tables of each kind after their headers, and which bytes encode them: the definitions that
-- depend on the kind (ACPI 6.5, 5.2.9, 5.2.12, 5.2.16, 5.2.17, 5.2.30).
use Rattle.std.specs.Prelude.{◌≡◌, ℕ, ◌+◌, ◌*◌, ◌≤◌, List, [], ◌∷◌, ◌++◌, length, drop, map, flat_map, replicate, Option, Some, None}
use Rattle.std.specs.List.{All}
use Rattle.acpi_base.specs.Number.{field, number_bytes, byte_sum}
use Rattle.acpi_base.specs.Entries.{IsCut, PlacedEntry, cut_of}
use Rattle.acpi_base.specs.Madt.{MadtContents, madt_entry, madt_contents}
use Rattle.acpi_base.specs.Srat.{SratContents, srat_entry, srat_contents}
use Rattle.acpi_base.specs.Slit.{SlitContents, HasSlitSize, slit_contents}
use Rattle.acpi_base.specs.Pptt.{PpttContents, HasOtherPpttLength, pptt_entry, pptt_contents}
use Rattle.acpi_base.specs.declared.table_kind.TableKind.{TableKind}
use Rattle.acpi_base.specs.declared.table_kind.TableKind.TheVariants as kind
use Rattle.acpi_read.specs.Entries.{IsFilledMadt, IsFilledSrat, IsFilledPptt}
use Rattle.acpi_read.specs.Madts as madts
use Rattle.acpi_read.specs.Srats as srats
use Rattle.acpi_read.specs.Pptts as pptts
use Rattle.acpi_write.specs.FadtBody.{with_facs}
use Rattle.acpi_write.specs.Values.{BodyValue, Madt, Srat, Slit, Pptt, Fadt}

-- all kinds
abbrev pub kinds : List TableKind
kinds = kind.Fadt ∷ kind.Madt ∷ kind.Srat ∷ kind.Slit ∷ kind.Pptt ∷ []

-- ---- the contents of bytes

-- the contents of a table of the kind; a FADT by its bytes from 36 on
abbrev pub ContentsOf : TableKind → Type 0
ContentsOf kind.Fadt = List ℕ
ContentsOf kind.Madt = MadtContents
ContentsOf kind.Srat = SratContents
ContentsOf kind.Slit = SlitContents
ContentsOf kind.Pptt = PpttContents

-- the contents of the bytes as those of the kind; those of a FADT with 0 for its FACS addresses, FIRMWARE_CTRL and
-- X_FIRMWARE_CTRL, since the FACS may move (5.2.9)
abbrev pub contents_of : (kind : TableKind) → List ℕ → ContentsOf kind
contents_of kind.Fadt whole = with_facs (drop 36 whole) 0
contents_of kind.Madt whole = madt_contents whole
contents_of kind.Srat whole = srat_contents whole
contents_of kind.Slit whole = slit_contents whole
contents_of kind.Pptt whole = pptt_contents whole

-- entries without their offsets
abbrev pub entries_in : {E : Type 0} → List (PlacedEntry E) → List E
entries_in entries = map (λ s. s.entry) entries

-- the same without sizes and offsets
abbrev pub value_of : (kind : TableKind) → ContentsOf kind → BodyValue
value_of kind.Fadt body = Fadt body
value_of kind.Madt c = Madt c.address c.flags (entries_in c.entries)
value_of kind.Srat c = Srat (entries_in c.entries)
value_of kind.Slit c = Slit c.count c.cells
value_of kind.Pptt c = Pptt (entries_in c.entries)

-- the contents of the bytes as those of the kind, without sizes and offsets
abbrev pub value_in : TableKind → List ℕ → BodyValue
value_in kind whole = value_of kind (contents_of kind whole)

-- the same, with the FACS addresses that a FADT has
abbrev pub whole_value_in : TableKind → List ℕ → BodyValue
whole_value_in kind.Fadt whole = Fadt (drop 36 whole)
whole_value_in kind whole = value_in kind whole

-- ---- what is required of bytes

-- a table is long enough, and entries fill it if it has entries
abbrev pub IsFilledAs : TableKind → List ℕ → Type 0
IsFilledAs kind.Fadt whole = 40 ≤ length whole
IsFilledAs kind.Madt whole = (44 ≤ length whole) × (cut_of 44 whole ≡ None)
IsFilledAs kind.Srat whole = (48 ≤ length whole) × (cut_of 48 whole ≡ None)
IsFilledAs kind.Slit whole = 44 ≤ length whole
IsFilledAs kind.Pptt whole = cut_of 36 whole ≡ None

-- a SLIT has its cells, and nothing after them
pub record IsReadableSlit (whole : List ℕ) : Type 0 where
  pub long : 44 ≤ length whole
  pub size : HasSlitSize (slit_contents whole)

-- the bytes can be read as those of the kind
abbrev pub IsReadableAs : Option TableKind → List ℕ → Type 0
IsReadableAs (Some kind.Fadt) whole = 116 ≤ length whole
IsReadableAs (Some kind.Madt) whole = IsFilledMadt whole
IsReadableAs (Some kind.Srat) whole = IsFilledSrat whole
IsReadableAs (Some kind.Slit) whole = IsReadableSlit whole
IsReadableAs (Some kind.Pptt) whole = IsFilledPptt whole
IsReadableAs None whole = byte_sum whole ≡ 0

-- ---- which bytes are written

-- an SRAT's bytes from 36 to 47, which are reserved: the first 4 are the number 1, the others 0 (5.2.16)
abbrev pub srat_reserved : List ℕ
srat_reserved = number_bytes 4 1 ++ replicate 8 0

-- the bytes after the header
abbrev pub body_bytes : BodyValue → List ℕ
body_bytes (Madt address flags entries) =
    number_bytes 4 address ++ (number_bytes 4 flags ++ flat_map madts.madt_bytes entries)
body_bytes (Srat entries) = srat_reserved ++ flat_map srats.srat_bytes entries
body_bytes (Slit count cells) = number_bytes 8 count ++ cells
body_bytes (Pptt entries) = flat_map pptts.pptt_bytes entries
body_bytes (Fadt body) = body

-- the same if the FACS is at this address, which is 0 for none
abbrev pub body_with : ℕ → BodyValue → List ℕ
body_with facs (Fadt body) = with_facs body facs
body_with facs v = body_bytes v

-- ---- which bytes encode a value

-- a table's bytes reach the offset of its first entry, and from there on consist of entries with these values, in
-- their order, each of which has a length of its type if the type has a meaning in the table
pub record SpellEntries {E : Type 0} (read : List ℕ → E) (IsOfOwnLength : E → Type 0) (first : ℕ) (bytes : List ℕ)
    (entries : List E) : Type 0 where
  pub long : first ≤ length bytes
  pub es : List (List ℕ)
  pub cut : IsCut (drop first bytes) es
  pub say : map read es ≡ entries
  pub lengths : All IsOfOwnLength entries

-- The bytes after the header encode the value: for a MADT, an SRAT and a PPTT by their entries (5.2.12, 5.2.16,
-- 5.2.30), for a SLIT by a cell for each pair of localities (5.2.17), and for a FADT by the bytes after its header,
-- which are at least 80 (5.2.9). Reserved bytes may be any.
abbrev pub SpellsBody : BodyValue → List ℕ → Type 0
SpellsBody (Madt address flags entries) bytes =
    (field bytes 36 4 ≡ address)
    × (field bytes 40 4 ≡ flags)
    × SpellEntries madt_entry madts.IsOfOwnLength 44 bytes entries
SpellsBody (Srat entries) bytes = SpellEntries srat_entry srats.IsOfOwnLength 48 bytes entries
SpellsBody (Slit count cells) bytes =
    (length bytes ≡ 44 + count * count) × (field bytes 36 8 ≡ count) × (drop 44 bytes ≡ cells)
SpellsBody (Pptt entries) bytes = SpellEntries pptt_entry (λ e. ¬ HasOtherPpttLength e) 36 bytes entries
SpellsBody (Fadt body) bytes = (116 ≤ length bytes) × (drop 36 bytes ≡ body)
