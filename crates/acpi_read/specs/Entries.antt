-- The entries of a table: what a view of them represents, and tables that they fill (ACPI 6.5, 5.2.12, 5.2.16, 5.2.30).
use Rattle.std.specs.Prelude.{◌≡◌, ℕ, ◌≤◌, List, length, None, [], ◌∷◌, Option, Some, ◌+◌, ◌<◌}
use Rattle.acpi_base.specs.Entries.{Stands, cut_of, PlacedEntry, entries_read_by, IsEntry, entries_of}
use Rattle.acpi_base.specs.Madt as madt
use Rattle.acpi_base.specs.Srat as srat
use Rattle.acpi_base.specs.Pptt as pptt
use Rattle.acpi_read.specs.Madts as madts
use Rattle.acpi_read.specs.Srats as srats
use Rattle.acpi_read.specs.declared.typed_entries.EntryAt.{EntryAt}
use Rattle.acpi_read.specs.declared.entry.Entry.{Entry}

-- ---- tables that their entries fill, each of a length of its type

-- a MADT is long enough, and is filled by entries that have a length of their type (5.2.12)
pub record IsFilledMadt (whole : List ℕ) : Type 0 where
  pub long : 44 ≤ length whole
  pub filled : cut_of 44 whole ≡ None
  pub lengths : (o : ℕ) (e : madt.MadtEntry) → Stands (madt.madt_contents whole).entries o e → madts.IsOfOwnLength e

-- the same for an SRAT (5.2.16)
pub record IsFilledSrat (whole : List ℕ) : Type 0 where
  pub long : 48 ≤ length whole
  pub filled : cut_of 48 whole ≡ None
  pub lengths : (o : ℕ) (e : srat.SratEntry) → Stands (srat.srat_contents whole).entries o e → srats.IsOfOwnLength e

-- the same for a PPTT (5.2.30)
pub record IsFilledPptt (whole : List ℕ) : Type 0 where
  pub filled : cut_of 36 whole ≡ None
  pub lengths : (o : ℕ) (e : pptt.PpttEntry) → Stands (pptt.pptt_contents whole).entries o e → ¬ pptt.HasOtherPpttLength e

-- ---- the entries of a table by contents

-- an entry: its offset and its contents
abbrev pub entry_at_value : {E Said : Type 0} → (E → Said) → EntryAt E → PlacedEntry Said
entry_at_value value e = record { offset = e.offset; entry = value e.entry }

-- the first remaining entry is returned by its contents, and the others remain; or none remains
abbrev pub GivesTyped : {E Said : Type 0} → (E → Said) → (List ℕ → Said) → (E → Type 0) → List (PlacedEntry (List ℕ)) → Option (EntryAt E) → List (PlacedEntry (List ℕ)) → Type 0
GivesTyped value read IsRead before None after = (entries_read_by read before ≡ []) × (entries_read_by read after ≡ [])
GivesTyped value read IsRead before (Some e) after =
    (entries_read_by read before ≡ entry_at_value value e ∷ entries_read_by read after) × IsRead e.entry

-- ---- what a view of a table's entries represents

-- the remaining entries, and the cut: the offset of the bytes after them, at which no entry can begin
pub record EntriesValue : Type 0 where
  pub entries : List (PlacedEntry (List ℕ))
  pub cut : Option ℕ

-- the entries of a table, from an offset on
abbrev pub entries_from_place : ℕ → List ℕ → EntriesValue
entries_from_place offset whole = record { entries = entries_of offset whole; cut = cut_of offset whole }

-- an entry: its offset and its bytes
abbrev pub entry_value : Entry → PlacedEntry (List ℕ)
entry_value e = record { offset = e.offset; entry = e.bytes.now }

-- the cut, once no entry remains
abbrev pub cut_behind : List (PlacedEntry (List ℕ)) → Option ℕ → Option ℕ
cut_behind [] cut = cut
cut_behind (entry ∷ entries) cut = None

-- there is no entry at the offset: there are no entries from there on, and the remaining bytes are after the cut
pub record IsLast (offset : ℕ) (whole : List ℕ) : Type 0 where
  pub none : entries_of offset whole ≡ []
  pub here : offset < length whole → cut_of offset whole ≡ Some offset
  pub end : length whole ≤ offset → cut_of offset whole ≡ None

-- the entry is the first from the offset on, followed by the others
pub record IsNext (offset : ℕ) (whole e : List ℕ) : Type 0 where
  pub entry : IsEntry e
  pub fits : offset + length e ≤ length whole
  pub first : entries_of offset whole ≡ record { offset = offset; entry = e } ∷ entries_of (offset + length e) whole
  pub cut : cut_of (offset + length e) whole ≡ cut_of offset whole
