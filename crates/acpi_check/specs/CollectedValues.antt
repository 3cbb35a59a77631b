-- What is collected from the entries of a table.
use Rattle.std.specs.Prelude.{◌≡◌, List, [], ◌∷◌, Option}
use Rattle.std.specs.List.{cons_option}
use denote.Ref.{Bor}
use Rattle.acpi_base.specs.Entries.{PlacedEntry}
use Rattle.acpi_read.specs.Entries.{entry_at_value}
use Rattle.acpi_read.specs.declared.typed_entries.EntryAt.{EntryAt}

-- what a call returns for an entry, by the entry's contents
abbrev pub Picks : {E Said T : Type 0} → (E → Said) → (Bor (EntryAt E) → Option T → Type 0) → PlacedEntry Said → Option T → Type 0
Picks {E} value Answers s picked = (at : Bor (EntryAt E)) × (entry_at_value value at.now ≡ s) × Answers at picked

-- the values that `Gives` gives for each of these, in their order; entries for which it gives nothing are skipped
abbrev pub Collects : {S T : Type 0} → (S → Option T → Type 0) → List S → List T → Type 0
Collects Gives [] values = values ≡ []
Collects {S} {T} Gives (s ∷ left) values = (picked : Option T) × (others : List T) × Gives s picked × (values ≡ cons_option picked others) × Collects Gives left others
