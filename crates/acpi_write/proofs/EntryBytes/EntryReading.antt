-- Entries that are read one after another.
use Rattle.std.proofs.Common.{◌≡◌, ℕ, List, [], ◌∷◌, ◌++◌, map, length, get_or, refl, sym, ap, ◌∙◌, subst, arith, append_assoc}
use Rattle.std.specs.List.{All}
use Rattle.std.proofs.Math.ListN.{get_or-map}
use Rattle.std.proofs.lemmas.List.{map-append, append-nil, length-map}
use Rattle.std.proofs.lemmas.List.Elements.{All-nil, All-push, Contains-get_or}
use Rattle.acpi_base.specs.Entries.{PlacedEntry, Stands}
use Rattle.acpi_base.specs.Pptt as pptt
use Rattle.acpi_read.specs.Madts as madts
use Rattle.acpi_read.specs.Srats as srats
use Rattle.acpi_read.specs.Pptts as pptts
use Rattle.acpi_read.specs.Entries.{entry_at_value}
use Rattle.acpi_read.specs.declared.madt.MadtEntry.{MadtEntry}
use Rattle.acpi_read.specs.declared.madt.MadtEntry.TheVariants as madt_entry
use Rattle.acpi_read.specs.declared.srat.SratEntry.{SratEntry}
use Rattle.acpi_read.specs.declared.srat.SratEntry.TheVariants as srat_entry
use Rattle.acpi_read.specs.declared.pptt.PpttEntry.{PpttEntry}
use Rattle.acpi_read.specs.declared.pptt.PpttEntry.TheVariants as pptt_entry
use Rattle.acpi_read.specs.declared.typed_entries.EntryAt.{EntryAt}
use Rattle.acpi_write.specs.Views.{IsShapedMadt, IsShapedSrat, IsShapedPptt}
use Rattle.acpi_write.specs.Bodies.{entries_in}

-- ---- from entry to entry

-- the values that were found and the entries that are left are all the entries
pub record ListsSoFar {E Said : Type 0} (value : E → Said) (IsRead : E → Type 0) (all left : List (PlacedEntry Said))
    (found : List E) : Type 0 where
  pub says : map value found ++ entries_in left ≡ entries_in all
  pub read : All IsRead found

pub list_begins : {E Said : Type 0} (value : E → Said) (IsRead : E → Type 0) (all : List (PlacedEntry Said))
    (found : List E) → found ≡ [] → ListsSoFar value IsRead all all found
list_begins value IsRead all found none = rw none (record { says = refl; read = All-nil IsRead })

pub list_more : {E Said : Type 0} (value : E → Said) (IsRead : E → Type 0) (all left rest : List (PlacedEntry Said))
    (found new : List E) (e : EntryAt E)
    → new ≡ found ++ e.entry ∷ [] → left ≡ entry_at_value value e ∷ rest → IsRead e.entry
    → ListsSoFar value IsRead all left found → ListsSoFar value IsRead all rest new
list_more value IsRead all left rest found new e pushed step is so_far = rw pushed (record {
  says = ap (λ l. l ++ entries_in rest) (map-append value found (e.entry ∷ []))
      ∙ append_assoc (map value found) (value e.entry ∷ []) (entries_in rest)
      ∙ ap (λ l. map value found ++ entries_in l) (sym step) ∙ so_far.says;
  read = All-push IsRead found e.entry so_far.read is;
})

pub list_ends : {E Said : Type 0} (value : E → Said) (IsRead : E → Type 0) (all left : List (PlacedEntry Said))
    (found : List E) → left ≡ [] → ListsSoFar value IsRead all left found → map value found ≡ entries_in all
list_ends value IsRead all left found none so_far =
    sym (append-nil (map value found)) ∙ ap (λ l. map value found ++ entries_in l) (sym none) ∙ so_far.says

-- ---- each can be written

pub all_found : {E Said : Type 0} (value : E → Said) (P : Said → Type 0) (found : List E)
    (entries : List (PlacedEntry Said)) → map value found ≡ entries_in entries
    → ((o : ℕ) (e : Said) → Stands entries o e → P e) → All (λ v. P (value v)) found
all_found {Said = Said} value P found entries same each k d below =
    let none : PlacedEntry Said = record { offset = 0; entry = value d } in
    let within = length-map found value in
    let count = length-map entries (λ s. s.entry) in
    let here : value (get_or found k d) ≡ (get_or entries k none).entry =
    sym (get_or-map value found k d) ∙ ap (λ (l : List Said). get_or l k (value d)) same
    ∙ get_or-map (λ s. s.entry) entries k none in
    subst P (sym here) (each (get_or entries k none).offset (get_or entries k none).entry
    (Contains-get_or entries k none (omega (arith, below, within, count, ap length same))))

pub madt_shaped : (v : MadtEntry) → madts.IsCompleteEntry v → madts.IsOfOwnLength (madts.madt_value v) → IsShapedMadt v
madt_shaped (madt_entry.Opaque bytes) whole own = (whole, own)
madt_shaped _ whole own = tt

pub srat_shaped : (v : SratEntry) → srats.IsCompleteEntry v → srats.IsOfOwnLength (srats.srat_value v) → IsShapedSrat v
srat_shaped (srat_entry.Opaque bytes) whole own = (whole, own)
srat_shaped _ whole own = tt

pub pptt_shaped : (v : PpttEntry) → pptts.HasReferences v × pptts.IsCompleteEntry v
    → ¬ pptt.HasOtherPpttLength (pptts.pptt_value v) → IsShapedPptt v
pptt_shaped (pptt_entry.Opaque bytes) whole own = (whole.1, omega (arith, own))
pptt_shaped (pptt_entry.Node head references) whole own = whole.0
pptt_shaped _ whole own = tt
