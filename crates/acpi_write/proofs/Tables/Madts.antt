-- The facts about the MADT.
use Rattle.std.proofs.Common.{◌≡◌, ℕ, ◌+◌, ◌^◌, ◌<◌, ◌≤◌, List, ◌++◌, length, get_or, drop, map, flat_map, None, refl, sym, ◌∙◌, arith, length-append}
use Rattle.std.specs.List.{All}
use Rattle.acpi_base.specs.Number.{field, number_bytes}
use Rattle.acpi_base.specs.Entries.{cut_of, entries_of, entries_read_by}
use Rattle.acpi_base.specs.Madt as madt
use Rattle.acpi_base.specs.Madt.{madt_entry, madt_contents}
use Rattle.acpi_base.specs.declared.stage.Stage.TheVariants as stage
use Rattle.acpi_base.specs.declared.table_kind.TableKind.TheVariants as kind
use Rattle.acpi_base.proofs.Images.PresentBytes.{field_below}
use Rattle.acpi_base.proofs.Layouts.RoundTrip.{length-number_bytes, number_there}
use Rattle.acpi_check.proofs.EntryPasses.Filled.{filled_madt}
use Rattle.acpi_read.specs.Madts.{madt_value, madt_bytes, IsOfOwnLength}
use Rattle.acpi_read.specs.declared.madt.MadtEntry.{MadtEntry}
use Rattle.acpi_read.specs.declared.madt.MadtEntry.TheVariants as entry
use Rattle.acpi_write.specs.Bodies.{entries_in, value_in, body_bytes, SpellsBody}
use Rattle.acpi_write.specs.Spells.{DoEntriesSay}
use Rattle.acpi_write.specs.Values.{Madt}
use Rattle.acpi_write.specs.Views.{IsShapedMadt}
use Rattle.acpi_write.proofs.EntryBytes.EntryForms.{madt_length}
use Rattle.acpi_write.proofs.EntryBytes.KeptEntries.{entries_are_kept}
use Rattle.acpi_write.proofs.Tables.Facts.{IsWrittenFor, KindFacts}
use Rattle.acpi_write.proofs.TablesWritten.EntryRuns.{spelled_entries, spell_entries, one_entries, behind, reaches}
use Rattle.acpi_write.proofs.TablesWritten.RewrittenEntries.{entries_kept, written_length}

-- the entries' bytes
abbrev parts_of : List ℕ → List ℕ
parts_of whole = flat_map madt_bytes (entries_in (entries_read_by madt_entry (entries_of 44 whole)))

pub length-body : (address flags : ℕ) (parts : List ℕ)
    → 36 + length (number_bytes 4 address ++ (number_bytes 4 flags ++ parts)) ≡ 44 + length parts
length-body address flags parts =
    omega (
      arith,
      length-append (number_bytes 4 address) (number_bytes 4 flags ++ parts),
      length-append (number_bytes 4 flags) parts,
      length-number_bytes 4 address,
      length-number_bytes 4 flags,
    )

count : (whole : List ℕ) → (44 ≤ length whole) × (cut_of 44 whole ≡ None)
    → 36 + length (body_bytes (value_in kind.Madt whole)) ≡ length whole
unfolding madt_contents
count whole filled =
    length-body (field whole 36 4) (field whole 40 4) (parts_of whole)
    ∙ written_length madt_entry madt_bytes madt_length 44 whole filled.0 filled.1

kept : (facs : ℕ) (whole new : List ℕ) → IsWrittenFor kind.Madt facs whole new → madt_contents new ≡ madt_contents whole
unfolding madt_contents
kept facs whole new is =
    let address = field whole 36 4 in
    let flags = field whole 40 4 in
    let flags_there = behind 36 4 40 new (number_bytes 4 address) (number_bytes 4 flags ++ parts_of whole) is.body
    (length-number_bytes 4 address) refl in
    let entries_there = behind 40 4 44 new (number_bytes 4 flags) (parts_of whole) flags_there
    (length-number_bytes 4 flags) refl in
    let at_36 = number_there 36 4 address new (number_bytes 4 flags ++ parts_of whole) is.body
    (field_below whole is.low 36 4) in
    let at_40 = number_there 40 4 flags new (parts_of whole) flags_there (field_below whole is.low 40 4) in
    let entries = entries_kept madt_entry madt_bytes (λ e l i. (entries_are_kept e l i).madt) 44 whole new is.low
    is.filled.1 entries_there in
    λ i. record { size = is.count i; address = at_36 i; flags = at_40 i; entries = entries.0 i; cut = entries.1 i }

pub facts : KindFacts kind.Madt
unfolding madt_contents
facts = record {
  kind_is = λ whole. (refl, refl);
  count = λ facs whole least filled. count whole filled;
  plain = λ whole filled. refl;
  kept = kept;
  spelled = λ whole least can. (
    refl,
    refl,
    spelled_entries madt_entry IsOfOwnLength 44 whole can.long can.filled
        can.lengths,
  );
  filled = λ whole can. (can.long, can.filled);
  readable = λ m q whole clean is. filled_madt q whole (clean stage.Madt whole is);
}

own_length : (v : MadtEntry) → IsShapedMadt v → IsOfOwnLength (madt_value v)
own_length (entry.Opaque bytes) shaped = shaped.1
own_length _ shaped = tt

pub says : (address flags : ℕ) (entries : List MadtEntry) (whole : List ℕ) → 36 ≤ length whole
    → drop 36 whole ≡ body_bytes (Madt address flags (map madt_value entries)) → address < 2 ^ 32 → flags < 2 ^ 32
    → DoEntriesSay madt_entry madt_bytes madt_value entries → All IsShapedMadt entries
    → SpellsBody (Madt address flags (map madt_value entries)) whole
says address flags entries whole least body low_address low_flags say shaped =
    let parts = flat_map madt_bytes (map madt_value entries) in
    let flags_there = behind 36 4 40 whole (number_bytes 4 address) (number_bytes 4 flags ++ parts) body
    (length-number_bytes 4 address) refl in
    let entries_there = behind 40 4 44 whole (number_bytes 4 flags) parts flags_there (length-number_bytes 4 flags)
    refl in
    let to_flags = reaches 36 4 whole (number_bytes 4 address) (number_bytes 4 flags ++ parts) least body
    (length-number_bytes 4 address) in
    let to_entries = reaches 40 4 whole (number_bytes 4 flags) parts to_flags flags_there
    (length-number_bytes 4 flags) in
    let own : All (λ v. IsOfOwnLength (madt_value v)) entries =
    λ k d h. own_length (get_or entries k d) (shaped k d h) in (
      number_there 36 4 address whole (number_bytes 4 flags ++ parts) body low_address,
      number_there 40 4 flags whole parts flags_there low_flags,
      spell_entries madt_entry madt_bytes madt_value IsOfOwnLength 44 whole entries to_entries entries_there say own,
    )

pub one : (bytes : List ℕ) (a b f g : ℕ) (vs ws : List madt.MadtEntry) → SpellsBody (Madt a f vs) bytes
    → SpellsBody (Madt b g ws) bytes → Madt a f vs ≡ Madt b g ws
one bytes a b f g vs ws v w =
    let entries = one_entries madt_entry IsOfOwnLength 44 bytes vs ws v.2 w.2 in
    λ k. Madt ((sym v.0 ∙ w.0) k) ((sym v.1 ∙ w.1) k) (entries k)
