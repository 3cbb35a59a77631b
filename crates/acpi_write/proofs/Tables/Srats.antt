-- The facts about the SRAT.
use Rattle.std.proofs.Common.{◌≡◌, ℕ, ◌+◌, ◌≤◌, List, ◌++◌, length, get_or, drop, map, flat_map, replicate, None, refl, ◌∙◌, arith, length-append}
use Rattle.std.specs.List.{All}
use Rattle.acpi_base.specs.Number.{number_bytes}
use Rattle.acpi_base.specs.Entries.{cut_of, entries_of, entries_read_by}
use Rattle.acpi_base.specs.Srat as srat
use Rattle.acpi_base.specs.Srat.{srat_entry, srat_contents}
use Rattle.acpi_base.specs.declared.stage.Stage.TheVariants as stage
use Rattle.acpi_base.specs.declared.table_kind.TableKind.TheVariants as kind
use Rattle.acpi_base.proofs.Layouts.RoundTrip.{length-number_bytes}
use Rattle.acpi_check.proofs.EntryPasses.Filled.{filled_srat}
use Rattle.acpi_read.specs.Srats.{srat_value, srat_bytes, IsOfOwnLength}
use Rattle.acpi_read.specs.declared.srat.SratEntry.{SratEntry}
use Rattle.acpi_read.specs.declared.srat.SratEntry.TheVariants as entry
use Rattle.acpi_write.specs.Bodies.{entries_in, value_in, body_bytes, srat_reserved, SpellsBody}
use Rattle.acpi_write.specs.Spells.{DoEntriesSay}
use Rattle.acpi_write.specs.Values.{Srat}
use Rattle.acpi_write.specs.Views.{IsShapedSrat}
use Rattle.acpi_write.proofs.EntryBytes.EntryForms.{srat_length}
use Rattle.acpi_write.proofs.EntryBytes.KeptEntries.{entries_are_kept}
use Rattle.acpi_write.proofs.Tables.Facts.{IsWrittenFor, KindFacts}
use Rattle.acpi_write.proofs.TablesWritten.EntryRuns.{spelled_entries, spell_entries, one_entries, behind, reaches}
use Rattle.acpi_write.proofs.TablesWritten.RewrittenEntries.{entries_kept, written_length}

-- the entries' bytes
abbrev parts_of : List ℕ → List ℕ
parts_of whole = flat_map srat_bytes (entries_in (entries_read_by srat_entry (entries_of 48 whole)))

length-reserved : length srat_reserved ≡ 12
length-reserved = omega (arith, length-append (number_bytes 4 1) (replicate 8 0), length-number_bytes 4 1)

pub length-body : (parts : List ℕ) → 36 + length (srat_reserved ++ parts) ≡ 48 + length parts
length-body parts = omega (arith, length-append srat_reserved parts, length-reserved)

count : (whole : List ℕ) → (48 ≤ length whole) × (cut_of 48 whole ≡ None)
    → 36 + length (body_bytes (value_in kind.Srat whole)) ≡ length whole
unfolding srat_contents
count whole filled =
    length-body (parts_of whole) ∙ written_length srat_entry srat_bytes srat_length 48 whole filled.0 filled.1

kept : (facs : ℕ) (whole new : List ℕ) → IsWrittenFor kind.Srat facs whole new → srat_contents new ≡ srat_contents whole
unfolding srat_contents
kept facs whole new is =
    let there = behind 36 12 48 new srat_reserved (parts_of whole) is.body length-reserved refl in
    let entries = entries_kept srat_entry srat_bytes (λ e l i. (entries_are_kept e l i).srat) 48 whole new is.low
    is.filled.1 there in
    λ i. record { size = is.count i; entries = entries.0 i; cut = entries.1 i }

pub facts : KindFacts kind.Srat
unfolding srat_contents
facts = record {
  kind_is = λ whole. (refl, refl);
  count = λ facs whole least filled. count whole filled;
  plain = λ whole filled. refl;
  kept = kept;
  spelled = λ whole least can. spelled_entries srat_entry IsOfOwnLength 48 whole can.long can.filled can.lengths;
  filled = λ whole can. (can.long, can.filled);
  readable = λ m q whole clean is. filled_srat whole (clean stage.Srat whole is);
}

own_length : (v : SratEntry) → IsShapedSrat v → IsOfOwnLength (srat_value v)
own_length (entry.Opaque bytes) shaped = shaped.1
own_length _ shaped = tt

pub says : (entries : List SratEntry) (whole : List ℕ) → 36 ≤ length whole
    → drop 36 whole ≡ body_bytes (Srat (map srat_value entries))
    → DoEntriesSay srat_entry srat_bytes srat_value entries → All IsShapedSrat entries
    → SpellsBody (Srat (map srat_value entries)) whole
says entries whole least body say shaped =
    let parts = flat_map srat_bytes (map srat_value entries) in
    let to_entries = reaches 36 12 whole srat_reserved parts least body length-reserved in
    let own : All (λ v. IsOfOwnLength (srat_value v)) entries =
    λ k d h. own_length (get_or entries k d) (shaped k d h) in
    spell_entries srat_entry srat_bytes srat_value IsOfOwnLength 48 whole entries to_entries
    (behind 36 12 48 whole srat_reserved parts body length-reserved refl) say own

pub one : (bytes : List ℕ) (vs ws : List srat.SratEntry) → SpellsBody (Srat vs) bytes → SpellsBody (Srat ws) bytes
    → Srat vs ≡ Srat ws
one bytes vs ws v w = (let entries = one_entries srat_entry IsOfOwnLength 48 bytes vs ws v w in λ k. Srat (entries k))
