-- The facts about the PPTT.
use Rattle.std.proofs.Common.{◌≡◌, ℕ, ◌+◌, ◌≤◌, List, length, get_or, drop, map, None, refl, arith}
use Rattle.std.specs.List.{All}
use Rattle.acpi_base.specs.Entries.{cut_of}
use Rattle.acpi_base.specs.Header.{header_of}
use Rattle.acpi_base.specs.Pptt as pptt
use Rattle.acpi_base.specs.Pptt.{pptt_entry, pptt_contents, HasOtherPpttLength}
use Rattle.acpi_base.specs.declared.stage.Stage.TheVariants as stage
use Rattle.acpi_base.specs.declared.table_kind.TableKind.TheVariants as kind
use Rattle.acpi_check.proofs.EntryPasses.Filled.{filled_pptt}
use Rattle.acpi_read.specs.Pptts.{pptt_value, pptt_bytes}
use Rattle.acpi_read.specs.declared.pptt.PpttEntry.{PpttEntry}
use Rattle.acpi_read.specs.declared.pptt.PpttEntry.TheVariants as entry
use Rattle.acpi_write.specs.Bodies.{value_in, body_bytes, SpellsBody}
use Rattle.acpi_write.specs.Spells.{DoEntriesSay}
use Rattle.acpi_write.specs.Values.{Pptt}
use Rattle.acpi_write.specs.Views.{IsShapedPptt}
use Rattle.acpi_write.proofs.EntryBytes.EntryForms.{pptt_length}
use Rattle.acpi_write.proofs.EntryBytes.KeptEntries.{entries_are_kept}
use Rattle.acpi_write.proofs.Tables.Facts.{IsWrittenFor, KindFacts}
use Rattle.acpi_write.proofs.TablesWritten.EntryRuns.{spelled_entries, spell_entries, one_entries}
use Rattle.acpi_write.proofs.TablesWritten.RewrittenEntries.{entries_kept, written_length}

count : (whole : List ℕ) → 36 ≤ length whole → cut_of 36 whole ≡ None
    → 36 + length (body_bytes (value_in kind.Pptt whole)) ≡ length whole
unfolding pptt_contents
count whole least filled = written_length pptt_entry pptt_bytes pptt_length 36 whole least filled

kept : (facs : ℕ) (whole new : List ℕ) → IsWrittenFor kind.Pptt facs whole new → pptt_contents new ≡ pptt_contents whole
unfolding pptt_contents header_of
kept facs whole new is =
    let entries = entries_kept pptt_entry pptt_bytes (λ e l i. (entries_are_kept e l i).pptt) 36 whole new is.low
    is.filled is.body in
    λ i. record { size = is.count i; revision = (is.head i).revision; entries = entries.0 i; cut = entries.1 i }

pub facts : KindFacts kind.Pptt
unfolding pptt_contents
facts = record {
  kind_is = λ whole. (refl, refl);
  count = λ facs whole least filled. count whole least filled;
  plain = λ whole filled. refl;
  kept = kept;
  spelled = λ whole least can. spelled_entries pptt_entry (λ e. ¬ HasOtherPpttLength e) 36 whole least can.filled
      can.lengths;
  filled = λ whole can. can.filled;
  readable = λ m q whole clean is. filled_pptt whole (clean stage.Pptt whole is);
}

own_length : (v : PpttEntry) → IsShapedPptt v → ¬ HasOtherPpttLength (pptt_value v)
own_length (entry.Opaque bytes) shaped = λ other. omega (arith, shaped.1, other)
own_length _ shaped = λ other. other

pub says : (entries : List PpttEntry) (whole : List ℕ) → 36 ≤ length whole
    → drop 36 whole ≡ body_bytes (Pptt (map pptt_value entries))
    → DoEntriesSay pptt_entry pptt_bytes pptt_value entries → All IsShapedPptt entries
    → SpellsBody (Pptt (map pptt_value entries)) whole
says entries whole least body say shaped =
    let own : All (λ v. ¬ HasOtherPpttLength (pptt_value v)) entries =
    λ k d h. own_length (get_or entries k d) (shaped k d h) in
    spell_entries pptt_entry pptt_bytes pptt_value (λ e. ¬ HasOtherPpttLength e) 36 whole entries least body say own

pub one : (bytes : List ℕ) (vs ws : List pptt.PpttEntry) → SpellsBody (Pptt vs) bytes → SpellsBody (Pptt ws) bytes
    → Pptt vs ≡ Pptt ws
one bytes vs ws v w =
    (let entries = one_entries pptt_entry (λ e. ¬ HasOtherPpttLength e) 36 bytes vs ws v w in λ k. Pptt (entries k))
