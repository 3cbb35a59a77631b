-- The facts about the SLIT.
use Rattle.std.proofs.Common.{◌≡◌, ℕ, ◌+◌, ◌*◌, ◌^◌, ◌<◌, ◌≤◌, List, length, drop, refl, sym, ap, ◌∙◌, arith, length-append, length-drop}
use Rattle.acpi_base.specs.Number.{field, number_bytes}
use Rattle.acpi_base.specs.Slit.{IsValidSlit, slit_contents}
use Rattle.acpi_base.specs.declared.stage.Stage.TheVariants as stage
use Rattle.acpi_base.specs.declared.table_kind.TableKind.TheVariants as kind
use Rattle.acpi_base.proofs.Images.PresentBytes.{field_below}
use Rattle.acpi_base.proofs.Layouts.RoundTrip.{length-number_bytes, number_there}
use Rattle.acpi_write.specs.Bodies.{value_in, IsReadableSlit, body_bytes, SpellsBody}
use Rattle.acpi_write.specs.Values.{Slit}
use Rattle.acpi_write.proofs.Tables.Facts.{IsWrittenFor, KindFacts}
use Rattle.acpi_write.proofs.TablesWritten.EntryRuns.{behind, reaches}

count : (whole : List ℕ) → 44 ≤ length whole → 36 + length (body_bytes (value_in kind.Slit whole)) ≡ length whole
unfolding slit_contents
count whole long =
    omega (
      arith,
      length-append (number_bytes 8 (field whole 36 8)) (drop 44 whole),
      length-number_bytes 8 (field whole 36 8),
      length-drop 44 whole,
      long,
    )

kept : (facs : ℕ) (whole new : List ℕ) → IsWrittenFor kind.Slit facs whole new → slit_contents new ≡ slit_contents whole
unfolding slit_contents
kept facs whole new is =
    let rows = field whole 36 8 in
    let cells = behind 36 8 44 new (number_bytes 8 rows) (drop 44 whole) is.body (length-number_bytes 8 rows) refl in
    let at_36 = number_there 36 8 rows new (drop 44 whole) is.body (field_below whole is.low 36 8) in
    λ i. record { size = is.count i; count = at_36 i; cells = cells i }

readable : (whole : List ℕ) → IsValidSlit (slit_contents whole) → IsReadableSlit whole
unfolding slit_contents
readable whole valid =
    let size : length whole ≡ 44 + field whole 36 8 * field whole 36 8 = valid.size in
    record { long = omega (arith, size); size = valid.size }

pub facts : KindFacts kind.Slit
unfolding slit_contents
facts = record {
  kind_is = λ whole. (refl, refl);
  count = λ facs whole least long. count whole long;
  plain = λ whole long. refl;
  kept = kept;
  spelled = λ whole least can. (can.size, refl, refl);
  filled = λ whole can. can.long;
  readable = λ m q whole clean is. readable whole (clean stage.Slit whole is);
}

pub says : (count : ℕ) (cells whole : List ℕ) → 36 ≤ length whole → drop 36 whole ≡ body_bytes (Slit count cells)
    → count < 2 ^ 64 → length cells ≡ count * count → SpellsBody (Slit count cells) whole
says count cells whole least body fits square =
    let to_cells = reaches 36 8 whole (number_bytes 8 count) cells least body (length-number_bytes 8 count) in
    let there = behind 36 8 44 whole (number_bytes 8 count) cells body (length-number_bytes 8 count) refl in (
      omega (arith, to_cells, square, ap length there, length-drop 44 whole),
      number_there 36 8 count whole cells body fits,
      there,
    )

pub one : (bytes : List ℕ) (n m : ℕ) (cells others : List ℕ) → SpellsBody (Slit n cells) bytes
    → SpellsBody (Slit m others) bytes → Slit n cells ≡ Slit m others
one bytes n m cells others v w = λ k. Slit ((sym v.1 ∙ w.1) k) ((sym v.2 ∙ w.2) k)
