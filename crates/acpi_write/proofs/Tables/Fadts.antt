-- The facts about the FADT, whose body has the FACS's address.
use Rattle.std.proofs.Common.{◌≡◌, ℕ, ◌+◌, ◌≤◌, List, length, drop, refl, ap, ◌∙◌, subst, arith, length-drop}
use Rattle.acpi_base.specs.Listed.{fadt_signature}
use Rattle.acpi_base.specs.declared.stage.Stage.TheVariants as stage
use Rattle.acpi_base.specs.declared.table_kind.TableKind.TheVariants as kind
use Rattle.acpi_base.proofs.Tables.Listed.{one_listed}
use Rattle.acpi_write.specs.Bodies.{body_bytes, SpellsBody}
use Rattle.acpi_write.specs.FadtBody.{with_facs}
use Rattle.acpi_write.specs.Values.{Fadt}
use Rattle.acpi_write.proofs.Tables.Facts.{IsWrittenFor, KindFacts}
use Rattle.acpi_write.proofs.TablesWritten.FadtBodies.{length-with_facs, with_facs-with_facs}

-- the body has room for the address
room : (whole : List ℕ) → 40 ≤ length whole → 4 ≤ length (drop 36 whole)
room whole long = omega (arith, length-drop 36 whole, long)

last : (facs : ℕ) (whole : List ℕ) → 40 ≤ length whole
    → with_facs (with_facs (drop 36 whole) 0) facs ≡ with_facs (drop 36 whole) facs
last facs whole long = with_facs-with_facs (drop 36 whole) 0 facs (room whole long)

count : (facs : ℕ) (whole : List ℕ) → 40 ≤ length whole
    → 36 + length (with_facs (with_facs (drop 36 whole) 0) facs) ≡ length whole
count facs whole long =
    omega (
      arith,
      ap length (last facs whole long),
      length-with_facs (drop 36 whole) facs (room whole long),
      length-drop 36 whole,
      long,
    )

kept : (facs : ℕ) (whole new : List ℕ) → IsWrittenFor kind.Fadt facs whole new
    → with_facs (drop 36 new) 0 ≡ with_facs (drop 36 whole) 0
kept facs whole new is =
    ap (λ (b : List ℕ). with_facs b 0) (is.body ∙ last facs whole is.filled)
    ∙ with_facs-with_facs (drop 36 whole) facs 0 (room whole is.filled)

pub facts : KindFacts kind.Fadt
facts = record {
  kind_is = λ whole. (refl, refl);
  count = λ facs whole least long. count facs whole long;
  plain = λ whole long. last 0 whole long;
  kept = kept;
  spelled = λ whole least long. (long, refl);
  filled = λ whole long. omega (arith, long);
  readable = λ m q whole clean is. (
      let fadt = clean stage.Fadt in
      subst (λ (b : List ℕ). 116 ≤ length b) (one_listed m q.rsdp fadt_signature fadt.whole whole fadt.fadt is)
      fadt.valid.long);
}

pub says : (body whole : List ℕ) → 36 ≤ length whole → drop 36 whole ≡ body_bytes (Fadt body) → 80 ≤ length body
    → SpellsBody (Fadt body) whole
says body whole least there long = (omega (arith, long, least, ap length there, length-drop 36 whole), there)
