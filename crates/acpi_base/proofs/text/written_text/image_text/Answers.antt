use Rattle.std.proofs.Common.{◌+◌, ◌≤◌, ◌^◌, ◌∙◌, ℕ, List, length, sym, subst, ap, inl, inr, vec_items}
use Rattle.std.proofs.lemmas.Bool.{cases_lt}
use Rattle.acpi_base.specs.Text.WrittenText.{IsWritten}
use Rattle.acpi_base.proofs.Texts.Written.WrittenRuns.{whole_text, last_text, more}
use Rattle.acpi_base.proofs.text.written_text.image_text.Goals as goal
use Rattle.acpi_base.proofs.text.written_text.image_text.Goals.{in-Some+in_ok-write_run+in_default-checked_add, in_default}

pub returns : goal.returns
returns c =
    let m = c.args.image.now in
    let so_far = c.loop-base.invariant in
    elim c.match-run_from.branch [
      | in-Some+in_ok-write_run+in_default-checked_add w ↦
          let end = w.in-Some.base + length w.in-Some.bytes.now in
          let past : 2 ^ 64 ≤ end = elim (cases_lt end (2 ^ 64)) [
            | inl below ↦
                absurd (w.in_default-checked_add.ensures below)
            | inr past ↦ past
          ] in
          let text = ap (λ t. vec_items t) w.text-is ∙ w.in_ok-write_run.ensures in
          let all = more (vec_items c.loop-base.text) m c.loop-base.from w.in-Some.base w.in-Some.bytes.now so_far.image
          so_far.written w.in-Some.ensures in
          subst (λ (t : List ℕ). IsWritten t m) (sym text) (last_text _ m end so_far.image past all)
      | in_default w ↦
          subst (λ (t : List ℕ). IsWritten t m) (sym (ap (λ t. vec_items t) w.text-is))
          (whole_text (vec_items c.loop-base.text) m c.loop-base.from so_far.written w.in_default.ensures)
    ]
