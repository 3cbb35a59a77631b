use Rattle.std.proofs.Common.{◌≡◌, ◌+◌, ◌*◌, ◌++◌, length, take, ap, ◌∙◌, arith}
use Rattle.std.proofs.lemmas.Slice.{take-put_mid}
use borrow.Rule.Slice.PartMut.{same_len_mid}
use Rattle.acpi_base.proofs.Texts.Rows.{rows_push}
use Rattle.acpi_base.proofs.text.image_text.row.parse_rows.Goals as goal

pub loop-count-preserved : goal.loop-count-preserved
loop-count-preserved c =
    let l = c.loop-count in
    let start = 16 * l.count in
    let room = l.invariant.room in
    let copied = c.copy_from_slice.ensures.after in
    let sixteen : length c.copy_from_slice.new.self ≡ 16 = ap length copied ∙ c.in-Some.ensures.sixteen in
    let same = same_len_mid start _ l.bytes c.copy_from_slice.new.self c.copy_from_slice.ensures.len in
    record {
      rows = rows_push c.args.text.now _ _ c.in-Some.row l.count l.invariant.rows c.in-Some.ensures
          (take-put_mid start _ l.bytes c.copy_from_slice.new.self (16 * (l.count + 1)) (omega (arith, sixteen)) room
          ∙ ap (λ row. take start l.bytes ++ row) copied);
      room = omega (arith, same, c.loop-count-test.true);
      long = same ∙ l.invariant.long;
    }
