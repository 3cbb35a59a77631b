use Rattle.std.proofs.Common.{◌+◌, ◌*◌, Some, take, refl, arith}
use Rattle.acpi_base.proofs.Texts.Rows.{placed_row, rows_added}
use Rattle.acpi_base.proofs.text.image_text.line_parser.LineParser.read_rows.Goals as goal

pub returns-in-Err-clause-memory : goal.returns-in-Err-clause-memory
returns-in-Err-clause-memory c memory =
    let p = c.args.self.now in
    let room = c.if-next-count.false in
    let fits = c.if-through.false in
    let some = c.if-count-eq0.false in
    let few = c.parse_rows-count.ensures.room in
    placed_row p p.image c.add.new.self c.args.text.now _ c.parse_rows-count.result c.in-Some.next
    c.parse_rows-count.ensures.rows (omega arith) c.in-Some.is (omega arith) (omega arith) c.in-Err.ensures.err memory

pub returns-in-Ok-clause-ok : goal.returns-in-Ok-clause-ok
returns-in-Ok-clause-ok c =
    let p = c.args.self.now in
    let room = c.if-next-count.false in
    let fits = c.if-through.false in
    let rows = c.parse_rows-count.ensures.rows in
    let few = c.parse_rows-count.ensures.room in
    let n = c.parse_rows-count.result in
    let later = record p {
      lines = p.lines + n;
      through = p.through + 48 * n;
      next = Some (c.in-Some.next + 16 * n);
      image = c.add.new.self;
    } in
    record {
      count = n;
      bytes = take (16 * n) c.parse_rows-count.new.bytes;
      rows = rows;
      whole = refl;
      read = rows_added p later p.image c.add.new.self c.args.text.now _ n c.in-Some.next rows
          c.in-Some.is (omega arith) (omega arith) c.in-Ok.ensures.ok refl refl refl;
    }
