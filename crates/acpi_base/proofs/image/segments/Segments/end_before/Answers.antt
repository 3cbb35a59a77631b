use Rattle.std.proofs.Common.{◌≡◌, ◌<◌, ◌-◌, length, arith}
use Rattle.std.proofs.lemmas.Bool.Decides.{nat_tests}
use Rattle.acpi_base.proofs.Images.Searches.{no_bytes_from, none_from_end}
use Rattle.acpi_base.proofs.image.segments.Segments.end_before.Goals as goal

pub returns-then-count-eq0 : goal.returns-then-count-eq0
returns-then-count-eq0 c = λ yes x from.
    let s = c.args.self.now in
    let none : length s.store ≡ 0 = grind (arith, nat_tests, c.len-count.ensures, yes) in
    no_bytes_from s.store s.ended.items s.base s.start c.args.address x c.requires none from

pub returns-then-self-address : goal.returns-then-self-address
returns-then-self-address c = λ yes x from.
    let s = c.args.self.now in
    let low = c.if-self-address.true in
    let ends : length s.store - s.start < c.args.address - s.base =
    grind (arith, nat_tests, c.len-count.ensures, yes) in
    none_from_end s.store s.ended.items s.base s.start c.args.address x c.requires low ends from
