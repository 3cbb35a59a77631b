use Rattle.std.proofs.Common.{◌≡◌, ◌≤◌, length, subst, sym, ap, ◌∙◌, take, drop, arith}
use Rattle.std.specs.List.{AllByRecursion}
use Rattle.acpi_base.specs.declared.image.segments.Segments.{Segments}
use Rattle.acpi_base.specs.Memory.{with_bytes}
use Rattle.acpi_base.specs.Image.Pieces.{Piece}
use Rattle.acpi_base.specs.Image.Segments.{memory_in}
use Rattle.acpi_base.proofs.Images.Inserts.{parts_at, put_among, put_last}
use Rattle.acpi_base.proofs.image.segments.Segments.with.Goals as goal
use Rattle.acpi_base.proofs.image.segments.Segments.with.Goals.{then-self-store+in_ok-take-2, else-self-store}

pub take_all-requires-clause-rising : goal.take_all-requires-clause-rising
take_all-requires-clause-rising c =
    let parts = parts_at c.args.self.now c.args.base (length c.args.bytes.now) c.place.result c.requires.valid
    c.requires.before c.requires.some c.requires.free c.place.ensures.within c.place.ensures.place in
    rw (c.split_at.ensures.front, c.deref.ensures.value) parts.low_rising

pub take_all-requires-clause-lies : goal.take_all-requires-clause-lies
take_all-requires-clause-lies c =
    let parts = parts_at c.args.self.now c.args.base (length c.args.bytes.now) c.place.result c.requires.valid
    c.requires.before c.requires.some c.requires.free c.place.ensures.within c.place.ensures.place in
    rw (c.split_at.ensures.front, c.deref.ensures.value, c.bytes-store.ensures) parts.low_lies

pub take_all-requires-clause-behind : goal.take_all-requires-clause-behind
take_all-requires-clause-behind c =
    let parts = parts_at c.args.self.now c.args.base (length c.args.bytes.now) c.place.result c.requires.valid
    c.requires.before c.requires.some c.requires.free c.place.ensures.within c.place.ensures.place in
    rw (c.split_at.ensures.front, c.deref.ensures.value)
    (subst (λ n. AllByRecursion (λ (p : Piece). n ≤ p.0) (take c.place.result c.args.self.now.ended.items))
    (sym c.in_ok-all.ensures.end) parts.low_begin)

pub take-requires-clause-behind : goal.take-requires-clause-behind
take-requires-clause-behind c =
    let parts = parts_at c.args.self.now c.args.base (length c.args.bytes.now) c.place.result c.requires.valid
    c.requires.before c.requires.some c.requires.free c.place.ensures.within c.place.ensures.place in
    let empty_end = c.in_ok-all.ensures.end in
    c.in_ok-take_all.ensures.end c.args.base (omega arith)
    (rw (c.split_at.ensures.front, c.deref.ensures.value) parts.low_end)

pub take_all-requires-2-clause-rising : goal.take_all-requires-2-clause-rising
take_all-requires-2-clause-rising c =
    let parts = parts_at c.args.self.now c.args.base (length c.args.bytes.now) c.place.result c.requires.valid
    c.requires.before c.requires.some c.requires.free c.place.ensures.within c.place.ensures.place in
    rw (c.split_at.ensures.back, c.deref.ensures.value) parts.high_rising

pub take_all-requires-2-clause-lies : goal.take_all-requires-2-clause-lies
take_all-requires-2-clause-lies c =
    let parts = parts_at c.args.self.now c.args.base (length c.args.bytes.now) c.place.result c.requires.valid
    c.requires.before c.requires.some c.requires.free c.place.ensures.within c.place.ensures.place in
    rw (c.split_at.ensures.back, c.deref.ensures.value, c.bytes-store.ensures) parts.high_lies

pub take_all-requires-2-clause-behind : goal.take_all-requires-2-clause-behind
take_all-requires-2-clause-behind c =
    let parts = parts_at c.args.self.now c.args.base (length c.args.bytes.now) c.place.result c.requires.valid
    c.requires.before c.requires.some c.requires.free c.place.ensures.within c.place.ensures.place in
    rw (c.split_at.ensures.back, c.deref.ensures.value)
    (subst (λ n. AllByRecursion (λ (p : Piece). n ≤ p.0) (drop c.place.result c.args.self.now.ended.items))
    (sym c.in_ok-take.ensures.end) parts.high_begin)

pub take-requires-then-self-store-clause-behind : goal.take-requires-then-self-store-clause-behind
take-requires-then-self-store-clause-behind c =
    let parts = parts_at c.args.self.now c.args.base (length c.args.bytes.now) c.place.result c.requires.valid
    c.requires.before c.requires.some c.requires.free c.place.ensures.within c.place.ensures.place in
    let long = ap length c.bytes-store.ensures in
    let some = c.if-self-store.true in
    let last = parts.last_begin (omega arith) in
    let before = c.in_ok-take.ensures.end in
    c.in_ok-take_all-2.ensures.end c.args.self.now.base (omega arith)
    (rw (c.split_at.ensures.back, c.deref.ensures.value) parts.high_end)

pub returns-clause-ok : goal.returns-clause-ok
returns-clause-ok c =
    let s = c.args.self.now in
    let e1 = rw (c.split_at.ensures.front, c.deref.ensures.value, c.bytes-store.ensures) at
    c.in_ok-take_all.ensures.whole in
    let e3 = rw (c.split_at.ensures.back, c.deref.ensures.value, c.bytes-store.ensures) at
    c.in_ok-take_all-2.ensures.whole in
    let all = put_among s c.args.base c.place.result c.args.bytes.now (memory_in c.in_ok-all.all)
    (memory_in c.take_all.new.self) (memory_in c.take.new.self) (memory_in c.take_all-2.new.self)
    c.requires.free c.in_ok-all.ensures.nothing e1 c.in_ok-take.ensures.ok e3 in
    let m = memory_in c.take_all-2.new.self in
    elim c.if-self-store.branch [
      | then-self-store+in_ok-take-2 w ↦
          subst (λ (t : Segments). memory_in t ≡ with_bytes (memory_in s) c.args.base c.args.bytes.now) (sym w.all-is)
          (w.in_ok-take-2.ensures.ok ∙ ap (with_bytes m s.base) w.open.ensures ∙ all)
      | else-self-store w ↦ subst (λ (t : Segments). memory_in t ≡ with_bytes (memory_in s) c.args.base
          c.args.bytes.now) (sym w.all-is)
          (put_last s m (let long = ap length c.bytes-store.ensures in let none = w.if-self-store.false in omega arith)
          ∙ all)
    ]
