use Rattle.std.proofs.Common.{◌≡◌, ◌+◌, ◌-◌, inl, inr, subst, sym, arith}
use Rattle.acpi_base.specs.Image.Pieces.{Piece, run_in}
use Rattle.acpi_base.specs.Image.Segments.{IsPartitionPoint, IsRunAt, runs_of}
use Rattle.acpi_base.proofs.Images.Searches.{IsBehind, open_run, reached_open, reached, none_reached, lies_inside}
use Rattle.acpi_base.proofs.image.segments.Segments.piece_reaching.Goals as goal
use Rattle.acpi_base.proofs.image.segments.Segments.piece_reaching.Goals.{else-self-address-via-then-self-address+else-self-count, else-self-address-via-else-self-address}

pub returns-then-self-count-clause-reached : goal.returns-then-self-count-clause-reached
returns-then-self-count-clause-reached c =
    let s = c.args.self.now in
    let long = c.len-count.ensures in
    subst (IsRunAt (runs_of s) c.args.address) (sym (open_run s.store s.base s.start _ (omega arith)))
    (reached_open s.store s.ended.items s.base s.start c.args.address c.requires c.if-self-address.true)

pub returns-then-place-eq0-clause-reached : goal.returns-then-place-eq0-clause-reached
returns-then-place-eq0-clause-reached c =
    let s = c.args.self.now in
    let long = c.len-count.ensures in
    let behind : IsBehind s.store s.base s.start c.args.address = elim c.else-self-address.branch [
      | else-self-address-via-then-self-address+else-self-count w ↦ inl (let no = w.if-self-count.false in omega arith)
      | else-self-address-via-else-self-address w ↦ inr (let low = w.if-self-address.false in omega arith)
    ] in
    none_reached s.store s.ended.items s.base s.start c.args.address c.requires behind
    (subst (IsPartitionPoint s.ended.items c.args.address) c.if-place-eq0.true c.place-place.ensures.place)

pub returns-clause-reached : goal.returns-clause-reached
returns-clause-reached c =
    let s = c.args.self.now in
    let long = c.len-count.ensures in
    let within = c.place-place.ensures.within in
    let some = c.if-place-eq0.false in
    let behind : IsBehind s.store s.base s.start c.args.address = elim c.else-self-address.branch [
      | else-self-address-via-then-self-address+else-self-count w ↦ inl (let no = w.if-self-count.false in omega arith)
      | else-self-address-via-else-self-address w ↦ inr (let low = w.if-self-address.false in omega arith)
    ] in
    let next : c.place-place.result ≡ c.place-place.result - 1 + 1 = omega arith in
    subst (λ (p : Piece). IsRunAt (runs_of s) c.args.address (run_in s.store p)) (sym c.index.ensures)
    (reached s.store s.ended.items s.base s.start c.args.address (c.place-place.result - 1) c.index.result.now
    c.requires behind (omega arith)
    (subst (IsPartitionPoint s.ended.items c.args.address) next c.place-place.ensures.place))

pub returns-clause-lies : goal.returns-clause-lies
returns-clause-lies c =
    let within = c.place-place.ensures.within in
    let some = c.if-place-eq0.false in
    let s = c.args.self.now in
    lies_inside s.store s.ended.items s.base s.start (c.place-place.result - 1) c.index.result.now c.requires
    (omega arith) c.index.ensures
