use Rattle.std.proofs.Common.{◌≡◌, ◌⊎◌, ◌<◌, ◌≤◌, inl, inr, length, IsSome, sym, subst, arith}
use Rattle.acpi_base.specs.Image.Runs.{lookup}
use Rattle.acpi_base.specs.Image.Pieces.{Piece}
use Rattle.acpi_base.specs.Image.Segments.{IsGap, IsPartitionPoint, runs_of}
use Rattle.acpi_base.proofs.Images.Searches.{next_ended, next_open, no_next}
use Rattle.acpi_base.proofs.image.segments.Segments.next_base.Goals as goal
use Rattle.acpi_base.proofs.image.segments.Segments.next_base.Goals.{else-address-self-via-then-address-self+else-self-len, else-address-self-via-else-address-self}

pub returns-then-place-len-clause-some : goal.returns-then-place-len-clause-some
returns-then-place-len-clause-some c =
    let s = c.args.self.now in
    let low = c.if-place-len.true in
    subst
    (λ (p : Piece). (c.args.address < p.0) × IsSome (lookup (runs_of s) p.0) × IsGap (runs_of s) c.args.address p.0)
    (sym c.index.ensures)
    (next_ended s.store s.ended.items s.base s.start c.args.address c.place-place.result c.index.result.now
    c.requires.valid c.requires.free c.place-place.ensures.place (omega arith))

pub returns-then-self-len-clause-some : goal.returns-then-self-len-clause-some
returns-then-self-len-clause-some c =
    let high = c.if-place-len.false in
    let within = c.place-place.ensures.within in
    let some = c.if-self-len.true in
    let store = c.len.ensures in
    let s = c.args.self.now in
    let all : c.place-place.result ≡ length s.ended.items = omega arith in
    next_open s.store s.ended.items s.base s.start c.args.address c.requires.valid c.requires.free
    (subst (IsPartitionPoint s.ended.items c.args.address) all c.place-place.ensures.place)
    c.if-address-self.true (omega arith)

pub returns-clause-none : goal.returns-clause-none
returns-clause-none c = λ _.
    let high = c.if-place-len.false in
    let within = c.place-place.ensures.within in
    let s = c.args.self.now in
    let all : c.place-place.result ≡ length s.ended.items = omega arith in
    let past : (s.base ≤ c.args.address) ⊎ (length s.store ≤ s.start) = elim c.else-address-self.branch [
      | else-address-self-via-then-address-self+else-self-len w ↦
          inr (let none = w.if-self-len.false in let store = w.len-then-address-self.ensures in omega arith)
      | else-address-self-via-else-address-self w ↦ inl (let behind = w.if-address-self.false in omega arith)
    ] in
    no_next s.store s.ended.items s.base s.start c.args.address c.requires.valid c.requires.free
    (subst (IsPartitionPoint s.ended.items c.args.address) all c.place-place.ensures.place) past
