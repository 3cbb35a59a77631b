use Rattle.std.proofs.Common.{◌≡◌, sym, subst, ap, ◌∙◌}
use Rattle.acpi_base.specs.Memory.{with_bytes}
use Rattle.acpi_base.specs.Image.Lent.{memory_of_parts}
use Rattle.acpi_base.specs.Image.Runs.{lookup, run_at}
use Rattle.acpi_base.proofs.Images.Lent.{on_any_err, own_gap, put_apart, put_memory, same_apart, same_parts}
use Rattle.acpi_base.proofs.image.parts.Parts.put.Goals as goal

pub put-requires-clause-free : goal.put-requires-clause-free
put-requires-clause-free c = λ x from to.
    own_gap c.args.self.now c.own_from.new.self x c.in_ok-own_from.ensures.same (c.requires.free x from to)

pub returns-in_err-put-clause-valid : goal.returns-in_err-put-clause-valid
returns-in_err-put-clause-valid c =
    let p = c.own_from.new.self in
    let valid = c.in_ok-own_from.ensures.valid in
    record {
      own = c.in_err-put.ensures.valid;
      lent = valid.lent;
      apart = same_apart (lookup p.lent.items) p.own c.put.new.self valid.apart c.in_err-put.ensures.err;
    }

pub returns-in_err-put-clause-err : goal.returns-in_err-put-clause-err
returns-in_err-put-clause-err c =
    let p = c.own_from.new.self in
    on_any_err c.from_residual-in_err-put.result
    (same_parts p.lent.items p.own c.put.new.self c.in_err-put.ensures.err ∙ c.in_ok-own_from.ensures.same)

pub returns-clause-valid : goal.returns-clause-valid
returns-clause-valid c =
    let p = c.own_from.new.self in
    let valid = c.in_ok-own_from.ensures.valid in
    record {
      own = c.in_ok-put.ensures.valid;
      lent = valid.lent;
      apart = put_apart p.lent.items (run_at c.args.base c.args.bytes.now) c.in_ok-own_from.ensures.below p.own
          c.put.new.self valid.apart c.in_ok-put.ensures.ok;
    }

pub returns-clause-ok : goal.returns-clause-ok
returns-clause-ok c =
    let p = c.own_from.new.self in
    put_memory p.lent.items (run_at c.args.base c.args.bytes.now) c.in_ok-own_from.ensures.below p.own c.put.new.self
    c.in_ok-put.ensures.ok
    ∙ ap (λ m. with_bytes m c.args.base c.args.bytes.now) c.in_ok-own_from.ensures.same
