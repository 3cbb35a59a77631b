use Rattle.std.proofs.Common.{◌≡◌, ◌+◌, ◌<◌, ℕ, List, [], ◌∷◌, ◌++◌, None, length, sym, subst, ap, ◌∙◌, arith}
use Rattle.std.specs.List.{AllByRecursion}
use Rattle.acpi_base.specs.Memory.{with_bytes}
use Rattle.acpi_base.specs.Image.Lent.{AreApart, AreLent, memory_of_parts}
use Rattle.acpi_base.specs.Image.Runs.{Run, end_of, lookup, memory_of, run_at}
use Rattle.acpi_base.specs.Image.Segments.{runs_of}
use Rattle.acpi_base.proofs.Images.Lent.{complete_run, lend_apart, lend_lent, lend_memory}
use Rattle.acpi_base.proofs.image.parts.Parts.lend.Goals as goal

pub returns-clause-valid : goal.returns-clause-valid
returns-clause-valid c =
    let p = c.args.self.now in
    let rs = p.lent.items in
    let r = run_at c.args.base c.args.bytes.now in
    let valid = c.requires.valid in
    let items : c.push.new.self.items ≡ rs ++ r ∷ [] =
    c.in_ok-push.ensures.items ∙ ap (λ q. rs ++ q ∷ []) c.new.ensures in
    let below : AllByRecursion (λ (q : Run). end_of q < c.args.base) rs =
    c.end_before.ensures.lent c.if-not-end_before.false in
    record {
      own = valid.own;
      lent = subst AreLent (sym items) (lend_lent rs r below valid.lent
          (complete_run c.args.base c.args.bytes.now c.requires.some c.requires.fits
          (λ k. omega (arith, c.type_inv.bytes k))));
      apart = subst (λ (qs : List Run). AreApart (lookup qs) (lookup (runs_of p.own))) (sym items)
          (lend_apart rs r below (lookup (runs_of p.own)) valid.apart
          (c.end_before.ensures.own c.if-not-end_before.false));
    }

pub returns-clause-ok : goal.returns-clause-ok
returns-clause-ok c =
    let p = c.args.self.now in
    let rs = p.lent.items in
    let r = run_at c.args.base c.args.bytes.now in
    let items : c.push.new.self.items ≡ rs ++ r ∷ [] =
    c.in_ok-push.ensures.items ∙ ap (λ q. rs ++ q ∷ []) c.new.ensures in
    let below : AllByRecursion (λ (q : Run). end_of q < c.args.base) rs =
    c.end_before.ensures.lent c.if-not-end_before.false in
    ap (λ qs. memory_of (qs ++ runs_of p.own)) items ∙ lend_memory rs r below (runs_of p.own)
