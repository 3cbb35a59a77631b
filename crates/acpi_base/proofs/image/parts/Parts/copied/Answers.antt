use Rattle.std.proofs.Common.{◌≡◌, ◌+◌, ◌<◌, ◌≤◌, ◌^◌, ℕ, length, refl, sym, subst, ◌∙◌, ap, inl, inr, arith}
use Rattle.std.proofs.lemmas.Bool.{cases_lt}
use Rattle.acpi_base.specs.Image.Lent.{memory_of_parts, runs_of_parts}
use Rattle.acpi_base.specs.Image.Segments.{IsValid, memory_in}
use Rattle.acpi_base.specs.declared.image.segments.Segments.{Segments}
use Rattle.acpi_base.proofs.Images.Lent.{IsCopiedTo, copied_all, copied_more, copied_none, image_of_parts, none_past, rest_fits}
use Rattle.acpi_base.proofs.Images.LentRuns.{rest_filled}
use Rattle.acpi_base.proofs.image.parts.Parts.copied.Goals as goal
use Rattle.acpi_base.proofs.image.parts.Parts.copied.Goals.{in-Some+in_ok-take+in_default-checked_add, in_default}

pub loop-base-init : goal.loop-base-init
loop-base-init c = record {
  parts = c.requires;
  valid = c.new-all.ensures.valid;
  end = (let end = c.new-all.ensures.end in omega arith);
  same = copied_none (runs_of_parts c.args.self.now) c.new-all.result c.new-all.ensures.nothing;
}

pub take-requires-clause-valid : goal.take-requires-clause-valid
take-requires-clause-valid c = c.loop-base.invariant.valid

pub take-requires-clause-behind : goal.take-requires-clause-behind
take-requires-clause-behind c =
    (let low = c.in-Some.ensures.some.0 in let end = c.loop-base.invariant.end in omega arith)

pub take-requires-clause-fits : goal.take-requires-clause-fits
take-requires-clause-fits c =
    let p = c.args.self.now in
    rest_fits (runs_of_parts p) c.in-Some.base c.rest_from-bytes.result.now (image_of_parts p c.requires)
    c.rest_from-bytes.ensures
    (rest_filled (runs_of_parts p) c.in-Some.base c.rest_from-bytes.result.now c.rest_from-bytes.ensures
    c.in-Some.ensures.some.1)

pub loop-base-smaller : goal.loop-base-smaller
loop-base-smaller c =
    let p = c.args.self.now in
    let low = c.in-Some.ensures.some.0 in
    let some = rest_filled (runs_of_parts p) c.in-Some.base c.rest_from-bytes.result.now c.rest_from-bytes.ensures
    c.in-Some.ensures.some.1 in
    omega (arith, c.in-Some-checked_add.ensures)

pub loop-base-preserved : goal.loop-base-preserved
loop-base-preserved c =
    let rs = runs_of_parts c.args.self.now in
    let bytes = c.rest_from-bytes.result.now in
    let found = c.in-Some.ensures.some in
    let end : c.in-Some.base + length bytes ≡ c.in-Some-checked_add.end =
    omega (arith, c.in-Some-checked_add.ensures) in
    record {
      parts = c.requires;
      valid = c.in_ok-take.ensures.valid;
      end = (let is = c.in_ok-take.ensures.end in omega arith);
      same = subst (IsCopiedTo rs c.take.new.self) end
          (copied_more rs c.loop-base.all c.take.new.self c.loop-base.from c.in-Some.base bytes
          c.loop-base.invariant.same found.0 found.2 c.rest_from-bytes.ensures c.in_ok-take.ensures.ok);
    }

pub returns-clause-valid : goal.returns-clause-valid
returns-clause-valid c = elim c.match-first_from.branch [
  | in-Some+in_ok-take+in_default-checked_add w ↦ subst IsValid (sym w.all-is) w.in_ok-take.ensures.valid
  | in_default w ↦ subst IsValid (sym w.all-is) c.loop-base.invariant.valid
]

pub returns-clause-same : goal.returns-clause-same
returns-clause-same c =
    let p = c.args.self.now in
    let rs = runs_of_parts p in
    let so_far = c.loop-base.invariant.same in
    elim c.match-first_from.branch [
      | in-Some+in_ok-take+in_default-checked_add w ↦
          let bytes = w.rest_from-bytes.result.now in
          let found = w.in-Some.ensures.some in
          let end = w.in-Some.base + length bytes in
          let past : 2 ^ 64 ≤ end = elim (cases_lt end (2 ^ 64)) [
            | inl below ↦ absurd (w.in_default-checked_add.ensures below)
            | inr past ↦ past
          ] in
          subst (λ (s : Segments). memory_in s ≡ memory_of_parts p) (sym w.all-is)
          (copied_all rs w.take.new.self end
          (copied_more rs c.loop-base.all w.take.new.self c.loop-base.from w.in-Some.base bytes so_far found.0 found.2
          w.rest_from-bytes.ensures w.in_ok-take.ensures.ok)
          (λ x l. none_past rs x (image_of_parts p c.requires) (omega arith)))
      | in_default w ↦
          subst (λ (s : Segments). memory_in s ≡ memory_of_parts p) (sym w.all-is)
          (copied_all rs c.loop-base.all c.loop-base.from so_far (w.in_default.ensures.none refl))
    ]
