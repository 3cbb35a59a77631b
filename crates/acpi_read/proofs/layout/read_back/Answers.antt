use Rattle.std.proofs.Common.{arith, ◌≡◌, Option, Some, None, IsSome, IfSome, ap, sym, subst, ◌∙◌}
use Rattle.acpi_base.specs.Layouts.{IsOfLayout, values_at}
use Rattle.acpi_base.proofs.Layouts.RoundTrip.{HasValues-layout_bytes}
use Rattle.acpi_read.proofs.layout.read_back.Goals as goal

-- a value that exists, and that by all facts is x, is x
found : {A : Type 0} (o : Option A) (x : A) (P : A → Type 0) → IsSome o → IfSome o P → ((y : A) → P y → y ≡ x)
    → o ≡ Some x
found None x P some value same = grind arith
found (Some y) x P some value same = ap Some (same y value)

pub returns-clause-value : goal.returns-clause-value
returns-clause-value g c =
    let layout = g.L.Layout in
    let value = c.args.value.now in
    let holds = HasValues-layout_bytes layout.parts (layout.values value) c.write.ensures.fits in
    let of_layout = subst (IsOfLayout layout.parts) (sym c.write.ensures.bytes) holds.layout in
    let same = ap (values_at 0 layout.parts) c.write.ensures.bytes ∙ holds.same in
    found c.read.result value (λ y. values_at 0 layout.parts c.write.new.out ≡ layout.values y)
    (c.read.ensures.some.1 (of_layout, c.write.ensures.allowed)) c.read.ensures.value
    (λ y present. g.met.L.Layout.one_value y value (sym present ∙ same))
