use Rattle.std.proofs.Common.{◌≡◌, ◌-◌, ◌<◌, suc, length, get_or, Some, None, ap, arith}
use Rattle.std.proofs.lemmas.Result.{IfOk-weaker}
use Rattle.std.specs.Option.{option_map}
use Rattle.acpi_write.proofs.SetParts.PartsInOrder.{behind_roots, table_alone, table_behind, table_count, IfOk-both}
use Rattle.acpi_write.proofs.set_writing.part.Goals as goal

pub returns-in_default : goal.returns-in_default
returns-in_default c =
    let v = c.args.value.now in
    let k = c.args.k in
    let place = get_or c.args.places.now 2 0 in
    let none = ap (option_map (λ b. b.now)) c.in_default.is in
    let index : k ≡ suc (suc (k - 2)) = omega (arith, c.if-k-eq0.false, c.if-k-eq1.false) in
    let below : k - 2 < length v.tables.items =
    omega (arith, index, table_count v None none, c.requires.places, c.requires.index) in
    IfOk-weaker c.bytes_with.result _ _
    (λ bytes is. behind_roots v c.args.places.now k (k - 2) None bytes.items none index
    (table_alone place v.tables.items (k - 2) c.index.result.now bytes.items below c.index.ensures is))
    (IfOk-both c.bytes_with.result _ _ c.bytes_with.ensures.bytes c.bytes_with.ensures.count)

pub returns : goal.returns
returns c =
    let v = c.args.value.now in
    let k = c.args.k in
    let facs = c.in-Some.facs.now in
    let place = get_or c.args.places.now 2 0 in
    let some = ap (option_map (λ b. b.now)) c.in-Some.is in
    let index : k ≡ suc (suc (suc (k - 3))) = omega (arith, c.if-k-eq0.false, c.if-k-eq1.false, c.if-k-eq2.false) in
    let below : k - 3 < length v.tables.items =
    omega (arith, index, table_count v (Some facs) some, c.requires.places, c.requires.index) in
    IfOk-weaker c.bytes_with-2.result _ _
    (λ bytes is. behind_roots v c.args.places.now k (suc (k - 3)) (Some facs) bytes.items some index
    (table_behind facs place v.tables.items (k - 3) c.index-2.result.now bytes.items below c.index-2.ensures is))
    (IfOk-both c.bytes_with-2.result _ _ c.bytes_with-2.ensures.bytes c.bytes_with-2.ensures.count)
