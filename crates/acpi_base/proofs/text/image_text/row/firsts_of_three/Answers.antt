use Rattle.std.proofs.Common.{◌≡◌, ◌*◌, ◌%◌, ℕ, List, [], ◌∷◌, get_or, ap, refl, ◌∙◌, arith}
use Rattle.std.proofs.lemmas.Simd.{length-chunk, get_or-chunk}
use lib.Lanes.{chunk}
use Rattle.acpi_base.proofs.Texts.RowLanes.{equal_at, picked}
use Rattle.acpi_base.proofs.text.image_text.row.firsts_of_three.Goals as goal

pub returns-clause-order : goal.returns-clause-order
returns-clause-order c k few =
    let text = c.args.text.now in
    let block = chunk c.args.at 64 text in
    let long = length-chunk c.args.at 64 text c.requires in
    let order : List ℕ = 0 ∷ 33 ∷ 18 ∷ 3 ∷ 36 ∷ 21 ∷ 6 ∷ 39 ∷ 24 ∷ 9 ∷ 42 ∷ 27 ∷ 12 ∷ 45 ∷ 30 ∷ 15 ∷ [] in
    let place : get_or order (3 * k % 16) 0 ≡ 3 * k =
    equal_at (λ n. get_or order (3 * n % 16) 0) (λ n. 3 * n) 16 k refl few in
    picked block order (3 * k % 16) (omega arith) (omega (arith, place, long, few))
    ∙ ap (λ n. get_or block n 0) place
    ∙ get_or-chunk c.args.at 64 text (3 * k) 0 (omega (arith, few))
