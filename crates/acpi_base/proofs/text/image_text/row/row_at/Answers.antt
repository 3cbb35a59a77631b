use Rattle.std.proofs.Common.{◌≡◌, ◌*◌, ◌/◌, ◌%◌, ◌^◌, ◌<◌, ℕ, List, [], ◌∷◌, bit_or, eqb, not, leb, replicate, get_or, length, ap, sym, refl, ◌∙◌, arith}
use Rattle.std.proofs.lemmas.Bool.{eqb-true, not-false}
use Rattle.std.proofs.lemmas.Bool.Decides.{nat_tests}
use Rattle.std.proofs.lemmas.Simd.{length-zip2, get_or-zip2, get_or-replicate}
use lib.Lanes.{zip2}
use Rattle.acpi_base.proofs.Texts.RowLanes.{equal_at, lane_fails, pair_in_lanes, picked, plus, times, row_is}
use Rattle.acpi_base.proofs.text.image_text.row.row_at.Goals as goal

pub returns : goal.returns
returns c =
    let text = c.args.text.now in
    let at = c.args.at in
    let first = c.firsts_of_three.ensures in
    let second = c.firsts_of_three-2.ensures in
    let behind = c.firsts_of_three-behind in
    let high = c.digit_values-high in
    let low = c.digit_values-low in
    let digits = zip2 bit_or high.result low.result in
    let many : length digits ≡ 16 = length-zip2 bit_or high.result low.result (high.ensures.long ∙ sym low.ensures.long)
    ∙ high.ensures.long in
    let bytes = zip2 plus (zip2 times high.result (replicate 16 16)) low.result in
    let scaled : length (zip2 times high.result (replicate 16 16)) ≡ 16 =
    length-zip2 times high.result (replicate 16 16) high.ensures.long ∙ high.ensures.long in
    let long : length bytes ≡ 16 = length-zip2 plus _ low.result (scaled ∙ sym low.ensures.long) ∙ scaled in
    let order : List ℕ = 0 ∷ 3 ∷ 6 ∷ 9 ∷ 12 ∷ 15 ∷ 2 ∷ 5 ∷ 8 ∷ 11 ∷ 14 ∷ 1 ∷ 4 ∷ 7 ∷ 10 ∷ 13 ∷ [] in
    row_is text at _ c.requires refl
    (λ k few.
    let p = 3 * k % 16 in
    let within : p < 16 = omega arith in
    let place : get_or order k 0 ≡ p = equal_at (λ n. get_or order n 0) (λ n. 3 * n % 16) 16 k refl few in
    let clear : 0 / 2 ^ p % 2 ≡ 0 = equal_at (λ n. 0 / 2 ^ n % 2) (λ n. 0) 16 p refl within in
    let fails = lane_fails leb (replicate 16 16) digits 0 p refl many within
    (sym c.if-others-ne0.false) clear in
    let lane = get_or-zip2 bit_or high.result low.result p 0 0 0 (omega (arith, high.ensures.long, within))
    (omega (arith, low.ensures.long, within)) in
    let sixteen : get_or (replicate 16 16) p 0 ≡ 16 = get_or-replicate {A = ℕ} 16 p 16 0 within in
    let digit : bit_or (get_or high.result p 0) (get_or low.result p 0) < 16 = grind (arith, nat_tests) in
    let pair = pair_in_lanes _ _ high.result low.result _ p within high.ensures low.ensures digit
    (picked bytes order k few (omega (arith, place, long, within)) ∙ ap (λ n. get_or bytes n 0) place) in
    rw (← first.order k few, ← second.order k few) pair)
    (λ k few.
    let p = 3 * k % 16 in
    let within : p < 16 = omega arith in
    let clear : 8192 / 2 ^ p % 2 ≡ 0 = equal_at (λ n. 8192 / 2 ^ (3 * n % 16) % 2) (λ n. 0) 15 k refl few in
    let fails = lane_fails (λ a b. not (eqb a b)) behind.result (replicate 16 32) 8192 p behind.ensures.len refl within
    (sym c.if-unspaced-ne-LAST.false) clear in
    let blank : get_or (replicate 16 32) p 0 ≡ 32 = get_or-replicate {A = ℕ} 16 p 32 0 within in
    sym (behind.ensures.order k (omega (arith, few))) ∙ eqb-true _ _ (not-false _ fails) ∙ blank)
    c.if-text-at-ne10.false
