-- Running sums: sums of parts, and what stays when more bytes are appended.
use Rattle.std.proofs.Common.{◌≡◌, inl, inr, ℕ, ◌+◌, ◌*◌, ◌-◌, ◌/◌, ◌%◌, ◌<◌, ◌≤◌, List, [], ◌∷◌, ◌++◌, length, take, drop, get_or, sum, refl, sym, ap, subst, ◌∙◌, arith, length-append}
use Rattle.std.proofs.lemmas.Bool.{cases_lt}
use Rattle.std.proofs.lemmas.List.{take-take, drop-take, take-append-le, get_or-take, get_or_append_left, get_or-append_right, length-take-le}
use Rattle.std.proofs.lemmas.List.Sums.{sum_by-take-drop}
use Rattle.acpi_base.specs.Number.{byte_sum}
use Rattle.acpi_base.specs.Image.Sums.{AreSums, HasAllSums}

-- ---- sums of parts

sum_more : (k n : ℕ) (xs : List ℕ) → sum (take (k + n) xs) ≡ sum (take k xs) + sum (take n (drop k xs))
sum_more k n xs =
    let whole : sum (take k (take (k + n) xs)) + sum (drop k (take (k + n) xs)) ≡ sum (take (k + n) xs) =
    sum_by-take-drop (λ x. x) (take (k + n) xs) k in
    let front : take k (take (k + n) xs) ≡ take k xs = take-take k (k + n) xs (omega arith) in
    let back : drop k (take (k + n) xs) ≡ take n (drop k xs) = drop-take k n xs in
    sym whole ∙ ap (λ t. sum t + sum (drop k (take (k + n) xs))) front ∙ ap (λ t. sum (take k xs) + sum t) back

added : (x y z : ℕ) → x ≡ y + z → (y % 256 + z % 256) % 256 ≡ x % 256
added x y z e = omega arith

taken : (x y z : ℕ) → x ≡ y + z → (x % 256 + (256 - y % 256)) % 256 ≡ z % 256
taken x y z e = omega arith

pub sum_both : (bytes : List ℕ) (k n : ℕ)
    → (byte_sum (take k bytes) + byte_sum (take n (drop k bytes))) % 256 ≡ byte_sum (take (k + n) bytes)
unfolding byte_sum
sum_both bytes k n =
    added (sum (take (k + n) bytes)) (sum (take k bytes)) (sum (take n (drop k bytes))) (sum_more k n bytes)

between : (bytes : List ℕ) (k n : ℕ)
    → (byte_sum (take (k + n) bytes) + (256 - byte_sum (take k bytes))) % 256 ≡ byte_sum (take n (drop k bytes))
unfolding byte_sum
between bytes k n =
    taken (sum (take (k + n) bytes)) (sum (take k bytes)) (sum (take n (drop k bytes))) (sum_more k n bytes)

pub sum_between : (bytes : List ℕ) (k n a b : ℕ) → a ≡ byte_sum (take (k + n) bytes) → b ≡ byte_sum (take k bytes)
    → (a + (256 - b)) % 256 ≡ byte_sum (take n (drop k bytes))
sum_between bytes k n a b e f =
    ap (λ x. (x + (256 - b)) % 256) e
    ∙ ap (λ y. (byte_sum (take (k + n) bytes) + (256 - y)) % 256) f
    ∙ between bytes k n

pub sum_to : (bytes : List ℕ) (k end a b : ℕ) → k ≡ end / 128 → a ≡ byte_sum (take (128 * k) bytes)
    → b ≡ byte_sum (take (end - k * 128) (drop (k * 128) bytes)) → (a + b) % 256 ≡ byte_sum (take end bytes)
sum_to bytes k end a b at e f =
    let same : 128 * k ≡ k * 128 = omega arith in
    let whole : k * 128 + (end - k * 128) ≡ end = omega arith in
    ap (λ x. (x + b) % 256) (e ∙ ap (λ n. byte_sum (take n bytes)) same)
    ∙ ap (λ y. (byte_sum (take (k * 128) bytes) + y) % 256) f
    ∙ sum_both bytes (k * 128) (end - k * 128)
    ∙ ap (λ n. byte_sum (take n bytes)) whole

pub no_sum : (bytes : List ℕ) (k : ℕ) → k ≡ 0 → 0 ≡ byte_sum (take (128 * k) bytes)
unfolding byte_sum
no_sum bytes k e = subst (λ n. 0 ≡ sum (take (128 * n) bytes) % 256) (sym e) refl

pub sum_next : (bytes : List ℕ) (k a b : ℕ) → a ≡ byte_sum (take (128 * k) bytes)
    → b ≡ byte_sum (take (k * 128 + 128 - k * 128) (drop (k * 128) bytes))
    → (a + b) % 256 ≡ byte_sum (take (128 * (k + 1)) bytes)
sum_next bytes k a b e f =
    let same : 128 * k ≡ k * 128 = omega arith in
    let block : k * 128 + 128 - k * 128 ≡ 128 = omega arith in
    let whole : k * 128 + 128 ≡ 128 * (k + 1) = omega arith in
    ap (λ x. (x + b) % 256) (e ∙ ap (λ n. byte_sum (take n bytes)) same)
    ∙ ap (λ y. (byte_sum (take (k * 128) bytes) + y) % 256)
    (f ∙ ap (λ n. byte_sum (take n (drop (k * 128) bytes))) block)
    ∙ sum_both bytes (k * 128) 128
    ∙ ap (λ n. byte_sum (take n bytes)) whole

-- ---- running sums

pub sums_pushed : (sums new bytes : List ℕ) (k t : ℕ) → new ≡ sums ++ t ∷ [] → length sums ≡ k
    → t ≡ byte_sum (take (128 * (k + 1)) bytes) → AreSums sums bytes → AreSums new bytes
sums_pushed sums new bytes k t e long is each =
    subst (λ s. AreSums s bytes) (sym e) (λ i l. elim (cases_lt i k) [
      | inl low ↦ get_or_append_left sums (t ∷ []) 0 i (omega arith) ∙ each i (omega arith)
      | inr high ↦ (
          let all : length (sums ++ t ∷ []) ≡ length sums + 1 = length-append sums (t ∷ []) in
          let at : i ≡ k = omega arith in
          let first : i - k ≡ 0 = omega arith in
          get_or-append_right sums (t ∷ []) k i 0 long high ∙ ap (λ n. get_or (t ∷ []) n 0) first ∙ is
          ∙ ap (λ n. byte_sum (take (128 * (n + 1)) bytes)) (sym at))
    ])

pub sums_kept : (sums bytes more : List ℕ) → HasAllSums sums bytes → AreSums sums (bytes ++ more)
sums_kept sums bytes more all = λ k l.
    let count = all.count in
    all.each k l ∙ ap byte_sum (sym (take-append-le (128 * (k + 1)) bytes more (omega arith)))

pub sums_cut : (sums bytes more : List ℕ) (n : ℕ) → n ≡ length bytes → AreSums sums (bytes ++ more)
    → length bytes / 128 ≤ length sums
    → HasAllSums (take (n / 128) sums) (take n (bytes ++ more))
sums_cut sums bytes more n e each l =
    let low : n / 128 ≤ length sums = omega arith in
    let fits : n ≤ length (bytes ++ more) = (let long = length-append bytes more in omega arith) in
    let count = length-take-le (n / 128) sums low in
    let long = length-take-le n (bytes ++ more) fits in
    record {
      count = count ∙ ap (λ m. m / 128) (sym long);
      each = λ k b. (
          let before : k < n / 128 = omega arith in
          get_or-take (n / 128) sums k 0 before
          ∙ each k (omega arith)
          ∙ ap byte_sum (sym (take-take (128 * (k + 1)) n (bytes ++ more) (omega arith))));
    }
