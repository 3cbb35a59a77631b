-- Sums of bytes, and the checksum byte that makes one 0.
use Rattle.std.proofs.Common.{◌≡◌, ℕ, ◌+◌, ◌<◌, List, ◌∷◌, ◌++◌, sum, arith, ◌-◌, ◌%◌, length, ap, ◌∙◌}
use Rattle.std.proofs.lemmas.List.Sums.{sum_by-append, sum_by-cons}
use Rattle.acpi_base.specs.Number.{byte_sum}
use Rattle.acpi_base.specs.Header.{HeadValue, header_with, header_bytes}
use Rattle.acpi_write.specs.Encoded.{checksum_of, table_bytes}

pub sum-append : (xs ys : List ℕ) → sum (xs ++ ys) ≡ sum xs + sum ys
sum-append xs ys = sum_by-append (λ x. x) xs ys

pub sum-cons : (x : ℕ) (xs : List ℕ) → sum (x ∷ xs) ≡ x + sum xs
sum-cons x xs = sum_by-cons (λ x. x) x xs

pub closes : (opened bytes : List ℕ) → sum bytes ≡ sum opened + checksum_of opened → byte_sum bytes ≡ 0
unfolding checksum_of byte_sum
closes opened bytes e = omega (arith, e)

pub closing_below : (opened : List ℕ) → checksum_of opened < 256
unfolding checksum_of
closing_below opened = omega arith

pub closing_of : (xs ys : List ℕ) → checksum_of (xs ++ ys) ≡ (0 + (256 - (byte_sum xs + byte_sum ys) % 256)) % 256
unfolding checksum_of byte_sum
closing_of xs ys = omega (arith, sum-append xs ys)

pub closing_alone : (xs : List ℕ) → (0 + (256 - byte_sum xs)) % 256 ≡ checksum_of xs
unfolding checksum_of
closing_alone xs = omega arith

pub encoded : (signature : List ℕ) (head : HeadValue) (body opened front items : List ℕ) (checksum : ℕ)
    → opened ≡ header_bytes (header_with signature (36 + length body) 0 head)
    → checksum ≡ checksum_of (opened ++ body)
    → front ≡ header_bytes (header_with signature (36 + length body) checksum head) → items ≡ front ++ body
    → items ≡ table_bytes signature head body
unfolding table_bytes
encoded signature head body opened front items checksum o k f i =
    i
    ∙ ap (λ (x : List ℕ). x ++ body)
    (f ∙ ap (λ (c : ℕ). header_bytes (header_with signature (36 + length body) c head))
    (k ∙ ap (λ (x : List ℕ). checksum_of (x ++ body)) o))

pub ruleset encoded_bytes = (closing_of, encoded)
