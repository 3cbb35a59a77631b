-- A written RSDP is valid and says what it was written from.
use Rattle.std.proofs.Common.{append_assoc, ◌∙◌, ◌≡◌, ℕ, ◌+◌, ◌^◌, ◌<◌, List, [], ◌∷◌, ◌++◌, length, take, drop, sum, true, refl, arith}
use Rattle.acpi_base.specs.Number.{field, byte_sum, number_bytes}
use Rattle.acpi_base.specs.Signature.{has_signature, rsdp_signature}
use Rattle.acpi_base.specs.Rsdp.{revision_of}
use Rattle.acpi_base.proofs.Layouts.RoundTrip.{number_there}
use Rattle.acpi_write.specs.Encoded.{checksum_of}
use Rattle.acpi_write.specs.Rebuilt.{rsdp_head, rsdp_tail, rsdp_bytes}
use Rattle.acpi_write.proofs.TablesWritten.Sums.{sum-append, sum-cons, closes}

-- what is read in a written RSDP
pub record IsWrittenRsdp (oemid : List ℕ) (xsdt : ℕ) (whole : List ℕ) : Type 0 where
  pub count : length whole ≡ 36
  pub signed : has_signature (take 20 whole) rsdp_signature ≡ true
  pub head_sum : byte_sum (take 20 whole) ≡ 0
  pub revision : revision_of (take 20 whole) ≡ 2
  pub size : field whole 20 4 ≡ 36
  pub zero_sum : byte_sum whole ≡ 0
  pub oemid_is : take 6 (drop 9 (take 20 whole)) ≡ oemid
  pub rsdt_is : field whole 16 4 ≡ 0
  pub xsdt_is : field whole 24 8 ≡ xsdt

head_sum : (oemid : List ℕ) (c : ℕ) → sum (rsdp_head oemid c) ≡ sum (rsdp_head oemid 0) + c
head_sum oemid c = simp (sum-append, sum-cons) (omega arith)

tail_sum : (head : List ℕ) (xsdt c : ℕ) → sum (head ++ rsdp_tail xsdt c) ≡ sum (head ++ rsdp_tail xsdt 0) + c
tail_sum head xsdt c = simp (sum-append, sum-cons) (omega arith)

of_six : (xsdt a b c d e f : ℕ) → xsdt < 2 ^ 64
    → IsWrittenRsdp (a ∷ b ∷ c ∷ d ∷ e ∷ f ∷ []) xsdt (rsdp_bytes (a ∷ b ∷ c ∷ d ∷ e ∷ f ∷ []) xsdt)
unfolding rsdp_bytes has_signature field number_bytes
of_six xsdt a b c d e f fits =
    let oemid : List ℕ = a ∷ b ∷ c ∷ d ∷ e ∷ f ∷ [] in
    let opened = rsdp_head oemid 0 in
    let head = rsdp_head oemid (checksum_of opened) in
    let opened_whole = head ++ rsdp_tail xsdt 0 in
    let whole = head ++ rsdp_tail xsdt (checksum_of opened_whole) in
    record {
      count = refl;
      signed = refl;
      head_sum = closes opened head (head_sum oemid (checksum_of opened));
      revision = refl;
      size = refl;
      zero_sum = closes opened_whole whole (tail_sum head xsdt (checksum_of opened_whole));
      oemid_is = refl;
      rsdt_is = refl;
      xsdt_is = number_there 24 8 xsdt whole (checksum_of opened_whole ∷ 0 ∷ 0 ∷ 0 ∷ []) refl (omega (arith, fits));
    }

pub rsdp_written : (oemid : List ℕ) (xsdt : ℕ) → length oemid ≡ 6 → xsdt < 2 ^ 64
    → IsWrittenRsdp oemid xsdt (rsdp_bytes oemid xsdt)
rsdp_written (a ∷ b ∷ c ∷ d ∷ e ∷ f ∷ []) xsdt h fits = of_six xsdt a b c d e f fits
rsdp_written _ xsdt h fits = absurd (omega arith)

pub tail_appended : (xsdt checksum : ℕ) (head x1 x2 size address : List ℕ) → x1 ≡ head ++ size
    → size ≡ number_bytes 4 36 → x2 ≡ x1 ++ address → address ≡ number_bytes 8 xsdt
    → x2 ++ checksum ∷ 0 ∷ 0 ∷ 0 ∷ [] ≡ head ++ rsdp_tail xsdt checksum
tail_appended xsdt checksum head x1 x2 size address e s f a =
    let last : List ℕ = checksum ∷ 0 ∷ 0 ∷ 0 ∷ [] in
    (λ i. f i ++ last)
    ∙ (λ i. (e i ++ a i) ++ last)
    ∙ (λ i. ((head ++ s i) ++ number_bytes 8 xsdt) ++ last)
    ∙ append_assoc (head ++ number_bytes 4 36) (number_bytes 8 xsdt) last
    ∙ append_assoc head (number_bytes 4 36) (number_bytes 8 xsdt ++ last)
